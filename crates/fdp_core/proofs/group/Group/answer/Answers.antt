use Rattle.std.proofs.Common.{subst}
use Rattle.fdp_relocation.specs.fdp_book.Book.{point_in}
use Rattle.fdp_core.specs.Seen.{Seen}
use Rattle.fdp_core.proofs.Begins.{answered-other, answered-unsaved}
use Rattle.fdp_rules.specs.Answer.{IsSuccess}
use Rattle.fdp_core.proofs.group.Group.answer.Goals as goal

pub succeed-requires-clause-other : goal.succeed-requires-clause-other
succeed-requires-clause-other g c = answered-other c.args.command c.requires.answerable.answered

pub succeed-requires-clause-unsaved : goal.succeed-requires-clause-unsaved
succeed-requires-clause-unsaved g c = answered-unsaved c.args.command c.requires.answerable.answered

pub succeed-requires-clause-success : goal.succeed-requires-clause-success
succeed-requires-clause-success g c = λ told.
    subst (λ (s : Seen g.row.F.Denot). IsSuccess told s.book.config (point_in s.book) c.args.command c.answer-replies.result.history) c.self.view_is (c.answer-replies.ensures.success told)
