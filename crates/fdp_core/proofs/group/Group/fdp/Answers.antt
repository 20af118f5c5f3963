use Rattle.std.proofs.Common.{◌≡◌, subst}
use Rattle.fdp_relocation.specs.fdp_book.Book.{point_in, state_in}
use Rattle.fdp_core.specs.Seen.{Seen}
use Rattle.fdp_core.proofs.group.Group.fdp.Goals as goal

pub returns-clause-enabled : goal.returns-clause-enabled
returns-clause-enabled g c =
    subst (λ (s : Seen g.row.F.Denot). c.setting.result.0 ≡ (state_in s.book).enabled) c.self.view_is (c.setting.ensures (point_in c.self.inside.book) c.view.ensures.tells).0

pub returns-clause-index : goal.returns-clause-index
returns-clause-index g c =
    subst (λ (s : Seen g.row.F.Denot). c.setting.result.1 ≡ (state_in s.book).index) c.self.view_is (c.setting.ensures (point_in c.self.inside.book) c.view.ensures.tells).1
