use Rattle.std.proofs.Common.{◌+◌, ◌*◌, ◌∙◌, ℕ, subst, sym}
use Rattle.fdp_book.specs.Book.{state_in}
use Rattle.fdp_book.proofs.Making.Marking.{tells-more, tells-none}
use Rattle.fdp_passes.proofs.Counted.{byte-is}
use Rattle.fdp_readings.specs.Changes.{TellsClosed}
use Rattle.fdp_rules.specs.Effect.{updated_by}
use Rattle.fdp_book.proofs.changes.updated.+closed_by.Goals as goal

pub returns-in-Some-clause-tells : goal.returns-in-Some-clause-tells
returns-in-Some-clause-tells t c references h =
    let b = c.args.book.now in
    let s = state_in b in
    subst (λ (n : ℕ). TellsClosed b.config s c.args.nsid (n + 2 * c.closed_by.result) 0 references c.args.pids.now) (sym (c.from.ensures ∙ byte-is c.close-closes.result))
    (tells-more b.config s c.args.nsid c.closed_by.result c.in-Some.pid.now c.close-closes.result references c.in-Some.rest.now c.args.pids.now c.in-Some.ensures.cases.0 (c.close-closes.ensures.closes references h)
    (c.closed_by.ensures.tells (updated_by b.config s c.args.nsid references c.in-Some.pid.now) (c.close-closes.ensures.marks references h)))

pub returns-in-None-clause-tells : goal.returns-in-None-clause-tells
returns-in-None-clause-tells t c references h = tells-none c.args.book.now.config (state_in c.args.book.now) c.args.nsid references c.args.pids.now c.in-None.ensures.cases
