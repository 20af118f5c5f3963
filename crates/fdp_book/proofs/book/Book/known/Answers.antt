use Rattle.std.proofs.Common.{◌≡◌, ◌+◌, ◌<◌, ◌≤◌, ◌^◌, arith, subst}
use Rattle.fdp_base.specs.declared.limits.TheConstants.{MOST_STEPS}
use Rattle.fdp_book.specs.Book.{BookSeen, point_in, state_in}
use Rattle.fdp_book.specs.Held.{book_of}
use Rattle.fdp_book.proofs.Outlining.{generation-said}
use Rattle.fdp_book.proofs.book.Book.known.Goals as goal

pub returns-clause-generation : goal.returns-clause-generation
returns-clause-generation c =
    let old = c.self.inside in
    let b : BookSeen = book_of old.config old.origin old.log old.tables in
    let is : (state_in b).generation ≡ old.tables.outline.generation = generation-said old.config (point_in b) old.tables.outline c.self.invariant.held.outline_is in
    let few : old.tables.outline.generation ≤ 2 ^ 31 + old.log.spent = c.self.invariant.numbers.few in
    let steps : old.log.spent + old.log.spare ≤ MOST_STEPS = c.spent-steps.ensures.bound in
    subst (λ (x : BookSeen). (state_in x).generation < 2 ^ 32) c.self.view_is (omega (arith, is, few, steps))
