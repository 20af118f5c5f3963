use Rattle.std.proofs.Common.{◌≡◌, subst, ◌∙◌}
use Rattle.std.specs.Prelude.{map}
use Rattle.fdp_core.specs.fdp_book.Tickets.{IsTicketOf}
use Rattle.fdp_rules.specs.PlainState.{Going}
use Rattle.fdp_workers.specs.Run.{state_by}
use Rattle.fdp_workers.specs.Turns.{Completes}
use Rattle.fdp_workers.proofs.boxed.BoxedSteps.commit.Goals as goal

pub returns-clause-step : goal.returns-clause-step
returns-clause-step g c =
    let same : c.deref_mut.result.now ≡ c.args.self.now = c.deref_mut.ensures.value ∙ c.self.view_is in
    subst (λ v. (x : Going) → IsTicketOf (state_by (g.V.Steps.run (g.V.Recorded.origin v)) (map g.V.Steps.entry (g.V.Recorded.entries v))) c.args.ticket x →
    Completes (g.V.Steps.run (g.V.Recorded.origin v)) g.V.Steps.entry g.V.Recorded.mark (g.V.Recorded.entries v) (g.V.Recorded.entries c.commit.new.self) c.args.ticket.queue x.number x.command c.commit.result) same c.commit.ensures.step
