use Rattle.std.proofs.Common.{List, ap, subst, sym}
use Rattle.std.specs.Prelude.{map}
use Rattle.fdp_workers.specs.declared.ends.End.TheVariants as ends
use Rattle.fdp_workers.specs.declared.receipt.Receipt.{Receipt}
use Rattle.fdp_crews.specs.Shifts.{IsShift}
use Rattle.fdp_crews.proofs.Shifting.{shift-rest}
use Rattle.fdp_crews.proofs.shift.rest.Goals as goal

pub returns-clause-shift : goal.returns-clause-shift
returns-clause-shift g c = λ traces.
    subst (λ (rs : List (List Receipt)). IsShift (g.V.Steps.run (g.V.Recorded.origin c.args.value)) traces rs (map g.V.Steps.entry (g.V.Recorded.entries c.args.value)) (g.V.Steps.spent c.args.value) ends.NoMemory) (sym (ap (map (λ r. r.items)) c.new.ensures.items))
    (shift-rest (g.V.Steps.run (g.V.Recorded.origin c.args.value)) g.V.Steps.entry g.V.Recorded.mark traces (g.V.Recorded.entries c.args.value) (g.V.Steps.spent c.args.value) c.requires.unmarked c.known.ensures)
