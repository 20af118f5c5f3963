use Rattle.std.proofs.Common.{◌≡◌, subst, sym}
use Rattle.std.specs.Prelude.{All, map}
use Rattle.fdp_base.specs.Records.{CarriesNone}
use Rattle.fdp_gauge.specs.Passes.{IsPassOf}
use Rattle.fdp_crews.specs.Shifts.{IsShift}
use Rattle.fdp_crews.proofs.shift.serve_traces.Goals as goal

pub returns-in_default-clause-shift : goal.returns-in_default-clause-shift
returns-in_default-clause-shift g c =
    let traces = map (λ t. t.items) c.args.traces.items in
    subst (λ v. IsShift (g.V.Steps.run (g.V.Recorded.origin c.args.value)) traces (map (λ r. r.items) c.rest.result.receipts.items) (map g.V.Steps.entry (g.V.Recorded.entries v)) (g.V.Steps.spent v) c.rest.result.end) (sym c.rest.ensures.value) (c.rest.ensures.shift traces)

pub rest-requires-in-Err-clause-unmarked : goal.rest-requires-in-Err-clause-unmarked
rest-requires-in-Err-clause-unmarked g c = subst (λ v. CarriesNone g.V.Recorded.mark (g.V.Recorded.entries v)) (sym c.in-Err.ensures.refused) c.requires.unmarked

pub returns-in-Err-clause-shift : goal.returns-in-Err-clause-shift
returns-in-Err-clause-shift g c =
    let traces = map (λ t. t.items) c.args.traces.items in
    let r = c.rest-in-Err in
    subst (λ v. IsShift (g.V.Steps.run (g.V.Recorded.origin v)) traces (map (λ r. r.items) r.result.receipts.items) (map g.V.Steps.entry (g.V.Recorded.entries r.result.value)) (g.V.Steps.spent r.result.value) r.result.end) c.in-Err.ensures.refused
    (subst (λ v. IsShift (g.V.Steps.run (g.V.Recorded.origin c.in-Err.refused.value)) traces (map (λ r. r.items) r.result.receipts.items) (map g.V.Steps.entry (g.V.Recorded.entries v)) (g.V.Steps.spent v) r.result.end) (sym r.ensures.value) (r.ensures.shift traces))

pub new-requires-3-clause-unmarked : goal.new-requires-3-clause-unmarked
new-requires-3-clause-unmarked g c = subst (λ v. CarriesNone g.V.Recorded.mark (g.V.Recorded.entries v)) (sym c.in-Ok-new.ensures.ok) c.requires.unmarked

pub returns-in-Ok-new-2-clause-of_gauge : goal.returns-in-Ok-new-2-clause-of_gauge
returns-in-Ok-new-2-clause-of_gauge g c =
    let same : c.unboxed.result.passes.items ≡ c.serve_on.result.passes.items = λ i. (c.unboxed.ensures i).passes.items in
    subst (λ ps. All (λ p. IsPassOf c.args.gauge.now p) ps) (sym same) c.serve_on.ensures.of_gauge

-- the drive comes back from the lock that was not made, and off the heap
pub returns-in-Err-new-clause-shift : goal.returns-in-Err-new-clause-shift
returns-in-Err-new-clause-shift g c =
    let traces = map (λ t. t.items) c.args.traces.items in
    let r = c.rest-in-Err-new in
    let same : c.into_inner.result ≡ c.args.value =
    let taken = c.into_inner.ensures in
    let matched = c.in-Err-new.value-is in
    let refused = c.in-Err-new.ensures.refused in
    let boxed = c.in-Ok-new.ensures.ok in
    cc in
    subst (λ v. IsShift (g.V.Steps.run (g.V.Recorded.origin v)) traces (map (λ r. r.items) r.result.receipts.items) (map g.V.Steps.entry (g.V.Recorded.entries r.result.value)) (g.V.Steps.spent r.result.value) r.result.end) same
    (subst (λ v. IsShift (g.V.Steps.run (g.V.Recorded.origin c.into_inner.result)) traces (map (λ r. r.items) r.result.receipts.items) (map g.V.Steps.entry (g.V.Recorded.entries v)) (g.V.Steps.spent v) r.result.end) (sym r.ensures.value) (r.ensures.shift traces))
