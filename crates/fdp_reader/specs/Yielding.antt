-- The reader's own words: the contracts of its private steps cite them, and no public one does.
use Rattle.std.specs.Prelude.{◌≡◌, Result, Ok, Err}
use Rattle.fdp_trace.specs.declared.fault.FaultKind.{FaultKind}
use Rattle.fdp_trace.specs.declared.fault.LineError.{LineError}
use Rattle.fdp_trace.specs.declared.fault.LineError.TheVariants as errors

-- why a step gave nothing: reading gives this fault, or memory ran out
abbrev pub Wants : {Y : Type 0} → LineError → Result Y FaultKind → Type 0
Wants errors.Memory read = Unit {0}
Wants (errors.Fault kind) read = read ≡ Err kind

-- a step gave what reading gives, unless memory ran out
abbrev pub Yields : {Y : Type 0} → Result Y LineError → Result Y FaultKind → Type 0
Yields (Ok y) read = read ≡ Ok y
Yields (Err e) read = Wants e read

-- the same of what a step gave, seen by a view
abbrev pub YieldsBy : {X Y : Type 0} → (X → Y) → Result X LineError → Result Y FaultKind → Type 0
YieldsBy view (Ok x) read = read ≡ Ok (view x)
YieldsBy view (Err e) read = Wants e read
