-- What a reader gives: a value, or why there is none.
use Rattle.std.specs.Prelude.{◌≡◌, ◌<◌, ℕ, IsOk, ◌&&◌, nat_le, if◌then◌else◌, List, [], ◌∷◌, Option, Some, None, Result, Ok, Err}
use Rattle.fdp_trace.specs.declared.fault.FaultKind.{FaultKind}
use Rattle.fdp_trace.specs.declared.fault.FaultKind.TheVariants as kinds
use Rattle.fdp_trace.specs.declared.fault.LineError.{LineError}
use Rattle.fdp_trace.specs.declared.fault.LineError.TheVariants as errors
use Rattle.fdp_trace.specs.Reader.NumberOf.{number_of}

infixl 10 ◌>>=◌
abbrev pub ◌>>=◌ : {A B : Type 0} → Result A FaultKind → (A → Result B FaultKind) → Result B FaultKind
(Ok x) >>= f = f x
(Err kind) >>= f = Err kind

-- what a function that takes no memory returned, seen by a view, is what reading gives
abbrev pub Reads : {X Y : Type 0} → (X → Y) → Result X FaultKind → Result Y FaultKind → Type 0
Reads view (Ok x) read = read ≡ Ok (view x)
Reads view (Err kind) read = read ≡ Err kind

-- what a function that only judges returned: reading gives a value, or this fault
abbrev pub Judges : {Y : Type 0} → Result (Unit {0}) FaultKind → Result Y FaultKind → Type 0
Judges (Ok done) read = IsOk read
Judges (Err kind) read = read ≡ Err kind

-- why a function returned no value: reading gives this fault; memory is wanted only for a value of some size
abbrev pub Fails : {Y : Type 0} → (Y → ℕ) → LineError → Result Y FaultKind → Type 0
Fails size errors.Memory read = (y : _) × (read ≡ Ok y) × (0 < size y)
Fails size (errors.Fault kind) read = read ≡ Err kind

-- what a function returned is what reading gives, unless memory ran out
abbrev pub Gives : {Y : Type 0} → (Y → ℕ) → Result Y LineError → Result Y FaultKind → Type 0
Gives size (Ok x) read = read ≡ Ok x
Gives size (Err e) read = Fails size e read

abbrev pub bounded : ℕ → ℕ → Option ℕ → Result ℕ FaultKind
bounded low high None = Err kinds.Number
bounded low high (Some n) = if nat_le low n && nat_le n high then Ok n else Err kinds.Range

-- the number that a word spells, within bounds
abbrev pub within : ℕ → ℕ → List ℕ → Result ℕ FaultKind
within low high word = bounded low high (number_of word)

-- the number of the next word, and the words after it
unfoldable pub field : ℕ → ℕ → List (List ℕ) → Result (ℕ × List (List ℕ)) FaultKind
field low high [] = Err kinds.Count
field low high (word ∷ words) = within low high word >>= λ n. Ok (n, words)
