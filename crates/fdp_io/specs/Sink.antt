-- What contracts see of a sink.
use Rattle.std.specs.Prelude.{◌≡◌, ℕ, ◌<◌, ◌≤◌, Bool, true, false, IsTrue, List, ◌++◌, length, take}
use Rattle.fdp_base.specs.Counts.{Rose}
use Rattle.fdp_io.specs.declared.sink.SinkEnd.{SinkEnd}
use Rattle.fdp_io.specs.declared.sink.SinkEnd.TheVariants.{Took, Failed}

pub record SinkState : Type 0 where
  -- how many calls failed
  pub faults : ℕ
  -- whether the bytes are told
  pub told : Bool
  -- the bytes that it holds, which count only where they are told
  pub bytes : List ℕ

-- what each answer of a write says
abbrev pub Takes : SinkState → SinkState → List ℕ → SinkEnd → Type 0
Takes old new piece (Took count) = (count ≤ length piece) × (0 < length piece → 0 < count) × (IsTrue old.told → new.bytes ≡ old.bytes ++ take count piece)
Takes old new piece Failed = Rose old.faults new.faults × (IsTrue old.told → new.bytes ≡ old.bytes)

-- a failed write is counted, and no other
abbrev pub CountsFailedWrite : ℕ → ℕ → SinkEnd → Type 0
CountsFailedWrite old new (Took count) = new ≡ old
CountsFailedWrite old new Failed = Rose old new

-- whether a write failed
abbrev pub write_failed : SinkEnd → Bool
write_failed (Took count) = false
write_failed Failed = true

-- the sink holds this text more
abbrev pub Holds : SinkState → SinkState → List ℕ → Type 0
Holds old new text = IsTrue old.told → new.bytes ≡ old.bytes ++ text

-- a write failed, and the sink holds a prefix of this text more
pub record HoldsFront (old new : SinkState) (text : List ℕ) : Type 0 where
  pub rose : Rose old.faults new.faults
  pub count : ℕ
  pub short : count < length text
  pub front : IsTrue old.told → new.bytes ≡ old.bytes ++ take count text
