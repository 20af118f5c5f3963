-- How much of a text was printed.
use Rattle.std.specs.Prelude.{◌≡◌, ℕ, ◌≤◌, IsTrue, List, ◌++◌, length, take, Result, Ok, Err, ⊤}
use Rattle.fdp_base.specs.Counts.{Rose}
use Rattle.fdp_io.specs.Sink.{Holds, HoldsFront, SinkState}
use Rattle.fdp_printing.specs.declared.pieces.Cut.{Cut}
use Rattle.fdp_printing.specs.declared.pieces.Cut.TheVariants as cuts

-- the sink holds a prefix of this text more
pub record HoldsSome (old new : SinkState) (text : List ℕ) : Type 0 where
  pub count : ℕ
  pub within : count ≤ length text
  pub front : IsTrue old.told → new.bytes ≡ old.bytes ++ take count text

-- a failed write of the sink was counted where it cut the text, and only there
abbrev pub CountsCut : ℕ → ℕ → Result ⊤ Cut → Type 0
CountsCut old new (Ok done) = new ≡ old
CountsCut old new (Err cuts.Sink) = Rose old new
CountsCut old new (Err cuts.NoMemory) = new ≡ old

-- the whole text was printed, or a prefix of it: where a write of the sink failed, or memory was wanting
abbrev pub Prints : SinkState → SinkState → List ℕ → Result ⊤ Cut → Type 0
Prints old new text (Ok done) = Holds old new text
Prints old new text (Err cuts.Sink) = HoldsFront old new text
Prints old new text (Err cuts.NoMemory) = HoldsSome old new text

-- ---- a text that is printed piece by piece, through a buffer

-- the text of the buffer and this piece behind it went on: the sink holds the beginning more, and the rest is in the buffer
pub record GoesOn (old new : SinkState) (before after piece : List ℕ) : Type 0 where
  pub tells : new.told ≡ old.told
  pub faults : new.faults ≡ old.faults
  pub printed : List ℕ
  pub held : Holds old new printed
  pub all : printed ++ after ≡ before ++ piece

-- a text was cut: the sink holds a prefix of it more
pub record IsCut (old new : SinkState) (text : List ℕ) (cut : Cut) : Type 0 where
  pub tells : new.told ≡ old.told
  pub faults : old.faults ≤ new.faults
  pub counts : CountsCut old.faults new.faults (Err cut)
  pub ends : Prints old new text (Err cut)

-- it went on, or was cut
abbrev pub PrintsOn : SinkState → SinkState → List ℕ → List ℕ → List ℕ → Result ⊤ Cut → Type 0
PrintsOn old new before after piece (Ok done) = GoesOn old new before after piece
PrintsOn old new before after piece (Err cut) = IsCut old new (before ++ piece) cut
