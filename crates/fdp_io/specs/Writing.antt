-- A sink over a writer.
use Rattle.std.specs.Prelude.{ℕ, List, take, Option}
use Rattle.std.specs.Io.KnownBytes.{Appends, Keeps}
use Rattle.fdp_io.specs.declared.sink.SinkEnd.{SinkEnd}
use Rattle.fdp_io.specs.declared.sink.SinkEnd.TheVariants.{Took, Failed}

-- where the writer tells its bytes, it holds just those more that the answer claims
abbrev pub WritesClaimed : Option (List ℕ) → Option (List ℕ) → List ℕ → SinkEnd → Type 0
WritesClaimed old new piece (Took count) = Appends old new (take count piece)
WritesClaimed old new piece Failed = Keeps old new
