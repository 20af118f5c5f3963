use Rattle.std.proofs.Common.{◌≡◌, ◌++◌}
use Rattle.std.specs.Int.{to_le_bytes, w32}
use Rattle.fdp_base.specs.Pattern.{repeated}
use Rattle.fdp_reader.proofs.data.push_word.Given as goal

abbrev pub invariant-loop : goal.invariant-loop
invariant-loop l = l.into.items ≡ l.fn.into.items ++ repeated l.counter (to_le_bytes w32 l.word)
