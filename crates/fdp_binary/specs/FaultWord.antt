-- The words of the faults of a stream.
use Rattle.std.specs.Prelude.{ℕ, List, codes}
use Rattle.fdp_binary.specs.declared.fault.StreamFaultKind.{StreamFaultKind}
use Rattle.fdp_binary.specs.declared.fault.StreamFaultKind.TheVariants as faults

abbrev pub kind_word : StreamFaultKind → List ℕ
kind_word faults.Head = codes "head"
kind_word faults.Create = codes "create"
kind_word faults.Length = codes "length"
kind_word faults.Many = codes "many"
kind_word faults.Cut = codes "cut"
