-- The words of the faults of a line.
use Rattle.std.specs.Prelude.{ℕ, List, codes}
use Rattle.fdp_trace.specs.declared.fault.FaultKind.{FaultKind}
use Rattle.fdp_trace.specs.declared.fault.FaultKind.TheVariants as kinds

abbrev pub kind_word : FaultKind → List ℕ
kind_word kinds.Long = codes "long"
kind_word kinds.Utf8 = codes "utf8"
kind_word kinds.Word = codes "word"
kind_word kinds.Count = codes "count"
kind_word kinds.Number = codes "number"
kind_word kinds.Range = codes "range"
