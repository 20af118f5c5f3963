use Rattle.fdp_map.specs.PageLists.{places_of}
use Rattle.fdp_map.proofs.Counting.{IsRowCounted}
use Rattle.fdp_map.proofs.counts.count_list.Given as goal

abbrev pub invariant-loop-lba : goal.invariant-loop-lba
invariant-loop-lba l = IsRowCounted l.fn.counts l.counts (places_of l.geometry l.list) l.lba
