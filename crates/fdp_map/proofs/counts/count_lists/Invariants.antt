use Rattle.fdp_map.specs.PageLists.{table_of}
use Rattle.fdp_map.proofs.Counting.{AreRowsCounted}
use Rattle.fdp_map.proofs.counts.count_lists.Given as goal

abbrev pub invariant-loop-index : goal.invariant-loop-index
invariant-loop-index l = AreRowsCounted (table_of l.geometry l.lists) l.counts l.index
