use Rattle.fdp_map.specs.PageLists.{places_of}
use Rattle.fdp_map.proofs.Stored.{IsCounting}
use Rattle.fdp_map.proofs.lists.stored_among.Given as goal

abbrev pub invariant-loop-i : goal.invariant-loop-i
invariant-loop-i l = IsCounting (places_of l.geometry l.list) l.rg l.slba l.i l.stored
