use Rattle.std.proofs.Common.{◌≤◌, List}
use Rattle.fdp_base.specs.declared.entry.Entry.{Entry}
use Rattle.fdp_make.specs.Summary.{is_as_wanted, untold}
use Rattle.fdp_make.specs.Table.{Tells}
use Rattle.fdp_make.proofs.Listing.{IsCounting}
use Rattle.fdp_make.proofs.given.agreeing_blocks.Given as goal

abbrev pub invariant-loop-index : goal.invariant-loop-index
invariant-loop-index l = record {
  bound : l.count ≤ l.index;
  counted : (es : List Entry) → Tells l.writes es → IsCounting (is_as_wanted l.block untold es l.host l.read) l.read.count l.index l.count;
}
