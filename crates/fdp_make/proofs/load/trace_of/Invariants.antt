use Rattle.std.proofs.Common.{◌≡◌}
use Rattle.fdp_make.specs.Load.{make_command, number_at}
use Rattle.fdp_make.proofs.Listing.{IsListing}
use Rattle.fdp_make.proofs.load.trace_of.Given as goal

abbrev pub invariant-loop-k : goal.invariant-loop-k
invariant-loop-k l = record {
  row : l.x ≡ number_at l.trace l.k;
  done : IsListing (make_command l.trace) l.number l.k l.commands.items;
}
