-- What a saving takes from a book.
use Rattle.std.specs.Prelude.{◌^◌, ◌<◌, not}
use Rattle.fdp_base.specs.declared.command.Write.{Write}
use Rattle.fdp_base.specs.declared.entry.Totals.{Totals}
use Rattle.fdp_book.specs.declared.write_names.WriteNames.{WriteNames}
use Rattle.fdp_rules.specs.PlainState.{Going}

-- its blocks, from an address of a namespace on; the placement identifier with which it came, and whether that was not valid
abbrev pub names_of : Write → Going → WriteNames
names_of w g = record { nsid = w.nsid; slba = w.slba; pid = w.dspec; pid_invalid = not g.pid_valid }

-- the position and the sums are far below the last values of their counts
pub record AreSmall (t : Totals) : Type 0 where
  pub position : t.position < 2 ^ 63
  pub host_blocks : t.host_blocks < 2 ^ 63
  pub media_blocks : t.media_blocks < 2 ^ 63
  pub erases : t.erases < 2 ^ 63
