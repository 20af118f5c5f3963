-- What is true of the tables of a plain drive.
use Rattle.std.specs.Prelude.{◌≡◌, true, [], length}
use Rattle.fdp_base.specs.Config.{IsValidConfig}
use Rattle.fdp_rules.specs.Legal.{IsLegal}
use Rattle.fdp_tables.specs.declared.state.Kept.{Kept}
use Rattle.fdp_tables.specs.Sound.{KnowsFound}
use Rattle.fdp_tables.specs.Starts.{AreStarts, cut}
use Rattle.fdp_tables.specs.State.{own_entries, point_kept}
use Rattle.fdp_plain.specs.Found.{BeginsInOrder}
use Rattle.fdp_plain.specs.Rows.{HasRows}
use Rattle.fdp_plain.specs.Run.{AreLegalBehind, Run, found_of, point_in}

-- the run that tables tell of
abbrev pub run_of : Kept → Run
run_of k = record { config = k.config; earlier = cut 0 k.starts.items k.entries.items; entries = own_entries k }

-- each run has a legal history of what those before it left, and the tables tell what stands after the entries of the last one
pub record TellsHistory (k : Kept) : Type 0 where
  pub config : IsValidConfig k.config
  pub rows : HasRows k
  pub starts : AreStarts 0 k.starts.items (length k.entries.items)
  pub begins : BeginsInOrder k.config (found_of (run_of k))
  pub known : KnowsFound k
  pub point : point_kept k ≡ point_in (run_of k)
  pub earlier : AreLegalBehind k.config [] (run_of k).earlier
  pub legal : IsLegal true k.config (found_of (run_of k)) (own_entries k)
