-- A reclaim group in which neither a host nor relocation finds room.
use Rattle.std.specs.Prelude.{◌≡◌, ℕ, ◌+◌, ◌*◌, ◌≤◌}
use Rattle.fdp_base.specs.declared.config.DriveConfig.{DriveConfig}
use Rattle.fdp_rules.specs.PlainState.{PlainState}
use Rattle.fdp_rules.specs.Room.{handles_in_force, stored}
use Rattle.fdp_units.specs.DataUnits.{is_free, is_referenced, is_target}
use Rattle.fdp_units.specs.UnitTable.{Agrees, HasNoVictim, IsGroup, UnitTable, count_in, live_at}

-- at most two units are free, relocation gains nothing, each handle fills at most one unit and has at most one target, and each live
-- page is that of a stored block or of a write that is going
pub record IsCrowded (t : UnitTable) (c : DriveConfig) (s : PlainState) (rg : ℕ) : Type 0 where
  pub agrees : Agrees t c s
  pub unit_pages : t.unit_pages ≡ c.unit_pages
  pub group : IsGroup t rg
  pub none : HasNoVictim t rg
  pub free : count_in t rg is_free ≤ 2
  pub referenced : count_in t rg is_referenced ≤ handles_in_force c s
  pub targets : count_in t rg is_target ≤ handles_in_force c s
  pub live : live_at t rg ≤ stored s rg + c.queues * c.blocks_per_command
