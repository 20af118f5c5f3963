-- What is durable stays so in each step of relocation, whatever a stop leaves of it.
use Rattle.std.proofs.Common.{◌≡◌, ℕ, ◌*◌, ◌<◌, inl, inr, Bool, IsTrue, false, List, sym, subst}
use Rattle.fdp_base.specs.declared.config.DriveConfig.{DriveConfig}
use Rattle.fdp_base.specs.declared.entry.Entry.{Entry}
use Rattle.fdp_base.specs.Geometry.{data_units}
use Rattle.fdp_base.specs.Placement.{geometry_of}
use Rattle.fdp_readings.specs.fdp_collector.Leaving.{StepMayLeave}
use Rattle.fdp_durability.specs.Durable.{IsDurable}
use Rattle.fdp_durability.proofs.Durable.{durable-erase, durable-program}
use Rattle.fdp_flash.specs.declared.cell.Cell.{Cell}
use Rattle.fdp_saving.specs.fdp_journal.JournalState.{JournalState}
use Rattle.fdp_owners.specs.OwnerTable.{OwnerTable}
use Rattle.fdp_passes.specs.Due.{HasNoLive}
use Rattle.fdp_readings.specs.Drawn.{drawn}
use Rattle.fdp_readings.specs.Named.{NamesNone}
use Rattle.fdp_rules.specs.History.{Found, point_of}
use Rattle.fdp_units.specs.UnitTable.{Cut, IsUnit, UnitTable, cut_of}

-- a unit of the table is one of the flash
unit-there : (c : DriveConfig) (t : UnitTable) (unit : ℕ) → cut_of t ≡ record { unit_pages = c.unit_pages; group_units = c.units; groups = c.groups } → IsUnit t unit → unit < data_units (geometry_of c)
unit-there c t unit cut is = subst (λ (x : Cut). unit < x.groups * x.group_units) cut is

pub durable-step : (c : DriveConfig) (f : Found) (es : List Entry) (firm : ℕ) (s : JournalState) (may_erase : Bool) (t : UnitTable) (o : OwnerTable) (old image : List Cell) → geometry_of c ≡ s.geometry → 0 < s.stamp.epoch
    → cut_of t ≡ record { unit_pages = c.unit_pages; group_units = c.units; groups = c.groups } → (IsTrue may_erase → s.in_doubt ≡ false) → ((unit : ℕ) → HasNoLive o unit 0 → NamesNone c (drawn c (point_of c f es)) unit)
    → StepMayLeave may_erase (geometry_of c) t o old image → IsDurable c f es firm s t old → IsDurable c f es firm s t image
durable-step c f es firm s may_erase t o old image same some cut sure none left h =
    elim left [
      | inl as_was ↦ subst (IsDurable c f es firm s t) (sym as_was) h
      | inr called ↦
          elim called [
            | inl p ↦ durable-program c f es firm s t old image p.at p.spare p.bytes same some p.page p.blank p.left h
            | inr e ↦ durable-erase c f es firm s t old image e.1.unit same some (sure e.0) (unit-there c t e.1.unit cut e.1.is_unit) (none e.1.unit e.1.empty) e.1.left h
          ]
    ]
