-- What is known while an opening looks at the pages of data.
use Rattle.std.specs.Prelude.{◌≡◌, ℕ, ◌/◌, ◌%◌, ◌<◌, ◌≤◌, IsTrue, None, Some, length}
use Rattle.fdp_base.specs.declared.config.DriveConfig.{DriveConfig}
use Rattle.fdp_base.specs.declared.entry.Spot.{Spot}
use Rattle.fdp_base.specs.declared.spare.DataSpare.{DataSpare}
use Rattle.fdp_base.specs.Placement.{geometry_of}
use Rattle.fdp_flash.specs.FlashState.{FlashState}
use Rattle.fdp_flash.specs.Layout.{page_number}
use Rattle.fdp_image.specs.Reading.{Reading, spot_of}
use Rattle.fdp_opening.specs.Found.{AreUnmoved, IsFoundIn, IsInPlace, IsOwnedPage, OwnsPage, said_at}
use Rattle.fdp_owners.specs.declared.owner.Owner.{Owner}
use Rattle.fdp_owners.specs.OwnerTable.{owner_at, with_owner}
use Rattle.fdp_pages.specs.Finding.{GoWith, HasNoPass, of_found}
use Rattle.fdp_pages.specs.PageTables.{PageTables}
use Rattle.fdp_pages.specs.Steps.{ChangesOwners}
use Rattle.fdp_recovery.specs.Blocks.{IsBefore, names_block}
use Rattle.fdp_rules.specs.Step.{IsDataUnit}
use Rattle.fdp_units.specs.declared.state.UnitState.TheVariants.{Closed}
use Rattle.fdp_units.specs.DataUnits.{free_unit}
use Rattle.fdp_units.specs.UnitTable.{IsUnit, cut_of, is_worn_at, state_at, unit_at}

-- the units are those of the configuration, and all free
pub record AreUnseen (c : DriveConfig) (t : PageTables) : Type 0 where
  pub cut : cut_of t.units ≡ record { unit_pages = c.unit_pages; group_units = c.units; groups = c.groups }
  pub free : (unit : ℕ) → IsDataUnit c unit → unit_at t.units unit ≡ free_unit

-- units change alone
pub record ChangesUnits (old new : PageTables) : Type 0 where
  pub cut : cut_of new.units ≡ cut_of old.units
  pub worn : is_worn_at new.units ≡ is_worn_at old.units
  pub owners : new.owners ≡ old.owners
  pub handles : new.handles ≡ old.handles
  pub passes : new.passes ≡ old.passes

-- the first units were looked at, the others not yet
pub record AreUnitsFoundTo (c : DriveConfig) (s : FlashState) (unit : ℕ) (old new : PageTables) : Type 0 where
  pub units : (u : ℕ) → IsDataUnit c u → u < unit → IsFoundIn c s u (unit_at new.units u)
  pub unseen : (u : ℕ) → IsDataUnit c u → unit ≤ u → unit_at new.units u ≡ free_unit
  pub rest : ChangesUnits old new

-- an owner is one of the blocks before one
pub record IsOwnedBefore (c : DriveConfig) (r : Reading) (nsid lba : ℕ) (spot : Spot) (x : Owner) : Type 0 where
  pub owned : IsOwnedPage c r spot x
  pub before : IsBefore owned.nsid owned.lba nsid lba

-- the pages of the blocks before one were looked at: these own them, and no others
pub record AreFoundBefore (c : DriveConfig) (r : Reading) (s : FlashState) (nsid lba : ℕ) (t : PageTables) : Type 0 where
  pub unmoved : AreUnmoved c r t
  pub units : (unit : ℕ) → IsDataUnit c unit → IsFoundIn c s unit (unit_at t.units unit)
  pub blocks : (n l page : ℕ) → IsBefore n l nsid lba → r.pages n l ≡ Some page → OwnsPage c r t n l page
  pub owned : (spot : Spot) (x : Owner) → owner_at t.owners spot ≡ Some x → IsOwnedBefore c r nsid lba spot x
  pub said : IsTrue s.told → (spot : Spot) (x : Owner) → owner_at t.owners spot ≡ Some x → said_at s.cells (page_number (geometry_of c) spot) ≡ Some x.spare
  pub placed : IsTrue s.told → (n l page : ℕ) → r.pages n l ≡ Some page → IsBefore n l nsid lba → IsInPlace c s.cells r n l page

-- what is known of the page of a block before it gets its owner
pub record CanKeep (c : DriveConfig) (r : Reading) (nsid lba page : ℕ) (t : PageTables) : Type 0 where
  pub is_unit : IsUnit t.units (page / c.unit_pages)
  pub used : state_at t.units (page / c.unit_pages) ≡ Closed → page % c.unit_pages < (unit_at t.units (page / c.unit_pages)).next
  pub unowned : owner_at t.owners (spot_of c page) ≡ None
  pub handle : (s : DataSpare) → IsTrue (names_block c r nsid lba page s) → s.ruh < length t.handles.classes
  pub quiet : HasNoPass t

-- a page may get a block with this spare as owner
pub record MayKeep (c : DriveConfig) (r : Reading) (nsid lba page : ℕ) (s : DataSpare) (t : PageTables) : Type 0 where
  pub named : IsTrue (names_block c r nsid lba page s)
  pub closed : state_at t.units (page / c.unit_pages) ≡ Closed
  pub way : GoWith t (page / c.unit_pages) s.ruh

-- the page of a block got its owner
pub record GetsOwner (c : DriveConfig) (r : Reading) (nsid lba page : ℕ) (s : DataSpare) (old new : PageTables) : Type 0 where
  pub may : MayKeep c r nsid lba page s old
  pub owners : owner_at new.owners ≡ with_owner (owner_at old.owners) (spot_of c page) (Some (of_found s))
  pub rest : ChangesOwners old new
