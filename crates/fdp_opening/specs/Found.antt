-- What an opening finds of the pages of data.
use Rattle.std.specs.Prelude.{◌≡◌, ◌≢◌, ℕ, ◌/◌, Bool, false, not, IsTrue, List, Option, Some, None, Result, Ok, Err, replicate, slice_get, if◌then◌else◌}
use Rattle.std.specs.Option.{option_and_then}
use Rattle.fdp_base.specs.declared.config.DriveConfig.{DriveConfig}
use Rattle.fdp_base.specs.declared.entry.Spot.{Spot}
use Rattle.fdp_base.specs.declared.spare.DataSpare.{DataSpare}
use Rattle.fdp_base.specs.Placement.{classes_of, geometry_of}
use Rattle.fdp_base.specs.Spare.{data_spare}
use Rattle.fdp_flash.specs.declared.cell.Cell.{Cell}
use Rattle.fdp_flash.specs.declared.cell.Cell.TheVariants.{Blank, Torn, Whole}
use Rattle.fdp_flash.specs.Failing.{FailsLast}
use Rattle.fdp_flash.specs.FlashState.{FlashState}
use Rattle.fdp_flash.specs.Layout.{page_number}
use Rattle.fdp_handles.specs.HandleTable.{blank, reference_at}
use Rattle.fdp_image.specs.Reading.{Reading, spot_of}
use Rattle.fdp_image.specs.Roomy.{is_blank_unit}
use Rattle.fdp_image.specs.Valid.{GoOneWay}
use Rattle.fdp_opening.specs.declared.fault.PagesFault.{PagesFault}
use Rattle.fdp_opening.specs.declared.fault.PagesFault.TheVariants as faults
use Rattle.fdp_owners.specs.declared.owner.Owner.{Owner}
use Rattle.fdp_owners.specs.OwnerTable.{owner_at}
use Rattle.fdp_pages.specs.Finding.{lane_of_handle, of_found}
use Rattle.fdp_pages.specs.PageTables.{PageTables, no_targets}
use Rattle.fdp_passes.specs.declared.lane.Lane.{Lane}
use Rattle.fdp_records.specs.Spares.{said_by_data}
use Rattle.fdp_recovery.specs.Blocks.{AreKept, IsBefore, is_kept, names_block}
use Rattle.fdp_rules.specs.Step.{IsDataUnit}
use Rattle.fdp_units.specs.declared.data_unit.DataUnit.{DataUnit}
use Rattle.fdp_units.specs.declared.state.UnitState.TheVariants.{Closed, Free}
use Rattle.fdp_units.specs.UnitTable.{cut_of, is_worn_at, unit_at}

-- what the spare of a page says, if the page is whole and one of data
abbrev pub said_in : Cell → Option DataSpare
said_in Blank = None
said_in Torn = None
said_in (Whole spare bytes) = said_by_data spare

abbrev pub said_at : List Cell → ℕ → Option DataSpare
said_at cells page = option_and_then said_in (slice_get cells page)

-- a unit that was found used gets no page before it is erased; any other is free
pub record IsUnitFound (pages : ℕ) (used : Bool) (x : DataUnit) : Type 0 where
  pub state : x.state ≡ (if used then Closed else Free)
  pub next : x.next ≡ (if used then pages else 0)

-- a unit is free or found used; where the flash tells its cells it is free exactly where all its pages are blank
pub record IsFoundIn (c : DriveConfig) (s : FlashState) (unit : ℕ) (x : DataUnit) : Type 0 where
  pub used : Bool
  pub found : IsUnitFound c.unit_pages used x
  pub told : IsTrue s.told → used ≡ not (is_blank_unit (geometry_of c) s.cells unit)

-- the owner of a page is a block that stands on it; its spare names the block, the group of the unit, the generation in force and one of the
-- handles of the namespace, and the bytes that are made of it say it again
pub record IsBlockOwner (c : DriveConfig) (r : Reading) (nsid lba page : ℕ) (x : Owner) : Type 0 where
  pub spare : DataSpare
  pub owner_is : x ≡ of_found spare
  pub named : IsTrue (names_block c r nsid lba page spare)
  pub spelled : said_by_data (data_spare spare) ≡ Some spare

-- a block stands on its page, which it owns
pub record OwnsPage (c : DriveConfig) (r : Reading) (t : PageTables) (nsid lba page : ℕ) : Type 0 where
  pub owner : Owner
  pub is_owner : owner_at t.owners (spot_of c page) ≡ Some owner
  pub block : IsBlockOwner c r nsid lba page owner

-- a page is owned by a block that stands on it
pub record IsOwnedPage (c : DriveConfig) (r : Reading) (spot : Spot) (x : Owner) : Type 0 where
  pub nsid : ℕ
  pub lba : ℕ
  pub page : ℕ
  pub there : r.pages nsid lba ≡ Some page
  pub spot_is : spot ≡ spot_of c page
  pub block : IsBlockOwner c r nsid lba page x

-- no handle references a unit, no unit gets copies or is emptied, and no group is worn
pub record AreUnmoved (c : DriveConfig) (r : Reading) (t : PageTables) : Type 0 where
  pub cut : cut_of t.units ≡ record { unit_pages = c.unit_pages; group_units = c.units; groups = c.groups }
  pub classes : t.handles.classes ≡ classes_of c r.enabled r.index
  pub references : (rg ruh : ℕ) → reference_at t.handles rg ruh ≡ blank c.unit_pages
  pub passes : t.passes ≡ replicate c.groups (no_targets c.unit_pages)
  pub worn : (rg : ℕ) → is_worn_at t.units rg ≡ false

-- the tables of the pages as an opening finds them: units are free or used, and the blocks own their pages, which nothing else owns; where the
-- flash tells its cells each owned page is whole, its spare is the one that its owner knows, and the blocks of each unit go one way
pub record AreFound (c : DriveConfig) (r : Reading) (s : FlashState) (t : PageTables) : Type 0 where
  pub unmoved : AreUnmoved c r t
  pub units : (unit : ℕ) → IsDataUnit c unit → IsFoundIn c s unit (unit_at t.units unit)
  pub blocks : (nsid lba page : ℕ) → r.pages nsid lba ≡ Some page → OwnsPage c r t nsid lba page
  pub owned : (spot : Spot) (x : Owner) → owner_at t.owners spot ≡ Some x → IsOwnedPage c r spot x
  pub said : IsTrue s.told → (spot : Spot) (x : Owner) → owner_at t.owners spot ≡ Some x → said_at s.cells (page_number (geometry_of c) spot) ≡ Some x.spare
  pub ways : IsTrue s.told → GoOneWay c s.cells r

-- the way that the data of a handle goes by the configuration of a reading
abbrev pub lane_in : DriveConfig → Reading → ℕ → Lane
lane_in c r ruh = lane_of_handle (classes_of c r.enabled r.index) ruh

-- a block is in its place: it is kept on its page, and goes the way of each block before it in its unit
pub record IsInPlace (c : DriveConfig) (cells : List Cell) (r : Reading) (nsid lba page : ℕ) : Type 0 where
  pub kept : IsTrue (is_kept c cells r nsid lba page)
  pub way : (n l other : ℕ) (x y : DataSpare) → r.pages n l ≡ Some other → IsBefore n l nsid lba → other / c.unit_pages ≡ page / c.unit_pages
      → said_at cells other ≡ Some x → said_at cells page ≡ Some y → lane_in c r x.ruh ≡ lane_in c r y.ruh

-- this is the page of the first block, by namespace and address, that is not in its place
pub record IsFirstAstray (c : DriveConfig) (cells : List Cell) (r : Reading) (page : ℕ) : Type 0 where
  pub nsid : ℕ
  pub lba : ℕ
  pub there : r.pages nsid lba ≡ Some page
  pub astray : IsInPlace c cells r nsid lba page → ⊥
  pub before : (n l p : ℕ) → r.pages n l ≡ Some p → IsBefore n l nsid lba → IsInPlace c cells r n l p

-- the flash tells its cells, which keep the blocks, and those of each unit go one way
pub record KeepsBlocks (c : DriveConfig) (r : Reading) (s : FlashState) : Type 0 where
  pub told : IsTrue s.told
  pub kept : AreKept c s.cells r
  pub ways : GoOneWay c s.cells r

-- an answer that calls no page bad
abbrev pub CallsNoneBad : {X : Type 0} → Result X PagesFault → Type 0
CallsNoneBad {X} result = (page : ℕ) → result ≢ Err (faults.BadImage page)

-- where the flash tells its cells, a page that is called bad is that of the first block that is not in its place
abbrev pub CallsFirstBad : {X : Type 0} → DriveConfig → Reading → FlashState → Result X PagesFault → Type 0
CallsFirstBad {X} c r s result = (page : ℕ) → result ≡ Err (faults.BadImage page) → IsTrue s.told → IsFirstAstray c s.cells r page

-- a call of the flash failed only where the answer says so, and that was the last one; else the flash counted no fault
abbrev pub EndsPages : {X : Type 0} → FlashState → FlashState → Result X PagesFault → Type 0
EndsPages old new (Ok x) = new.faults ≡ old.faults
EndsPages old new (Err (faults.BadImage page)) = new.faults ≡ old.faults
EndsPages old new (Err (faults.FlashFault moment)) = FailsLast old new moment
EndsPages old new (Err faults.NoMemory) = new.faults ≡ old.faults
