-- The tables of the pages of data as an opening makes them.
use Rattle.std.specs.Prelude.{◌≡◌, ◌⊎◌, ℕ, false, IsTrue, List, Option, Some, None, if◌then◌else◌}
use Rattle.std.specs.Option.{option_and_then, option_map_or}
use Rattle.fdp_base.specs.declared.config.DriveConfig.{DriveConfig}
use Rattle.fdp_base.specs.declared.entry.Spot.{Spot}
use Rattle.fdp_base.specs.declared.spare.DataSpare.{DataSpare}
use Rattle.fdp_base.specs.Placement.{classes_of, geometry_of}
use Rattle.fdp_flash.specs.declared.cell.Cell.{Cell}
use Rattle.fdp_flash.specs.Layout.{page_number}
use Rattle.fdp_locations.specs.Held.{pages_held}
use Rattle.fdp_found.specs.Finding.{found_in}
use Rattle.fdp_handles.specs.HandleTable.{HandleTable, reference_at}
use Rattle.fdp_image.specs.Reading.{Reading, has_page, spot_of}
use Rattle.fdp_image.specs.Roomy.{is_blank_unit}
use Rattle.fdp_locations.specs.Written.{Written}
use Rattle.fdp_owners.specs.declared.owner.Holder.TheVariants.{Block}
use Rattle.fdp_owners.specs.declared.owner.Owner.{Owner}
use Rattle.fdp_owners.specs.OwnerTable.{owner_at}
use Rattle.fdp_locations.specs.fdp_pages.PageTables.{PageTables, passes_at}
use Rattle.fdp_passes.specs.declared.lane.Lane.{Lane}
use Rattle.fdp_passes.specs.GroupPasses.{target_at}
use Rattle.fdp_pointers.specs.Facts.{Page, found_at}
use Rattle.fdp_pointers.specs.Pointers.{Behind}
use Rattle.fdp_rules.specs.Effect.{no_reference}
use Rattle.fdp_rules.specs.Step.{IsDataUnit}
use Rattle.fdp_units.specs.declared.state.UnitState.TheVariants.{Closed, Free}
use Rattle.fdp_units.specs.UnitTable.{UnitTable, cut_of, is_worn_at, state_at, unit_at}

-- ---- owners

-- the block that the spare of a page names owns the page, where it stands there
abbrev pub owner_by : Reading → ℕ → DataSpare → Option Owner
owner_by r page spare = if has_page r page spare.nsid spare.lba then Some (record { holder = Block; spare = spare }) else None

-- the owner of each page: the block that stands there
abbrev pub owner_found : DriveConfig → List Cell → Reading → Spot → Option Owner
owner_found c cells r spot = option_and_then (λ (x : Written). owner_by r (page_number (geometry_of c) spot) x.spare) (pages_held c cells spot)

-- ---- pointers

-- a spare of no page
abbrev pub no_spare : DataSpare
no_spare = record { ruh = 0; rg = 0; generation = 0; ticket = 0; nsid = 0; index = 0; lba = 0 }

-- what the spare of a block's page says
abbrev pub spare_found : DriveConfig → List Cell → Reading → ℕ → ℕ → DataSpare
spare_found c cells r nsid lba = option_map_or (λ (x : Written). x.spare) (option_and_then (λ page. pages_held c cells (spot_of c page)) (r.pages nsid lba)) no_spare

-- where the pointers lead: each block to its page
abbrev pub led_in : DriveConfig → List Cell → Reading → Behind Page
led_in c cells r = found_at (found_in c cells r) (spare_found c cells r)

-- ---- units and tables

-- a unit is free, with only blank pages; or closed, with all its pages used
abbrev pub IsFoundUnit : DriveConfig → List Cell → UnitTable → ℕ → Type 0
IsFoundUnit c cells t unit =
    ((state_at t unit ≡ Free) × ((unit_at t unit).next ≡ 0) × IsTrue (is_blank_unit (geometry_of c) cells unit))
    ⊎ ((state_at t unit ≡ Closed) × ((unit_at t unit).next ≡ c.unit_pages))

-- no handle has a unit, and to each a whole one is to come; the classes are those of the configuration in force
pub record AreNewHandles (c : DriveConfig) (r : Reading) (t : HandleTable) : Type 0 where
  pub unit_pages : c.unit_pages ≡ t.unit_pages
  pub groups : c.groups ≡ t.groups
  pub classes : classes_of c r.enabled r.index ≡ t.classes
  pub references : (rg ruh : ℕ) → reference_at t rg ruh ≡ no_reference c

-- relocation has neither a target nor a pass
pub record HasNoRelocation (t : PageTables) (rg : ℕ) : Type 0 where
  pub targets : (lane : Lane) → target_at (passes_at t rg) lane ≡ None
  pub pass : (passes_at t rg).pass ≡ None

-- The tables over these cells, of an image that says this: each unit is free or closed and no group is worn, the pages of the blocks have
-- their owners and no others, and neither handles nor relocation have begun.
pub record AreOpened (c : DriveConfig) (cells : List Cell) (r : Reading) (t : PageTables) : Type 0 where
  pub cut : cut_of t.units ≡ record { unit_pages = c.unit_pages; group_units = c.units; groups = c.groups }
  pub units : (unit : ℕ) → IsDataUnit c unit → IsFoundUnit c cells t.units unit
  pub worn : (rg : ℕ) → is_worn_at t.units rg ≡ false
  pub owners : (spot : Spot) → owner_at t.owners spot ≡ owner_found c cells r spot
  pub handles : AreNewHandles c r t.handles
  pub passes : (rg : ℕ) → HasNoRelocation t rg
