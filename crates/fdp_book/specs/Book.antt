-- A book as contracts see it: the history of a drive, without its flash.
use Rattle.std.specs.Prelude.{◌≡◌, ℕ, ◌+◌, ◌*◌, ◌<◌, Bool, false, List, [], ◌++◌, None, Option, length, replicate}
use Rattle.fdp_base.specs.declared.config.DriveConfig.{DriveConfig}
use Rattle.fdp_base.specs.declared.entry.Entry.{Entry}
use Rattle.fdp_base.specs.declared.entry.Spot.{Spot}
use Rattle.fdp_flash.specs.declared.cell.Cell.{Cell}
use Rattle.fdp_book.specs.Configured.{fresh_opening}
use Rattle.fdp_handles.specs.HandleTable.{reference_at}
use Rattle.fdp_readings.specs.fdp_locations.Held.{pages_held}
use Rattle.fdp_readings.specs.fdp_locations.Located.{AreLed}
use Rattle.fdp_readings.specs.fdp_locations.Written.{Written, written_by}
use Rattle.fdp_owners.specs.OwnerTable.{owner_at}
use Rattle.fdp_readings.specs.fdp_pages.PageTables.{PageTables, no_targets}
use Rattle.fdp_pointers.specs.Facts.{Page}
use Rattle.fdp_pointers.specs.Pointers.{Behind}
use Rattle.fdp_rules.specs.Effect.{no_reference}
use Rattle.fdp_rules.specs.History.{Found, point_of}
use Rattle.fdp_rules.specs.PlainState.{PlainState}
use Rattle.fdp_rules.specs.Point.{Point}
use Rattle.fdp_units.specs.DataUnits.{free_unit}
use Rattle.fdp_units.specs.UnitTable.{is_worn_at, unit_at}

pub record BookSeen : Type 0 where
  pub config : DriveConfig
  -- what the history began with, and the cells of the flash then
  pub found : Found
  pub opened : List Cell
  -- the history
  pub entries : List Entry
  -- the steps for which there is room, and the steps that were made
  pub spare : ℕ
  pub spent : ℕ
  -- how many entries the step under way may still add, and whether one of them may be that of a move
  pub room : ℕ
  pub may_move : Bool
  -- what is kept of the pages of data
  pub pages : PageTables

-- no page of data was used: each handle has a whole unit to come, each unit is free, no group is worn, and relocation has neither a target nor
-- a pass
pub record AreUnused (c : DriveConfig) (t : PageTables) : Type 0 where
  pub references : (rg ruh : ℕ) → reference_at t.handles rg ruh ≡ no_reference c
  pub units : (unit : ℕ) → unit < c.groups * c.units → unit_at t.units unit ≡ free_unit
  pub worn : (rg : ℕ) → is_worn_at t.units rg ≡ false
  pub owners : (spot : Spot) → owner_at t.owners spot ≡ None
  pub passes : t.passes ≡ replicate c.groups (no_targets c.unit_pages)

-- the book of a drive before its first command
pub record IsFirst (c : DriveConfig) (b : BookSeen) : Type 0 where
  pub config_is : b.config ≡ c
  pub found_is : b.found ≡ (fresh_opening c).found
  pub opened_is : b.opened ≡ (fresh_opening c).cells
  pub entries_are : b.entries ≡ []
  pub spare_is : b.spare ≡ 0
  pub spent_is : b.spent ≡ 0
  pub room_is : b.room ≡ 0
  pub may_not_move : b.may_move ≡ false
  pub unused : AreUnused c b.pages

-- what stands after the history
abbrev pub point_in : BookSeen → Point
point_in b = point_of b.config b.found b.entries

abbrev pub state_in : BookSeen → PlainState
state_in b = (point_in b).state

-- the position of the last entry
abbrev pub position_in : BookSeen → ℕ
position_in b = b.found.totals.position + length b.entries

-- what pages held when the history began
abbrev pub first_in : BookSeen → Spot → Option Written
first_in b = pages_held b.config b.opened

-- what pages hold by the history
abbrev pub written_in : BookSeen → Spot → Option Written
written_in b = written_by b.config b.found (first_in b) b.entries

-- The pages that blocks and going writes point to: where they lie by the history, each has its owner and holds its content
pub record IsLed (b : BookSeen) : Type 0 where
  pub at : Behind Page
  pub led : AreLed b.config (point_in b) (written_in b) at b.pages

-- these entries were added, in the step under way; the pages are told apart
pub record IsLonger (old new : BookSeen) (es : List Entry) : Type 0 where
  pub config_is : new.config ≡ old.config
  pub found_is : new.found ≡ old.found
  pub opened_is : new.opened ≡ old.opened
  pub entries_are : new.entries ≡ old.entries ++ es
  pub spare_is : new.spare ≡ old.spare
  pub spent_is : new.spent ≡ old.spent
  pub room_is : new.room + length es ≡ old.room
