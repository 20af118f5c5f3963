-- Where the next page of a handle may go.
use Rattle.std.specs.Prelude.{◌≡◌, ℕ, ◌<◌, Option, Some, None}
use Rattle.fdp_base.specs.declared.entry.Spot.{Spot}
use Rattle.fdp_book.specs.Book.{BookSeen}
use Rattle.fdp_book.specs.Tickets.{TakesUnit}
use Rattle.fdp_readings.specs.fdp_pages.PageTables.{unit_of}
use Rattle.fdp_readings.specs.fdp_pages.Steps.{MayPut}
use Rattle.fdp_units.specs.DataUnits.{is_free}
use Rattle.fdp_units.specs.UnitTable.{count_in}

-- the first page of the unit that a handle may take, or fewer than three units are free
abbrev pub IsFreeSpot : BookSeen → ℕ → Option Spot → Type 0
IsFreeSpot b rg None = count_in b.pages.units rg is_free < 3
IsFreeSpot b rg (Some spot) = TakesUnit b rg spot.unit × (spot.page ≡ 0)

-- the page that a handle uses next: that of a unit in use which was not used before it, in its unit or one that it may take
pub record IsNextOf (b : BookSeen) (rg ruh : ℕ) (spot : Spot) : Type 0 where
  pub may : MayPut b.pages rg ruh spot
  pub taken : unit_of b.pages rg ruh ≡ None → TakesUnit b rg spot.unit

-- the handle has no unit, and may take none
pub record HasNoPlace (b : BookSeen) (rg ruh : ℕ) : Type 0 where
  pub none : unit_of b.pages rg ruh ≡ None
  pub few : count_in b.pages.units rg is_free < 3

-- where the next page of a handle goes, if it has a place
abbrev pub IsPlaceFor : BookSeen → ℕ → ℕ → Option Spot → Type 0
IsPlaceFor b rg ruh None = HasNoPlace b rg ruh
IsPlaceFor b rg ruh (Some spot) = IsNextOf b rg ruh spot
