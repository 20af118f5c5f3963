-- How the pages of a drive keep its data apart: what each step keeps of the cells, beside the tables of the pages.
use Rattle.std.specs.Prelude.{◌≡◌, ◌⊎◌, ℕ, ◌^◌, ◌≤◌, ◌<◌, IsTrue, List, Some, slice_index_or}
use Rattle.std.specs.List.{list_any}
use Rattle.fdp_base.specs.declared.config.Class.{Class}
use Rattle.fdp_base.specs.declared.config.Class.TheVariants.{Initial}
use Rattle.fdp_base.specs.declared.config.DriveConfig.{DriveConfig}
use Rattle.fdp_base.specs.declared.entry.Entry.{Entry}
use Rattle.fdp_base.specs.declared.entry.Spot.{Spot}
use Rattle.fdp_base.specs.declared.spare.DataSpare.{DataSpare}
use Rattle.fdp_base.specs.Config.{IsValidConfig}
use Rattle.fdp_base.specs.Placement.{geometry_of}
use Rattle.fdp_base.specs.EntryKinds.{puts_into}
use Rattle.fdp_book.specs.Book.{BookSeen, IsLed, point_in, state_in, written_in}
use Rattle.fdp_flash.specs.declared.cell.Cell.{Cell}
use Rattle.fdp_history.specs.Orderly.{IsOrderly}
use Rattle.fdp_image.specs.Isolation.{EachPage, IsOfOneGroup}
use Rattle.fdp_isolation.specs.Isolated.{since_setting}
use Rattle.fdp_book.specs.fdp_locations.Located.{AreUnitsOf}
use Rattle.fdp_book.specs.fdp_locations.Stored.{HoldsWritten}
use Rattle.fdp_owners.specs.declared.owner.Owner.{Owner}
use Rattle.fdp_owners.specs.OwnerTable.{owner_at}
use Rattle.fdp_book.specs.fdp_pages.Joined.{AreJoined}
use Rattle.fdp_book.specs.fdp_pages.PageTables.{PageTables, passes_at, unit_of}
use Rattle.fdp_passes.specs.declared.lane.Lane.{Lane}
use Rattle.fdp_passes.specs.GroupPasses.{lane_of, target_at}
use Rattle.fdp_pointers.specs.Facts.{HasOnlyPlaced}
use Rattle.fdp_rules.specs.Step.{IsDataUnit}

-- ---- what is known of a book beside its cells

-- a book in order, its tables joined and led to; the generation has the width of its field
pub record IsKnown (b : BookSeen) : Type 0 where
  pub config : IsValidConfig b.config
  pub orderly : IsOrderly b.config (point_in b)
  pub units : AreUnitsOf b.config (state_in b) b.pages
  pub joined : AreJoined b.pages
  pub led : IsLed b
  pub generation : (state_in b).generation < 2 ^ 32

-- and cells that hold what was written
pub record StandsOver (b : BookSeen) (cells : List Cell) : Type 0 where
  pub known : IsKnown b
  pub holds : HoldsWritten (geometry_of b.config) cells (written_in b) b.pages.units

-- ---- lanes

-- the way of the data that a spare names: that of its handle
abbrev pub lane_by : List Class → DataSpare → Lane
lane_by classes x = lane_of (slice_index_or classes x.ruh Initial) x.ruh

-- the whole pages of a unit go one way
abbrev pub GoOneWay : DriveConfig → List Class → List Cell → ℕ → Type 0
GoOneWay c classes cells unit = (lane : Lane) × EachPage c cells unit (λ x. lane_by classes x ≡ lane)

-- a unit holds data of the drive: a page of it has an owner, or an entry of the run put one there
abbrev pub IsTaken : PageTables → List Entry → ℕ → Type 0
IsTaken t run unit = ((spot : Spot) × (x : Owner) × (owner_at t.owners spot ≡ Some x) × (spot.unit ≡ unit)) ⊎ IsTrue (list_any (puts_into unit) run)

-- the whole pages of a unit name its group, and all one generation; where it is taken, that is the one in force or an earlier one, and where
-- it is that in force they go one way
pub record IsKeptApart (c : DriveConfig) (generation : ℕ) (classes : List Class) (cells : List Cell) (unit : ℕ) (taken : Type 0) : Type 0 where
  pub group : IsOfOneGroup c cells unit
  pub past : taken → group.generation ≤ generation
  pub way : taken → group.generation ≡ generation → GoOneWay c classes cells unit

-- What is kept apart, where this generation is in force, by the entries of the run, and those since it came in force: each data unit is kept
-- apart; the whole pages of one that a handle fills name the handle, those of a target go the way of its lane, and both name the generation
-- in force; so do those of a unit into which an entry since put a page.
pub record IsLaned (c : DriveConfig) (generation : ℕ) (run es : List Entry) (t : PageTables) (cells : List Cell) : Type 0 where
  pub units : (unit : ℕ) → IsDataUnit c unit → IsKeptApart c generation t.handles.classes cells unit (IsTaken t run unit)
  pub filled : (rg ruh unit : ℕ) → IsDataUnit c unit → unit_of t rg ruh ≡ Some unit → EachPage c cells unit (λ x. (x.generation ≡ generation) × (x.ruh ≡ ruh))
  pub targets : (rg unit : ℕ) (lane : Lane) → IsDataUnit c unit → target_at (passes_at t rg) lane ≡ Some unit → EachPage c cells unit (λ x. (x.generation ≡ generation) × (lane_by t.handles.classes x ≡ lane))
  pub put : (unit : ℕ) → IsDataUnit c unit → IsTrue (list_any (puts_into unit) es) → EachPage c cells unit (λ x. x.generation ≡ generation)

-- a book and its cells; each page of a going write that stands somewhere was placed
pub record AreLaned (b : BookSeen) (cells : List Cell) : Type 0 where
  pub laned : IsLaned b.config (state_in b).generation b.entries (since_setting b.entries) b.pages cells
  pub placed : HasOnlyPlaced (point_in b)
