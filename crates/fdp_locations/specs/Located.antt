-- How what is kept of the pages of data stands for what a history says of them.
use Rattle.std.specs.Prelude.{◌≡◌, ℕ, ◌+◌, ◌<◌, Contains, List, Option, Some, option_map}
use Rattle.fdp_base.specs.declared.command.Write.{Write}
use Rattle.fdp_base.specs.declared.config.DriveConfig.{DriveConfig}
use Rattle.fdp_base.specs.declared.entry.Copied.{Copied}
use Rattle.fdp_base.specs.declared.entry.Spot.{Spot}
use Rattle.fdp_base.specs.CommandKinds.{write_of}
use Rattle.fdp_base.specs.Placement.{classes_of}
use Rattle.fdp_handles.specs.HandleTable.{reference_at}
use Rattle.fdp_locations.specs.Written.{IsWritten, Written}
use Rattle.fdp_owners.specs.Owned.{AreOwners}
use Rattle.fdp_owners.specs.OwnerTable.{owner_at}
use Rattle.fdp_pages.specs.PageTables.{PageTables, copies_at, passes_at}
use Rattle.fdp_pointers.specs.Contents.{content_at}
use Rattle.fdp_pointers.specs.Facts.{Carries, IsTableOf, Page}
use Rattle.fdp_pointers.specs.Pointers.{Behind, Pointer, Pointer.of_block, Pointer.of_flight}
use Rattle.fdp_rules.specs.PlainState.{Block, Going, PlainState}
use Rattle.fdp_rules.specs.Point.{Point}
use Rattle.fdp_rules.specs.Sites.{group_of}
use Rattle.fdp_trails.specs.Followed.{IsPassOf}
use Rattle.fdp_units.specs.UnitTable.{Agrees, UnitTable, cut_of, unit_at}

-- the page of each unit that is used next
abbrev pub next_in : UnitTable → ℕ → ℕ
next_in t unit = (unit_at t unit).next

-- the spare of a page of a going write names the block of the write that it holds
abbrev pub AreNamed : PlainState → Behind Page → Type 0
AreNamed s at = (queue index : ℕ) (g : Going) (w : Write) (y : Page) → s.going queue ≡ Some g → write_of g.command ≡ Some w → at (of_flight queue index) ≡ Some y → (y.spare.nsid ≡ w.nsid) × (y.spare.lba ≡ w.slba + index)

-- the handle by which a page was placed: that of its block, or of its write
abbrev pub handle_at : PlainState → Behind ℕ
handle_at s (of_block nsid lba) = option_map (λ (b : Block). b.ruh) (s.blocks nsid lba)
handle_at s (of_flight queue index) = option_map (λ (g : Going). g.ruh) (s.going queue)

-- the spare of each page that a pointer leads to names the handle by which the page was placed
abbrev pub AreHandled : PlainState → Behind Page → Type 0
AreHandled s at = (p : Pointer) (y : Page) (ruh : ℕ) → at p ≡ Some y → handle_at s p ≡ Some ruh → y.spare.ruh ≡ ruh

-- the spare of each page that a pointer leads to names this generation, and the group of the unit
abbrev pub NameTheirUnits : DriveConfig → ℕ → Behind Page → Type 0
NameTheirUnits c generation at = (p : Pointer) (y : Page) → at p ≡ Some y → (y.spare.generation ≡ generation) × (y.spare.rg ≡ group_of c y.spot.unit)

-- the handles and the units are those of a state
pub record AreUnitsOf (c : DriveConfig) (s : PlainState) (t : PageTables) : Type 0 where
  pub cut : cut_of t.units ≡ record { unit_pages = c.unit_pages; group_units = c.units; groups = c.groups }
  pub agrees : Agrees t.units c s
  pub unit_pages : c.unit_pages ≡ t.handles.unit_pages
  pub groups : c.groups ≡ t.handles.groups
  pub classes : classes_of c s.enabled s.index ≡ t.handles.classes
  pub references : (rg ruh : ℕ) → s.references rg ruh ≡ reference_at t.handles rg ruh

-- a copy holds what its old page holds
pub record IsAlike (written : Spot → Option Written) (copy : Copied) : Type 0 where
  pub page : Written
  pub old : written copy.from ≡ Some page
  pub new : written copy.to ≡ Some page

abbrev pub AreAlike : (Spot → Option Written) → List Copied → Type 0
AreAlike written copies = (copy : Copied) → Contains copies copy → IsAlike written copy

-- Where the pointers lead: to the sites of their pages, each to a page that it owns, that holds its content and that names its handle, the
-- generation in force and the group of its unit; a pass has copied what the history tells.
pub record AreLed (c : DriveConfig) (p : Point) (written : Spot → Option Written) (at : Behind Page) (t : PageTables) : Type 0 where
  pub table : IsTableOf c p (next_in t.units) at
  pub owned : AreOwners (owner_at t.owners) at
  pub named : AreNamed p.state at
  pub handled : AreHandled p.state at
  pub units : NameTheirUnits c p.state.generation at
  pub holds : Carries (IsWritten written) (content_at c p.state) at
  pub below : (spot : Spot) (x : Written) → written spot ≡ Some x → spot.page < next_in t.units spot.unit
  pub passes : (rg : ℕ) → rg < c.groups → IsPassOf at p.trail rg (passes_at t rg)
  pub copies : (rg : ℕ) → rg < c.groups → AreAlike written (copies_at t rg)

-- and they lead to these pages
abbrev pub LeadsTo : (Pointer → Option Spot) → Behind Page → Type 0
LeadsTo lead at = (q : Pointer) → option_map (λ (y : Page). y.spot) (at q) ≡ lead q
