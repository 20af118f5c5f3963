-- The book of a drive whose image was opened.
use Rattle.std.specs.Prelude.{◌≡◌, ℕ, false, List, [], ◌∷◌}
use Rattle.fdp_base.specs.declared.config.DriveConfig.{DriveConfig}
use Rattle.fdp_base.specs.declared.entry.Entry.TheVariants as entries
use Rattle.fdp_base.specs.Placement.{geometry_of}
use Rattle.fdp_book.specs.Book.{BookSeen}
use Rattle.fdp_flash.specs.declared.cell.Cell.{Cell}
use Rattle.fdp_flash.specs.FlashState.{FlashState}
use Rattle.fdp_found.specs.Finding.{found_in}
use Rattle.fdp_found.specs.Opened.{AreOpened}
use Rattle.fdp_found.specs.Told.{opened_cells}
use Rattle.fdp_image.specs.Checkpoint.{reading_of_state}
use Rattle.fdp_image.specs.Reading.{Reading}
use Rattle.fdp_found.specs.fdp_opening.Found.{AreFound}
use Rattle.fdp_origin.specs.Opening.{Opening}
use Rattle.fdp_owners.specs.OwnerTable.{owner_at}
use Rattle.fdp_readings.specs.fdp_pages.PageTables.{PageTables}
use Rattle.fdp_found.specs.fdp_recovery.Opened.{CanGoOn}
use Rattle.fdp_snapshot.specs.declared.state.State.{State}

-- a flash is cut as this configuration asks; a drive can go on from this state, and these tables of its pages were found there
pub record WasFound (c : DriveConfig) (x : FlashState) (s : State) (t : PageTables) : Type 0 where
  pub cut : x.geometry ≡ geometry_of c
  pub area : ℕ
  pub epoch : ℕ
  pub goes_on : CanGoOn c s area epoch
  pub pages : AreFound c (reading_of_state s) x t

-- the cells that its opening goes by
abbrev pub cells_found : DriveConfig → FlashState → PageTables → List Cell
cells_found c x t = opened_cells x.told c x.cells (owner_at t.owners)

-- what the run begins with: what is found in them, by the state
abbrev pub opening_found : DriveConfig → FlashState → State → PageTables → Opening
opening_found c x s t = record { found = found_in c (cells_found c x t) (reading_of_state s); cells = cells_found c x t }

-- the book of a run that began with what was found in these cells, which say this, with the tables that an opening makes over them: its one
-- entry tells of the opening, and no step has room or was made
pub record IsReopened (c : DriveConfig) (cells : List Cell) (r : Reading) (b : BookSeen) : Type 0 where
  pub config_is : b.config ≡ c
  pub found_is : b.found ≡ found_in c cells r
  pub opened_is : b.opened ≡ cells
  pub entries_are : b.entries ≡ entries.Reopened ∷ []
  pub spare_is : b.spare ≡ 0
  pub spent_is : b.spent ≡ 0
  pub room_is : b.room ≡ 0
  pub may_not_move : b.may_move ≡ false
  pub pages_are : AreOpened c cells r b.pages
