-- Blocks that are taken away, with their pages.
use Rattle.std.specs.Prelude.{◌≡◌, ℕ, Bool, ◌==◌, ◌&&◌, Option, None, if◌then◌else◌, option_map}
use Rattle.fdp_book.specs.Commanded.{LetsGo}
use Rattle.fdp_map.specs.declared.mapped.Mapped.{Mapped}
use Rattle.fdp_map.specs.MapTable.{MapTable, mapped_at, size_in}
use Rattle.fdp_owners.specs.Owned.{AreOwners}
use Rattle.fdp_owners.specs.OwnerTable.{owner_at}
use Rattle.fdp_readings.specs.fdp_pages.PageTables.{PageTables}
use Rattle.fdp_pointers.specs.Facts.{Page}
use Rattle.fdp_pointers.specs.Pointers.{Behind, Pointer.of_block, is_outside, only, renamed}

-- the pointers of blocks lead where the map says, and each page has the owner that points there
pub record AreMapped (at : Behind Page) (map : MapTable) (t : PageTables) : Type 0 where
  pub owned : AreOwners (owner_at t.owners) at
  pub mapped : (nsid lba : ℕ) → option_map (λ (y : Page). y.spot) (at (of_block nsid lba)) ≡ option_map (λ (m : Mapped). m.spot) (mapped_at map nsid lba)

-- in some way
pub record HasPointers (map : MapTable) (t : PageTables) : Type 0 where
  pub at : Behind Page
  pub are : AreMapped at map t

-- the places of blocks without those of a namespace whose addresses pass a test
abbrev pub without_mapped : (ℕ → ℕ → Option Mapped) → ℕ → (ℕ → Bool) → ℕ → ℕ → Option Mapped
without_mapped table nsid test n lba = if n == nsid && test lba then None else table n lba

-- The blocks of a namespace whose addresses pass a test are gone, and so are the owners of their pages. All else of the map stays, and of the
-- pages
pub record Clears (nsid : ℕ) (test : ℕ → Bool) (map new : MapTable) (t now : PageTables) : Type 0 where
  pub blocks : mapped_at new ≡ without_mapped (mapped_at map) nsid test
  pub sizes : size_in new ≡ size_in map
  pub geometry : new.geometry ≡ map.geometry
  pub owners : (at : Behind Page) → AreMapped at map t → AreOwners (owner_at now.owners) (renamed (only (is_outside nsid test)) at)
  pub pages : LetsGo t now
