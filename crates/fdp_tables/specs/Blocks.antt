-- Blocks of a namespace: how many lie in a reclaim group, and which are at the pages of a write.
use Rattle.std.specs.Prelude.{ℕ, ◌≡◌, ◌<◌, Bool, false, true, ◌==◌, List, Option, Some, IsTrue, count_by, get_or, slice_get, if◌then◌else◌}
use Rattle.std.specs.Option.{option_flatten, option_map_or}
use Rattle.fdp_tables.specs.declared.blocks.PageRow.{PageRow}
use Rattle.fdp_tables.specs.declared.state.KeptBlock.{KeptBlock}
use Rattle.fdp_tables.specs.declared.state.KeptPage.{KeptPage}
use Rattle.fdp_tables.specs.declared.state.KeptPage.TheVariants as pages
use Rattle.fdp_tables.specs.Index.{Lists, is_listed}

-- a place has a block of this group
abbrev pub lies_at : ℕ → Option KeptBlock → Bool
lies_at rg place = option_map_or (λ b. b.rg == rg) place false

-- the block on another page
abbrev pub on_page : KeptPage → KeptBlock → KeptBlock
on_page page b = record b { page = page }

-- for each group that a drive may have, how many of the blocks lie there
abbrev pub AreCounted : List ℕ → List (Option KeptBlock) → Type 0
AreCounted counts places = (rg : ℕ) → rg < 16 → get_or counts rg 0 ≡ count_by (lies_at rg) places

-- the write or the unit after which a page is named, and its index there
abbrev pub row_of : KeptPage → PageRow
row_of (pages.Written ticket index) = record { is_found = false; number = ticket }
row_of (pages.Found spot) = record { is_found = true; number = spot.unit }

abbrev pub index_of : KeptPage → ℕ
index_of (pages.Written ticket index) = index
index_of (pages.Found spot) = spot.page

-- a place is listed among those that may have a block at a page
abbrev pub Names : Option (List (List ℕ)) → Option (List (List ℕ)) → KeptPage → ℕ → Type 0
Names written found page place = Lists (if (row_of page).is_found then found else written) (row_of page).number place

-- each place that has a block is listed so
pub record AreNamed (written found : Option (List (List ℕ))) (places : List (Option KeptBlock)) : Type 0 where
  pub each : (place : ℕ) (b : KeptBlock) → option_flatten (slice_get places place) ≡ Some b → Names written found b.page place

-- the places of all blocks at pages of which something holds are listed
abbrev pub ListsPlaces : List (Option KeptBlock) → (KeptPage → Type 0) → List ℕ → Type 0
ListsPlaces places P list = (place : ℕ) (b : KeptBlock) → option_flatten (slice_get places place) ≡ Some b → P b.page → IsTrue (is_listed place list)
