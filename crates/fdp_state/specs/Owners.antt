-- The way back from pages to blocks.
use Rattle.std.specs.Prelude.{◌≡◌, ◌≢◌, ℕ, ◌==◌, ◌&&◌, ◌||◌, Bool, List, [], ◌∷◌, ◌++◌, Option, Some, None, if◌then◌else◌, fold, map, nat_lt, slice_get}
use Rattle.fdp_base.specs.declared.command.Range.{Range}
use Rattle.fdp_base.specs.declared.entry.BlockName.{BlockName}
use Rattle.fdp_base.specs.Numbers.{is_among}
use Rattle.fdp_rules.specs.Effect.{is_in_ranges}
use Rattle.fdp_image.specs.Reading.{Reading, blocks_on}
use Rattle.fdp_outline.specs.declared.moved_block.MovedBlock.{MovedBlock}
use Rattle.fdp_state.specs.declared.owners.Owner.{Owner}
use Rattle.fdp_state.specs.declared.owners.Owner.TheVariants as owned

-- the page of each block, by identifier and address
abbrev pub Pages : Type 0
Pages = ℕ → ℕ → Option ℕ

-- the same with another page, or none, for one block
abbrev pub with_page : Pages → BlockName → Option ℕ → Pages
with_page pages b page nsid lba = if nsid == b.nsid && lba == b.lba then page else pages nsid lba

-- a block stands on a page, and no other does
pub record StandsAlone (pages : Pages) (page : ℕ) (b : BlockName) : Type 0 where
  pub there : pages b.nsid b.lba ≡ Some page
  pub alone : (nsid lba : ℕ) → pages nsid lba ≡ Some page → (nsid ≡ b.nsid) × (lba ≡ b.lba)

-- what is known of a page: no block stands on it, or this one alone, or nothing
abbrev pub IsOwner : Pages → ℕ → Owner → Type 0
IsOwner pages page owned.Free = (nsid lba : ℕ) → pages nsid lba ≢ Some page
IsOwner pages page (owned.Held b) = StandsAlone pages page b
IsOwner pages page owned.Shared = Unit {0}

-- the same of each page of a table
pub record AreOwners (pages : Pages) (owners : List Owner) : Type 0 where
  pub each : (page : ℕ) (x : Owner) → slice_get owners page ≡ Some x → IsOwner pages page x

-- what is known of a page once a block more stands on it
abbrev pub claimed : Owner → BlockName → Owner
claimed owned.Free b = owned.Held b
claimed (owned.Held other) b = owned.Shared
claimed owned.Shared b = owned.Shared

-- what is known of it once a block has left it
abbrev pub released : Owner → Owner
released owned.Free = owned.Free
released (owned.Held b) = owned.Free
released owned.Shared = owned.Shared

-- the same with values for so many addresses of a namespace, from the first on
abbrev pub with_row : (ℕ → Option ℕ) → Pages → ℕ → ℕ → ℕ → Pages
with_row value pages nsid first count n lba = if n == nsid && is_among first count lba then value lba else pages n lba

-- the same with no page at the addresses of some ranges of a namespace
abbrev pub without_ranges : Pages → ℕ → List Range → Pages
without_ranges pages nsid ranges n lba = if n == nsid && is_in_ranges ranges lba then None else pages n lba

-- the same with new pages for some blocks, one after another
abbrev pub with_pages : Pages → List (BlockName × ℕ) → Pages
with_pages pages moved = fold (λ (p : Pages) (x : BlockName × ℕ). with_page p x.0 (Some x.1)) pages moved

-- a block comes before another, by identifier and address
abbrev pub is_before : ℕ → ℕ → ℕ → ℕ → Bool
is_before n l nsid lba = nat_lt n nsid || (n == nsid && nat_lt l lba)

-- the pages of the blocks before one
abbrev pub pages_before : Pages → ℕ → ℕ → Pages
pages_before pages nsid lba n l = if is_before n l nsid lba then pages n l else None

-- each block of the moved pages with its new page; those of the first come last
unfoldable pub moved_blocks : Reading → List (ℕ × ℕ) → List (BlockName × ℕ)
moved_blocks r [] = []
moved_blocks r (x ∷ xs) = moved_blocks r xs ++ map (λ (b : BlockName). (b, x.1)) (blocks_on r x.0)

-- blocks with the handle that they were placed by
abbrev pub with_handle : ℕ → List BlockName → List MovedBlock
with_handle ruh blocks = map (λ (b : BlockName). record { name = b; ruh = ruh }) blocks
