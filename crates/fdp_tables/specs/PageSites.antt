-- Where the pages of writes stand, in a table with a row for each ticket.
use Rattle.std.specs.Prelude.{◌≡◌, ℕ, zero, suc, ◌+◌, ◌<◌, Bool, ◌==◌, ◌&&◌, not, List, [], ◌∷◌, Option, Some, length, map, option_and_then, option_map, slice_get, slice_index_or}
use Rattle.std.specs.Option.{option_flatten}
use Rattle.fdp_base.specs.declared.entry.Spot.{Spot}
use Rattle.fdp_rules.specs.Sites.{moved_by, outside}
use Rattle.fdp_tables.specs.Copies.{copy_of}
use Rattle.fdp_tables.specs.Index.{Lists}
use Rattle.fdp_tables.specs.declared.site_change.SiteChange.{SiteChange}
use Rattle.fdp_tables.specs.declared.site_change.SiteChange.TheVariants as changes

-- the rows, and how many more take no memory
pub record SiteRows : Type 0 where
  pub rows : List (List (Option Spot))
  pub row_room : ℕ

-- where the page of a write stands
abbrev pub site_in : List (List (Option Spot)) → ℕ → ℕ → Option Spot
site_in rows ticket index = option_and_then (λ pages. option_flatten (slice_get pages index)) (slice_get rows ticket)

-- the rows of which a page stands in a unit are listed under the unit
pub record AreListed (rows : List (List (Option Spot))) (tickets : Option (List (List ℕ))) : Type 0 where
  pub under : (ticket index : ℕ) (spot : Spot) → site_in rows ticket index ≡ Some spot → Lists tickets spot.unit ticket

-- a copy leaves a unit for another
abbrev pub leaves : ℕ → Spot × Spot → Bool
leaves unit x = (x.0.unit == unit) && not (x.1.unit == unit)

-- the row of a ticket is changed, where there is one
abbrev pub changed_in : {X : Type 0} → (X → X) → ℕ → List X → List X
changed_in f i [] = []
changed_in f zero (x ∷ xs) = f x ∷ xs
changed_in f (suc i) (x ∷ xs) = x ∷ changed_in f i xs

-- what becomes of a page that stands somewhere, or nowhere
abbrev pub changed_by : SiteChange → Option Spot → Option Spot
changed_by (changes.Erased unit) page = option_and_then (outside unit) page
changed_by (changes.Moved pass) page = option_map (moved_by (map copy_of pass.now)) page

-- the row of a unit is the last, with a place for each of so many pages; its first pages, and those of the units before, stand
-- where they are
pub record IsLaid (rows : List (List (Option Spot))) (unit pages done : ℕ) : Type 0 where
  pub units_are : length rows ≡ unit + 1
  pub places : length (slice_index_or rows unit []) ≡ pages
  pub stand : (spot : Spot) → spot.unit < unit + 1 → spot.page < pages → (spot.unit ≡ unit → spot.page < done) → site_in rows spot.unit spot.page ≡ Some spot

-- so many units have a row each, and each of their pages stands where it is
pub record AreInPlace (rows : List (List (Option Spot))) (units pages : ℕ) : Type 0 where
  pub units_are : length rows ≡ units
  pub stand : (spot : Spot) → spot.unit < units → spot.page < pages → site_in rows spot.unit spot.page ≡ Some spot
