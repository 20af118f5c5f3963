-- What the reclaim unit handles reference, as a table.
use Rattle.std.specs.Prelude.{◌≡◌, ◌≢◌, ℕ, ◌+◌, ◌*◌, ◌-◌, ◌≤◌, ◌<◌, List, Option, Some, None, length, nat_lt, if◌then◌else◌, slice_get, option_map}
use Rattle.std.specs.Option.{ForSome, option_map_or}
use Rattle.fdp_base.specs.declared.config.Class.{Class}
use Rattle.fdp_base.specs.declared.entry.Spot.{Spot}
use Rattle.fdp_rules.specs.PlainState.{Reference}
use Rattle.fdp_handles.specs.declared.reference.HandleReference.{HandleReference}

-- the pages of a unit, the groups, the class of each handle, and sixteen references for each group
pub record HandleTable : Type 0 where
  pub unit_pages : ℕ
  pub groups : ℕ
  pub classes : List Class
  pub rows : List HandleReference

-- what a handle references, in the words of a state
abbrev pub reference_of : HandleReference → Reference
reference_of x = record { unit = x.unit; left = x.left }

-- a handle without a unit; a whole one may be written
abbrev pub blank : ℕ → Reference
blank unit_pages = record { unit = None; left = unit_pages }

-- what a handle references in a group; there are at most sixteen handles
abbrev pub reference_at : HandleTable → ℕ → ℕ → Reference
reference_at t rg ruh =
    if nat_lt ruh 16
    then option_map_or reference_of (slice_get t.rows (16 * rg + ruh)) (blank t.unit_pages)
    else blank t.unit_pages

-- without a unit a whole one may be written; to a unit that is referenced one block at least, and not a whole one
abbrev pub HasRightLeft : ℕ → Reference → Type 0
HasRightLeft unit_pages x = (x.unit ≡ None → x.left ≡ unit_pages) × ForSome x.unit (λ _. (1 ≤ x.left) × (x.left < unit_pages))

-- a handle has no unit, or this one
abbrev pub MayTake : ℕ → Reference → Type 0
MayTake unit x = ForSome x.unit (λ own. own ≡ unit)

-- where the unit of a handle goes on: behind the pages that were written
abbrev pub next_spot : ℕ → Reference → Option Spot
next_spot unit_pages x = option_map (λ unit. record { unit = unit; page = unit_pages - x.left }) x.unit

-- no handle references a unit
abbrev pub IsUnreferencedIn : HandleTable → ℕ → Type 0
IsUnreferencedIn t unit = (rg ruh : ℕ) → (reference_at t rg ruh).unit ≢ Some unit

-- sixteen rows for each group, each with as much left as its unit tells
pub record AreRows (unit_pages groups : ℕ) (rows : List HandleReference) : Type 0 where
  pub count : length rows ≡ 16 * groups
  pub left : (i : ℕ) (x : HandleReference) → slice_get rows i ≡ Some x → HasRightLeft unit_pages (reference_of x)

-- the rows stand, and a list has room for sixteen classes
pub record HasRows (unit_pages groups : ℕ) (rows : List HandleReference) (capacity : ℕ) : Type 0 where
  pub rows_are : AreRows unit_pages groups rows
  pub room : 16 ≤ capacity
