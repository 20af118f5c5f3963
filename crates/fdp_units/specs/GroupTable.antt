-- The units of one group, with what is kept beside them.
use Rattle.std.specs.Prelude.{◌≡◌, ℕ, ◌+◌, ◌*◌, ◌≤◌, Bool, false, List, Option, All, length, map, count_by, sum_by, replicate, if◌then◌else◌}
use Rattle.fdp_units.specs.declared.data_unit.DataUnit.{DataUnit}
use Rattle.fdp_units.specs.declared.tally.Tally.{Tally}
use Rattle.fdp_units.specs.DataUnits.{IsSound, free_key, free_unit, is_free, is_lost, gain_of, victim_key}

-- the units of a group in their order, and whether relocation found none free
pub record GroupTable : Type 0 where
  pub unit_pages : ℕ
  pub units : List DataUnit
  pub is_worn : Bool

-- so many units, each free
abbrev pub free_group : ℕ → ℕ → GroupTable
free_group pages count = record { unit_pages = pages; units = replicate count free_unit; is_worn = false }

-- what one unit adds to the counts of its group
abbrev pub tally_of_unit : ℕ → DataUnit → Tally
tally_of_unit pages x = record { free = if is_free x.state then 1 else 0; lost = if is_lost x.state then 1 else 0; toil = gain_of pages x }

-- the free units, those that are lost, and the toil of a group
abbrev pub tally_of : ℕ → List DataUnit → Tally
tally_of pages units = record {
  free = count_by (λ x. is_free x.state) units;
  lost = count_by (λ x. is_lost x.state) units;
  toil = sum_by (gain_of pages) units;
}

-- the units are sound and not too many; the keys and the counts are theirs
pub record IsKept (pages : ℕ) (units : List DataUnit) (victims free : List (Option ℕ)) (tally : Tally) : Type 0 where
  pub size : length units * pages ≤ 262144
  pub some : 1 ≤ pages
  pub sound : All (IsSound pages) units
  pub by_live : victims ≡ map (victim_key pages) units
  pub by_number : free ≡ map free_key units
  pub counted : tally ≡ tally_of pages units

-- a part is in a whole
pub record IsPart (part whole : Tally) : Type 0 where
  pub free : part.free ≤ whole.free
  pub lost : part.lost ≤ whole.lost
  pub toil : part.toil ≤ whole.toil

-- no count is above a bound
pub record IsBelow (bound : ℕ) (t : Tally) : Type 0 where
  pub free : t.free ≤ bound
  pub lost : t.lost ≤ bound
  pub toil : t.toil ≤ bound

-- a part of a whole is replaced by another
pub record Replaces (whole before now new : Tally) : Type 0 where
  pub free : new.free + before.free ≡ whole.free + now.free
  pub lost : new.lost + before.lost ≡ whole.lost + now.lost
  pub toil : new.toil + before.toil ≡ whole.toil + now.toil
