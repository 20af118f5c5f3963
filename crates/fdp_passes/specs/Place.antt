-- Where the next copy of a lane goes.
use Rattle.std.specs.Prelude.{◌≡◌, ℕ, Bool, false, IsTrue, IsFalse, Some, None}
use Rattle.std.specs.Option.{option_map_or}
use Rattle.fdp_passes.specs.declared.lane.Lane.{Lane}
use Rattle.fdp_passes.specs.declared.place.Place.{Place}
use Rattle.fdp_passes.specs.declared.place.Place.TheVariants.{At, Take, Worn, Full}
use Rattle.fdp_passes.specs.GroupPasses.{GroupPasses, Pass, target_at}
use Rattle.fdp_units.specs.UnitTable.{HasNoFree, IsLowestFree, UnitTable, unit_at}

-- the pass under way took a free unit
abbrev pub has_taken : GroupPasses → Bool
has_taken p = option_map_or (λ (pass : Pass). pass.took_unit) p.pass false

-- a copy goes to the next page of the target of its lane. Where there is none, the pass takes the lowest free unit, once; the
-- group is worn where there is none, and the pass has no page left where it took one before
abbrev pub IsPlaceFor : GroupPasses → UnitTable → ℕ → Lane → Place → Type 0
IsPlaceFor p t rg lane (At spot) = (target_at p lane ≡ Some spot.unit) × (spot.page ≡ (unit_at t spot.unit).next)
IsPlaceFor p t rg lane (Take unit) = (target_at p lane ≡ None) × IsFalse (has_taken p) × IsLowestFree t rg unit
IsPlaceFor p t rg lane Worn = (target_at p lane ≡ None) × IsFalse (has_taken p) × HasNoFree t rg
IsPlaceFor p t rg lane Full = (target_at p lane ≡ None) × IsTrue (has_taken p)

-- a free unit as a place, or none
abbrev pub IsFreePlace : UnitTable → ℕ → Place → Type 0
IsFreePlace t rg (At spot) = ⊥
IsFreePlace t rg (Take unit) = IsLowestFree t rg unit
IsFreePlace t rg Worn = HasNoFree t rg
IsFreePlace t rg Full = ⊥
