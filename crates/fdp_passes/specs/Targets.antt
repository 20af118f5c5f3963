-- How a copy gets its page, and what the use of that page makes of its target.
use Rattle.std.specs.Prelude.{◌≡◌, ◌⊎◌, ℕ, ◌<◌, true, IsFalse, Option, Some, None, nat_le, slice_set, if◌then◌else◌}
use Rattle.std.specs.Option.{option_map_or}
use Rattle.fdp_base.specs.declared.entry.Spot.{Spot}
use Rattle.fdp_base.specs.Numbers.{with_at}
use Rattle.fdp_passes.specs.declared.lane.Lane.{Lane}
use Rattle.fdp_passes.specs.GroupPasses.{GroupPasses, Pass, begun, slot_of, target_at, with_unit_taken}
use Rattle.fdp_owners.specs.OwnerTable.{OwnerTable}
use Rattle.fdp_passes.specs.Place.{has_taken}
use Rattle.fdp_passes.specs.Room.{room_in, wanted_in}
use Rattle.fdp_units.specs.declared.state.UnitState.TheVariants.{Target}
use Rattle.fdp_units.specs.DataUnits.{is_closed, turned, used}
use Rattle.fdp_units.specs.UnitTable.{Changes, HasNoFree, IsLowestFree, UnitTable, cut_of, is_worn_at, state_at, unit_at}

-- the pass under way, or one that begins in a unit
abbrev pub pass_in : GroupPasses → ℕ → Pass
pass_in p victim = option_map_or (λ (pass : Pass). pass) p.pass (begun victim)

-- a pass is under way
abbrev pub with_pass : Pass → GroupPasses → GroupPasses
with_pass pass p = record p { pass = Some pass }

-- a lane has this target, or none
abbrev pub with_target : Lane → Option ℕ → GroupPasses → GroupPasses
with_target lane unit p = record p { targets = slice_set p.targets (slot_of lane) unit }

-- a lane has a target
pub record HasTarget (p now : GroupPasses) (t new : UnitTable) (victim : ℕ) (lane : Lane) (unit : ℕ) : Type 0 where
  pub target : target_at p lane ≡ Some unit
  pub passes : now ≡ with_pass (pass_in p victim) p
  pub units : new ≡ t

-- a lane had no target, and the pass took no unit before: the lowest free unit becomes the target
pub record TakesTarget (p now : GroupPasses) (t new : UnitTable) (rg victim : ℕ) (lane : Lane) (unit : ℕ) : Type 0 where
  pub none : target_at p lane ≡ None
  pub first : IsFalse (has_taken p)
  pub free : IsLowestFree t rg unit
  pub passes : now ≡ with_target lane (Some unit) (with_pass (with_unit_taken (pass_in p victim)) p)
  pub taken : Changes t new unit (turned t.unit_pages Target (unit_at t unit))
  pub worn : is_worn_at new ≡ is_worn_at t

-- the copies of a lane get the target that it has, or one that it takes
abbrev pub OpensTarget : GroupPasses → GroupPasses → UnitTable → UnitTable → ℕ → ℕ → Lane → ℕ → Type 0
OpensTarget p now t new rg victim lane unit = HasTarget p now t new victim lane unit ⊎ TakesTarget p now t new rg victim lane unit

-- a copy gets the next page of the target of its lane, which is there
pub record OpensPage (p now : GroupPasses) (t new : UnitTable) (rg victim : ℕ) (lane : Lane) (to : Spot) : Type 0 where
  pub target : OpensTarget p now t new rg victim lane to.unit
  pub stands : target_at now lane ≡ Some to.unit
  pub page : to.page ≡ (unit_at new to.unit).next
  pub within : to.page < new.unit_pages

-- the page of a copy was used; a target that is full is none any more
pub record UsesPage (p now : GroupPasses) (t new : UnitTable) (lane : Lane) (unit : ℕ) : Type 0 where
  pub page : Changes t new unit (used t.unit_pages (unit_at t unit))
  pub worn : is_worn_at new ≡ is_worn_at t
  pub passes : now ≡ (if is_closed (state_at new unit) then with_target lane None p else p)

-- a page can be had for the next copy of a lane, unless neither the lane has a target nor a unit is free
abbrev pub HasPlace : GroupPasses → UnitTable → ℕ → Lane → Type 0
HasPlace p t rg lane = target_at p lane ≡ None → HasNoFree t rg → ⊥

-- no page can be had: the lane has no target, and no unit is free
pub record HasNoPlace (p : GroupPasses) (t : UnitTable) (rg : ℕ) (lane : Lane) : Type 0 where
  pub none : target_at p lane ≡ None
  pub free : HasNoFree t rg

-- no page can be had, since no unit is free: the group is worn, and the pass given up
pub record Starves (p now : GroupPasses) (t new : UnitTable) (rg : ℕ) (lane : Lane) : Type 0 where
  pub none : target_at p lane ≡ None
  pub first : IsFalse (has_taken p)
  pub free : HasNoFree t rg
  pub passes : now ≡ record p { pass = None }
  pub units : unit_at new ≡ unit_at t
  pub cut : cut_of new ≡ cut_of t
  pub worn : is_worn_at new ≡ with_at (is_worn_at t) rg true

-- a pass goes on where the pages that it may still use for a lane suffice, else it is given up
abbrev pub goes_on : GroupPasses → UnitTable → OwnerTable → Lane → GroupPasses
goes_on p t o lane = if nat_le (wanted_in p o) (room_in p t lane) then p else record p { pass = None }
