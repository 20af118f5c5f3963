-- What a data unit is to its group, and how it changes.
use Rattle.std.specs.Prelude.{◌≡◌, ℕ, ◌+◌, ◌-◌, ◌≤◌, ◌<◌, Bool, true, false, not, IsTrue, ◌&&◌, ◌||◌, ◌==◌, nat_lt, Option, Some, None, if◌then◌else◌}
use Rattle.fdp_units.specs.declared.data_unit.DataUnit.{DataUnit}
use Rattle.fdp_units.specs.declared.state.UnitState.{UnitState}
use Rattle.fdp_units.specs.declared.state.UnitState.TheVariants.{Free, Referenced, Target, Closed, Retired, Aside}

-- blank from its first page on
abbrev pub is_free : UnitState → Bool
is_free Free = true
is_free Referenced = false
is_free Target = false
is_free Closed = false
is_free Retired = false
is_free Aside = false

-- a handle fills it
abbrev pub is_referenced : UnitState → Bool
is_referenced Free = false
is_referenced Referenced = true
is_referenced Target = false
is_referenced Closed = false
is_referenced Retired = false
is_referenced Aside = false

-- relocation fills it with copies
abbrev pub is_target : UnitState → Bool
is_target Free = false
is_target Referenced = false
is_target Target = true
is_target Closed = false
is_target Retired = false
is_target Aside = false

-- it gets pages
abbrev pub is_open : UnitState → Bool
is_open state = is_referenced state || is_target state

-- it gets no page more before it is erased
abbrev pub is_closed : UnitState → Bool
is_closed Free = false
is_closed Referenced = false
is_closed Target = false
is_closed Closed = true
is_closed Retired = false
is_closed Aside = false

-- it is out of use until the next opening
abbrev pub is_lost : UnitState → Bool
is_lost Free = false
is_lost Referenced = false
is_lost Target = false
is_lost Closed = false
is_lost Retired = true
is_lost Aside = true

-- a free unit is taken by a handle or by relocation, or found used at an opening; an open one is closed; a closed one is erased,
-- or lost; a lost one stays so
abbrev pub may_become : UnitState → UnitState → Bool
may_become Free to = is_open to || is_closed to
may_become Referenced to = is_closed to
may_become Target to = is_closed to
may_become Closed to = is_free to || is_lost to
may_become Retired to = false
may_become Aside to = false

-- a unit is erased, or that fails
abbrev pub is_end_of_erase : UnitState → Bool
is_end_of_erase Free = true
is_end_of_erase Referenced = false
is_end_of_erase Target = false
is_end_of_erase Closed = false
is_end_of_erase Retired = true
is_end_of_erase Aside = false

-- none of its pages was used
abbrev pub free_unit : DataUnit
free_unit = record { state = Free; next = 0; live = 0 }

-- a number of no unit reads as a retired one
abbrev pub no_unit : DataUnit
no_unit = record { state = Retired; next = 0; live = 0 }

-- pages are used in order, and a live one was used; a free unit has no page that was used; a free or open one has a page left
pub record IsSound (pages : ℕ) (x : DataUnit) : Type 0 where
  pub some : 1 ≤ pages
  pub next : x.next ≤ pages
  pub live : x.live ≤ x.next
  pub free : IsTrue (is_free x.state) → x.next ≡ 0
  pub room : IsTrue (is_free x.state || is_open x.state) → x.next < pages

-- a unit may come into a state: the table has it, and no erase is tried while a page is live
abbrev pub may_turn : UnitState → DataUnit → Bool
may_turn to x = may_become x.state to && (x.live == 0 || not (is_end_of_erase to))

-- the next page of a unit that comes into a state: the first after an erase; none where an opening found it used
abbrev pub next_after : ℕ → UnitState → DataUnit → ℕ
next_after pages to x = if is_free to then 0 else if is_free x.state && is_closed to then pages else x.next

-- a unit comes into a state
abbrev pub turned : ℕ → UnitState → DataUnit → DataUnit
turned pages to x = record x { state = to; next = next_after pages to x }

-- the next page of a unit was used; after its last one it is closed
abbrev pub used : ℕ → DataUnit → DataUnit
used pages x = record x { state = if nat_lt (x.next + 1) pages then x.state else Closed; next = x.next + 1 }

-- one page more of a unit is live, or one less
abbrev pub raised : DataUnit → DataUnit
raised x = record x { live = x.live + 1 }

abbrev pub lowered : DataUnit → DataUnit
lowered x = record x { live = x.live - 1 }

-- the pages of a closed unit that are not live, and those of a target that were used and are not
abbrev pub gain_in : ℕ → UnitState → ℕ → ℕ → ℕ
gain_in pages Free next live = 0
gain_in pages Referenced next live = 0
gain_in pages Target next live = next - live
gain_in pages Closed next live = pages - live
gain_in pages Retired next live = 0
gain_in pages Aside next live = 0

abbrev pub gain_of : ℕ → DataUnit → ℕ
gain_of pages x = gain_in pages x.state x.next x.live

-- the live pages of a closed unit with a page that is not live
abbrev pub victim_key : ℕ → DataUnit → Option ℕ
victim_key pages x = if is_closed x.state && nat_lt x.live pages then Some x.live else None

-- a free unit
abbrev pub free_key : DataUnit → Option ℕ
free_key x = if is_free x.state then Some 0 else None
