-- The unit of a group that the least key of its list chooses.
use Rattle.std.proofs.Common.{◌≡◌, ℕ, ◌+◌, ◌*◌, ◌%◌, ◌<◌, ◌≤◌, Bool, true, false, List, Option, Some, None, refl, ap, sym, ◌∙◌, arith, length, map, get_or, subst, ⊎_elim}
use Rattle.std.specs.Prelude.{IfSome, MatchOption, ◌&&◌, if◌then◌else◌, nat_lt, option_map}
use Rattle.std.proofs.Math.ListN.{get_or-map}
use Rattle.std.proofs.lemmas.Bool.{cases_lt, lt-ltb, ltb-true}
use Rattle.std.proofs.lemmas.List.{length-map}
use Rattle.fdp_least.specs.Keys.{IsLeast, key_at}
use Rattle.fdp_least.proofs.Elements.{least_within}
use Rattle.fdp_units.specs.declared.data_unit.DataUnit.{DataUnit}
use Rattle.fdp_units.specs.DataUnits.{free_key, is_closed, is_free, no_unit, victim_key}
use Rattle.fdp_units.specs.GroupTable.{GroupTable}
use Rattle.fdp_units.specs.UnitTable.{HasNoFree, HasNoVictim, IsCandidate, IsFreeUnit, IsGroup, IsLowestFree, IsUnit, IsVictim, UnitTable, group_at, group_in, unit_at}
use Rattle.fdp_units.proofs.Tables.{IsCut, group-of-place, group-read, number-of, unit-in-group, unit-of-place, unit-there}

-- a unit of a group has the least key, and no unit of a lower number has the same
pub record IsChosen (key_of : DataUnit → Option ℕ) (t : UnitTable) (rg unit : ℕ) : Type 0 where
  pub is_unit : IsUnit t unit
  pub group : group_in t unit ≡ rg
  pub key : ℕ
  pub has : key_of (unit_at t unit) ≡ Some key
  pub fewest : (other more : ℕ) → group_in t other ≡ rg → key_of (unit_at t other) ≡ Some more → key ≤ more
  pub lowest : (other : ℕ) → group_in t other ≡ rg → key_of (unit_at t other) ≡ Some key → unit ≤ other

module _ (key_of : DataUnit → Option ℕ) (none : key_of no_unit ≡ None) (t : UnitTable) (rg : ℕ) (cut : IsCut t) (there : IsGroup t rg) where
  abbrev keys : List (Option ℕ)
  keys = map key_of (group_at t rg).units

  key-of-unit : (unit : ℕ) → group_in t unit ≡ rg → key_at keys (unit % t.group_units) ≡ key_of (unit_at t unit)
  key-of-unit unit is =
      ap (get_or keys (unit % t.group_units)) (sym none) ∙ get_or-map key_of (group_at t rg).units (unit % t.group_units) no_unit ∙ ap key_of (sym (unit-in-group t rg unit is))

  key-of-place : (i : ℕ) → i < t.group_units → key_at keys i ≡ key_of (unit_at t (rg * t.group_units + i))
  key-of-place i low =
      ap (get_or keys i) (sym none) ∙ get_or-map key_of (group_at t rg).units i no_unit ∙ ap key_of (sym (unit-of-place t rg i low))

  pub place-within : (i : ℕ) → IsLeast keys i → i < t.group_units
  place-within i h = let size : length keys ≡ t.group_units = length-map (group_at t rg).units key_of ∙ cut.units rg there in omega (arith, least_within keys i h, size)

  -- no place has a key: no unit of the group has one
  pub none-chosen : ((i : ℕ) → key_at keys i ≡ None) → (unit : ℕ) → group_in t unit ≡ rg → key_of (unit_at t unit) ≡ None
  none-chosen all unit is = sym (key-of-unit unit is) ∙ all (unit % t.group_units)

  pub least-chosen : (i : ℕ) → IsLeast keys i → IsChosen key_of t rg (rg * t.group_units + i)
  least-chosen i h = record {
    is_unit = unit-there t rg i there (place-within i h);
    group = group-of-place t rg i (place-within i h);
    key = h.key;
    has = sym (key-of-place i (place-within i h)) ∙ h.is_there;
    fewest = λ other more is e. h.no_smaller (other % t.group_units) more (key-of-unit other is ∙ e);
    lowest = λ other is e.
        ⊎_elim
        (λ (before : other % t.group_units < i). absurd (h.is_first (other % t.group_units) before (key-of-unit other is ∙ e)))
        (λ (behind : i ≤ other % t.group_units). let at = number-of t rg other is in omega (arith, at, behind))
        (cases_lt (other % t.group_units) i);
  }

never : {n : ℕ} → None ≡ Some n → ⊥
never e = cc

-- what the least of the keys of a group tells
abbrev pub TellsLeast : List (Option ℕ) → Option ℕ → Type 0
TellsLeast keys o = MatchOption o ((i : ℕ) → key_at keys i ≡ None) (λ i. IsLeast keys i)

-- ---- the victim

key-closed : (pages : ℕ) (x : DataUnit) (closed : Bool) (low : Bool) (key : ℕ) → (if closed && low then Some x.live else None) ≡ Some key → (closed ≡ true) × (low ≡ true) × (x.live ≡ key)
key-closed pages x true true key e = (refl, refl, cc)
key-closed pages x true false key e = absurd cc
key-closed pages x false low key e = absurd cc

victim-has-key : (t : UnitTable) (rg unit : ℕ) → IsCandidate t rg unit → victim_key t.unit_pages (unit_at t unit) ≡ Some (unit_at t unit).live
victim-has-key t rg unit h = rw (h.closed, lt-ltb (unit_at t unit).live t.unit_pages h.gains) refl

victim-chosen : (t : UnitTable) (rg unit : ℕ) → IsChosen (victim_key t.unit_pages) t rg unit → IsVictim t rg unit
victim-chosen t rg unit h =
    let is = key-closed t.unit_pages (unit_at t unit) (is_closed (unit_at t unit).state) (nat_lt (unit_at t unit).live t.unit_pages) h.key h.has in
    record {
      candidate = record { is_unit = h.is_unit; group = h.group; closed = is.0; gains = ltb-true (unit_at t unit).live t.unit_pages is.1 };
      fewest = λ other c. let more = h.fewest other (unit_at t other).live c.group (victim-has-key t rg other c) in omega (arith, more, is.2);
      lowest = λ other c same. h.lowest other c.group (victim-has-key t rg other c ∙ ap (λ (n : ℕ). Some n) (same ∙ is.2));
    }

victim-at : (t : UnitTable) (rg : ℕ) (o : Option ℕ) → IsCut t → IsGroup t rg → TellsLeast (map (victim_key t.unit_pages) (group_at t rg).units) o → MatchOption (option_map (λ i. rg * t.group_units + i) o) (HasNoVictim t rg) (λ unit. IsVictim t rg unit)
victim-at t rg None cut there h = λ unit c. never (sym (none-chosen (victim_key t.unit_pages) refl t rg cut there h unit c.group) ∙ victim-has-key t rg unit c)
victim-at t rg (Some i) cut there h = victim-chosen t rg (rg * t.group_units + i) (least-chosen (victim_key t.unit_pages) refl t rg cut there i h)

-- ---- the lowest free unit

key-free : (free : Bool) (key : ℕ) → (if free then Some 0 else None) ≡ Some key → (free ≡ true) × (0 ≡ key)
key-free true key e = (refl, cc)
key-free false key e = absurd cc

free-has-key : (t : UnitTable) (rg unit : ℕ) → IsFreeUnit t rg unit → free_key (unit_at t unit) ≡ Some 0
free-has-key t rg unit h = rw h.free refl

free-chosen : (t : UnitTable) (rg unit : ℕ) → IsChosen free_key t rg unit → IsLowestFree t rg unit
free-chosen t rg unit h =
    let is = key-free (is_free (unit_at t unit).state) h.key h.has in
    record {
      is_free = record { is_unit = h.is_unit; group = h.group; free = is.0 };
      lowest = λ other c. h.lowest other c.group (free-has-key t rg other c ∙ ap (λ (n : ℕ). Some n) is.1);
    }

free-at : (t : UnitTable) (rg : ℕ) (o : Option ℕ) → IsCut t → IsGroup t rg → TellsLeast (map free_key (group_at t rg).units) o → MatchOption (option_map (λ i. rg * t.group_units + i) o) (HasNoFree t rg) (λ unit. IsLowestFree t rg unit)
free-at t rg None cut there h = λ unit c. never (sym (none-chosen free_key refl t rg cut there h unit c.group) ∙ free-has-key t rg unit c)
free-at t rg (Some i) cut there h = free-chosen t rg (rg * t.group_units + i) (least-chosen free_key refl t rg cut there i h)

-- ---- a group that was read

within-at : (key_of : DataUnit → Option ℕ) → key_of no_unit ≡ None → (t : UnitTable) (rg : ℕ) (o : Option ℕ) → IsCut t → IsGroup t rg → TellsLeast (map key_of (group_at t rg).units) o → IfSome o (λ i. i < t.group_units)
within-at key_of none t rg None cut there h = tt
within-at key_of none t rg (Some i) cut there h = place-within key_of none t rg cut there i h

-- the keys of a group that was read
keys-read : (key_of : ℕ → DataUnit → Option ℕ) (t : UnitTable) (rg : ℕ) (g : GroupTable) → IsCut t → IsGroup t rg → g ≡ get_or t.groups rg g → map (key_of g.unit_pages) g.units ≡ map (key_of t.unit_pages) (group_at t rg).units
keys-read key_of t rg g cut there read =
    let is : g ≡ group_at t rg = group-read t rg g there read in
    ap (λ (x : GroupTable). map (key_of x.unit_pages) x.units) is ∙ ap (λ (n : ℕ). map (key_of n) (group_at t rg).units) (cut.pages rg there)

module _ (t k : UnitTable) (rg : ℕ) (g : GroupTable) (same : t ≡ k) (cut : IsCut t) (there : IsGroup k rg) (read : g ≡ get_or t.groups rg g) where
  here : IsGroup t rg
  here = subst (λ (x : UnitTable). IsGroup x rg) (sym same) there

  pub victim-told : (o : Option ℕ) → TellsLeast (map (victim_key g.unit_pages) g.units) o → MatchOption (option_map (λ i. rg * k.group_units + i) o) (HasNoVictim k rg) (λ unit. IsVictim k rg unit)
  victim-told o h =
      subst (λ (x : UnitTable). MatchOption (option_map (λ i. rg * x.group_units + i) o) (HasNoVictim x rg) (λ unit. IsVictim x rg unit)) same
      (victim-at t rg o cut here (subst (λ (keys : List (Option ℕ)). TellsLeast keys o) (keys-read victim_key t rg g cut here read) h))

  pub victim-within : (o : Option ℕ) → TellsLeast (map (victim_key g.unit_pages) g.units) o → IfSome o (λ i. i < k.group_units)
  victim-within o h =
      subst (λ (x : UnitTable). IfSome o (λ i. i < x.group_units)) same
      (within-at (victim_key t.unit_pages) refl t rg o cut here (subst (λ (keys : List (Option ℕ)). TellsLeast keys o) (keys-read victim_key t rg g cut here read) h))

  pub free-told : (o : Option ℕ) → TellsLeast (map free_key g.units) o → MatchOption (option_map (λ i. rg * k.group_units + i) o) (HasNoFree k rg) (λ unit. IsLowestFree k rg unit)
  free-told o h =
      subst (λ (x : UnitTable). MatchOption (option_map (λ i. rg * x.group_units + i) o) (HasNoFree x rg) (λ unit. IsLowestFree x rg unit)) same
      (free-at t rg o cut here (subst (λ (keys : List (Option ℕ)). TellsLeast keys o) (keys-read (λ n. free_key) t rg g cut here read) h))

  pub free-within : (o : Option ℕ) → TellsLeast (map free_key g.units) o → IfSome o (λ i. i < k.group_units)
  free-within o h =
      subst (λ (x : UnitTable). IfSome o (λ i. i < x.group_units)) same
      (within-at free_key refl t rg o cut here (subst (λ (keys : List (Option ℕ)). TellsLeast keys o) (keys-read (λ n. free_key) t rg g cut here read) h))
