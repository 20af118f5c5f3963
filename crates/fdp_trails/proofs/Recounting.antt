-- The live pages and the toil of a group after owners were moved in it.
use Rattle.std.proofs.Common.{◌≡◌, ◌≢◌, ℕ, ◌+◌, ◌*◌, ◌%◌, ◌<◌, ◌≤◌, false, ◌||◌, List, [], ◌∷◌, Option, Some, None, refl, sym, ◌∙◌, ap, subst, arith, mod-lt, ◌⊎◌, ⊎_elim, inl, inr}
use Rattle.std.specs.Prelude.{All, is_some}
use Rattle.std.proofs.lemmas.Bool.{true≢false}
use Rattle.std.proofs.lemmas.List.Elements.{All-head, All-tail}
use Rattle.fdp_base.specs.declared.entry.Copied.{Copied}
use Rattle.fdp_base.specs.declared.entry.Spot.{Spot}
use Rattle.fdp_base.proofs.Sums.{count_from, count_from-same, sum_from, sum_from-one, sum_from-same}
use Rattle.fdp_owners.proofs.Rows.{as_number}
use Rattle.fdp_owners.specs.declared.owner.Owner.{Owner}
use Rattle.fdp_owners.specs.OwnerTable.{OwnerTable, owner_at, with_owner}
use Rattle.fdp_units.specs.declared.state.UnitState.{UnitState}
use Rattle.fdp_units.specs.declared.state.UnitState.TheVariants.{Free, Referenced, Target, Closed, Retired, Aside}
use Rattle.fdp_units.specs.DataUnits.{gain_in, gain_of, is_closed, is_target}
use Rattle.fdp_units.specs.UnitTable.{Cut, IsGroup, IsUnit, UnitTable, live_at, state_at, toil_of, unit_at}
use Rattle.fdp_units.proofs.Tables.{number-of, some-units, unit-there}
use Rattle.fdp_trails.specs.Moves.{AreMovable, owners_moved, with_moved}
use Rattle.fdp_trails.specs.Toil.{AreTallied, IsRelocated, MovesOwners}
use Rattle.fdp_trails.proofs.Hits.{page_of_group, sum_from-both, total}
use Rattle.fdp_trails.proofs.Moving.{cases_owner, moved-none, moved-some, movable-rest, owner-here, owner-there, still-owned}

-- whether a page has an owner, as a number
abbrev owned : Option Owner → ℕ
owned o = as_number (is_some o)

-- a page of a group, by the places of its unit and of itself
record IsPlaced (units pages rg : ℕ) (spot : Spot) : Type 0 where
  i : ℕ
  unit : spot.unit ≡ rg * units + i
  place : i < units
  page : spot.page < pages

-- how many pages of a group have an owner
abbrev owned_in : ℕ → ℕ → ℕ → (Spot → Option Owner) → ℕ
owned_in units pages rg owners = total units pages (λ i k. owned (owners (page_of_group units rg i k)))

-- ---- one page gets another owner, or none

module _ (units pages rg : ℕ) (owners : Spot → Option Owner) (spot : Spot) (value : Option Owner) (h : IsPlaced units pages rg spot) where
  other-page : (i k : ℕ) → (i ≢ h.i) ⊎ (k ≢ spot.page) → with_owner owners spot value (page_of_group units rg i k) ≡ owners (page_of_group units rg i k)
  other-page i k ne =
      owner-there owners spot value (page_of_group units rg i k)
      (λ same. ⊎_elim
      (λ apart. let unit : rg * units + i ≡ spot.unit = ap (λ (s : Spot). s.unit) same in apart (omega (arith, unit, h.unit)))
      (λ apart. apart (ap (λ (s : Spot). s.page) same))
      ne)

  own-page : with_owner owners spot value (page_of_group units rg h.i spot.page) ≡ value
  own-page =
      let same : page_of_group units rg h.i spot.page ≡ spot = λ d. record { unit = sym h.unit d; page = spot.page } in
      ap (with_owner owners spot value) same ∙ owner-here owners spot value

  was-page : owners (page_of_group units rg h.i spot.page) ≡ owners spot
  was-page = ap owners (λ d. record { unit = sym h.unit d; page = spot.page })

  page-changed : owned_in units pages rg (with_owner owners spot value) + owned (owners spot) ≡ owned_in units pages rg owners + owned value
  page-changed =
      let row : sum_from (λ k. owned (with_owner owners spot value (page_of_group units rg h.i k))) 0 pages + owned (owners (page_of_group units rg h.i spot.page)) ≡ sum_from (λ k. owned (owners (page_of_group units rg h.i k))) 0 pages + owned (with_owner owners spot value (page_of_group units rg h.i spot.page)) =
      sum_from-one (λ k. owned (with_owner owners spot value (page_of_group units rg h.i k))) (λ k. owned (owners (page_of_group units rg h.i k))) 0 pages spot.page (omega arith) (omega (arith, h.page)) (λ k ne. ap owned (other-page h.i k (inr ne))) in
      let rows : owned_in units pages rg (with_owner owners spot value) + sum_from (λ k. owned (owners (page_of_group units rg h.i k))) 0 pages ≡ owned_in units pages rg owners + sum_from (λ k. owned (with_owner owners spot value (page_of_group units rg h.i k))) 0 pages =
      sum_from-one (λ i. sum_from (λ k. owned (with_owner owners spot value (page_of_group units rg i k))) 0 pages) (λ i. sum_from (λ k. owned (owners (page_of_group units rg i k))) 0 pages) 0 units h.i (omega arith) (omega (arith, h.place))
      (λ i ne. sum_from-same (λ k. owned (with_owner owners spot value (page_of_group units rg i k))) (λ k. owned (owners (page_of_group units rg i k))) 0 pages (λ k low high. ap owned (other-page i k (inl ne)))) in
      omega (arith, row, rows, ap owned own-page, ap owned was-page)

-- ---- copies are moved

one-moved : (units pages rg : ℕ) (owners : Spot → Option Owner) (x : Copied) → owners x.to ≡ None → x.from ≢ x.to → IsPlaced units pages rg x.from → IsPlaced units pages rg x.to → owned_in units pages rg (with_moved owners x) ≡ owned_in units pages rg owners
one-moved units pages rg owners x free apart from to =
    ⊎_elim
    (λ none. ap (owned_in units pages rg) (moved-none owners x none))
    (λ some.
    let out : owned_in units pages rg (with_owner owners x.from None) + owned (owners x.from) ≡ owned_in units pages rg owners + 0 = page-changed units pages rg owners x.from None from in
    let into : owned_in units pages rg (with_owner (with_owner owners x.from None) x.to (Some some.0)) + owned (with_owner owners x.from None x.to) ≡ owned_in units pages rg (with_owner owners x.from None) + 1 = page-changed units pages rg (with_owner owners x.from None) x.to (Some some.0) to in
    let was : owned (owners x.from) ≡ 1 = ap owned some.1 in
    let now : owned (with_owner owners x.from None x.to) ≡ 0 = ap owned (owner-there owners x.from None x.to (λ same. apart (sym same)) ∙ free) in
    ap (owned_in units pages rg) (moved-some owners x some.0 some.1) ∙ omega (arith, out, into, was, now))
    (cases_owner (owners x.from))

all-moved : (units pages rg : ℕ) (owners : Spot → Option Owner) (copies : List Copied) → AreMovable owners copies → All (λ (x : Copied). IsPlaced units pages rg x.from) copies → All (λ (x : Copied). IsPlaced units pages rg x.to) copies → owned_in units pages rg (owners_moved owners copies) ≡ owned_in units pages rg owners
all-moved units pages rg owners [] m from to = refl
all-moved units pages rg owners (x ∷ xs) m from to =
    all-moved units pages rg (with_moved owners x) xs (movable-rest owners x xs m) (All-tail (λ (z : Copied). IsPlaced units pages rg z.from) x xs from) (All-tail (λ (z : Copied). IsPlaced units pages rg z.to) x xs to)
    ∙ one-moved units pages rg owners x (All-head (λ (z : Copied). owners z.to ≡ None) x xs m.unowned) (All-head (λ (z : Copied). z.from ≢ x.to) x xs (All-head (λ (v : Copied). All (λ (z : Copied). z.from ≢ v.to) (x ∷ xs)) x xs m.fresh))
    (All-head (λ (z : Copied). IsPlaced units pages rg z.from) x xs from)
    (All-head (λ (z : Copied). IsPlaced units pages rg z.to) x xs to)

-- ---- the live pages of a group

relocated-placed : (t : UnitTable) (rg : ℕ) (spot : Spot) → IsRelocated t rg spot → IsPlaced t.group_units t.unit_pages rg spot
relocated-placed t rg spot h = record {
  i = spot.unit % t.group_units;
  unit = number-of t rg spot.unit h.group;
  place = mod-lt spot.unit (some-units t spot.unit h.is_unit);
  page = h.page;
}

-- the live pages of a group are its pages that have an owner
live-owned : (t : UnitTable) (o : OwnerTable) (rg : ℕ) → IsGroup t rg → AreTallied t o → live_at t rg ≡ owned_in t.group_units t.unit_pages rg (owner_at o)
live-owned t o rg group h =
    sum_from-same (λ i. (unit_at t (rg * t.group_units + i)).live) (λ i. sum_from (λ k. owned (owner_at o (page_of_group t.group_units rg i k))) 0 t.unit_pages) 0 t.group_units
    (λ i low high. h.counted (rg * t.group_units + i) (unit-there t rg i group (omega (arith, high))) ∙ ap (λ (n : ℕ). sum_from (λ k. owned (owner_at o (page_of_group t.group_units rg i k))) 0 n) h.pages)

module _ (old new : UnitTable) (o now : OwnerTable) (rg : ℕ) (copies : List Copied) (group : IsGroup old rg) (h : MovesOwners old new o now rg copies) where
  units-same : new.group_units ≡ old.group_units
  units-same = ap (λ (c : Cut). c.group_units) h.cut

  pages-same : new.unit_pages ≡ old.unit_pages
  pages-same = ap (λ (c : Cut). c.unit_pages) h.cut

  unit-new : (unit : ℕ) → IsUnit old unit → IsUnit new unit
  unit-new unit there = subst (λ (c : Cut). unit < c.groups * c.group_units) (sym h.cut) there

  live-new : (unit : ℕ) → IsUnit old unit → (unit_at new unit).live ≡ count_from (λ k. is_some (owner_at now (record { unit = unit; page = k }))) 0 old.unit_pages
  live-new unit there = h.recounted.counted unit (unit-new unit there) ∙ ap (λ (n : ℕ). count_from (λ k. is_some (owner_at now (record { unit = unit; page = k }))) 0 n) (h.recounted.pages ∙ pages-same)

  live-old : (unit : ℕ) → IsUnit old unit → (unit_at old unit).live ≡ count_from (λ k. is_some (owner_at o (record { unit = unit; page = k }))) 0 old.unit_pages
  live-old unit there = h.tallied.counted unit there ∙ ap (λ (n : ℕ). count_from (λ k. is_some (owner_at o (record { unit = unit; page = k }))) 0 n) h.tallied.pages

  -- as many pages of the group are live as before
  lives : sum_from (λ i. (unit_at new (rg * old.group_units + i)).live) 0 old.group_units ≡ live_at old rg
  lives =
      sum_from-same (λ i. (unit_at new (rg * old.group_units + i)).live) (λ i. sum_from (λ k. owned (owner_at now (page_of_group old.group_units rg i k))) 0 old.unit_pages) 0 old.group_units (λ i low high. live-new (rg * old.group_units + i) (unit-there old rg i group (omega (arith, high))))
      ∙ ap (owned_in old.group_units old.unit_pages rg) h.owners
      ∙ all-moved old.group_units old.unit_pages rg (owner_at o) copies h.movable (λ k d low. relocated-placed old rg _ (h.from k d low)) (λ k d low. relocated-placed old rg _ (h.to k d low))
      ∙ sym (live-owned old o rg group h.tallied)

  -- ---- toil

  -- the live pages of a unit that relocation neither takes from nor fills
  live-still : (unit : ℕ) → IsUnit old unit → (is_target (state_at old unit) || is_closed (state_at old unit)) ≡ false → (unit_at new unit).live ≡ (unit_at old unit).live
  live-still unit there other =
      live-new unit there
      ∙ count_from-same (λ k. is_some (owner_at now (record { unit = unit; page = k }))) (λ k. is_some (owner_at o (record { unit = unit; page = k }))) 0 old.unit_pages
      (λ k low high. ap is_some (ap (λ (f : Spot → Option Owner). f (record { unit = unit; page = k })) h.owners
      ∙ still-owned (owner_at o) copies (record { unit = unit; page = k }) (λ j d below. (apart k (h.from j d below), apart k (h.to j d below)))))
      ∙ sym (live-old unit there) where
        apart : (k : ℕ) {spot : Spot} → IsRelocated old rg spot → record { unit = unit; page = k } ≢ spot
        apart k lies same = true≢false (sym (ap (λ (s : Spot). is_target (state_at old s.unit) || is_closed (state_at old s.unit)) same ∙ lies.stands) ∙ other)

  unit-gains : (unit : ℕ) → IsUnit old unit → gain_of old.unit_pages (unit_at new unit) + (unit_at new unit).live ≡ gain_of old.unit_pages (unit_at old unit) + (unit_at old unit).live
  unit-gains unit there =
      let was = h.tallied.sound unit there in
      let is = h.recounted.sound unit (unit-new unit there) in
      ap (λ (s : UnitState). gain_in old.unit_pages s (unit_at new unit).next (unit_at new unit).live + (unit_at new unit).live) (h.state unit there)
      ∙ ap (λ (n : ℕ). gain_in old.unit_pages (state_at old unit) n (unit_at new unit).live + (unit_at new unit).live) (h.next unit there)
      ∙ both (state_at old unit) (unit_at old unit).next (unit_at old unit).live (unit_at new unit).live was.live (omega (arith, is.live, h.next unit there)) was.next (live-still unit there) where
        both : (s : UnitState) (next live more : ℕ) → live ≤ next → more ≤ next → next ≤ old.unit_pages → ((is_target s || is_closed s) ≡ false → more ≡ live) → gain_in old.unit_pages s next more + more ≡ gain_in old.unit_pages s next live + live
        both Free next live more low high within still = omega (arith, still refl)
        both Referenced next live more low high within still = omega (arith, still refl)
        both Target next live more low high within still = omega (arith, low, high)
        both Closed next live more low high within still = omega (arith, low, high, within)
        both Retired next live more low high within still = omega (arith, still refl)
        both Aside next live more low high within still = omega (arith, still refl)

  toil-kept : toil_of new rg ≡ toil_of old rg
  toil-kept =
      let by_old : toil_of new rg ≡ sum_from (λ i. gain_of old.unit_pages (unit_at new (rg * old.group_units + i))) 0 old.group_units =
      ap (λ (n : ℕ). sum_from (λ i. gain_of new.unit_pages (unit_at new (rg * n + i))) 0 n) units-same ∙ ap (λ (n : ℕ). sum_from (λ i. gain_of n (unit_at new (rg * old.group_units + i))) 0 old.group_units) pages-same in
      let each : sum_from (λ i. gain_of old.unit_pages (unit_at new (rg * old.group_units + i)) + (unit_at new (rg * old.group_units + i)).live) 0 old.group_units ≡ sum_from (λ i. gain_of old.unit_pages (unit_at old (rg * old.group_units + i)) + (unit_at old (rg * old.group_units + i)).live) 0 old.group_units =
      sum_from-same (λ i. gain_of old.unit_pages (unit_at new (rg * old.group_units + i)) + (unit_at new (rg * old.group_units + i)).live) (λ i. gain_of old.unit_pages (unit_at old (rg * old.group_units + i)) + (unit_at old (rg * old.group_units + i)).live) 0 old.group_units
      (λ i low high. unit-gains (rg * old.group_units + i) (unit-there old rg i group (omega (arith, high)))) in
      let cut_new = sum_from-both (λ i. gain_of old.unit_pages (unit_at new (rg * old.group_units + i))) (λ i. (unit_at new (rg * old.group_units + i)).live) 0 old.group_units in
      let cut_old = sum_from-both (λ i. gain_of old.unit_pages (unit_at old (rg * old.group_units + i))) (λ i. (unit_at old (rg * old.group_units + i)).live) 0 old.group_units in
      omega (arith, by_old, each, cut_new, cut_old, lives)

pub moves-keep : (old new : UnitTable) (o now : OwnerTable) (rg : ℕ) (copies : List Copied) → IsGroup old rg → MovesOwners old new o now rg copies → toil_of new rg ≡ toil_of old rg
moves-keep old new o now rg copies group h = toil-kept old new o now rg copies group h
