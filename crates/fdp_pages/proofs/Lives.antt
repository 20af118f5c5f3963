-- How the live pages of a group follow the owners of its pages.
use Rattle.std.proofs.Common.{◌≡◌, ◌≢◌, ℕ, ◌+◌, ◌*◌, ◌%◌, ◌<◌, ◌≤◌, Bool, true, false, cond, List, Option, Some, None, refl, ap, sym, ◌∙◌, subst, arith, mod-lt, ⊎_elim}
use Rattle.std.specs.Prelude.{IsSome, is_some, slice_get, if◌then◌else◌}
use Rattle.std.proofs.lemmas.Bool.{cases_eq}
use Rattle.std.proofs.lemmas.Option.{slice_get_within}
use Rattle.fdp_base.specs.declared.entry.Copied.{Copied}
use Rattle.fdp_base.specs.declared.entry.Spot.{Spot}
use Rattle.fdp_base.proofs.Sums.{count_from, count_from-one, count_from-same, counting, sum_from, sum_from-one, sum_from-same}
use Rattle.fdp_owners.specs.declared.owner.Owner.{Owner}
use Rattle.fdp_owners.specs.OwnerTable.{live_in, owner_at, with_owner}
use Rattle.fdp_owners.proofs.Rows.{as_number}
use Rattle.fdp_owners.proofs.Tables.{owned-within}
use Rattle.fdp_pages.specs.Joined.{AreJoined}
use Rattle.fdp_pages.specs.PageTables.{PageTables, copies_at, passes_at}
use Rattle.fdp_pages.specs.Steps.{ChangesOwners, moved}
use Rattle.fdp_pages.proofs.Moving.{copies-of, moved-dead, moved-live}
use Rattle.fdp_pages.proofs.Places.{owner-cases, place-contains, some-is}
use Rattle.fdp_pages.proofs.Recounting.{owner-here, owner-other}
use Rattle.fdp_rules.specs.Sites.{is_spot}
use Rattle.fdp_units.specs.UnitTable.{Cut, IsGroup, IsUnit, UnitTable, group_in, live_at, unit_at}
use Rattle.fdp_units.proofs.Tables.{group-of-place, group-there, number-of, some-units, unit-there}

-- the pages of a unit that have an owner
abbrev lives : (Spot → Option Owner) → ℕ → ℕ → ℕ
lives owners pages unit = count_from (λ page. is_some (owners (record { unit = unit; page = page }))) 0 pages

-- those of so many units from one on
abbrev held : (Spot → Option Owner) → ℕ → ℕ → ℕ → ℕ
held owners pages first count = sum_from (λ i. lives owners pages (first + i)) 0 count

-- ---- one page

-- another page of the same unit, or a page of another one
page-other : (unit : ℕ) (spot : Spot) (page : ℕ) → page ≢ spot.page → record { unit = unit; page = page } ≢ spot
page-other unit spot page ne same = ne (ap (λ (s : Spot). s.page) same)

unit-other : (unit : ℕ) (spot : Spot) (page : ℕ) → unit ≢ spot.unit → record { unit = unit; page = page } ≢ spot
unit-other unit spot page ne same = ne (ap (λ (s : Spot). s.unit) same)

lives-away : (owners : Spot → Option Owner) (pages : ℕ) (spot : Spot) (value : Option Owner) (unit : ℕ) → unit ≢ spot.unit → lives (with_owner owners spot value) pages unit ≡ lives owners pages unit
lives-away owners pages spot value unit ne = count_from-same
    (λ page. is_some (with_owner owners spot value (record { unit = unit; page = page })))
    (λ page. is_some (owners (record { unit = unit; page = page }))) 0 pages
    (λ page low high. ap is_some (owner-other owners spot (record { unit = unit; page = page }) value (unit-other unit spot page ne)))

-- with another owner, or none, at one page
lives-here : (owners : Spot → Option Owner) (pages : ℕ) (spot : Spot) (value : Option Owner) → spot.page < pages → lives (with_owner owners spot value) pages spot.unit + cond (is_some (owners spot)) 1 0 ≡ lives owners pages spot.unit + cond (is_some value) 1 0
lives-here owners pages spot value low =
    let test : ℕ → Bool = λ page. is_some (with_owner owners spot value (record { unit = spot.unit; page = page })) in
    let before : ℕ → Bool = λ page. is_some (owners (record { unit = spot.unit; page = page })) in
    let one : count_from test 0 pages + counting before spot.page ≡ count_from before 0 pages + counting test spot.page =
    count_from-one test before 0 pages spot.page (omega arith) (omega (arith, low))
    (λ page ne. ap is_some (owner-other owners spot (record { unit = spot.unit; page = page }) value (page-other spot.unit spot page ne))) in
    let now : counting test spot.page ≡ cond (is_some value) 1 0 = ap (λ (o : Option Owner). cond (is_some o) 1 0) (owner-here owners spot value) in
    omega (arith, one, now)

-- ---- the units of a group

module _ (t : UnitTable) (owners : Spot → Option Owner) (pages : ℕ) (spot : Spot) (value : Option Owner) where
  held-here : IsUnit t spot.unit → spot.page < pages → held (with_owner owners spot value) pages (group_in t spot.unit * t.group_units) t.group_units + cond (is_some (owners spot)) 1 0 ≡ held owners pages (group_in t spot.unit * t.group_units) t.group_units + cond (is_some value) 1 0
  held-here is low =
      let rg : ℕ = group_in t spot.unit in
      let number : spot.unit ≡ rg * t.group_units + spot.unit % t.group_units = number-of t rg spot.unit refl in
      let new : ℕ → ℕ = λ i. lives (with_owner owners spot value) pages (rg * t.group_units + i) in
      let old : ℕ → ℕ = λ i. lives owners pages (rg * t.group_units + i) in
      let one : sum_from new 0 t.group_units + old (spot.unit % t.group_units) ≡ sum_from old 0 t.group_units + new (spot.unit % t.group_units) =
      sum_from-one new old 0 t.group_units (spot.unit % t.group_units) (omega arith) (omega (arith, mod-lt spot.unit (some-units t spot.unit is)))
      (λ i ne. lives-away owners pages spot value (rg * t.group_units + i) (λ same. apart rg i ne (same ∙ number))) in
      let was : old (spot.unit % t.group_units) ≡ lives owners pages spot.unit = ap (lives owners pages) (sym number) in
      let now : new (spot.unit % t.group_units) ≡ lives (with_owner owners spot value) pages spot.unit = ap (lives (with_owner owners spot value) pages) (sym number) in
      omega (arith, one, was, now, lives-here owners pages spot value low) where
        apart : (rg i : ℕ) → i ≢ spot.unit % t.group_units → rg * t.group_units + i ≡ rg * t.group_units + spot.unit % t.group_units → ⊥
        apart rg i ne same = ne (omega (arith, same))

  held-away : (rg : ℕ) → group_in t spot.unit ≢ rg → held (with_owner owners spot value) pages (rg * t.group_units) t.group_units ≡ held owners pages (rg * t.group_units) t.group_units
  held-away rg ne = sum_from-same
      (λ i. lives (with_owner owners spot value) pages (rg * t.group_units + i))
      (λ i. lives owners pages (rg * t.group_units + i)) 0 t.group_units
      (λ i low high. lives-away owners pages spot value (rg * t.group_units + i) (λ same. ne (ap (group_in t) (sym same) ∙ group-of-place t rg i (omega (arith, high)))))

-- ---- the tables

-- the live pages of a group are those that have an owner
live-held : (t : PageTables) (rg : ℕ) → AreJoined t → IsGroup t.units rg → live_at t.units rg ≡ held (owner_at t.owners) t.owners.unit_pages (rg * t.units.group_units) t.units.group_units
live-held t rg was is = sum_from-same
    (λ i. (unit_at t.units (rg * t.units.group_units + i)).live)
    (λ i. live_in t.owners (rg * t.units.group_units + i)) 0 t.units.group_units
    (λ i low high. was.live.counted (rg * t.units.group_units + i) (unit-there t.units rg i is (omega (arith, high))))

-- so they are after owners changed
live-changed : (old new : PageTables) (rg : ℕ) → ChangesOwners old new → IsGroup old.units rg → live_at new.units rg ≡ held (owner_at new.owners) old.owners.unit_pages (rg * old.units.group_units) old.units.group_units
live-changed old new rg h is =
    ap (λ (k : Cut). sum_from (λ i. (unit_at new.units (rg * k.group_units + i)).live) 0 k.group_units) h.units.cut
    ∙ sum_from-same
    (λ i. (unit_at new.units (rg * old.units.group_units + i)).live)
    (λ i. live_in new.owners (rg * old.units.group_units + i)) 0 old.units.group_units
    (λ i low high. h.units.counted (rg * old.units.group_units + i) (unit-there old.units rg i is (omega (arith, high))))
    ∙ ap (λ (pages : ℕ). held (owner_at new.owners) pages (rg * old.units.group_units) old.units.group_units) h.size.unit_pages

one-is : (x : Option Owner) → IsSome x → ◌≡◌ {A = ℕ} (cond (is_some x) 1 0) 1
one-is x some = ap as_number some

none-is : (x : Option Owner) → x ≡ None → ◌≡◌ {A = ℕ} (cond (is_some x) 1 0) 0
none-is x none = ap (λ (o : Option Owner). as_number (is_some o)) none

pub live-cleared : (old new : PageTables) (spot : Spot) → AreJoined old → ChangesOwners old new → IsSome (owner_at old.owners spot) → owner_at new.owners ≡ with_owner (owner_at old.owners) spot None → live_at new.units (group_in old.units spot.unit) + 1 ≡ live_at old.units (group_in old.units spot.unit)
live-cleared old new spot was h some owners =
    let is = was.live.there spot some in
    let rg : ℕ = group_in old.units spot.unit in
    let there = group-there old.units spot.unit is in
    let x = some-is (owner_at old.owners spot) some in
    let low : spot.page < old.owners.unit_pages = owned-within old.owners spot x.0 x.1 in
    let now = live-changed old new rg h there ∙ ap (λ (f : Spot → Option Owner). held f old.owners.unit_pages (rg * old.units.group_units) old.units.group_units) owners in
    omega (arith, now, live-held old rg was there, held-here old.units (owner_at old.owners) old.owners.unit_pages spot None is low, one-is (owner_at old.owners spot) some)

pub live-elsewhere : (old new : PageTables) (spot : Spot) (rg : ℕ) → AreJoined old → ChangesOwners old new → IsGroup old.units rg → group_in old.units spot.unit ≢ rg → (value : Option Owner) → owner_at new.owners ≡ with_owner (owner_at old.owners) spot value → live_at new.units rg ≡ live_at old.units rg
live-elsewhere old new spot rg was h there ne value owners =
    live-changed old new rg h there ∙ ap (λ (f : Spot → Option Owner). held f old.owners.unit_pages (rg * old.units.group_units) old.units.group_units) owners
    ∙ held-away old.units (owner_at old.owners) old.owners.unit_pages spot value rg ne ∙ sym (live-held old rg was there)

-- a copy whose old page is live lies in one group, and its new page has no owner
record IsInGroup (t : PageTables) (rg : ℕ) (copy : Copied) : Type 0 where
  pub live : IsSome (owner_at t.owners copy.from)
  pub free : owner_at t.owners copy.to ≡ None
  pub is_unit : IsUnit t.units copy.to.unit
  pub page : copy.to.page < t.units.unit_pages
  pub from_group : group_in t.units copy.from.unit ≡ rg
  pub to_group : group_in t.units copy.to.unit ≡ rg

live-moved : (old new : PageTables) (rg : ℕ) (copy : Copied) → AreJoined old → ChangesOwners old new → IsInGroup old rg copy → owner_at new.owners ≡ moved (owner_at old.owners) copy → live_at new.units rg ≡ live_at old.units rg
live-moved old new rg copy was h is owners =
    let there : IsGroup old.units rg = subst (λ (k : ℕ). IsGroup old.units k) is.to_group (group-there old.units copy.to.unit is.is_unit) in
    let x = some-is (owner_at old.owners copy.from) is.live in
    let pages : ℕ = old.owners.unit_pages in
    let count : ℕ = old.units.group_units in
    let middle : Spot → Option Owner = with_owner (owner_at old.owners) copy.from None in
    let low : copy.from.page < pages = owned-within old.owners copy.from x.0 x.1 in
    let high : copy.to.page < pages = omega (arith, is.page, was.cut.owners.unit_pages) in
    let last : owner_at new.owners ≡ with_owner middle copy.to (Some x.0) = owners ∙ moved-live (owner_at old.owners) copy x.0 x.1 in
    let free : middle copy.to ≡ None = middle-free (owner_at old.owners) copy.from copy.to is.free in
    let out : held middle pages (rg * count) count + cond (is_some (owner_at old.owners copy.from)) 1 0 ≡ held (owner_at old.owners) pages (rg * count) count + 0 =
    subst (λ (k : ℕ). held middle pages (k * count) count + cond (is_some (owner_at old.owners copy.from)) 1 0 ≡ held (owner_at old.owners) pages (k * count) count + 0) is.from_group
    (held-here old.units (owner_at old.owners) pages copy.from None (was.live.there copy.from is.live) low) in
    let into : held (with_owner middle copy.to (Some x.0)) pages (rg * count) count + cond (is_some (middle copy.to)) 1 0 ≡ held middle pages (rg * count) count + 1 =
    subst (λ (k : ℕ). held (with_owner middle copy.to (Some x.0)) pages (k * count) count + cond (is_some (middle copy.to)) 1 0 ≡ held middle pages (k * count) count + 1) is.to_group
    (held-here old.units middle pages copy.to (Some x.0) is.is_unit high) in
    let now = live-changed old new rg h there ∙ ap (λ (f : Spot → Option Owner). held f pages (rg * count) count) last in
    omega (arith, now, live-held old rg was there, out, into, one-is (owner_at old.owners copy.from) is.live, none-is (middle copy.to) free) where
      middle-free : (owners : Spot → Option Owner) (from to : Spot) → owners to ≡ None → with_owner owners from None to ≡ None
      middle-free owners from to e = how (is_spot to from) where
        how : (b : Bool) → (if b then None else owners to) ≡ None
        how true = refl
        how false = e

-- likewise in another group
live-moved-away : (old new : PageTables) (rg other : ℕ) (copy : Copied) → AreJoined old → ChangesOwners old new → IsInGroup old rg copy → owner_at new.owners ≡ moved (owner_at old.owners) copy → IsGroup old.units other → other ≢ rg → live_at new.units other ≡ live_at old.units other
live-moved-away old new rg other copy was h is owners there ne =
    let x = some-is (owner_at old.owners copy.from) is.live in
    let pages : ℕ = old.owners.unit_pages in
    let count : ℕ = old.units.group_units in
    let middle : Spot → Option Owner = with_owner (owner_at old.owners) copy.from None in
    let last : owner_at new.owners ≡ with_owner middle copy.to (Some x.0) = owners ∙ moved-live (owner_at old.owners) copy x.0 x.1 in
    live-changed old new other h there ∙ ap (λ (f : Spot → Option Owner). held f pages (other * count) count) last
    ∙ held-away old.units middle pages copy.to (Some x.0) other (λ e. ne (sym e ∙ is.to_group))
    ∙ held-away old.units (owner_at old.owners) pages copy.from None other (λ e. ne (sym e ∙ is.from_group))
    ∙ sym (live-held old other was there)

-- a copy of the pass under way, by its number
in-group : (t : PageTables) (rg index : ℕ) (copy : Copied) → AreJoined t → IsGroup t.units rg → slice_get (copies_at t rg) index ≡ Some copy → (x : Owner) → owner_at t.owners copy.from ≡ Some x → IsInGroup t rg copy
in-group t rg index copy was there read x owned =
    let of = copies-of (passes_at t rg) index (slice_get_within (copies_at t rg) index copy read) in
    let own : slice_get of.0.copies index ≡ Some copy = ap (λ (xs : List Copied). slice_get xs index) (sym of.2) ∙ read in
    let is_copy = place-contains of.0.copies index copy own in
    let copied = (was.groups rg there).copied of.0 of.1 in
    let lie = copied.lie copy is_copy in
    let used : copy.to.page < (unit_at t.units copy.to.unit).next = lie.used in
    let within : (unit_at t.units copy.to.unit).next ≤ t.units.unit_pages = lie.within in
    record {
      live = ap is_some owned;
      free = (copied.await copy x is_copy owned).unowned;
      is_unit = lie.is_unit;
      page = omega (arith, used, within);
      from_group = ap (group_in t.units) lie.victim ∙ ((was.groups rg there).ready.victim of.0 of.1).group;
      to_group = lie.group;
    }

pub live-moves : (old new : PageTables) (rg index : ℕ) (copy : Copied) (other : ℕ) → AreJoined old → IsGroup old.units rg → ChangesOwners old new → slice_get (copies_at old rg) index ≡ Some copy → owner_at new.owners ≡ moved (owner_at old.owners) copy → IsGroup old.units other → live_at new.units other ≡ live_at old.units other
live-moves old new rg index copy other was there h read owners is = owner-cases (live_at new.units other ≡ live_at old.units other) (owner_at old.owners copy.from)
    (λ none. live-changed old new other h is ∙ ap (λ (f : Spot → Option Owner). held f old.owners.unit_pages (other * old.units.group_units) old.units.group_units) (owners ∙ moved-dead (owner_at old.owners) copy none) ∙ sym (live-held old other was is))
    (λ x owned.
    let lies = in-group old rg index copy was there read x owned in
    ⊎_elim
    (λ (same : other ≡ rg). subst (λ (k : ℕ). live_at new.units k ≡ live_at old.units k) (sym same) (live-moved old new rg copy was h lies owners))
    (λ (ne : other ≢ rg). live-moved-away old new rg other copy was h lies owners is ne)
    (cases_eq other rg))
