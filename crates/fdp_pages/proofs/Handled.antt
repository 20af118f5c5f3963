-- What handles fill after one of them used a page of its unit.
use Rattle.std.proofs.Common.{◌≡◌, ◌≢◌, ℕ, ◌+◌, ◌<◌, ◌≤◌, Bool, Some, None, refl, ap, sym, ◌∙◌, subst, arith, ⊎_elim, inl, inr, eq-eqb, ne_eqb, length}
use Rattle.std.specs.Prelude.{◌⊎◌, ◌==◌, List, if◌then◌else◌}
use Rattle.fdp_base.specs.declared.config.Class.{Class}
use Rattle.fdp_base.specs.Numbers.{with_at}
use Rattle.std.proofs.lemmas.Bool.{cases_eq}
use Rattle.fdp_base.specs.declared.entry.Spot.{Spot}
use Rattle.fdp_collector.proofs.Kept.{changed-here, changed-other, group-kept, unit-kept, unit-of-kept, unit-was}
use Rattle.fdp_handles.specs.HandleTable.{HandleTable, reference_at}
use Rattle.fdp_owners.specs.declared.owner.Owner.{Owner}
use Rattle.fdp_owners.specs.OwnerTable.{OwnerTable, owner_at}
use Rattle.fdp_pages.specs.Joined.{AreFilled, AreJoined, Fills}
use Rattle.fdp_pages.specs.PageTables.{PageTables, unit_of}
use Rattle.fdp_pages.proofs.Groups.{pages-of}
use Rattle.fdp_pages.proofs.Next.{IsNextPage}
use Rattle.fdp_pages.proofs.Places.{never, one}
use Rattle.fdp_rules.specs.Effect.{References, with_reference}
use Rattle.fdp_rules.specs.PlainState.{Reference}
use Rattle.fdp_units.specs.declared.data_unit.DataUnit.{DataUnit}
use Rattle.fdp_units.specs.declared.state.UnitState.TheVariants.{Referenced, Closed}
use Rattle.fdp_units.specs.UnitTable.{Changes, IsUnit, UnitTable, group_in, state_at, unit_at}

-- ---- references

-- a reference is that of the handle, or as it was
abbrev pub IsRead : References → ℕ → ℕ → Reference → ℕ → ℕ → Type 0
IsRead was rg ruh r other_rg other = ((other_rg ≡ rg) × (other ≡ ruh) × (with_reference was rg ruh r other_rg other ≡ r)) ⊎ ((with_reference was rg ruh r other_rg other ≡ was other_rg other) × ((other_rg ≡ rg) × (other ≡ ruh) → ⊥))

pub read-reference : (was : References) (rg ruh : ℕ) (r : Reference) (other_rg other : ℕ) → IsRead was rg ruh r other_rg other
read-reference was rg ruh r other_rg other = ⊎_elim
    (λ (group : other_rg ≡ rg).
    let row : with_reference was rg ruh r other_rg other ≡ (if other == ruh then r else was rg other) = ap (λ (b : Bool). (if b then with_ruh else was other_rg) other) (eq-eqb other_rg rg group) in
    ⊎_elim
    (λ (handle : other ≡ ruh). inl (group, handle, row ∙ ap (λ (b : Bool). if b then r else was rg other) (eq-eqb other ruh handle)))
    (λ (ne : other ≢ ruh). inr (row ∙ ap (λ (b : Bool). if b then r else was rg other) (ne_eqb other ruh ne) ∙ ap (λ (k : ℕ). was k other) (sym group), λ both. ne both.1))
    (cases_eq other ruh))
    (λ (ne : other_rg ≢ rg). inr (ap (λ (b : Bool). (if b then with_ruh else was other_rg) other) (ne_eqb other_rg rg ne), λ both. ne both.0))
    (cases_eq other_rg rg) where
      with_ruh : ℕ → Reference
      with_ruh = with_at (was rg) ruh r

-- ---- what becomes of the unit and of the handle

-- the handle fills it on
pub record FillsOn (pages unit : ℕ) (y : DataUnit) (r : Reference) : Type 0 where
  pub own : r.unit ≡ Some unit
  pub state : y.state ≡ Referenced
  pub left : y.next + r.left ≡ pages
  pub some_left : 1 ≤ r.left

-- it is closed, and the handle has none
pub record LetsGo (pages : ℕ) (y : DataUnit) (r : Reference) : Type 0 where
  pub none : r.unit ≡ None
  pub whole : r.left ≡ pages
  pub state : y.state ≡ Closed

abbrev pub GoesOn : ℕ → ℕ → DataUnit → Reference → Type 0
GoesOn pages unit y r = FillsOn pages unit y r ⊎ LetsGo pages y r

module _ (t : PageTables) (was : AreJoined t) (rg ruh : ℕ) (spot : Spot) (is : IsNextPage t rg ruh spot) (is_handle : ruh < length t.handles.classes) (x : HandleTable) (new : UnitTable) (now : OwnerTable) (y : DataUnit) (r : Reference) (classes : x.classes ≡ t.handles.classes) (references : reference_at x ≡ with_reference (reference_at t.handles) rg ruh r) (change : Changes t.units new spot.unit y) (goes : GoesOn t.units.unit_pages spot.unit y r) (own : (at : Spot) (z : Owner) → at.unit ≡ spot.unit → owner_at now at ≡ Some z → z.spare.ruh ≡ ruh) (others : (at : Spot) (z : Owner) → at.unit ≢ spot.unit → owner_at now at ≡ Some z → owner_at t.owners at ≡ Some z) where
  -- a reference now
  is-read : (other_rg other : ℕ) → ((other_rg ≡ rg) × (other ≡ ruh) × (reference_at x other_rg other ≡ r)) ⊎ ((reference_at x other_rg other ≡ reference_at t.handles other_rg other) × ((other_rg ≡ rg) × (other ≡ ruh) → ⊥))
  is-read other_rg other =
      let e : reference_at x other_rg other ≡ with_reference (reference_at t.handles) rg ruh r other_rg other = ap (λ (f : References). f other_rg other) references in
      ⊎_elim
      (λ (h : (other_rg ≡ rg) × (other ≡ ruh) × (with_reference (reference_at t.handles) rg ruh r other_rg other ≡ r)). inl (h.0, h.1, e ∙ h.2))
      (λ (h : (with_reference (reference_at t.handles) rg ruh r other_rg other ≡ reference_at t.handles other_rg other) × ((other_rg ≡ rg) × (other ≡ ruh) → ⊥)). inr (e ∙ h.0, h.1))
      (read-reference (reference_at t.handles) rg ruh r other_rg other)

  pages : new.unit_pages ≡ t.units.unit_pages
  pages = pages-of t.units new change.cut

  -- a unit of another handle is another one
  apart-unit : (other_rg other unit : ℕ) → ((other_rg ≡ rg) × (other ≡ ruh) → ⊥) → unit_of t other_rg other ≡ Some unit → unit ≢ spot.unit
  apart-unit other_rg other unit ne e same =
      let group : other_rg ≡ rg = sym (was.filled.fills other_rg other unit e).stands.group ∙ ap (group_in t.units) same ∙ is.group in
      let here : unit_of t rg other ≡ Some spot.unit = ap (λ (k : ℕ). unit_of t k other) (sym group) ∙ e ∙ ap (λ (u : ℕ). Some u) same in
      ne (group, sym (is.apart other here))

  pub handle-of : (unit : ℕ) → r.unit ≡ Some unit → (unit ≡ spot.unit) × FillsOn t.units.unit_pages spot.unit y r
  handle-of unit e = ⊎_elim
      (λ (h : FillsOn t.units.unit_pages spot.unit y r). (one (sym e ∙ h.own), h))
      (λ (h : LetsGo t.units.unit_pages y r). absurd (never unit (sym h.none ∙ e)))
      goes

  whole-now : r.unit ≡ None → r.left ≡ new.unit_pages
  whole-now e = ⊎_elim
      (λ (h : FillsOn t.units.unit_pages spot.unit y r). absurd (never spot.unit (sym e ∙ h.own)))
      (λ (h : LetsGo t.units.unit_pages y r). h.whole ∙ sym pages)
      goes

  fills-here : FillsOn t.units.unit_pages spot.unit y r → (other_rg other : ℕ) → other_rg ≡ rg → other ≡ ruh → reference_at x other_rg other ≡ r → Fills x new now other_rg other spot.unit
  fills-here h other_rg other group handle e =
      let left : y.next + r.left ≡ t.units.unit_pages = h.left in
      let next : (unit_at new spot.unit).next ≡ y.next = ap (λ (z : DataUnit). z.next) (changed-here t.units new spot.unit y change) in
      let same : (reference_at x other_rg other).left ≡ r.left = ap (λ (z : Reference). z.left) e in
      record {
        stands = record {
          is_unit = unit-kept t.units new spot.unit change.cut is.is_unit;
          group = group-kept t.units new spot.unit rg change.cut is.group ∙ sym group;
          stands = ap (λ (z : DataUnit). z.state) (changed-here t.units new spot.unit y change) ∙ h.state;
        };
        left = omega (arith, left, next, same, pages);
        some_left = omega (arith, same, h.some_left);
        own = λ at z same_unit owned. own at z same_unit owned ∙ sym handle;
      }

  fills-there : (other_rg other unit : ℕ) → reference_at x other_rg other ≡ reference_at t.handles other_rg other → unit ≢ spot.unit → Fills t.handles t.units t.owners other_rg other unit → Fills x new now other_rg other unit
  fills-there other_rg other unit e ne h =
      let left : (unit_at t.units unit).next + (reference_at t.handles other_rg other).left ≡ t.units.unit_pages = h.left in
      let next : (unit_at new unit).next ≡ (unit_at t.units unit).next = ap (λ (z : DataUnit). z.next) (changed-other t.units new spot.unit unit y change ne) in
      let same : (reference_at x other_rg other).left ≡ (reference_at t.handles other_rg other).left = ap (λ (z : Reference). z.left) e in
      let some : 1 ≤ (reference_at t.handles other_rg other).left = h.some_left in
      record {
        stands = unit-of-kept t.units new other_rg unit Referenced change.cut h.stands (ap (λ (z : DataUnit). z.state) (changed-other t.units new spot.unit unit y change ne));
        left = omega (arith, left, next, same, pages);
        some_left = omega (arith, same, some);
        own = λ at z same_unit owned. h.own at z same_unit (others at z (λ too. ne (sym same_unit ∙ too)) owned);
      }

  filled-now : (unit : ℕ) → IsUnit new unit → state_at new unit ≡ Referenced → (k : ℕ) × (k < length x.classes) × ((reference_at x (group_in new unit) k).unit ≡ Some unit)
  filled-now unit there stands = ⊎_elim
      (λ (same : unit ≡ spot.unit).
      let state : y.state ≡ Referenced = sym (ap (λ (z : DataUnit). z.state) (changed-here t.units new spot.unit y change)) ∙ ap (state_at new) (sym same) ∙ stands in
      let group : group_in new unit ≡ rg = ap (group_in new) same ∙ group-kept t.units new spot.unit rg change.cut is.group in
      let on : FillsOn t.units.unit_pages spot.unit y r = ⊎_elim (λ (h : FillsOn t.units.unit_pages spot.unit y r). h) (λ (h : LetsGo t.units.unit_pages y r). absurd (apart (sym h.state ∙ state))) goes in
      let read : reference_at x rg ruh ≡ r = ⊎_elim (λ (h : (rg ≡ rg) × (ruh ≡ ruh) × (reference_at x rg ruh ≡ r)). h.2) (λ (h : (reference_at x rg ruh ≡ reference_at t.handles rg ruh) × ((rg ≡ rg) × (ruh ≡ ruh) → ⊥)). absurd (h.1 (refl, refl))) (is-read rg ruh) in
      (ruh, subst (λ (c : List Class). ruh < length c) (sym classes) is_handle, ap (λ (k : ℕ). (reference_at x k ruh).unit) group ∙ ap (λ (z : Reference). z.unit) read ∙ on.own ∙ ap (λ (u : ℕ). Some u) (sym same)))
      (λ (ne : unit ≢ spot.unit).
      let state : state_at t.units unit ≡ Referenced = ap (λ (z : DataUnit). z.state) (sym (changed-other t.units new spot.unit unit y change ne)) ∙ stands in
      let old = was.filled.filled unit (unit-was t.units new unit change.cut there) state in
      let k : ℕ = old.0 in
      let group : group_in new unit ≡ group_in t.units unit = group-kept t.units new unit (group_in t.units unit) change.cut refl in
      let e : (reference_at t.handles (group_in t.units unit) k).unit ≡ Some unit = old.2 in
      let read : (reference_at x (group_in t.units unit) k).unit ≡ Some unit = ⊎_elim
      (λ (h : (group_in t.units unit ≡ rg) × (k ≡ ruh) × (reference_at x (group_in t.units unit) k ≡ r)).
      absurd (ne (is.only unit (ap (λ (g : ℕ). unit_of t g ruh) (sym h.0) ∙ ap (λ (j : ℕ). unit_of t (group_in t.units unit) j) (sym h.1) ∙ e))))
      (λ (h : (reference_at x (group_in t.units unit) k ≡ reference_at t.handles (group_in t.units unit) k) × ((group_in t.units unit ≡ rg) × (k ≡ ruh) → ⊥)). ap (λ (z : Reference). z.unit) h.0 ∙ e)
      (is-read (group_in t.units unit) k) in
      (k, subst (λ (c : List Class). k < length c) (sym classes) old.1, ap (λ (g : ℕ). (reference_at x g k).unit) group ∙ read))
      (cases_eq unit spot.unit) where
        apart : Closed ≡ Referenced → ⊥
        apart e = cc

  pub handled-filled : AreFilled x new now
  handled-filled = record {
    whole = λ other_rg other e. ⊎_elim
        (λ (h : (other_rg ≡ rg) × (other ≡ ruh) × (reference_at x other_rg other ≡ r)). ap (λ (z : Reference). z.left) h.2 ∙ whole-now (ap (λ (z : Reference). z.unit) (sym h.2) ∙ e))
        (λ (h : (reference_at x other_rg other ≡ reference_at t.handles other_rg other) × ((other_rg ≡ rg) × (other ≡ ruh) → ⊥)). ap (λ (z : Reference). z.left) h.0 ∙ was.filled.whole other_rg other (ap (λ (z : Reference). z.unit) (sym h.0) ∙ e) ∙ sym pages)
        (is-read other_rg other);
    fills = λ other_rg other unit e. ⊎_elim
        (λ (h : (other_rg ≡ rg) × (other ≡ ruh) × (reference_at x other_rg other ≡ r)).
        let on = handle-of unit (ap (λ (z : Reference). z.unit) (sym h.2) ∙ e) in
        subst (λ (u : ℕ). Fills x new now other_rg other u) (sym on.0) (fills-here on.1 other_rg other h.0 h.1 h.2))
        (λ (h : (reference_at x other_rg other ≡ reference_at t.handles other_rg other) × ((other_rg ≡ rg) × (other ≡ ruh) → ⊥)).
        let before : unit_of t other_rg other ≡ Some unit = ap (λ (z : Reference). z.unit) (sym h.0) ∙ e in
        fills-there other_rg other unit h.0 (apart-unit other_rg other unit h.1 before) (was.filled.fills other_rg other unit before))
        (is-read other_rg other);
    apart = λ other_rg a b unit e f. ⊎_elim
        (λ (h : (other_rg ≡ rg) × (a ≡ ruh) × (reference_at x other_rg a ≡ r)). ⊎_elim
        (λ (k : (other_rg ≡ rg) × (b ≡ ruh) × (reference_at x other_rg b ≡ r)). h.1 ∙ sym k.1)
        (λ (k : (reference_at x other_rg b ≡ reference_at t.handles other_rg b) × ((other_rg ≡ rg) × (b ≡ ruh) → ⊥)).
        absurd (apart-unit other_rg b unit k.1 (ap (λ (z : Reference). z.unit) (sym k.0) ∙ f) (handle-of unit (ap (λ (z : Reference). z.unit) (sym h.2) ∙ e)).0))
        (is-read other_rg b))
        (λ (h : (reference_at x other_rg a ≡ reference_at t.handles other_rg a) × ((other_rg ≡ rg) × (a ≡ ruh) → ⊥)). ⊎_elim
        (λ (k : (other_rg ≡ rg) × (b ≡ ruh) × (reference_at x other_rg b ≡ r)).
        absurd (apart-unit other_rg a unit h.1 (ap (λ (z : Reference). z.unit) (sym h.0) ∙ e) (handle-of unit (ap (λ (z : Reference). z.unit) (sym k.2) ∙ f)).0))
        (λ (k : (reference_at x other_rg b ≡ reference_at t.handles other_rg b) × ((other_rg ≡ rg) × (b ≡ ruh) → ⊥)).
        was.filled.apart other_rg a b unit (ap (λ (z : Reference). z.unit) (sym h.0) ∙ e) (ap (λ (z : Reference). z.unit) (sym k.0) ∙ f))
        (is-read other_rg b))
        (is-read other_rg a);
    filled = filled-now;
  }
