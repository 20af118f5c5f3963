-- How a handle uses the next page of a unit.
use Rattle.std.proofs.Common.{◌≡◌, ℕ, ◌+◌, ◌<◌, ◌≤◌, Bool, true, false, refl, ap, ◌∙◌, subst, ⊎_elim, inl, inr}
use Rattle.std.specs.Prelude.{◌⊎◌, ◌||◌, ◌==◌, IsTrue, nat_lt, if◌then◌else◌}
use Rattle.std.proofs.lemmas.Bool.{ltb-false, ltb-true}
use Rattle.fdp_base.specs.Numbers.{with_at}
use Rattle.fdp_collector.proofs.Kept.{changed-here}
use Rattle.fdp_pages.specs.Steps.{closed_after, taken}
use Rattle.fdp_pages.proofs.Places.{no}
use Rattle.fdp_units.specs.declared.data_unit.DataUnit.{DataUnit}
use Rattle.fdp_units.specs.declared.state.UnitState.{UnitState}
use Rattle.fdp_units.specs.declared.state.UnitState.TheVariants.{Free, Referenced, Target, Closed, Retired, Aside}
use Rattle.fdp_units.specs.DataUnits.{is_closed, is_free, is_open, is_referenced, used}
use Rattle.fdp_units.specs.UnitTable.{Changes, Cut, UnitTable, unit_at}

-- a unit that changes twice
pub changes-twice : (a b c : UnitTable) (unit : ℕ) (x y : DataUnit) → Changes a b unit x → Changes b c unit y → Changes a c unit y
changes-twice a b c unit x y first second = record {
  units = second.units ∙ ap (λ (f : ℕ → DataUnit). with_at f unit y) first.units ∙ (λ d i. over i d);
  cut = second.cut ∙ first.cut;
} where
  both : (b : Bool) (u v w : DataUnit) → (if b then u else (if b then v else w)) ≡ (if b then u else w)
  both true u v w = refl
  both false u v w = refl

  over : (i : ℕ) → with_at (with_at (unit_at a) unit x) unit y i ≡ with_at (unit_at a) unit y i
  over i = both (i == unit) y x (unit_at a i)

-- a free or referenced unit that is taken is referenced
pub taken-state : (s : UnitState) → IsTrue (is_free s || is_referenced s) → (if is_free s then Referenced else s) ≡ Referenced
taken-state Free e = refl
taken-state Referenced e = refl
taken-state Target e = absurd (no e)
taken-state Closed e = absurd (no e)
taken-state Retired e = absurd (no e)
taken-state Aside e = absurd (no e)

pub taken-open : (t t1 : UnitTable) (unit : ℕ) → IsTrue (is_free (unit_at t unit).state || is_referenced (unit_at t unit).state) → Changes t t1 unit (taken (unit_at t unit)) → IsTrue (is_open (unit_at t1 unit).state)
taken-open t t1 unit state change = ap (λ (x : DataUnit). is_open x.state) (changed-here t t1 unit _ change) ∙ ap is_open (taken-state (unit_at t unit).state state)

pub taken-used : (t t1 new : UnitTable) (unit : ℕ) → Changes t t1 unit (taken (unit_at t unit)) → Changes t1 new unit (used t1.unit_pages (unit_at t1 unit)) → Changes t new unit (used t.unit_pages (taken (unit_at t unit)))
taken-used t t1 new unit first second =
    let same : used t1.unit_pages (unit_at t1 unit) ≡ used t.unit_pages (taken (unit_at t unit)) =
    ap (λ (n : ℕ). used n (unit_at t1 unit)) (ap (λ (k : Cut). k.unit_pages) first.cut) ∙ ap (used t.unit_pages) (changed-here t t1 unit _ first) in
    changes-twice t t1 new unit _ _ first (subst (λ (x : DataUnit). Changes t1 new unit x) same second)

-- the state after its next page was used: referenced still, or closed
pub used-state : (pages : ℕ) (x : DataUnit) → IsTrue (is_free x.state || is_referenced x.state) → (((used pages (taken x)).state ≡ Referenced) × (x.next + 1 < pages)) ⊎ (((used pages (taken x)).state ≡ Closed) × (pages ≤ x.next + 1))
used-state pages x state = how (nat_lt (x.next + 1) pages) refl where
  how : (b : Bool) → nat_lt (x.next + 1) pages ≡ b → (((used pages (taken x)).state ≡ Referenced) × (x.next + 1 < pages)) ⊎ (((used pages (taken x)).state ≡ Closed) × (pages ≤ x.next + 1))
  how true more = inl (ap (λ (b : Bool). if b then (taken x).state else Closed) more ∙ taken-state x.state state, ltb-true _ _ more)
  how false last = inr (ap (λ (b : Bool). if b then (taken x).state else Closed) last, ltb-false _ _ last)

pub used-closable : (t t1 : UnitTable) (unit : ℕ) → IsTrue (is_free (unit_at t unit).state || is_referenced (unit_at t unit).state) → Changes t t1 unit (used t.unit_pages (taken (unit_at t unit))) → IsTrue (is_open (unit_at t1 unit).state || is_closed (unit_at t1 unit).state)
used-closable t t1 unit state change =
    ap (λ (x : DataUnit). is_open x.state || is_closed x.state) (changed-here t t1 unit _ change) ∙ ⊎_elim
    (λ (h : ((used t.unit_pages (taken (unit_at t unit))).state ≡ Referenced) × ((unit_at t unit).next + 1 < t.unit_pages)). ap (λ (s : UnitState). is_open s || is_closed s) h.0)
    (λ (h : ((used t.unit_pages (taken (unit_at t unit))).state ≡ Closed) × (t.unit_pages ≤ (unit_at t unit).next + 1)). ap (λ (s : UnitState). is_open s || is_closed s) h.0)
    (used-state t.unit_pages (unit_at t unit) state)

pub wasted : (t t1 new : UnitTable) (unit : ℕ) → Changes t t1 unit (used t.unit_pages (taken (unit_at t unit))) → Changes t1 new unit (record (unit_at t1 unit) { state = Closed }) → Changes t new unit (closed_after (unit_at t unit))
wasted t t1 new unit first second =
    changes-twice t t1 new unit _ _ first (subst (λ (x : DataUnit). Changes t1 new unit x) (ap (λ (x : DataUnit). record x { state = Closed }) (changed-here t t1 unit _ first)) second)
