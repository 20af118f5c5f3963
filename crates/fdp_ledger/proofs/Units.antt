-- What steps make of the states of the units.
use Rattle.std.proofs.Common.{◌≡◌, ◌≢◌, ℕ, ◌+◌, Bool, true, false, List, refl, sym, ◌∙◌, ap, ⊎_elim}
use Rattle.std.specs.Prelude.{◌||◌, nat_lt, if◌then◌else◌}
use Rattle.std.proofs.lemmas.Bool.{cases_eq}
use Rattle.fdp_base.specs.declared.config.Class.{Class}
use Rattle.fdp_base.specs.declared.entry.Spot.{Spot}
use Rattle.fdp_book.specs.fdp_collector.Ready.{IsReady, Relocation}
use Rattle.fdp_book.specs.fdp_collector.Step.{EndsInErase, GoesAside}
use Rattle.fdp_book.proofs.fdp_collector.Kept.{changed-here, changed-other}
use Rattle.fdp_book.proofs.fdp_collector.Readied.{IsHaving, IsTaking, open-cut, open-unit, target-of}
use Rattle.fdp_flash.specs.declared.answer.Wrote.TheVariants as wrote
use Rattle.fdp_flash.specs.FlashState.{FlashState}
use Rattle.fdp_owners.specs.OwnerTable.{OwnerTable}
use Rattle.fdp_book.specs.fdp_pages.Joined.{AreJoined}
use Rattle.fdp_book.specs.fdp_pages.PageTables.{PageTables}
use Rattle.fdp_book.specs.fdp_pages.Steps.{IsLeft, MayPut, Recounts, closed_after, taken}
use Rattle.fdp_book.proofs.fdp_pages.Next.{next-page}
use Rattle.fdp_book.proofs.fdp_pages.Used.{used-state}
use Rattle.fdp_passes.specs.declared.lane.Lane.{Lane}
use Rattle.fdp_passes.specs.GroupPasses.{GroupPasses}
use Rattle.fdp_passes.specs.Targets.{OpensPage, Starves, UsesPage}
use Rattle.fdp_passes.proofs.Opened.{opened-unit}
use Rattle.fdp_units.specs.declared.data_unit.DataUnit.{DataUnit}
use Rattle.fdp_units.specs.declared.state.UnitState.{UnitState}
use Rattle.fdp_units.specs.declared.state.UnitState.TheVariants.{Aside, Closed, Free, Referenced, Retired, Target}
use Rattle.fdp_units.specs.DataUnits.{is_free, is_lost, is_open, is_referenced, raised, used}
use Rattle.fdp_units.specs.UnitTable.{Changes, IsUnit, UnitTable, cut_of, state_at, unit_at}

-- the same units are free, and none is in use again that was lost
pub record KeepsUnits (t now : UnitTable) : Type 0 where
  pub cut : cut_of now ≡ cut_of t
  pub free : (unit : ℕ) → is_free (state_at now unit) ≡ is_free (state_at t unit)
  pub lost : (unit : ℕ) → is_lost (state_at now unit) ≡ false → is_lost (state_at t unit) ≡ false

-- a unit that was not lost is not free any more; all others are as they were
pub record FillsUnit (t now : UnitTable) (unit : ℕ) : Type 0 where
  pub cut : cut_of now ≡ cut_of t
  pub is_unit : IsUnit t unit
  pub others : (other : ℕ) → other ≢ unit → state_at now other ≡ state_at t other
  pub kept : is_lost (state_at t unit) ≡ false
  pub filled : is_free (state_at now unit) ≡ false

-- a closed unit is free
pub record FreesUnit (t now : UnitTable) (unit : ℕ) : Type 0 where
  pub cut : cut_of now ≡ cut_of t
  pub is_unit : IsUnit t unit
  pub others : (other : ℕ) → other ≢ unit → state_at now other ≡ state_at t other
  pub closed : state_at t unit ≡ Closed
  pub freed : state_at now unit ≡ Free

-- ---- a state of one unit changes

changed-state : (t now : UnitTable) (unit : ℕ) (x : DataUnit) → Changes t now unit x → state_at now unit ≡ x.state
changed-state t now unit x h = ap (λ (z : DataUnit). z.state) (changed-here t now unit x h)

unchanged-state : (t now : UnitTable) (unit : ℕ) (x : DataUnit) → Changes t now unit x → (other : ℕ) → other ≢ unit → state_at now other ≡ state_at t other
unchanged-state t now unit x h other ne = ap (λ (z : DataUnit). z.state) (changed-other t now unit other x h ne)

-- a closed unit is lost
lost-keeps : (t now : UnitTable) (unit : ℕ) (x : DataUnit) → Changes t now unit x → state_at t unit ≡ Closed → is_free x.state ≡ false → is_lost x.state ≡ true → KeepsUnits t now
lost-keeps t now unit x h closed unfree lost = record {
  cut = h.cut;
  free = λ other. ⊎_elim
      (λ (is : other ≡ unit). ap (λ (u : ℕ). is_free (state_at now u)) is ∙ ap is_free (changed-state t now unit x h) ∙ unfree ∙ sym (ap is_free closed) ∙ ap (λ (u : ℕ). is_free (state_at t u)) (sym is))
      (λ (ne : other ≢ unit). ap is_free (unchanged-state t now unit x h other ne))
      (cases_eq other unit);
  lost = λ other kept. ⊎_elim
      (λ (is : other ≡ unit). absurd (no (sym lost ∙ sym (ap is_lost (changed-state t now unit x h)) ∙ ap (λ (u : ℕ). is_lost (state_at now u)) (sym is) ∙ kept)))
      (λ (ne : other ≢ unit). ap is_lost (sym (unchanged-state t now unit x h other ne)) ∙ kept)
      (cases_eq other unit);
} where
  no : true ≡ false → ⊥
  no e = cc

pub recounts-keep : (t now : UnitTable) (o : OwnerTable) → Recounts t now o → KeepsUnits t now
recounts-keep t now o h = record {
  cut = h.cut;
  free = λ unit. ap (λ (z : DataUnit). is_free z.state) (h.kept unit);
  lost = λ unit kept. ap (λ (z : DataUnit). is_lost z.state) (sym (h.kept unit)) ∙ kept;
}

-- a unit that is left was open, and is closed
pub left-units : (t now : UnitTable) → cut_of now ≡ cut_of t → ((unit : ℕ) → IsLeft (unit_at t unit) (unit_at now unit)) → KeepsUnits t now
left-units t now cut left = record {
  cut = cut;
  free = λ unit. ⊎_elim
      (λ (same : unit_at now unit ≡ unit_at t unit). ap (λ (x : DataUnit). is_free x.state) same)
      (λ closed. ap (λ (x : DataUnit). is_free x.state) closed.1 ∙ sym (open-unfree (state_at t unit) closed.0))
      (left unit);
  lost = λ unit kept. ⊎_elim
      (λ (same : unit_at now unit ≡ unit_at t unit). ap (λ (x : DataUnit). is_lost x.state) (sym same) ∙ kept)
      (λ closed. open-unlost (state_at t unit) closed.0)
      (left unit);
} where
  open-unfree : (s : UnitState) → is_open s ≡ true → is_free s ≡ false
  open-unfree Free e = absurd cc
  open-unfree Referenced e = refl
  open-unfree Target e = refl
  open-unfree Closed e = absurd cc
  open-unfree Retired e = absurd cc
  open-unfree Aside e = absurd cc

  open-unlost : (s : UnitState) → is_open s ≡ true → is_lost s ≡ false
  open-unlost Free e = absurd cc
  open-unlost Referenced e = refl
  open-unlost Target e = refl
  open-unlost Closed e = absurd cc
  open-unlost Retired e = absurd cc
  open-unlost Aside e = absurd cc

pub same-keep : (t now : UnitTable) → cut_of now ≡ cut_of t → unit_at now ≡ unit_at t → KeepsUnits t now
same-keep t now cut same = record {
  cut = cut;
  free = λ unit. ap (λ (units : ℕ → DataUnit). is_free (units unit).state) same;
  lost = λ unit kept. ap (λ (units : ℕ → DataUnit). is_lost (units unit).state) (sym same) ∙ kept;
}

-- ---- a handle uses a page

unlost-either : (s : UnitState) → (is_free s || is_referenced s) ≡ true → is_lost s ≡ false
unlost-either Free e = refl
unlost-either Referenced e = refl
unlost-either Target e = absurd cc
unlost-either Closed e = absurd cc
unlost-either Retired e = absurd cc
unlost-either Aside e = absurd cc

pub puts-fill : (t now : PageTables) (rg ruh : ℕ) (spot : Spot) → AreJoined t → MayPut t rg ruh spot → Changes t.units now.units spot.unit (raised (used t.units.unit_pages (taken (unit_at t.units spot.unit)))) → FillsUnit t.units now.units spot.unit
puts-fill t now rg ruh spot joined may h =
    let next = next-page t rg ruh spot joined may in
    record {
      cut = h.cut;
      is_unit = next.is_unit;
      others = unchanged-state t.units now.units spot.unit _ h;
      kept = unlost-either (state_at t.units spot.unit) next.state;
      filled = ⊎_elim
          (λ r. ap is_free (changed-state t.units now.units spot.unit _ h ∙ r.0))
          (λ c. ap is_free (changed-state t.units now.units spot.unit _ h ∙ c.0))
          (used-state t.units.unit_pages (unit_at t.units spot.unit) next.state);
    }

pub shuts-fill : (t middle now : PageTables) (rg ruh : ℕ) (spot : Spot) (o : OwnerTable) → AreJoined t → MayPut t rg ruh spot → Changes t.units middle.units spot.unit (closed_after (unit_at t.units spot.unit)) → Recounts middle.units now.units o → FillsUnit t.units now.units spot.unit
shuts-fill t middle now rg ruh spot o joined may h after =
    let next = next-page t rg ruh spot joined may in
    record {
      cut = after.cut ∙ h.cut;
      is_unit = next.is_unit;
      others = λ other ne. ap (λ (z : DataUnit). z.state) (after.kept other) ∙ unchanged-state t.units middle.units spot.unit _ h other ne;
      kept = unlost-either (state_at t.units spot.unit) next.state;
      filled = ap is_free (ap (λ (z : DataUnit). z.state) (after.kept spot.unit) ∙ changed-state t.units middle.units spot.unit _ h);
    }

-- ---- relocation uses a page

module _ (s middle : Relocation) (o : OwnerTable) (classes : List Class) (rg victim : ℕ) (lane : Lane) (to : Spot) (ready : IsReady s o classes rg) (opened : OpensPage s.passes middle.passes s.units middle.units rg victim lane to) where
  opened-others : (other : ℕ) → other ≢ to.unit → state_at middle.units other ≡ state_at s.units other
  opened-others other ne = ⊎_elim
      (λ (h : IsHaving s middle victim lane to.unit). ap (λ (t : UnitTable). state_at t other) h.units)
      (λ (h : IsTaking s middle rg victim lane to.unit). unchanged-state s.units middle.units to.unit _ h.taken other ne)
      opened.target

  pub copies-fill : (passes : GroupPasses) (now : UnitTable) → UsesPage middle.passes passes middle.units now lane to.unit → FillsUnit s.units now to.unit
  copies-fill passes now uses =
      let unit = open-unit s middle rg victim lane to.unit (target-of s o classes rg lane ready) opened.target in
      let target = opened-unit s.passes middle.passes s.units middle.units rg victim lane to.unit (target-of s o classes rg lane ready) opened.target in
      record {
        cut = uses.page.cut ∙ open-cut s middle rg victim lane to.unit opened.target;
        is_unit = unit.is_unit;
        others = λ other ne. unchanged-state middle.units now to.unit _ uses.page other ne ∙ opened-others other ne;
        kept = ⊎_elim (λ is. ap is_lost is) (λ free. unlost-free (state_at s.units to.unit) free) unit.stands;
        filled = ap is_free (changed-state middle.units now to.unit _ uses.page) ∙ used-unfree middle.units.unit_pages (unit_at middle.units to.unit) target;
      } where
        unlost-free : (s : UnitState) → is_free s ≡ true → is_lost s ≡ false
        unlost-free Free e = refl
        unlost-free Referenced e = absurd cc
        unlost-free Target e = absurd cc
        unlost-free Closed e = absurd cc
        unlost-free Retired e = absurd cc
        unlost-free Aside e = absurd cc

        used-unfree : (pages : ℕ) (x : DataUnit) → x.state ≡ Target → is_free (used pages x).state ≡ false
        used-unfree pages x is = chosen (nat_lt (x.next + 1) pages) where
          chosen : (b : Bool) → is_free (if b then x.state else Closed) ≡ false
          chosen true = ap is_free is
          chosen false = refl

pub aside-keeps : (s now : Relocation) (unit : ℕ) → state_at s.units unit ≡ Closed → GoesAside s now unit → KeepsUnits s.units now.units
aside-keeps s now unit closed h = lost-keeps s.units now.units unit _ h.becomes closed refl refl

pub retired-keeps : (s now : Relocation) (old new : FlashState) (unit : ℕ) → state_at s.units unit ≡ Closed → EndsInErase s now old new unit wrote.Failed → KeepsUnits s.units now.units
retired-keeps s now old new unit closed h = lost-keeps s.units now.units unit _ h.becomes closed refl refl

pub starved-keeps : (p now : GroupPasses) (t new : UnitTable) (rg : ℕ) (lane : Lane) → Starves p now t new rg lane → KeepsUnits t new
starved-keeps p now t new rg lane h = same-keep t new h.cut h.units

pub erased-frees : (s now : Relocation) (old new : FlashState) (unit : ℕ) → IsUnit s.units unit → state_at s.units unit ≡ Closed → EndsInErase s now old new unit wrote.Done → FreesUnit s.units now.units unit
erased-frees s now old new unit there closed h = record {
  cut = h.becomes.cut;
  is_unit = there;
  others = unchanged-state s.units now.units unit _ h.becomes;
  closed = closed;
  freed = changed-state s.units now.units unit _ h.becomes;
}
