-- What each step leaves of the handles and the units.
use Rattle.std.proofs.Common.{◌≡◌, ◌≢◌, ℕ, ◌+◌, ◌*◌, ◌<◌, Bool, true, false, refl, sym, ◌∙◌, ap, subst, ⊎_elim, eq-eqb, ne_eqb}
use Rattle.std.specs.Prelude.{◌==◌, if◌then◌else◌, nat_lt}
use Rattle.std.proofs.lemmas.Bool.{cases_eq}
use Rattle.fdp_base.specs.declared.config.DriveConfig.{DriveConfig}
use Rattle.fdp_base.specs.declared.entry.Spot.{Spot}
use Rattle.fdp_base.specs.Numbers.{with_at}
use Rattle.fdp_base.specs.Placement.{classes_of}
use Rattle.fdp_handles.specs.HandleTable.{HandleTable, reference_at}
use Rattle.fdp_locations.specs.Located.{AreUnitsOf, next_in}
use Rattle.fdp_owners.specs.declared.owner.Owner.{Owner}
use Rattle.fdp_pages.specs.PageTables.{PageTables}
use Rattle.fdp_pages.specs.Steps.{ChangesOwners, PutsPage, ShutsUnit}
use Rattle.fdp_rules.specs.Effect.{References, with_reference}
use Rattle.fdp_rules.specs.PlainState.{PlainState, Reference}
use Rattle.fdp_units.specs.declared.data_unit.DataUnit.{DataUnit}
use Rattle.fdp_units.specs.declared.state.UnitState.{UnitState}
use Rattle.fdp_units.specs.declared.state.UnitState.TheVariants.{Free, Referenced, Target, Closed, Retired, Aside}
use Rattle.fdp_units.specs.DataUnits.{is_free, is_lost}
use Rattle.fdp_units.specs.UnitTable.{Agrees, Changes, Cut, IsUnit, UnitTable, cut_of, is_worn_at, state_at, unit_at}

-- the setting and the units of two states are the same
pub record HasSameUnits (s now : PlainState) : Type 0 where
  pub enabled : now.enabled ≡ s.enabled
  pub index : now.index ≡ s.index
  pub references : now.references ≡ s.references
  pub is_lost : now.is_lost ≡ s.is_lost
  pub is_worn : now.is_worn ≡ s.is_worn

-- units of two tables are out of use alike
pub record AreLostAlike (t now : UnitTable) : Type 0 where
  pub cut : cut_of now ≡ cut_of t
  pub lost : (unit : ℕ) → IsUnit t unit → is_lost (state_at now unit) ≡ is_lost (state_at t unit)
  pub worn : is_worn_at now ≡ is_worn_at t

pub alike-self : (t : UnitTable) → AreLostAlike t t
alike-self t = record { cut = refl; lost = λ unit there. refl; worn = refl }

-- a unit of the one is a unit of the other
pub unit-same : (t now : UnitTable) → cut_of now ≡ cut_of t → (unit : ℕ) → IsUnit now unit → IsUnit t unit
unit-same t now cut unit h = subst (λ (x : Cut). unit < x.groups * x.group_units) cut h

pub agrees-alike : (c : DriveConfig) (s n : PlainState) (t now : UnitTable) → n.is_lost ≡ s.is_lost → n.is_worn ≡ s.is_worn → AreLostAlike t now → Agrees t c s → Agrees now c n
agrees-alike c s n t now lost worn alike h = record {
  units = h.units ∙ sym (ap (λ (x : Cut). x.group_units) alike.cut);
  lost = λ unit there.
      let before : IsUnit t unit = unit-same t now alike.cut unit there in
      ap (λ (f : ℕ → Bool). f unit) lost ∙ h.lost unit before ∙ sym (alike.lost unit before);
  worn = λ rg. ap (λ (f : ℕ → Bool). f rg) worn ∙ h.worn rg ∙ sym (ap (λ (f : ℕ → Bool). f rg) alike.worn);
}

classes-same : (c : DriveConfig) (s n : PlainState) → n.enabled ≡ s.enabled → n.index ≡ s.index → classes_of c n.enabled n.index ≡ classes_of c s.enabled s.index
classes-same c s n enabled index = ap (λ (b : Bool). classes_of c b n.index) enabled ∙ ap (classes_of c s.enabled) index

-- the handles stay
pub units-same : (c : DriveConfig) (s n : PlainState) (t now : PageTables) → HasSameUnits s n → AreLostAlike t.units now.units → now.handles ≡ t.handles → AreUnitsOf c s t → AreUnitsOf c n now
units-same c s n t now same alike handles h = record {
  cut = alike.cut ∙ h.cut;
  agrees = agrees-alike c s n t.units now.units same.is_lost same.is_worn alike h.agrees;
  unit_pages = h.unit_pages ∙ sym (ap (λ (x : HandleTable). x.unit_pages) handles);
  groups = h.groups ∙ sym (ap (λ (x : HandleTable). x.groups) handles);
  classes = classes-same c s n same.enabled same.index ∙ h.classes ∙ sym (ap (λ (x : HandleTable). x.classes) handles);
  references = λ rg ruh. ap (λ (f : ℕ → ℕ → Reference). f rg ruh) same.references ∙ h.references rg ruh ∙ sym (ap (λ (x : HandleTable). reference_at x rg ruh) handles);
}

-- ---- only owners change

pub owners-alike : (t now : PageTables) → ChangesOwners t now → AreLostAlike t.units now.units
owners-alike t now h = record {
  cut = h.units.cut;
  lost = λ unit there. ap (λ (x : DataUnit). is_lost x.state) (h.units.kept unit);
  worn = h.units.worn;
}

-- and the next page of each unit stays
pub owners-next : (t now : PageTables) → ChangesOwners t now → (unit : ℕ) → next_in now.units unit ≡ next_in t.units unit
owners-next t now h unit = ap (λ (x : DataUnit). x.next) (h.units.kept unit)

-- ---- a unit becomes another

-- out of use it is as before
pub changed-alike : (t now : UnitTable) (unit : ℕ) (x : DataUnit) → Changes t now unit x → is_worn_at now ≡ is_worn_at t → is_lost x.state ≡ is_lost (state_at t unit) → AreLostAlike t now
changed-alike t now unit x h worn same = record {
  cut = h.cut;
  lost = λ k there. ap (λ (f : ℕ → DataUnit). is_lost (f k).state) h.units ∙ chosen k;
  worn = worn;
}
  where
    chosen : (k : ℕ) → is_lost (with_at (unit_at t) unit x k).state ≡ is_lost (state_at t k)
    chosen k =
        ⊎_elim
        (λ (e : k ≡ unit). ap (λ (b : Bool). is_lost (if b then x else unit_at t k).state) (eq-eqb k unit e) ∙ same ∙ ap (λ (n : ℕ). is_lost (state_at t n)) (sym e))
        (λ (ne : k ≢ unit). ap (λ (b : Bool). is_lost (if b then x else unit_at t k).state) (ne_eqb k unit ne))
        (cases_eq k unit)

-- ---- what handles reference becomes another

-- the references of a state are those of the handles
pub units-rows : (c : DriveConfig) (s n : PlainState) (t now : PageTables) → n.enabled ≡ s.enabled → n.index ≡ s.index → n.is_lost ≡ s.is_lost → n.is_worn ≡ s.is_worn →
    n.references ≡ reference_at now.handles → now.handles ≡ record t.handles { rows = now.handles.rows } → AreLostAlike t.units now.units → AreUnitsOf c s t → AreUnitsOf c n now
units-rows c s n t now enabled index lost worn all rest alike h = record {
  cut = alike.cut ∙ h.cut;
  agrees = agrees-alike c s n t.units now.units lost worn alike h.agrees;
  unit_pages = h.unit_pages ∙ sym (ap (λ (y : HandleTable). y.unit_pages) rest);
  groups = h.groups ∙ sym (ap (λ (y : HandleTable). y.groups) rest);
  classes = classes-same c s n enabled index ∙ h.classes ∙ sym (ap (λ (y : HandleTable). y.classes) rest);
  references = λ r k. ap (λ (refs : References). refs r k) all;
}

-- what one handle references becomes another
pub units-referring : (c : DriveConfig) (s n : PlainState) (t now : PageTables) (rg ruh : ℕ) (x : Reference) → n.enabled ≡ s.enabled → n.index ≡ s.index → n.is_lost ≡ s.is_lost → n.is_worn ≡ s.is_worn →
    n.references ≡ with_reference s.references rg ruh x → reference_at now.handles ≡ with_reference (reference_at t.handles) rg ruh x → now.handles ≡ record t.handles { rows = now.handles.rows } →
    AreLostAlike t.units now.units → AreUnitsOf c s t → AreUnitsOf c n now
units-referring c s n t now rg ruh x enabled index lost worn after_is becomes rest alike h =
    let same : s.references ≡ reference_at t.handles = λ d r k. h.references r k d in
    units-rows c s n t now enabled index lost worn (after_is ∙ ap (λ (refs : References). with_reference refs rg ruh x) same ∙ sym becomes) rest alike h

-- ---- a unit that a handle takes, fills and closes is in use

taken-kept : (x : UnitState) → is_lost x ≡ false → is_lost (if is_free x then Referenced else x) ≡ false
taken-kept Free e = refl
taken-kept Referenced e = refl
taken-kept Target e = refl
taken-kept Closed e = refl
taken-kept Retired e = absurd cc
taken-kept Aside e = absurd cc

pub used-kept : (b : Bool) (x : UnitState) → is_lost x ≡ false → is_lost (if b then x else Closed) ≡ false
used-kept true x e = e
used-kept false x e = refl

pub puts-alike : (t now : PageTables) (rg ruh : ℕ) (spot : Spot) (x : Owner) → is_lost (state_at t.units spot.unit) ≡ false → PutsPage t now rg ruh spot x → AreLostAlike t.units now.units
puts-alike t now rg ruh spot x kept h =
    changed-alike t.units now.units spot.unit _ h.unit h.worn
    (used-kept (nat_lt ((unit_at t.units spot.unit).next + 1) t.units.unit_pages) _ (taken-kept (state_at t.units spot.unit) kept) ∙ sym kept)

pub shuts-alike : (t now : PageTables) (rg ruh : ℕ) (spot : Spot) → is_lost (state_at t.units spot.unit) ≡ false → ShutsUnit t now rg ruh spot → AreLostAlike t.units now.units
shuts-alike t now rg ruh spot kept h = changed-alike t.units now.units spot.unit _ h.unit h.worn (sym kept)

-- the next page of a unit that was changed
pub changed-next : (t now : UnitTable) (unit : ℕ) (x : DataUnit) → Changes t now unit x → (k : ℕ) → next_in now k ≡ with_at (next_in t) unit x.next k
changed-next t now unit x h k = ap (λ (f : ℕ → DataUnit). (f k).next) h.units ∙ chosen (k == unit)
  where
    chosen : (b : Bool) → (if b then x else unit_at t k).next ≡ (if b then x.next else next_in t k)
    chosen true = refl
    chosen false = refl
