-- What becomes of handles, lanes and units that are left.
use Rattle.std.proofs.Common.{◌≡◌, ◌≢◌, ℕ, ◌+◌, ◌<◌, ◌≤◌, Bool, true, false, List, Option, Some, None, refl, ap, sym, ◌∙◌, subst, arith, ⊎_elim, inl, inr, eq-eqb, ne_eqb, length, get_or, replicate}
use Rattle.std.specs.Prelude.{◌⊎◌, ◌&&◌, ◌||◌, IsTrue, IfSome, is_some, nat_lt, if◌then◌else◌}
use Rattle.std.proofs.lemmas.Bool.{cases_eq, le-ltb, lt-ltb}
use Rattle.fdp_base.specs.declared.config.DriveConfig.{DriveConfig}
use Rattle.fdp_collector.proofs.Kept.{changed-here, changed-other}
use Rattle.fdp_handles.specs.HandleTable.{HandleTable, HasRightLeft, blank, reference_at}
use Rattle.fdp_pages.specs.Joined.{AreJoined}
use Rattle.fdp_pages.specs.Leaving.{LeavesGroup, LeavesGroups, LeavesHandles, LeavesTargets}
use Rattle.fdp_pages.specs.PageTables.{PageTables, passes_at, unit_of}
use Rattle.fdp_pages.specs.Steps.{ClosesUnit, IsLeft, LeavesUnits, Refers, UpdatesHandle}
use Rattle.fdp_pages.proofs.Handled.{read-reference}
use Rattle.fdp_pages.proofs.Groups.{pages-of}
use Rattle.fdp_pages.proofs.Places.{no}
use Rattle.fdp_pages.proofs.Placed.{config-of}
use Rattle.fdp_passes.specs.declared.lane.Lane.{Lane}
use Rattle.fdp_passes.specs.GroupPasses.{GroupPasses, Pass, target_at}
use Rattle.fdp_rules.specs.Effect.{References, is_partly_written, no_reference, updated_at, with_reference}
use Rattle.fdp_rules.specs.PlainState.{Reference}
use Rattle.fdp_units.specs.declared.data_unit.DataUnit.{DataUnit}
use Rattle.fdp_units.specs.declared.state.UnitState.{UnitState}
use Rattle.fdp_units.specs.declared.state.UnitState.TheVariants.{Closed}
use Rattle.fdp_units.specs.DataUnits.{is_open}
use Rattle.fdp_units.specs.UnitTable.{unit_at}

-- ---- one step after another

unopen : (s : UnitState) → s ≡ Closed → IsTrue (is_open s) → ⊥
unopen s closed opened = no (sym (ap is_open closed) ∙ opened)

pub left-on : (a b d : DataUnit) → IsLeft a b → IsLeft b d → IsLeft a d
left-on a b d f g = ⊎_elim
    (λ (same : b ≡ a). subst (λ (x : DataUnit). IsLeft x d) same g)
    (λ (h : IsTrue (is_open a.state) × (b ≡ record a { state = Closed })). ⊎_elim
    (λ (same : d ≡ b). inr (h.0, same ∙ h.1))
    (λ (k : IsTrue (is_open b.state) × (d ≡ record b { state = Closed })). absurd (unopen b.state (ap (λ (x : DataUnit). x.state) h.1) k.0))
    g)
    f

pub leaves-none : (t : PageTables) → LeavesUnits t t
leaves-none t = record {
  owners = refl;
  cut = refl;
  units = λ unit. inl refl;
  worn = refl;
  handles = λ rg ruh. inl refl;
  passes = λ rg. refl;
  targets = λ rg lane. inl refl;
}

pub leaves-on : (a b d : PageTables) → LeavesUnits a b → LeavesUnits b d → LeavesUnits a d
leaves-on a b d f g = record {
  owners = g.owners ∙ f.owners;
  cut = g.cut ∙ f.cut;
  units = λ unit. left-on (unit_at a.units unit) (unit_at b.units unit) (unit_at d.units unit) (f.units unit) (g.units unit);
  worn = g.worn ∙ f.worn;
  handles = λ rg ruh. ⊎_elim
      (λ (same : reference_at d.handles rg ruh ≡ reference_at b.handles rg ruh). ⊎_elim
      (λ (was : reference_at b.handles rg ruh ≡ reference_at a.handles rg ruh). inl (same ∙ was))
      (λ (was : reference_at b.handles rg ruh ≡ blank a.units.unit_pages). inr (same ∙ was))
      (f.handles rg ruh))
      (λ (none : reference_at d.handles rg ruh ≡ blank b.units.unit_pages). inr (none ∙ ap blank (pages-of a.units b.units f.cut)))
      (g.handles rg ruh);
  passes = λ rg. g.passes rg ∙ f.passes rg;
  targets = λ rg lane. ⊎_elim
      (λ (same : target_at (passes_at d rg) lane ≡ target_at (passes_at b rg) lane). ⊎_elim
      (λ (was : target_at (passes_at b rg) lane ≡ target_at (passes_at a rg) lane). inl (same ∙ was))
      (λ (was : target_at (passes_at b rg) lane ≡ None). inr (same ∙ was))
      (f.targets rg lane))
      (λ (none : target_at (passes_at d rg) lane ≡ None). inr none)
      (g.targets rg lane);
}

-- a handle that has no unit gets none, and so it is with a lane
pub none-left : (a b : PageTables) (rg ruh : ℕ) → LeavesUnits a b → unit_of a rg ruh ≡ None → unit_of b rg ruh ≡ None
none-left a b rg ruh h none = ⊎_elim
    (λ (same : reference_at b.handles rg ruh ≡ reference_at a.handles rg ruh). ap (λ (x : Reference). x.unit) same ∙ none)
    (λ (is : reference_at b.handles rg ruh ≡ blank a.units.unit_pages). ap (λ (x : Reference). x.unit) is)
    (h.handles rg ruh)

pub untargeted-left : (a b : PageTables) (rg : ℕ) (lane : Lane) → LeavesUnits a b → target_at (passes_at a rg) lane ≡ None → target_at (passes_at b rg) lane ≡ None
untargeted-left a b rg lane h none = ⊎_elim
    (λ (same : target_at (passes_at b rg) lane ≡ target_at (passes_at a rg) lane). same ∙ none)
    (λ (is : target_at (passes_at b rg) lane ≡ None). is)
    (h.targets rg lane)

-- ---- a handle is updated

-- nothing of a whole unit is written
unwritten : (c : DriveConfig) (x : Reference) → x.left ≡ c.unit_pages → is_partly_written c x ≡ false
unwritten c x whole =
    ap (λ (b : Bool). nat_lt 0 x.left && b) (le-ltb x.left c.unit_pages (omega (arith, whole))) ∙ and-false (nat_lt 0 x.left) where
      and-false : (b : Bool) → (b && false) ≡ false
      and-false true = refl
      and-false false = refl

-- some of it is, and not all
written : (c : DriveConfig) (x : Reference) → 1 ≤ x.left → x.left < c.unit_pages → is_partly_written c x ≡ true
written c x some low = ap (λ (b : Bool). b && nat_lt x.left c.unit_pages) (lt-ltb 0 x.left (omega (arith, some))) ∙ lt-ltb x.left c.unit_pages low

-- a handle without a unit stays as it is
pub updates-none : (t : PageTables) (rg ruh : ℕ) → HasRightLeft t.handles.unit_pages (reference_at t.handles rg ruh) → unit_of t rg ruh ≡ None → UpdatesHandle t t rg ruh
updates-none t rg ruh right none = record {
  leaves = leaves-none t;
  references = λ c same. sym (ap (λ (b : Bool). if b then with_reference (reference_at t.handles) rg ruh (no_reference c) else reference_at t.handles) (unwritten c (reference_at t.handles rg ruh) (right.0 none ∙ sym same)));
  none = none;
  rest = refl;
  passes = refl;
}

-- the unit of a handle is closed
pub updates-some : (t new : PageTables) (rg ruh unit : ℕ) → AreJoined t → HasRightLeft t.handles.unit_pages (reference_at t.handles rg ruh) → unit_of t rg ruh ≡ Some unit → ClosesUnit t new rg ruh unit → UpdatesHandle t new rg ruh
updates-some t new rg ruh unit was right is h = record {
  leaves = record {
    owners = h.owners;
    cut = h.becomes.cut;
    units = λ u. ⊎_elim
        (λ (same : u ≡ unit). inr (
          ap (λ (k : ℕ). is_open (unit_at t.units k).state) same ∙ ap is_open (was.filled.fills rg ruh unit is).stands.stands,
          ap (unit_at new.units) same ∙ changed-here t.units new.units unit _ h.becomes ∙ ap (λ (k : ℕ). record (unit_at t.units k) { state = Closed }) (sym same),
        ))
        (λ (ne : u ≢ unit). inl (changed-other t.units new.units unit u _ h.becomes ne))
        (cases_eq u unit);
    worn = h.worn;
    handles = λ g k. ⊎_elim
        (λ (here : (g ≡ rg) × (k ≡ ruh) × (with_reference (reference_at t.handles) rg ruh (no_reference (config-of t.handles.unit_pages)) g k ≡ no_reference (config-of t.handles.unit_pages))).
        inr (read g k ∙ here.2 ∙ ap blank was.cut.unit_pages))
        (λ (there : (with_reference (reference_at t.handles) rg ruh (no_reference (config-of t.handles.unit_pages)) g k ≡ reference_at t.handles g k) × ((g ≡ rg) × (k ≡ ruh) → ⊥)).
        inl (read g k ∙ there.0))
        (read-reference (reference_at t.handles) rg ruh (no_reference (config-of t.handles.unit_pages)) g k);
    passes = λ g. ap (λ (ps : List GroupPasses). (passes_at (record t { passes = ps }) g).pass) h.passes;
    targets = λ g lane. inl (ap (λ (ps : List GroupPasses). target_at (passes_at (record t { passes = ps }) g) lane) h.passes);
  };
  references = λ c same.
      let left = right.1 unit is in
      h.handles.references c same ∙ sym (ap (λ (b : Bool). if b then with_reference (reference_at t.handles) rg ruh (no_reference c) else reference_at t.handles) (written c (reference_at t.handles rg ruh) left.0 (subst (λ (n : ℕ). (reference_at t.handles rg ruh).left < n) (sym same) left.1)));
  none = ⊎_elim
      (λ (here : (rg ≡ rg) × (ruh ≡ ruh) × (with_reference (reference_at t.handles) rg ruh (no_reference (config-of t.handles.unit_pages)) rg ruh ≡ no_reference (config-of t.handles.unit_pages))).
      ap (λ (x : Reference). x.unit) (read rg ruh ∙ here.2))
      (λ (there : (with_reference (reference_at t.handles) rg ruh (no_reference (config-of t.handles.unit_pages)) rg ruh ≡ reference_at t.handles rg ruh) × ((rg ≡ rg) × (ruh ≡ ruh) → ⊥)).
      absurd (there.1 (refl, refl)))
      (read-reference (reference_at t.handles) rg ruh (no_reference (config-of t.handles.unit_pages)) rg ruh);
  rest = h.handles.rest;
  passes = h.passes;
} where
  read : (g k : ℕ) → reference_at new.handles g k ≡ with_reference (reference_at t.handles) rg ruh (no_reference (config-of t.handles.unit_pages)) g k
  read g k = ap (λ (f : References). f g k) (h.handles.references (config-of t.handles.unit_pages) refl)

-- so it is with a handle that has one
pub updates-unit : (t new : PageTables) (rg ruh : ℕ) (found : Option ℕ) → AreJoined t → HasRightLeft t.handles.unit_pages (reference_at t.handles rg ruh) → found ≡ unit_of t rg ruh → is_some found ≡ true → IfSome (unit_of t rg ruh) (λ (unit : ℕ). ClosesUnit t new rg ruh unit) → UpdatesHandle t new rg ruh
updates-unit t new rg ruh None was right same some h = absurd (no some)
updates-unit t new rg ruh (Some unit) was right same some h = updates-some t new rg ruh unit was right (sym same) (subst (λ (o : Option ℕ). IfSome o (λ (u : ℕ). ClosesUnit t new rg ruh u)) (sym same) h)

-- ---- the handles of a group, one after another

pub handles-begin : (t : PageTables) (rg : ℕ) → LeavesHandles t t rg 0
handles-begin t rg = record { leaves = leaves-none t; none = λ ruh low. absurd (omega (arith, low)); rest = refl }

pub handles-more : (t now new : PageTables) (rg ruh : ℕ) → LeavesHandles t now rg ruh → UpdatesHandle now new rg ruh → LeavesHandles t new rg (ruh + 1)
handles-more t now new rg ruh h k = record {
  leaves = leaves-on t now new h.leaves k.leaves;
  none = λ other low. ⊎_elim
      (λ (same : other ≡ ruh). ap (unit_of new rg) same ∙ k.none)
      (λ (ne : other ≢ ruh). none-left now new rg other k.leaves (h.none other (omega (arith, low, ne))))
      (cases_eq other ruh);
  rest = k.rest ∙ ap (λ (x : HandleTable). record x { rows = new.handles.rows }) h.rest;
}

-- ---- a group, and the groups one after another

pub group-left-whole : (t now new : PageTables) (rg : ℕ) → LeavesHandles t now rg (length t.handles.classes) → LeavesTargets now new rg → LeavesGroup t new rg
group-left-whole t now new rg h k = record {
  leaves = leaves-on t now new h.leaves k.leaves;
  units = λ ruh low. none-left now new rg ruh k.leaves (h.none ruh low);
  targets = k.none;
  rest = k.handles ∙ h.rest ∙ ap (λ (x : HandleTable). record t.handles { rows = x.rows }) (sym k.handles);
}

pub groups-begin : (t : PageTables) → LeavesGroups t t 0
groups-begin t = record { leaves = leaves-none t; units = λ rg ruh low. absurd (omega (arith, low)); targets = λ rg lane low. absurd (omega (arith, low)); rest = refl }

pub groups-more : (t now new : PageTables) (rg : ℕ) → LeavesGroups t now rg → LeavesGroup now new rg → LeavesGroups t new (rg + 1)
groups-more t now new rg h k = record {
  leaves = leaves-on t now new h.leaves k.leaves;
  units = λ other ruh low handle. ⊎_elim
      (λ (same : other ≡ rg). ap (λ (g : ℕ). unit_of new g ruh) same ∙ k.units ruh (subst (λ (x : HandleTable). ruh < length x.classes) (sym h.rest) handle))
      (λ (ne : other ≢ rg). none-left now new other ruh k.leaves (h.units other ruh (omega (arith, low, ne)) handle))
      (cases_eq other rg);
  targets = λ other lane low. ⊎_elim
      (λ (same : other ≡ rg). ap (λ (g : ℕ). target_at (passes_at new g) lane) same ∙ k.targets lane)
      (λ (ne : other ≢ rg). untargeted-left now new other lane k.leaves (h.targets other lane (omega (arith, low, ne))))
      (cases_eq other rg);
  rest = k.rest ∙ ap (λ (x : HandleTable). record x { rows = new.handles.rows }) h.rest;
}
