-- What a step of relocation in one group leaves of the units and of the passes of other groups.
use Rattle.std.proofs.Common.{◌≡◌, ◌≢◌, ℕ, ◌+◌, ◌*◌, ◌/◌, ◌<◌, Bool, List, [], Option, Some, None, refl, sym, ◌∙◌, ap, subst, arith, ⊎_elim, inl, inr, get_or-set_other}
use Rattle.std.specs.Prelude.{Contains, nat_lt, slice_index_or, slice_set}
use Rattle.std.specs.Option.{option_map_or}
use Rattle.std.proofs.lemmas.Bool.{cases_eq}
use Rattle.fdp_base.specs.declared.config.DriveConfig.{DriveConfig}
use Rattle.fdp_base.specs.declared.entry.Copied.{Copied}
use Rattle.fdp_base.specs.declared.entry.Spot.{Spot}
use Rattle.fdp_base.specs.Numbers.{with_at}
use Rattle.fdp_base.specs.Placement.{classes_of}
use Rattle.fdp_pages.specs.fdp_collector.Ready.{Relocation}
use Rattle.fdp_pages.proofs.fdp_collector.Kept.{unit-kept}
use Rattle.fdp_pages.proofs.fdp_collector.Opening.{open-counts}
use Rattle.fdp_pages.proofs.fdp_collector.Readied.{IsHaving, IsTaking, unlost}
use Rattle.fdp_handles.specs.HandleTable.{HandleTable, reference_at}
use Rattle.fdp_locations.specs.Located.{AreUnitsOf, next_in}
use Rattle.fdp_locations.proofs.Relocated.{ArePassedBy}
use Rattle.fdp_locations.proofs.Units.{AreLostAlike, alike-self, changed-alike, changed-next, unit-same, used-kept}
use Rattle.fdp_pages.specs.Joined.{AreFilled, AreJoined, IsRelocating}
use Rattle.fdp_pages.specs.PageTables.{PageTables, copies_at, no_passes, passes_at, relocation_at}
use Rattle.fdp_passes.specs.declared.lane.Lane.{Lane}
use Rattle.fdp_passes.specs.Due.{copies_in}
use Rattle.fdp_passes.specs.GroupPasses.{GroupPasses, Pass}
use Rattle.fdp_passes.specs.Targets.{OpensPage, OpensTarget, UsesPage}
use Rattle.fdp_pointers.specs.Facts.{with_next}
use Rattle.fdp_rules.specs.PlainState.{PlainState, Reference}
use Rattle.fdp_rules.specs.Sites.{group_of}
use Rattle.fdp_rules.specs.Step.{IsDataUnit, IsUnreferenced}
use Rattle.fdp_trails.specs.Followed.{IsLeft}
use Rattle.fdp_units.specs.declared.state.UnitState.TheVariants.{Referenced, Target}
use Rattle.fdp_units.specs.DataUnits.{is_lost}
use Rattle.fdp_units.specs.UnitTable.{Cut, IsGroup, IsUnit, UnitTable, cut_of, group_in, is_worn_at, state_at, unit_at}

-- ---- by the configuration

pub group-same : (c : DriveConfig) (s : PlainState) (t : PageTables) (unit : ℕ) → AreUnitsOf c s t → group_of c unit ≡ group_in t.units unit
group-same c s t unit h = ap (λ (n : ℕ). unit / n) h.agrees.units

pub data-unit : (c : DriveConfig) (s : PlainState) (t : PageTables) (unit : ℕ) → AreUnitsOf c s t → IsUnit t.units unit → IsDataUnit c unit
data-unit c s t unit h there = subst (λ (x : Cut). unit < x.groups * x.group_units) h.cut there

pub is-group : (c : DriveConfig) (s : PlainState) (t : PageTables) (rg : ℕ) → AreUnitsOf c s t → rg < c.groups → IsGroup t.units rg
is-group c s t rg h low = subst (λ (x : Cut). rg < x.groups) (sym h.cut) low

-- both pages of a copy of a pass lie in its group
pub copy-groups : (t : PageTables) (rg : ℕ) (copy : Copied) → IsRelocating (relocation_at t rg) t.owners t.handles.classes rg → Contains (copies_at t rg) copy → (group_in t.units copy.from.unit ≡ rg) × (group_in t.units copy.to.unit ≡ rg)
copy-groups t rg copy r among = cases (passes_at t rg).pass refl among where
  cases : (o : Option Pass) → (passes_at t rg).pass ≡ o → Contains (option_map_or (λ (pass : Pass). pass.copies) o []) copy → (group_in t.units copy.from.unit ≡ rg) × (group_in t.units copy.to.unit ≡ rg)
  cases None e has = absurd (omega (arith, has.1))
  cases (Some pass) e has = let lie = (r.copied pass e).lie copy has in (ap (group_in t.units) lie.victim ∙ (r.ready.victim pass e).group, lie.group)

-- a unit that no handle fills is not referenced
pub unreferenced : (c : DriveConfig) (s : PlainState) (t : PageTables) (unit : ℕ) → AreUnitsOf c s t → AreFilled t.handles t.units t.owners → (state_at t.units unit ≡ Referenced → ⊥) → IsUnreferenced s unit
unreferenced c s t unit h filled other rg ruh e =
    other (filled.fills rg ruh unit (ap (λ (x : Reference). x.unit) (sym (h.references rg ruh)) ∙ e)).stands.stands

-- ---- units that are out of use

pub alike-joined : (a b d : UnitTable) → AreLostAlike a b → AreLostAlike b d → AreLostAlike a d
alike-joined a b d h k = record {
  cut = k.cut ∙ h.cut;
  lost = λ unit there. k.lost unit (unit-kept a b unit h.cut there) ∙ h.lost unit there;
  worn = k.worn ∙ h.worn;
}

pub opened-alike : (s now : Relocation) (rg victim : ℕ) (lane : Lane) (unit : ℕ) → OpensTarget s.passes now.passes s.units now.units rg victim lane unit → AreLostAlike s.units now.units
opened-alike s now rg victim lane unit =
    ⊎_elim
    (λ (h : IsHaving s now victim lane unit). subst (λ (t : UnitTable). AreLostAlike s.units t) (sym h.units) (alike-self s.units))
    (λ (h : IsTaking s now rg victim lane unit). changed-alike s.units now.units unit _ h.taken h.worn (sym (unlost (state_at s.units unit) h.free.is_free.free)))

pub used-alike : (s : Relocation) (passes : GroupPasses) (new : UnitTable) (lane : Lane) (unit : ℕ) → state_at s.units unit ≡ Target → UsesPage s.passes passes s.units new lane unit → AreLostAlike s.units new
used-alike s passes new lane unit is h =
    changed-alike s.units new unit _ h.page h.worn
    (used-kept (nat_lt ((unit_at s.units unit).next + 1) s.units.unit_pages) (state_at s.units unit) (ap is_lost is) ∙ sym (ap is_lost is))

-- the next page of each unit, where one was found and used
pub copy-next : (s middle : Relocation) (passes : GroupPasses) (new : UnitTable) (rg victim : ℕ) (lane : Lane) (to : Spot) → OpensPage s.passes middle.passes s.units middle.units rg victim lane to → UsesPage middle.passes passes middle.units new lane to.unit → (unit : ℕ) → next_in new unit ≡ with_next (next_in s.units) to unit
copy-next s middle passes new rg victim lane to opened uses unit =
    changed-next middle.units new to.unit _ uses.page unit
    ∙ ap (λ (f : ℕ → ℕ). with_at f to.unit (next_in middle.units to.unit + 1) unit) same
    ∙ ap (λ (n : ℕ). with_at (next_in s.units) to.unit (n + 1) unit) (sym opened.page)
  where
    same : next_in middle.units ≡ next_in s.units
    same = λ d k. (open-counts s middle rg victim lane to.unit k opened.target).next d

-- ---- the passes of other groups

-- those of one group alone became others
abbrev pub ChangesPasses : PageTables → PageTables → ℕ → Type 0
ChangesPasses t now rg = now.passes ≡ slice_set t.passes rg (passes_at now rg)

pub passes-other : (t now : PageTables) (rg k : ℕ) → ChangesPasses t now rg → k ≢ rg → passes_at now k ≡ passes_at t k
passes-other t now rg k h ne = ap (λ (xs : List GroupPasses). slice_index_or xs k no_passes) h ∙ get_or-set_other t.passes rg k (passes_at now rg) no_passes ne

-- a group has no copies any more
pub ended-left : (t now : PageTables) (rg : ℕ) → ChangesPasses t now rg → copies_at now rg ≡ [] → (k : ℕ) → IsLeft (passes_at t k) (passes_at now k)
ended-left t now rg h none k =
    ⊎_elim
    (λ (e : k ≡ rg). inr (ap (copies_at now) e ∙ none))
    (λ (ne : k ≢ rg). inl (ap (λ (p : GroupPasses). p.pass) (passes-other t now rg k h ne)))
    (cases_eq k rg)

pub ended-fewer : (t now : PageTables) (rg : ℕ) → ChangesPasses t now rg → copies_at now rg ≡ [] → (k : ℕ) (x : Copied) → Contains (copies_at now k) x → Contains (copies_at t k) x
ended-fewer t now rg h none k x among =
    ⊎_elim
    (λ (e : k ≡ rg). let never : Contains [] x = subst (λ (xs : List Copied). Contains xs x) (ap (copies_at now) e ∙ none) among in absurd (omega (arith, never.1)))
    (λ (ne : k ≢ rg). subst (λ (p : GroupPasses). Contains (copies_in p) x) (passes-other t now rg k h ne) among)
    (cases_eq k rg)

-- a copy of a group goes from a unit of it to one
copy-within : (t : PageTables) (k : ℕ) (x : Copied) → IsRelocating (relocation_at t k) t.owners t.handles.classes k → Contains (copies_at t k) x → (group_in t.units x.from.unit ≡ k) × (group_in t.units x.to.unit ≡ k)
copy-within t k x r among = cases (passes_at t k).pass refl among where
  cases : (o : Option Pass) → (passes_at t k).pass ≡ o → Contains (option_map_or (λ (pass : Pass). pass.copies) o []) x → (group_in t.units x.from.unit ≡ k) × (group_in t.units x.to.unit ≡ k)
  cases None e has = absurd (omega (arith, has.1))
  cases (Some pass) e has =
      let lie = (r.copied pass e).lie x has in
      (ap (group_in t.units) lie.victim ∙ (r.ready.victim pass e).group, lie.group)

pub copies-apart : (t now : PageTables) (rg unit : ℕ) → AreJoined t → ChangesPasses t now rg → copies_at now rg ≡ [] → group_in t.units unit ≡ rg → (k : ℕ) → IsGroup t.units k → ArePassedBy unit (copies_at now k)
unfolding ArePassedBy
copies-apart t now rg unit joined h none own k there x among =
    ⊎_elim
    (λ (e : k ≡ rg). let never : Contains [] x = subst (λ (xs : List Copied). Contains xs x) (ap (copies_at now) e ∙ none) among in absurd (omega (arith, never.1)))
    (λ (ne : k ≢ rg).
    let within = copy-within t k x (joined.groups k there) (ended-fewer t now rg h none k x among) in
    (λ same. ne (sym within.0 ∙ ap (group_in t.units) same ∙ own), λ same. ne (sym within.1 ∙ ap (group_in t.units) same ∙ own)))
    (cases_eq k rg)

-- ---- the units after an entry

-- the setting and the references of two states are the same
pub record HasSameHandles (s now : PlainState) : Type 0 where
  pub enabled : now.enabled ≡ s.enabled
  pub index : now.index ≡ s.index
  pub references : now.references ≡ s.references

-- what an entry makes of the units that are lost, and of the groups that are worn, the table makes of them too
pub units-given : (c : DriveConfig) (s n : PlainState) (t now : PageTables) → HasSameHandles s n → cut_of now.units ≡ cut_of t.units → ((k : ℕ) → IsUnit t.units k → s.is_lost k ≡ is_lost (state_at t.units k) → n.is_lost k ≡ is_lost (state_at now.units k)) →
    ((k : ℕ) → s.is_worn k ≡ is_worn_at t.units k → n.is_worn k ≡ is_worn_at now.units k) → now.handles ≡ t.handles → AreUnitsOf c s t → AreUnitsOf c n now
units-given c s n t now same cut lost worn handles h = record {
  cut = cut ∙ h.cut;
  agrees = record {
    units = h.agrees.units ∙ sym (ap (λ (x : Cut). x.group_units) cut);
    lost = λ k there. let before : IsUnit t.units k = unit-same t.units now.units cut k there in lost k before (h.agrees.lost k before);
    worn = λ k. worn k (h.agrees.worn k);
  };
  unit_pages = h.unit_pages ∙ sym (ap (λ (x : HandleTable). x.unit_pages) handles);
  groups = h.groups ∙ sym (ap (λ (x : HandleTable). x.groups) handles);
  classes = ap (λ (b : Bool). classes_of c b n.index) same.enabled ∙ ap (classes_of c s.enabled) same.index ∙ h.classes ∙ sym (ap (λ (x : HandleTable). x.classes) handles);
  references = λ rg ruh. ap (λ (f : ℕ → ℕ → Reference). f rg ruh) same.references ∙ h.references rg ruh ∙ sym (ap (λ (x : HandleTable). reference_at x rg ruh) handles);
}
