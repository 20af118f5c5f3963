-- What stands before a page of a target is used stands after it.
use Rattle.std.proofs.Common.{◌≡◌, ◌≢◌, ℕ, ◌+◌, ◌-◌, ◌<◌, ◌≤◌, Bool, true, false, Option, Some, None, refl, ap, sym, ◌∙◌, subst, arith, ⊎_elim, inl, inr, get_or-set_other}
use Rattle.std.specs.Prelude.{◌⊎◌, nat_lt, slice_index_or, if◌then◌else◌}
use Rattle.std.specs.Option.{option_map_or}
use Rattle.std.proofs.lemmas.Bool.{cases_eq, ltb-false, ltb-true}
use Rattle.fdp_collector.specs.Ready.{AreLive, AreTargets, IsUnitOf, Relocation}
use Rattle.fdp_collector.proofs.Kept.{changed-here, changed-other, live-ended, unit-of-kept}
use Rattle.fdp_owners.specs.OwnerTable.{OwnerTable}
use Rattle.fdp_passes.specs.declared.lane.Lane.{Lane}
use Rattle.fdp_passes.specs.GroupPasses.{GroupPasses, slot_of, target_at}
use Rattle.fdp_passes.specs.Place.{has_taken}
use Rattle.fdp_passes.specs.Room.{left_in, room_in}
use Rattle.fdp_passes.specs.Targets.{UsesPage, with_target}
use Rattle.fdp_passes.proofs.Opened.{none-set}
use Rattle.fdp_units.specs.declared.data_unit.DataUnit.{DataUnit}
use Rattle.fdp_units.specs.declared.state.UnitState.TheVariants.{Target, Closed}
use Rattle.fdp_units.specs.DataUnits.{is_closed, is_free, used}
use Rattle.fdp_units.specs.UnitTable.{Cut, UnitTable, state_at, unit_at}

-- a target of a lane, whose next page is there
pub record IsUsable (s : Relocation) (lane : Lane) (unit : ℕ) : Type 0 where
  pub target : target_at s.passes lane ≡ Some unit
  pub opened : state_at s.units unit ≡ Target
  pub within : (unit_at s.units unit).next < s.units.unit_pages

-- a page is left in it still: it stays the target of its lane
pub record StaysTarget (s : Relocation) (passes : GroupPasses) (new : UnitTable) (unit : ℕ) : Type 0 where
  pub left : (unit_at s.units unit).next + 1 < s.units.unit_pages
  pub passes_are : passes ≡ s.passes
  pub state : state_at new unit ≡ Target

-- it was the last page: the lane has no target any more
pub record IsFilled (s : Relocation) (passes : GroupPasses) (new : UnitTable) (lane : Lane) (unit : ℕ) : Type 0 where
  pub last : s.units.unit_pages ≤ (unit_at s.units unit).next + 1
  pub passes_are : passes ≡ with_target lane None s.passes
  pub state : state_at new unit ≡ Closed

pub used-how : (s : Relocation) (passes : GroupPasses) (new : UnitTable) (lane : Lane) (unit : ℕ) → IsUsable s lane unit → UsesPage s.passes passes s.units new lane unit → StaysTarget s passes new unit ⊎ IsFilled s passes new lane unit
used-how s passes new lane unit is h = how (nat_lt ((unit_at s.units unit).next + 1) s.units.unit_pages) refl where
  becomes : state_at new unit ≡ (if nat_lt ((unit_at s.units unit).next + 1) s.units.unit_pages then state_at s.units unit else Closed)
  becomes = ap (λ (z : DataUnit). z.state) (changed-here s.units new unit _ h.page)

  how : (b : Bool) → nat_lt ((unit_at s.units unit).next + 1) s.units.unit_pages ≡ b → StaysTarget s passes new unit ⊎ IsFilled s passes new lane unit
  how true more =
      let now : state_at new unit ≡ Target = becomes ∙ ap (λ (b : Bool). if b then state_at s.units unit else Closed) more ∙ is.opened in
      inl (record { left = ltb-true _ _ more; passes_are = h.passes ∙ ap (λ (b : Bool). if b then with_target lane None s.passes else s.passes) (ap is_closed now); state = now })
  how false last =
      let now : state_at new unit ≡ Closed = becomes ∙ ap (λ (b : Bool). if b then state_at s.units unit else Closed) last in
      inr (record { last = ltb-false _ _ last; passes_are = h.passes ∙ ap (λ (b : Bool). if b then with_target lane None s.passes else s.passes) (ap is_closed now); state = now })

-- ---- the units

pub uses-live : (s : Relocation) (passes : GroupPasses) (new : UnitTable) (o : OwnerTable) (lane : Lane) (unit : ℕ) → AreLive s.units o → IsUsable s lane unit → UsesPage s.passes passes s.units new lane unit → AreLive new o
uses-live s passes new o lane unit live is h = live-ended s.units new o unit (used s.units.unit_pages (unit_at s.units unit)) live h.page (record {
  live = refl;
  used = λ page there. let below : page < (unit_at s.units unit).next = live.used (record { unit = unit; page = page }) there in omega (arith, below);
  unused = λ free. absurd (no (sym (unfree (nat_lt ((unit_at s.units unit).next + 1) s.units.unit_pages)) ∙ free));
}) where
  unfree : (b : Bool) → is_free (if b then state_at s.units unit else Closed) ≡ false
  unfree true = ap is_free is.opened
  unfree false = refl

  no : false ≡ true → ⊥
  no e = cc

-- a unit that is no target stays in its state
pub uses-other : (s : Relocation) (passes : GroupPasses) (new : UnitTable) (rg : ℕ) (lane : Lane) (unit other : ℕ) → IsUsable s lane unit → UsesPage s.passes passes s.units new lane unit → IsUnitOf s.units rg other Closed → IsUnitOf new rg other Closed
uses-other s passes new rg lane unit other is h own =
    let ne : other ≢ unit = λ same. apart (sym own.stands ∙ ap (state_at s.units) same ∙ is.opened) in
    unit-of-kept s.units new rg other Closed h.page.cut own (ap (λ (z : DataUnit). z.state) (changed-other s.units new unit other _ h.page ne)) where
      apart : Closed ≡ Target → ⊥
      apart e = cc

pub uses-targets : (s : Relocation) (passes : GroupPasses) (new : UnitTable) (rg : ℕ) (lane : Lane) (unit : ℕ) → AreTargets s.passes s.units rg → IsUsable s lane unit → UsesPage s.passes passes s.units new lane unit → AreTargets passes new rg
uses-targets s passes new rg lane unit old is h = ⊎_elim
    (λ (stays : StaysTarget s passes new unit). subst (λ (p : GroupPasses). AreTargets p new rg) (sym stays.passes_are) (record {
      targets = λ slot u e. let was = old.targets slot u e in unit-of-kept s.units new rg u Target h.page.cut was (⊎_elim
          (λ (same : u ≡ unit). ap (state_at new) same ∙ stays.state ∙ sym was.stands)
          (λ (ne : u ≢ unit). ap (λ (z : DataUnit). z.state) (changed-other s.units new unit u _ h.page ne))
          (cases_eq u unit));
      apart = old.apart;
    }))
    (λ (filled : IsFilled s passes new lane unit). subst (λ (p : GroupPasses). AreTargets p new rg) (sym filled.passes_are) (
    let before : (slot u : ℕ) → slice_index_or (with_target lane None s.passes).targets slot None ≡ Some u → (slot ≢ slot_of lane) × (slice_index_or s.passes.targets slot None ≡ Some u) = λ slot u e. ⊎_elim
    (λ (same : slot ≡ slot_of lane). absurd (never u (sym (none-set s.passes.targets (slot_of lane)) ∙ ap (λ (k : ℕ). slice_index_or (with_target lane None s.passes).targets k None) (sym same) ∙ e)))
    (λ (ne : slot ≢ slot_of lane). (ne, sym (get_or-set_other s.passes.targets (slot_of lane) slot None None ne) ∙ e))
    (cases_eq slot (slot_of lane)) in
    record {
      targets = λ slot u e.
          let own = before slot u e in
          let was = old.targets slot u own.1 in
          let ne : u ≢ unit = λ same. own.0 (old.apart slot (slot_of lane) unit (own.1 ∙ ap (λ (k : ℕ). Some k) same) is.target) in
          unit-of-kept s.units new rg u Target h.page.cut was (ap (λ (z : DataUnit). z.state) (changed-other s.units new unit u _ h.page ne));
      apart = λ slot other u e f. old.apart slot other u (before slot u e).1 (before other u f).1;
    }))
    (used-how s passes new lane unit is h) where
      never : (u : ℕ) → None ≡ Some u → ⊥
      never u e = cc

-- ---- the room

left-before : (s : Relocation) (lane : Lane) (unit : ℕ) → IsUsable s lane unit → left_in s.passes s.units lane ≡ s.units.unit_pages - (unit_at s.units unit).next
left-before s lane unit is = ap (λ (t : Option ℕ). option_map_or (λ (u : ℕ). s.units.unit_pages - (unit_at s.units u).next) t 0) is.target

-- a page less is left, whichever pass is under way
pub uses-room : (s : Relocation) (passes : GroupPasses) (new : UnitTable) (lane : Lane) (unit : ℕ) → IsUsable s lane unit → UsesPage s.passes passes s.units new lane unit → room_in passes new lane + 1 ≡ room_in s.passes s.units lane
uses-room s passes new lane unit is h =
    let before = left-before s lane unit is in
    let pages : new.unit_pages ≡ s.units.unit_pages = ap (λ (k : Cut). k.unit_pages) h.page.cut in
    let next : (unit_at new unit).next ≡ (unit_at s.units unit).next + 1 = ap (λ (z : DataUnit). z.next) (changed-here s.units new unit _ h.page) in
    let within = is.within in
    let same : (if has_taken s.passes then 0 else new.unit_pages) ≡ (if has_taken s.passes then 0 else s.units.unit_pages) = ap (λ (k : ℕ). if has_taken s.passes then 0 else k) pages in
    ⊎_elim
    (λ (stays : StaysTarget s passes new unit).
    let now : left_in s.passes new lane ≡ new.unit_pages - (unit_at new unit).next = ap (λ (t : Option ℕ). option_map_or (λ (u : ℕ). new.unit_pages - (unit_at new u).next) t 0) is.target in
    let left = stays.left in
    let room : room_in s.passes new lane + 1 ≡ room_in s.passes s.units lane = omega (arith, before, pages, next, same, now, left, within) in
    subst (λ (p : GroupPasses). room_in p new lane + 1 ≡ room_in s.passes s.units lane) (sym stays.passes_are) room)
    (λ (filled : IsFilled s passes new lane unit).
    let now : left_in (with_target lane None s.passes) new lane ≡ 0 = ap (λ (t : Option ℕ). option_map_or (λ (u : ℕ). new.unit_pages - (unit_at new u).next) t 0) (none-set s.passes.targets (slot_of lane)) in
    let last = filled.last in
    let room : room_in (with_target lane None s.passes) new lane + 1 ≡ room_in s.passes s.units lane = omega (arith, before, pages, next, same, now, last, within) in
    subst (λ (p : GroupPasses). room_in p new lane + 1 ≡ room_in s.passes s.units lane) (sym filled.passes_are) room)
    (used-how s passes new lane unit is h)

-- the pass is the same
pub uses-pass : (s : Relocation) (passes : GroupPasses) (new : UnitTable) (lane : Lane) (unit : ℕ) → IsUsable s lane unit → UsesPage s.passes passes s.units new lane unit → (passes.pass ≡ s.passes.pass) × (passes.unit_pages ≡ s.passes.unit_pages)
uses-pass s passes new lane unit is h = ⊎_elim
    (λ (stays : StaysTarget s passes new unit). (ap (λ (p : GroupPasses). p.pass) stays.passes_are, ap (λ (p : GroupPasses). p.unit_pages) stays.passes_are))
    (λ (filled : IsFilled s passes new lane unit). (ap (λ (p : GroupPasses). p.pass) filled.passes_are, ap (λ (p : GroupPasses). p.unit_pages) filled.passes_are))
    (used-how s passes new lane unit is h)
