-- Each step of relocation leaves alone what had been used.
use Rattle.std.proofs.Common.{◌≡◌, ◌≢◌, ◌⊎◌, ℕ, ◌<◌, Bool, false, List, [], ◌∷◌, ◌++◌, Some, refl, sym, ◌∙◌, ap, subst, inl, ⊎_elim, ne_eqb, eq-eqb}
use Rattle.std.specs.Prelude.{◌||◌, IsTrue, slice_get}
use Rattle.std.specs.List.{list_any}
use Rattle.std.proofs.lemmas.Bool.{cases_eq}
use Rattle.fdp_base.specs.declared.config.Geometry.{Geometry}
use Rattle.fdp_base.specs.declared.entry.Copied.{Copied}
use Rattle.fdp_base.specs.declared.entry.Entry.{Entry}
use Rattle.fdp_base.specs.declared.entry.Entry.TheVariants as entries
use Rattle.fdp_base.specs.Placement.{geometry_of}
use Rattle.fdp_base.specs.Spare.{data_spare}
use Rattle.fdp_base.specs.EntryKinds.{empties, puts_into}
use Rattle.fdp_book.specs.Book.{BookSeen, state_in}
use Rattle.fdp_book.specs.Relocating.{Relocates, told_by}
use Rattle.fdp_book.specs.fdp_collector.declared.step.Lost.TheVariants as lost
use Rattle.fdp_book.specs.fdp_collector.declared.step.Step.{Step}
use Rattle.fdp_book.specs.fdp_collector.declared.step.Step.TheVariants as steps
use Rattle.fdp_book.specs.fdp_collector.Copying.{Copies}
use Rattle.fdp_book.specs.fdp_collector.Ready.{Relocation, lane_at}
use Rattle.fdp_book.specs.fdp_collector.Step.{IsCopyStep, IsStep, Rests}
use Rattle.fdp_book.proofs.fdp_collector.Kept.{changed-here, changed-other}
use Rattle.fdp_book.proofs.fdp_collector.Readied.{IsHaving, IsTaking}
use Rattle.fdp_flash.specs.declared.answer.Wrote.{Wrote}
use Rattle.fdp_flash.specs.declared.answer.Wrote.TheVariants as wrote
use Rattle.fdp_flash.specs.declared.cell.Cell.{Cell}
use Rattle.fdp_flash.specs.declared.cell.Cell.TheVariants.{Blank, Torn}
use Rattle.fdp_flash.specs.Answers.{Erases}
use Rattle.fdp_flash.specs.Cells.{EraseMayLeave, ProgramMayLeave}
use Rattle.fdp_flash.specs.FlashState.{FlashState}
use Rattle.fdp_flash.specs.Layout.{page_number}
use Rattle.fdp_flash.proofs.Pages.{erased_may_leave, program_other_unit, same_outside_page}
use Rattle.fdp_image.specs.Roomy.{page_in}
use Rattle.fdp_isolation.specs.Alone.{AreLeftAlone, gets_none}
use Rattle.fdp_isolation.specs.Isolated.{IsWornDown, since_setting}
use Rattle.fdp_isolation.specs.Laned.{AreLaned, StandsOver}
use Rattle.fdp_isolation.proofs.Copying.{is-opened}
use Rattle.fdp_isolation.proofs.Entries.{no}
use Rattle.fdp_isolation.proofs.Leaving.{LeavesUnit, alone-step}
use Rattle.fdp_isolation.proofs.Relocated.{inside, program-left}
use Rattle.fdp_book.specs.fdp_pages.PageTables.{relocation_at}
use Rattle.fdp_passes.specs.GroupPasses.{GroupPasses}
use Rattle.fdp_passes.specs.Targets.{UsesPage}
use Rattle.fdp_units.specs.declared.data_unit.DataUnit.{DataUnit}
use Rattle.fdp_units.specs.declared.state.UnitState.{UnitState}
use Rattle.fdp_units.specs.declared.state.UnitState.TheVariants.{Free, Referenced, Target, Closed, Retired, Aside}
use Rattle.fdp_units.specs.DataUnits.{is_free}
use Rattle.fdp_units.specs.UnitTable.{Changes, Cut, IsGroup, UnitTable, state_at, unit_at}

-- a unit that gets no page is neither free nor a target
none-open : (state : UnitState) → IsTrue (gets_none state) → (state ≡ Target) ⊎ IsTrue (is_free state) → ⊥
none-open state full = ⊎_elim (λ (target : state ≡ Target). no (sym (sym (ap gets_none target) ∙ full))) (free state full) where
  free : (x : UnitState) → IsTrue (gets_none x) → IsTrue (is_free x) → ⊥
  free Free a b = no (sym a)
  free Referenced a b = no (sym b)
  free Target a b = no (sym b)
  free Closed a b = no (sym b)
  free Retired a b = no (sym b)
  free Aside a b = no (sym b)

module _ (old new : BookSeen) (before after : FlashState) (rg : ℕ) (may_erase : Bool) (told : IsTrue before.told) (geometry : before.geometry ≡ geometry_of old.config) (low : rg < old.config.groups) (kept : StandsOver old before.cells) (laned : AreLaned old before.cells) where
  abbrev Leaves : List Entry → Type 0
  Leaves es = (unit : ℕ) → IsTrue (gets_none (state_at old.pages.units unit)) → LeavesUnit old.config old.pages new.pages es before.cells after.cells unit

  same-worn : after.cells ≡ before.cells → (unit : ℕ) → IsWornDown (geometry_of old.config) unit before.cells after.cells
  same-worn same unit = subst (λ (cells : List Cell). IsWornDown (geometry_of old.config) unit before.cells cells) (sym same) (λ page below. inl refl)

  -- the units are as they were, and so are the cells
  unchanged : (es : List Entry) → ((unit : ℕ) → list_any (puts_into unit) es ≡ false) → unit_at new.pages.units ≡ unit_at old.pages.units → after.cells ≡ before.cells → Leaves es
  unchanged es none units cells unit full = record {
    none = none unit;
    stands = λ still. ap (λ (f : ℕ → DataUnit). gets_none (f unit).state) units ∙ full;
    worn = λ still. same-worn cells unit;
  }

  -- ---- an erase

  erased-worn : (erased unit : ℕ) → EraseMayLeave (geometry_of old.config) before.cells erased after.cells → IsWornDown (geometry_of old.config) unit before.cells after.cells
  erased-worn erased unit left page below = ⊎_elim
      (λ (same : unit ≡ erased). subst (λ (u : ℕ). (slice_get after.cells (page_number (geometry_of old.config) (page_in u page)) ≡ slice_get before.cells (page_number (geometry_of old.config) (page_in u page))) ⊎ (slice_get after.cells (page_number (geometry_of old.config) (page_in u page)) ≡ Some Blank) ⊎ (slice_get after.cells (page_number (geometry_of old.config) (page_in u page)) ≡ Some Torn)) (sym same) (left.pages page below))
      (λ (ne : unit ≢ erased). inl (same_outside_page (geometry_of old.config) erased before.cells after.cells (page_in unit page) left.others below ne))
      (cases_eq unit erased)

  -- one unit became another, which gets no page, or was erased
  became : (es : List Entry) (changed : ℕ) (x : DataUnit) → ((unit : ℕ) → list_any (puts_into unit) es ≡ false) → Changes old.pages.units new.pages.units changed x → (list_any (empties changed) es ≡ false → IsTrue (gets_none x.state)) → ((unit : ℕ) → IsWornDown (geometry_of old.config) unit before.cells after.cells) → Leaves es
  became es changed x none change full worn unit was = record {
    none = none unit;
    stands = λ still. ⊎_elim
        (λ (same : unit ≡ changed).
        ap (λ (u : ℕ). gets_none (state_at new.pages.units u)) same ∙ ap (λ (y : DataUnit). gets_none y.state) (changed-here old.pages.units new.pages.units changed x change)
        ∙ full (subst (λ (u : ℕ). list_any (empties u) es ≡ false) same still))
        (λ (ne : unit ≢ changed). ap (λ (y : DataUnit). gets_none y.state) (changed-other old.pages.units new.pages.units changed unit x change ne) ∙ was)
        (cases_eq unit changed);
    worn = λ still. worn unit;
  }

  -- ---- a copy

  module _ (step : Step) (is : IsCopyStep old.pages.owners old.pages.handles.classes rg (relocation_at old.pages rg) (relocation_at new.pages rg) before after step) where
    there : IsGroup old.pages.units rg
    there = subst (λ (k : Cut). rg < k.groups) (sym kept.known.units.cut) low

    away : (unit : ℕ) → IsTrue (gets_none (state_at old.pages.units unit)) → unit ≢ is.to.unit
    away unit full same =
        none-open (state_at old.pages.units unit) full
        (subst (λ (u : ℕ). (state_at old.pages.units u ≡ Target) ⊎ IsTrue (is_free (state_at old.pages.units u))) (sym same)
        (is-opened old.config (state_in old) old.entries (since_setting old.entries) old.pages before.cells rg (state_in old).generation kept.known.units kept.known.joined kept.holds.blank there laned.laned is.from is.to is.owner is.middle is.due is.owned is.opened).stands)

    copied : (es : List Entry) (result : Wrote) (passes : GroupPasses) → Copies before after is.from is.to (data_spare is.owner.spare) result → UsesPage is.middle.passes passes is.middle.units new.pages.units (lane_at old.pages.handles.classes is.owner) is.to.unit
        → ((unit : ℕ) → unit ≢ is.to.unit → list_any (puts_into unit) es ≡ false) → Leaves es
    copied es result passes copies used none unit full = record {
      none = none unit (away unit full);
      stands = λ still. ap (λ (y : DataUnit). gets_none y.state) (changed-other is.middle.units new.pages.units is.to.unit unit _ used.page (away unit full)) ∙ opened;
      worn = λ still page below. inl (program_other_unit (geometry_of old.config) before.cells is.to (data_spare is.owner.spare) left.0 after.cells unit left.1
          (inside old new before after rg may_erase told geometry low kept laned step is) (λ same. away unit full (sym same)) page below);
    } where
      left : (bytes : List ℕ) × ProgramMayLeave (geometry_of old.config) before.cells is.to (data_spare is.owner.spare) bytes after.cells
      left = program-left old new before after rg may_erase told geometry low kept laned is.from is.to (data_spare is.owner.spare) result copies

      opened : IsTrue (gets_none (state_at is.middle.units unit))
      opened = ⊎_elim
          (λ (h : IsHaving (relocation_at old.pages rg) is.middle is.from.unit (lane_at old.pages.handles.classes is.owner) is.to.unit). ap (λ (t : UnitTable). gets_none (state_at t unit)) h.units ∙ full)
          (λ (h : IsTaking (relocation_at old.pages rg) is.middle rg is.from.unit (lane_at old.pages.handles.classes is.owner) is.to.unit).
          ap (λ (y : DataUnit). gets_none y.state) (changed-other old.pages.units is.middle.units is.to.unit unit _ h.taken (away unit full)) ∙ full)
          is.opened.target

  -- ---- each step

  erased : (unit : ℕ) (result : Wrote) → Erases before after unit result → (u : ℕ) → IsWornDown (geometry_of old.config) u before.cells after.cells
  erased unit wrote.Done erases u = erased-worn unit u (subst (λ (g : Geometry). EraseMayLeave g before.cells unit after.cells) geometry (erased_may_leave before.geometry before.cells unit after.cells (erases.done told refl)))
  erased unit wrote.Failed erases u = erased-worn unit u (subst (λ (g : Geometry). EraseMayLeave g before.cells unit after.cells) geometry (erases.failed told refl))

  rested : Rests (relocation_at old.pages rg) (relocation_at new.pages rg) before after → Leaves []
  rested rests = unchanged [] (λ unit. refl) (ap (λ (s : Relocation). unit_at s.units) rests.group) (rests.flash.cells told)

  pub relocation-leaves : (step : Step) → IsStep old.pages.owners old.pages.handles.classes rg may_erase (relocation_at old.pages rg) (relocation_at new.pages rg) before after step → Leaves (told_by rg step)
  relocation-leaves steps.Nothing is = rested is.1
  relocation-leaves (steps.Copied copy) is =
      copied (steps.Copied copy) is (entries.Copied copy ∷ []) wrote.Done is.ended.1.passes is.ended.2
      (subst (λ (x : Copied). UsesPage is.middle.passes is.ended.1.passes is.middle.units new.pages.units (lane_at old.pages.handles.classes is.owner) x.to.unit) is.ended.0 is.ended.1.used)
      (λ unit ne. ap (λ (b : Bool). b || false) (ne_eqb copy.to.unit unit (λ same. ne (sym same ∙ ap (λ (x : Copied). x.to.unit) is.ended.0))))
  relocation-leaves steps.ReadyToMove is = rested is.1
  relocation-leaves (steps.Erased unit) is =
      became (entries.Erased (record { unit = unit }) ∷ []) unit _ (λ u. refl) is.2.becomes (λ still. absurd (no (sym (ap (λ (b : Bool). b || false) (eq-eqb unit unit refl)) ∙ still))) (erased unit wrote.Done is.2.flash)
  relocation-leaves steps.EraseDue is = rested is.2
  relocation-leaves steps.Starved is = unchanged (entries.Worn (record { rg = rg }) ∷ []) (λ u. refl) is.starved.units (is.flash.cells told)
  relocation-leaves (steps.Fault lost.None) is = copied (steps.Fault lost.None) is [] wrote.Failed is.ended.0.passes is.ended.1 is.ended.0.used (λ unit ne. refl)
  relocation-leaves (steps.Fault (lost.Aside unit)) is = became (entries.Aside (record { unit = unit }) ∷ []) unit _ (λ u. refl) is.aside.becomes (λ still. refl) (same-worn (is.flash.read.cells told))
  relocation-leaves (steps.Fault (lost.Retired unit)) is = became (entries.Retired (record { unit = unit }) ∷ []) unit _ (λ u. refl) is.2.becomes (λ still. refl) (erased unit wrote.Failed is.2.flash)

pub alone-relocated : (first : List Cell) (since : List Entry) (old new : BookSeen) (before after : FlashState) (rg : ℕ) (may_erase : Bool) (step : Step) → IsTrue before.told → before.geometry ≡ geometry_of old.config → rg < old.config.groups
    → StandsOver old before.cells → AreLaned old before.cells → Relocates old new before after rg may_erase step
    → AreLeftAlone first since old before.cells → AreLeftAlone first (since ++ told_by rg step) new after.cells
alone-relocated first since old new before after rg may_erase step told geometry low kept laned relocates h =
    alone-step first since old new (told_by rg step) before.cells after.cells relocates.longer (relocation-leaves old new before after rg may_erase told geometry low kept laned step relocates.is) h
