-- A step of relocation keeps apart what was.
use Rattle.std.proofs.Common.{◌≡◌, ◌⊎◌, ℕ, ◌<◌, Bool, true, false, List, [], ◌∷◌, ◌++◌, Some, None, refl, sym, ◌∙◌, ap, subst, arith, inl, inr, ⊎_elim, eqb-true}
use Rattle.std.specs.Prelude.{◌==◌, IsTrue}
use Rattle.std.specs.List.{list_any}
use Rattle.fdp_base.specs.declared.config.Geometry.{Geometry}
use Rattle.fdp_base.specs.declared.entry.Copied.{Copied}
use Rattle.fdp_base.specs.declared.entry.Entry.{Entry}
use Rattle.fdp_base.specs.declared.entry.Entry.TheVariants as entries
use Rattle.fdp_base.specs.declared.entry.Spot.{Spot}
use Rattle.fdp_base.specs.Placement.{geometry_of}
use Rattle.fdp_base.specs.Spare.{data_spare}
use Rattle.fdp_book.specs.Book.{BookSeen, IsLonger, point_in, state_in, written_in}
use Rattle.fdp_book.specs.Relocating.{Relocates}
use Rattle.fdp_book.specs.fdp_collector.declared.step.Lost.TheVariants as lost
use Rattle.fdp_book.specs.fdp_collector.declared.step.Step.{Step}
use Rattle.fdp_book.specs.fdp_collector.declared.step.Step.TheVariants as steps
use Rattle.fdp_book.specs.fdp_collector.Copying.{Copies, IsCopied}
use Rattle.fdp_book.specs.fdp_collector.Ready.{Relocation, lane_at}
use Rattle.fdp_book.specs.fdp_collector.Step.{AddsCopy, IsCopyStep, Rests, SkipsPage}
use Rattle.fdp_book.proofs.fdp_collector.Readied.{open-cut}
use Rattle.fdp_flash.specs.declared.answer.Wrote.{Wrote}
use Rattle.fdp_flash.specs.declared.answer.Wrote.TheVariants as wrote
use Rattle.fdp_flash.specs.declared.cell.Cell.{Cell}
use Rattle.fdp_flash.specs.declared.cell.Cell.TheVariants.{Whole}
use Rattle.fdp_flash.specs.Answers.{Erases}
use Rattle.fdp_flash.specs.Cells.{EraseMayLeave, ProgramMayLeave}
use Rattle.fdp_flash.specs.FlashState.{FlashState}
use Rattle.fdp_flash.proofs.Pages.{erased_may_leave}
use Rattle.fdp_handles.specs.HandleTable.{HandleTable, reference_at}
use Rattle.fdp_isolation.specs.Isolated.{sets_placement, since_setting}
use Rattle.fdp_isolation.specs.Laned.{AreLaned, StandsOver}
use Rattle.fdp_isolation.proofs.Copying.{KeepsTargets, copied-fills, copied-pages, same-targets, used-targets, went-targets}
use Rattle.fdp_isolation.proofs.Entries.{IsQuietStep, put-before, put-cases, quiet-none, quiet-one}
use Rattle.fdp_isolation.proofs.Keeping.{FillsNoMore, GoesWay, laned-got, laned-longer, laned-still, taken-kept}
use Rattle.fdp_isolation.proofs.Pages.{KeepsPages, erase-keeps, program-others}
use Rattle.fdp_book.proofs.fdp_locations.Others.{ChangesPasses, passes-other}
use Rattle.fdp_book.proofs.fdp_locations.Owned.{owned-units}
use Rattle.fdp_owners.specs.declared.owner.Owner.{Owner}
use Rattle.fdp_owners.specs.OwnerTable.{OwnerTable, owner_at}
use Rattle.fdp_book.specs.fdp_pages.PageTables.{PageTables, passes_at, relocation_at}
use Rattle.fdp_passes.specs.declared.lane.Lane.{Lane}
use Rattle.fdp_passes.specs.GroupPasses.{GroupPasses, target_at}
use Rattle.fdp_rules.specs.Step.{Follows}
use Rattle.fdp_units.specs.UnitTable.{Cut, IsGroup}
use Rattle.std.proofs.lemmas.Bool.{cases_eq}
use Rattle.fdp_base.specs.EntryKinds.{puts_into}

module _ (old new : BookSeen) (before after : FlashState) (rg : ℕ) (may_erase : Bool) (told : IsTrue before.told) (geometry : before.geometry ≡ geometry_of old.config) (low : rg < old.config.groups) (kept : StandsOver old before.cells) (h : AreLaned old before.cells) where
  -- ---- what stays

  -- whose the pages are, what handles reference, and the passes of other groups
  record Stays : Type 0 where
    pub handles : new.pages.handles ≡ old.pages.handles
    pub owners : new.pages.owners ≡ old.pages.owners
    pub passes : ChangesPasses old.pages new.pages rg

  stays : (step : Step) → Relocates old new before after rg may_erase step → Stays
  stays step relocates = record {
    handles = ap (λ (t : PageTables). t.handles) relocates.rest;
    owners = ap (λ (t : PageTables). t.owners) relocates.rest;
    passes = ap (λ (t : PageTables). t.passes) relocates.rest;
  }

  fills : Stays → KeepsTargets (passes_at old.pages rg) (passes_at new.pages rg) → FillsNoMore old.pages new.pages
  fills same keeps = record {
    classes = ap (λ (x : HandleTable). x.classes) same.handles;
    filled = λ k ruh unit e. ap (λ (x : HandleTable). (reference_at x k ruh).unit) (sym same.handles) ∙ e;
    targets = λ k unit lane e. ⊎_elim
        (λ (here : k ≡ rg). ap (λ (j : ℕ). target_at (passes_at old.pages j) lane) here ∙ keeps lane unit (ap (λ (j : ℕ). target_at (passes_at new.pages j) lane) (sym here) ∙ e))
        (λ ne. ap (λ (p : GroupPasses). target_at p lane) (sym (passes-other old.pages new.pages rg k same.passes ne)) ∙ e)
        (cases_eq k rg);
  }

  before-owner : Stays → (spot : Spot) (x : Owner) → owner_at new.pages.owners spot ≡ Some x → owner_at old.pages.owners spot ≡ Some x
  before-owner same spot x e = ap (λ (o : OwnerTable). owner_at o spot) (sym same.owners) ∙ e

  there : IsGroup old.pages.units rg
  there = subst (λ (k : Cut). rg < k.groups) (sym kept.known.units.cut) low

  -- ---- no page is put

  still : (es : List Entry) → IsQuietStep old new es → Stays → ((unit : ℕ) → list_any (puts_into unit) es ≡ false) → KeepsTargets (passes_at old.pages rg) (passes_at new.pages rg) → ((unit : ℕ) → KeepsPages old.config before.cells after.cells unit) → AreLaned new after.cells
  still es step same none keeps cells = laned-still old new es before.cells after.cells step (fills same keeps) (taken-kept old new es step.longer (λ spot x e. (x, before-owner same spot x e)) none) (λ unit lies. cells unit) none h

  same-cells : after.cells ≡ before.cells → (unit : ℕ) → KeepsPages old.config before.cells after.cells unit
  same-cells same = subst (λ (cells : List Cell). (unit : ℕ) → KeepsPages old.config before.cells cells unit) (sym same) (λ unit page spare bytes low is. is)

  rested : Rests (relocation_at old.pages rg) (relocation_at new.pages rg) before after → KeepsTargets (passes_at old.pages rg) (passes_at new.pages rg)
  rested rests = same-targets (passes_at old.pages rg) (passes_at new.pages rg) (ap (λ (s : Relocation). s.passes.targets) rests.group)

  gave-up : passes_at new.pages rg ≡ record (passes_at old.pages rg) { pass = None } → KeepsTargets (passes_at old.pages rg) (passes_at new.pages rg)
  gave-up passes = same-targets (passes_at old.pages rg) (passes_at new.pages rg) (ap (λ (p : GroupPasses). p.targets) passes)

  erased : (unit : ℕ) (result : Wrote) → Erases before after unit result → (u : ℕ) → KeepsPages old.config before.cells after.cells u
  erased unit wrote.Done erases = erase-keeps old.config before.cells after.cells unit (subst (λ (g : Geometry). EraseMayLeave g before.cells unit after.cells) geometry (erased_may_leave before.geometry before.cells unit after.cells (erases.done told refl)))
  erased unit wrote.Failed erases = erase-keeps old.config before.cells after.cells unit (subst (λ (g : Geometry). EraseMayLeave g before.cells unit after.cells) geometry (erases.failed told refl))

  -- ---- a copy

  -- what its program leaves
  pub program-left : (from to : Spot) (spare : List ℕ) (result : Wrote) → Copies before after from to spare result → (bytes : List ℕ) × ProgramMayLeave (geometry_of old.config) before.cells to spare bytes after.cells
  program-left from to spare wrote.Done copies =
      let copied : IsCopied (geometry_of old.config) from to spare before.cells after.cells = subst (λ (g : Geometry). IsCopied g from to spare before.cells after.cells) geometry (copies.done refl told) in
      (copied.bytes, record { cell = Whole spare copied.bytes; page = inr (inr refl); cells = copied.now })
  program-left from to spare wrote.Failed copies = subst (λ (g : Geometry). (bytes : List ℕ) × ProgramMayLeave g before.cells to spare bytes after.cells) geometry (copies.left refl told)

  module _ (step : Step) (is : IsCopyStep old.pages.owners old.pages.handles.classes rg (relocation_at old.pages rg) (relocation_at new.pages rg) before after step) where
    pub inside : is.to.page < old.config.unit_pages
    inside =
        let cut = open-cut (relocation_at old.pages rg) is.middle rg is.from.unit (lane_at old.pages.handles.classes is.owner) is.to.unit is.opened.target in
        let pages : is.middle.units.unit_pages ≡ old.config.unit_pages = ap (λ (k : Cut). k.unit_pages) (cut ∙ kept.known.units.cut) in
        let within = is.opened.within in
        omega (arith, pages, within)

    -- the pages of the target, whatever the program left
    pub copy-pages : (image : List Cell) (bytes : List ℕ) → ProgramMayLeave (geometry_of old.config) before.cells is.to (data_spare is.owner.spare) bytes image → GoesWay old.config (state_in old).generation old.pages.handles.classes image is.to.unit (lane_at old.pages.handles.classes is.owner)
    copy-pages image bytes left =
        let groups = kept.known.config.ranges.groups in
        copied-pages old.config (state_in old) old.entries (since_setting old.entries) old.pages before.cells rg (state_in old).generation kept.known.units kept.known.joined kept.holds.blank there h.laned is.from is.to is.owner is.middle is.due is.owned is.opened image bytes
        (owned-units old.config (point_in old) (written_in old) kept.known.led.at old.pages kept.known.led.led is.from is.owner is.owned) (omega (arith, groups.1)) kept.known.generation inside left

    copied : (es : List Entry) (result : Wrote) → IsQuietStep old new es → Stays → Copies before after is.from is.to (data_spare is.owner.spare) result → KeepsTargets is.middle.passes (passes_at new.pages rg)
        → ((xs : List Entry) (other : ℕ) → IsTrue (list_any (puts_into other) (xs ++ es)) → IsTrue (list_any (puts_into other) xs) ⊎ (other ≡ is.to.unit)) → AreLaned new after.cells
    copied es result quiet same copies keeps puts =
        let left = program-left is.from is.to (data_spare is.owner.spare) result copies in
        laned-longer old new es after.cells quiet
        (laned-got old.config (state_in old).generation old.entries new.entries (since_setting old.entries) (since_setting old.entries ++ es) old.pages new.pages before.cells after.cells is.to.unit (lane_at old.pages.handles.classes is.owner)
        (copied-fills old.config (state_in old) old.entries (since_setting old.entries) old.pages before.cells rg (state_in old).generation kept.known.units kept.known.joined kept.holds.blank there h.laned is.from is.to is.owner is.middle is.due is.owned is.opened new.pages after.cells same.handles same.passes keeps)
        (λ other ne taken. ⊎_elim
        (λ owned. inl (owned.0, owned.1, before-owner same owned.0 owned.1 owned.2, owned.3))
        (λ put. ⊎_elim (λ was. inr was) (λ (here : other ≡ is.to.unit). absurd (ne here)) (puts old.entries other (subst (λ (xs : List Entry). IsTrue (list_any (puts_into other) xs)) quiet.longer.entries_are put)))
        taken)
        (program-others old.config before.cells after.cells is.to (data_spare is.owner.spare) left.0 left.1 inside)
        (copy-pages after.cells left.0 left.1)
        (puts (since_setting old.entries)) h.laned)

  -- the targets after it
  added-targets : (middle : Relocation) (lane : Lane) (copy : Copied) → AddsCopy middle (relocation_at new.pages rg) lane copy → KeepsTargets middle.passes (passes_at new.pages rg)
  added-targets middle lane copy adds way unit e =
      used-targets middle.passes adds.passes middle.units new.pages.units lane copy.to.unit adds.used way unit (ap (λ (p : GroupPasses). target_at p way) (sym adds.copied) ∙ e)

  skipped-targets : (middle : Relocation) (lane : Lane) (unit : ℕ) → SkipsPage middle (relocation_at new.pages rg) old.pages.owners lane unit → KeepsTargets middle.passes (passes_at new.pages rg)
  skipped-targets middle lane unit skips way other e =
      used-targets middle.passes skips.passes middle.units new.pages.units lane unit skips.used way other
      (same-targets skips.passes (passes_at new.pages rg) (ap (λ (p : GroupPasses). p.targets) skips.left ∙ went-targets skips.passes new.pages.units old.pages.owners lane) way other e)

  -- ---- each step

  quiet : (e : Entry) → IsLonger old new (e ∷ []) → ((told : Bool) → Follows told old.config (point_in old) e) → sets_placement e ≡ false → IsQuietStep old new (e ∷ [])
  quiet e longer follows none = quiet-one true old new e longer none kept.known.orderly (follows true) h.placed

  put-here : (copy : Copied) (to : Spot) → copy.to.unit ≡ to.unit → (xs : List Entry) (other : ℕ) → IsTrue (list_any (puts_into other) (xs ++ entries.Copied copy ∷ [])) → IsTrue (list_any (puts_into other) xs) ⊎ (other ≡ to.unit)
  put-here copy to same xs other put = ⊎_elim inl (λ (here : IsTrue (copy.to.unit == other)). inr (sym (eqb-true copy.to.unit other here) ∙ same)) (put-cases other xs (entries.Copied copy) put)

  pub relocated : (step : Step) → Relocates old new before after rg may_erase step → AreLaned new after.cells
  relocated steps.Nothing r = still [] (quiet-none old new r.longer h.placed) (stays steps.Nothing r) (λ unit. refl) (rested r.is.1) (same-cells (r.is.1.flash.cells told))
  relocated (steps.Copied copy) r =
      copied (steps.Copied copy) r.is (entries.Copied copy ∷ []) wrote.Done (quiet (entries.Copied copy) r.longer r.follows refl) (stays (steps.Copied copy) r) r.is.ended.2
      (added-targets r.is.middle (lane_at old.pages.handles.classes r.is.owner) copy r.is.ended.1)
      (put-here copy r.is.to (ap (λ (x : Copied). x.to.unit) r.is.ended.0))
  relocated steps.ReadyToMove r = still [] (quiet-none old new r.longer h.placed) (stays steps.ReadyToMove r) (λ unit. refl) (rested r.is.1) (same-cells (r.is.1.flash.cells told))
  relocated (steps.Erased unit) r =
      still (entries.Erased (record { unit = unit }) ∷ []) (quiet (entries.Erased (record { unit = unit })) r.longer r.follows refl) (stays (steps.Erased unit) r) (λ u. refl) (gave-up r.is.2.passes) (erased unit wrote.Done r.is.2.flash)
  relocated steps.EraseDue r = still [] (quiet-none old new r.longer h.placed) (stays steps.EraseDue r) (λ unit. refl) (rested r.is.2) (same-cells (r.is.2.flash.cells told))
  relocated steps.Starved r =
      still (entries.Worn (record { rg = rg }) ∷ []) (quiet (entries.Worn (record { rg = rg })) r.longer r.follows refl) (stays steps.Starved r) (λ u. refl) (gave-up r.is.starved.passes) (same-cells (r.is.flash.cells told))
  relocated (steps.Fault lost.None) r =
      copied (steps.Fault lost.None) r.is [] wrote.Failed (quiet-none old new r.longer h.placed) (stays (steps.Fault lost.None) r) r.is.ended.1
      (skipped-targets r.is.middle (lane_at old.pages.handles.classes r.is.owner) r.is.to.unit r.is.ended.0)
      (λ xs other put. inl (put-before other xs [] refl put))
  relocated (steps.Fault (lost.Aside unit)) r =
      still (entries.Aside (record { unit = unit }) ∷ []) (quiet (entries.Aside (record { unit = unit })) r.longer r.follows refl) (stays (steps.Fault (lost.Aside unit)) r) (λ u. refl) (gave-up r.is.aside.passes) (same-cells (r.is.flash.read.cells told))
  relocated (steps.Fault (lost.Retired unit)) r =
      still (entries.Retired (record { unit = unit }) ∷ []) (quiet (entries.Retired (record { unit = unit })) r.longer r.follows refl) (stays (steps.Fault (lost.Retired unit)) r) (λ u. refl) (gave-up r.is.2.passes) (erased unit wrote.Failed r.is.2.flash)

pub laned-relocated : (old new : BookSeen) (before after : FlashState) (rg : ℕ) (may_erase : Bool) (step : Step) → IsTrue before.told → before.geometry ≡ geometry_of old.config → rg < old.config.groups
    → StandsOver old before.cells → Relocates old new before after rg may_erase step
    → AreLaned old before.cells → AreLaned new after.cells
laned-relocated old new before after rg may_erase step told geometry low kept relocates h = relocated old new before after rg may_erase told geometry low kept h step relocates
