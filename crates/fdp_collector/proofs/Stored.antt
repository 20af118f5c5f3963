-- What stands in the cells before a step stands there after it.
use Rattle.std.proofs.Common.{◌≡◌, ◌≢◌, ℕ, ◌+◌, ◌<◌, ◌≤◌, Bool, true, false, List, Option, Some, None, refl, ap, sym, ◌∙◌, subst, arith, ⊎_elim}
use Rattle.std.specs.Prelude.{IsFalse, IsTrue, is_some, slice_get}
use Rattle.std.proofs.lemmas.Bool.{cases_eq}
use Rattle.fdp_base.specs.declared.config.Class.{Class}
use Rattle.fdp_base.specs.declared.config.Geometry.{Geometry}
use Rattle.fdp_base.specs.declared.entry.Copied.{Copied}
use Rattle.fdp_base.specs.declared.entry.Spot.{Spot}
use Rattle.fdp_base.specs.Spare.{data_spare}
use Rattle.fdp_collector.specs.declared.step.Lost.TheVariants as lost
use Rattle.fdp_collector.specs.declared.step.Step.{Step}
use Rattle.fdp_collector.specs.declared.step.Step.TheVariants as steps
use Rattle.fdp_collector.specs.Copying.{Copies, IsSameBut}
use Rattle.fdp_collector.specs.Erasing.{state_after}
use Rattle.fdp_collector.specs.Ready.{AreOfFlash, HasData, IsBlankBehind, IsReady, IsStored, KeepsLive, Relocation, lane_at}
use Rattle.fdp_collector.specs.Step.{AddsCopy, EndsCopy, EndsInErase, GoesAside, IsCopyStep, IsStarved, IsStep, IsUnread, Rests}
use Rattle.fdp_collector.proofs.Kept.{changed-here, changed-other, unit-was}
use Rattle.fdp_collector.proofs.Opening.{open-counts, open-lost, open-unowned}
use Rattle.fdp_collector.proofs.Readied.{erase-keeps-live, open-cut, target-of}
use Rattle.fdp_flash.specs.declared.answer.Wrote.{Wrote}
use Rattle.fdp_flash.specs.declared.answer.Wrote.TheVariants as wrote
use Rattle.fdp_flash.specs.declared.cell.Cell.{Cell}
use Rattle.fdp_flash.specs.Answers.{Erases}
use Rattle.fdp_flash.specs.Cells.{EraseMayLeave, IsBlankFrom}
use Rattle.fdp_flash.specs.FlashState.{FlashState}
use Rattle.fdp_flash.specs.Layout.{first_page, page_number}
use Rattle.fdp_flash.proofs.Pages.{erased_may_leave, same_outside_page}
use Rattle.fdp_owners.specs.declared.owner.Owner.{Owner}
use Rattle.fdp_owners.specs.OwnerTable.{OwnerTable, owner_at}
use Rattle.fdp_owners.proofs.Tables.{owned-within, same-number}
use Rattle.fdp_passes.specs.declared.due.Due.TheVariants as due
use Rattle.fdp_passes.specs.declared.lane.Lane.{Lane}
use Rattle.fdp_passes.specs.Due.{IsDue}
use Rattle.fdp_passes.specs.GroupPasses.{GroupPasses}
use Rattle.fdp_passes.specs.Targets.{OpensPage, UsesPage}
use Rattle.fdp_passes.proofs.Opened.{opened-unit}
use Rattle.fdp_units.specs.declared.data_unit.DataUnit.{DataUnit}
use Rattle.fdp_units.specs.DataUnits.{is_lost}
use Rattle.fdp_units.specs.UnitTable.{Cut, IsUnit, UnitTable, cut_of, state_at, unit_at}

-- ---- live pages

-- data stays where live pages stay
data-kept : (g : Geometry) (o : OwnerTable) (old new : List Cell) → KeepsLive g o old new → HasData g old o → HasData g new o
data-kept g o old new same held spot x e = let h = held spot x e in (h.0, same spot (ap is_some e) ∙ h.1)

-- a page without an owner changes alone
pub other-kept : (g : Geometry) (o : OwnerTable) (to : Spot) (old new : List Cell) → o.unit_pages ≡ g.unit_pages → to.page < g.unit_pages → owner_at o to ≡ None → IsSameBut g to old new → KeepsLive g o old new
other-kept g o to old new pages within free same spot live = cases (owner_at o spot) refl where
  cases : (x : Option Owner) → owner_at o spot ≡ x → slice_get new (page_number g spot) ≡ slice_get old (page_number g spot)
  cases None e = absurd (no (sym (ap is_some e) ∙ live)) where
    no : false ≡ true → ⊥
    no e = cc
  cases (Some x) e =
      let inside : spot.page < o.unit_pages = owned-within o spot x e in
      same (page_number g spot) (λ (n : page_number g spot ≡ page_number g to). never x (sym free ∙ ap (owner_at o) (sym (same-number g.unit_pages spot to (omega (arith, inside, pages)) within n)) ∙ e)) where
        never : (x : Owner) → None ≡ Some x → ⊥
        never x e = cc

-- ---- blank pages

-- a unit that is in use now was so, no more of its pages are blank, and those that are behind the used ones are as they were
pub record KeepsUnit (g : Geometry) (old new : List Cell) (t now : UnitTable) (unit : ℕ) : Type 0 where
  pub was : IsUnit t unit
  pub in_use : IsFalse (is_lost (state_at t unit))
  pub next : (unit_at t unit).next ≤ (unit_at now unit).next
  pub same : (page : ℕ) → (unit_at now unit).next ≤ page → page < g.unit_pages → slice_get new (first_page g unit + page) ≡ slice_get old (first_page g unit + page)

blank-kept : (g : Geometry) (old new : List Cell) (t now : UnitTable) (unit : ℕ) → IsBlankBehind g old t → KeepsUnit g old new t now unit → IsBlankFrom g new (record { unit = unit; page = (unit_at now unit).next })
blank-kept g old new t now unit blank h = record { blank = λ page low within. let next = h.next in h.same page low within ∙ (blank unit h.was h.in_use).blank page (omega (arith, next, low)) within }

-- a unit that is as it was, where only a page with an owner or of another unit may have changed
same-unit : (g : Geometry) (old new : List Cell) (t now : UnitTable) (unit : ℕ) → cut_of now ≡ cut_of t → unit_at now unit ≡ unit_at t unit → ((page : ℕ) → page < g.unit_pages → slice_get new (first_page g unit + page) ≡ slice_get old (first_page g unit + page)) → IsUnit now unit → is_lost (state_at now unit) ≡ false → KeepsUnit g old new t now unit
same-unit g old new t now unit cut same cells there kept =
    let next : (unit_at now unit).next ≡ (unit_at t unit).next = ap (λ (z : DataUnit). z.next) same in
    record {
      was = unit-was t now unit cut there;
      in_use = ap (λ (z : DataUnit). is_lost z.state) (sym same) ∙ kept;
      next = omega (arith, next);
      same = λ page low within. cells page within;
    }

-- ---- an erase

erased-cells : (old new : FlashState) (unit : ℕ) (result : Wrote) → IsTrue old.told → Erases old new unit result → EraseMayLeave old.geometry old.cells unit new.cells
erased-cells old new unit wrote.Done told h = erased_may_leave old.geometry old.cells unit new.cells (h.done told refl)
erased-cells old new unit wrote.Failed told h = h.failed told refl

erase-stored : (s now : Relocation) (o : OwnerTable) (classes : List Class) (rg : ℕ) (old new : FlashState) (unit : ℕ) (result : Wrote) → IsReady s o classes rg → AreOfFlash s.units old.geometry → IsTrue old.told → IsDue s.passes s.units o rg (due.Erase unit) → EndsInErase s now old new unit result
    → IsStored old.geometry old.cells o s.units → IsStored old.geometry new.cells o now.units
erase-stored s now o classes rg old new unit result ready flash told is ends stored =
    let left = erased-cells old new unit result told ends.flash in record {
      live = data-kept old.geometry o old.cells new.cells (erase-keeps-live s o classes rg unit old.geometry old.cells new.cells ready flash is.2 left) stored.live;
      blank = λ other there kept. ⊎_elim
          (λ (same : other ≡ unit). subst (λ (u : ℕ). IsBlankFrom old.geometry new.cells (record { unit = u; page = (unit_at now.units u).next })) (sym same) (here result refl (ap (λ (u : ℕ). is_lost (state_at now.units u)) (sym same) ∙ kept)))
          (λ (ne : other ≢ unit). blank-kept old.geometry old.cells new.cells s.units now.units other stored.blank
          (same-unit old.geometry old.cells new.cells s.units now.units other ends.becomes.cut (changed-other s.units now.units unit other _ ends.becomes ne)
          (λ page within. same_outside_page old.geometry unit old.cells new.cells (record { unit = other; page = page }) left.others within ne) there kept))
          (cases_eq other unit);
    } where
      here : (r : Wrote) → result ≡ r → is_lost (state_at now.units unit) ≡ false → IsBlankFrom old.geometry new.cells (record { unit = unit; page = (unit_at now.units unit).next })
      here wrote.Done done kept = record { blank = λ page low within. (ends.flash.done told done).blank.blank page within }
      here wrote.Failed failed kept =
          let lost : is_lost (state_at now.units unit) ≡ is_lost (state_after wrote.Failed) = ap (λ (z : DataUnit). is_lost z.state) (changed-here s.units now.units unit _ ends.becomes) ∙ ap (λ (r : Wrote). is_lost (state_after r)) failed in
          absurd (no (sym lost ∙ kept)) where
            no : true ≡ false → ⊥
            no e = cc

-- ---- a copy

-- a page of the target was used, and it alone may have changed
use-stored : (s : Relocation) (passes : GroupPasses) (new : UnitTable) (o : OwnerTable) (lane : Lane) (to : Spot) (g : Geometry) (old now : List Cell) → o.unit_pages ≡ g.unit_pages → to.page < g.unit_pages → owner_at o to ≡ None → to.page ≡ (unit_at s.units to.unit).next → is_lost (state_at s.units to.unit) ≡ false
    → UsesPage s.passes passes s.units new lane to.unit → IsSameBut g to old now → IsStored g old o s.units → IsStored g now o new
use-stored s passes new o lane to g old now pages within free page lost h same stored = record {
  live = data-kept g o old now (other-kept g o to old now pages within free same) stored.live;
  blank = λ unit there kept. blank-kept g old now s.units new unit stored.blank (⊎_elim
      (λ (is : unit ≡ to.unit).
      let next : (unit_at new unit).next ≡ (unit_at s.units unit).next + 1 = ap (λ (u : ℕ). (unit_at new u).next) is ∙ ap (λ (z : DataUnit). z.next) (changed-here s.units new to.unit _ h.page) ∙ ap (λ (u : ℕ). (unit_at s.units u).next + 1) (sym is) in
      let first : to.page ≡ (unit_at s.units unit).next = page ∙ ap (λ (u : ℕ). (unit_at s.units u).next) (sym is) in
      record {
        was = unit-was s.units new unit h.page.cut there;
        in_use = ap (λ (u : ℕ). is_lost (state_at s.units u)) is ∙ lost;
        next = omega (arith, next);
        same = λ k low inside. same (first_page g unit + k) (λ (n : first_page g unit + k ≡ page_number g to).
            let spot = same-number g.unit_pages (record { unit = unit; page = k }) to inside within n in
            let at : k ≡ to.page = ap (λ (x : Spot). x.page) spot in
            omega (arith, at, low, next, first));
      })
      (λ (ne : unit ≢ to.unit). same-unit g old now s.units new unit h.page.cut (changed-other s.units new to.unit unit _ h.page ne)
      (λ k inside. same (first_page g unit + k) (λ (n : first_page g unit + k ≡ page_number g to).
      ne (ap (λ (x : Spot). x.unit) (same-number g.unit_pages (record { unit = unit; page = k }) to inside within n)))) there kept)
      (cases_eq unit to.unit));
}

open-stored : (s middle : Relocation) (o : OwnerTable) (rg victim : ℕ) (lane : Lane) (to : Spot) (g : Geometry) (cells : List Cell) → OpensPage s.passes middle.passes s.units middle.units rg victim lane to → IsStored g cells o s.units → IsStored g cells o middle.units
open-stored s middle o rg victim lane to g cells opened stored = record {
  live = stored.live;
  blank = λ unit there kept. let next = (open-counts s middle rg victim lane to.unit unit opened.target).next in blank-kept g cells cells s.units middle.units unit stored.blank (record {
    was = unit-was s.units middle.units unit (open-cut s middle rg victim lane to.unit opened.target) there;
    in_use = open-lost s middle rg victim lane to.unit unit opened.target kept;
    next = omega (arith, next);
    same = λ page low within. refl;
  });
}

aside-stored : (s now : Relocation) (o : OwnerTable) (unit : ℕ) (g : Geometry) (cells : List Cell) → GoesAside s now unit → IsStored g cells o s.units → IsStored g cells o now.units
aside-stored s now o unit g cells goes stored = record {
  live = stored.live;
  blank = λ other there kept. ⊎_elim
      (λ (same : other ≡ unit). absurd (no (sym (ap (λ (u : ℕ). is_lost (state_at now.units u)) same ∙ ap (λ (z : DataUnit). is_lost z.state) (changed-here s.units now.units unit _ goes.becomes)) ∙ kept)))
      (λ (ne : other ≢ unit). blank-kept g cells cells s.units now.units other stored.blank (same-unit g cells cells s.units now.units other goes.becomes.cut (changed-other s.units now.units unit other _ goes.becomes ne) (λ page within. refl) there kept))
      (cases_eq other unit);
} where
  no : true ≡ false → ⊥
  no e = cc

copy-stored : (s now : Relocation) (o : OwnerTable) (classes : List Class) (rg : ℕ) (old new : FlashState) (step : Step) → IsReady s o classes rg → AreOfFlash s.units old.geometry → IsTrue old.told → IsStored old.geometry old.cells o s.units → IsCopyStep o classes rg s now old new step → IsStored old.geometry new.cells o now.units
copy-stored s now o classes rg old new step ready flash told stored h = ends step h.ended where
  lane : Lane
  lane = lane_at classes h.owner

  middle : IsStored old.geometry old.cells o h.middle.units
  middle = open-stored s h.middle o rg h.from.unit lane h.to old.geometry old.cells h.opened stored

  pages : o.unit_pages ≡ old.geometry.unit_pages
  pages = ready.cut.owners ∙ flash.unit_pages

  within : h.to.page < old.geometry.unit_pages
  within =
      let cut : h.middle.units.unit_pages ≡ s.units.unit_pages = ap (λ (k : Cut). k.unit_pages) (open-cut s h.middle rg h.from.unit lane h.to.unit h.opened.target) in
      let below : h.to.page < h.middle.units.unit_pages = h.opened.within in
      omega (arith, cut, below, flash.unit_pages)

  free : owner_at o h.to ≡ None
  free = open-unowned s h.middle o classes rg h.from.unit lane h.to ready h.opened

  kept : is_lost (state_at h.middle.units h.to.unit) ≡ false
  kept = ap is_lost (opened-unit s.passes h.middle.passes s.units h.middle.units rg h.from.unit lane h.to.unit (target-of s o classes rg lane ready) h.opened.target)

  uses : (passes : GroupPasses) (result : Wrote) → UsesPage h.middle.passes passes h.middle.units now.units lane h.to.unit → Copies old new h.from h.to (data_spare h.owner.spare) result → IsStored old.geometry new.cells o now.units
  uses passes result used copies = use-stored h.middle passes now.units o lane h.to old.geometry old.cells new.cells pages within free h.opened.page kept used (copies.others told) middle

  ends : (step : Step) → EndsCopy o lane h.from h.to h.owner.spare h.middle now old new step → IsStored old.geometry new.cells o now.units
  ends steps.Nothing e = absurd e
  ends (steps.Copied copy) e = (let added = subst (λ (c : Copied). AddsCopy h.middle now lane c) e.0 e.1 in uses added.passes wrote.Done added.used e.2)
  ends steps.ReadyToMove e = absurd e
  ends (steps.Erased unit) e = absurd e
  ends steps.EraseDue e = absurd e
  ends steps.Starved e = absurd e
  ends (steps.Fault lost.None) e = uses e.0.passes wrote.Failed e.0.used e.1
  ends (steps.Fault (lost.Aside unit)) e = absurd e
  ends (steps.Fault (lost.Retired unit)) e = absurd e

unread-stored : (s now : Relocation) (o : OwnerTable) (classes : List Class) (rg : ℕ) (old new : FlashState) (unit : ℕ) → IsTrue old.told → IsStored old.geometry old.cells o s.units → IsUnread o classes rg s now old new unit → IsStored old.geometry new.cells o now.units
unread-stored s now o classes rg old new unit told stored h = subst (λ (cells : List Cell). IsStored old.geometry cells o now.units) (sym (h.flash.read.cells told)) (aside-stored s now o unit old.geometry old.cells h.aside stored)

-- ---- nothing was called

rests-stored : (s now : Relocation) (o : OwnerTable) (old new : FlashState) → IsTrue old.told → IsStored old.geometry old.cells o s.units → Rests s now old new → IsStored old.geometry new.cells o now.units
rests-stored s now o old new told stored h =
    subst (λ (cells : List Cell). IsStored old.geometry cells o now.units) (sym (h.flash.cells told)) (subst (λ (r : Relocation). IsStored old.geometry old.cells o r.units) (sym h.group) stored)

starved-stored : (s now : Relocation) (o : OwnerTable) (classes : List Class) (rg : ℕ) (old new : FlashState) → IsTrue old.told → IsStored old.geometry old.cells o s.units → IsStarved o classes rg s now old new → IsStored old.geometry new.cells o now.units
starved-stored s now o classes rg old new told stored h = subst (λ (cells : List Cell). IsStored old.geometry cells o now.units) (sym (h.flash.cells told)) (record {
  live = stored.live;
  blank = λ unit there kept. blank-kept old.geometry old.cells old.cells s.units now.units unit stored.blank (same-unit old.geometry old.cells old.cells s.units now.units unit h.starved.cut (ap (λ (units : ℕ → DataUnit). units unit) h.starved.units) (λ page within. refl) there kept);
})

pub step-stored : (o : OwnerTable) (classes : List Class) (rg : ℕ) (may_erase : Bool) (s now : Relocation) (old new : FlashState) (step : Step) → IsReady s o classes rg → AreOfFlash s.units old.geometry → IsTrue old.told → IsStored old.geometry old.cells o s.units → IsStep o classes rg may_erase s now old new step → IsStored old.geometry new.cells o now.units
step-stored o classes rg may_erase s now old new steps.Nothing ready flash told stored h = rests-stored s now o old new told stored h.1
step-stored o classes rg may_erase s now old new (steps.Copied copy) ready flash told stored h = copy-stored s now o classes rg old new (steps.Copied copy) ready flash told stored h
step-stored o classes rg may_erase s now old new steps.ReadyToMove ready flash told stored h = rests-stored s now o old new told stored h.1
step-stored o classes rg may_erase s now old new (steps.Erased unit) ready flash told stored h = erase-stored s now o classes rg old new unit wrote.Done ready flash told h.0 h.2 stored
step-stored o classes rg may_erase s now old new steps.EraseDue ready flash told stored h = rests-stored s now o old new told stored h.2
step-stored o classes rg may_erase s now old new steps.Starved ready flash told stored h = starved-stored s now o classes rg old new told stored h
step-stored o classes rg may_erase s now old new (steps.Fault lost.None) ready flash told stored h = copy-stored s now o classes rg old new (steps.Fault lost.None) ready flash told stored h
step-stored o classes rg may_erase s now old new (steps.Fault (lost.Aside unit)) ready flash told stored h = unread-stored s now o classes rg old new unit told stored h
step-stored o classes rg may_erase s now old new (steps.Fault (lost.Retired unit)) ready flash told stored h = erase-stored s now o classes rg old new unit wrote.Failed ready flash told h.0 h.2 stored
