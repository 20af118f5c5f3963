-- What joins the tables stands after each step of relocation.
use Rattle.std.proofs.Common.{◌≡◌, Bool, true, false, ◌≢◌, ℕ, ◌+◌, ◌<◌, ◌≤◌, Bool, List, Option, Some, None, refl, ap, sym, ◌∙◌, subst, arith, ⊎_elim, length, get_or}
use Rattle.std.specs.Prelude.{◌&&◌, ◌||◌, IsTrue, MatchOption, nat_le, option_map, slice_set, if◌then◌else◌}
use Rattle.std.proofs.lemmas.Bool.{cases_eq}
use Rattle.std.proofs.lemmas.Option.{slice_get-get_or}
use Rattle.fdp_base.specs.declared.config.Class.{Class}
use Rattle.fdp_base.specs.declared.config.Class.TheVariants.{Initial}
use Rattle.fdp_base.specs.declared.entry.Copied.{Copied}
use Rattle.fdp_base.specs.declared.entry.Spot.{Spot}
use Rattle.fdp_collector.specs.declared.step.Lost.TheVariants as lost
use Rattle.fdp_collector.specs.declared.step.Step.{Step}
use Rattle.fdp_collector.specs.declared.step.Step.TheVariants as steps
use Rattle.fdp_collector.specs.Erasing.{state_after}
use Rattle.fdp_collector.specs.Ready.{AreLive, IsReady, IsUnitOf, Relocation, lane_at}
use Rattle.fdp_collector.specs.Step.{AddsCopy, EndsCopy, EndsInErase, GoesAside, IsCopyStep, IsStep, IsUnread, SkipsPage}
use Rattle.fdp_collector.proofs.Kept.{changed-here, changed-other, group-kept, unit-of-kept, unit-was}
use Rattle.fdp_collector.proofs.Opening.{open-counts, open-ready, open-unowned}
use Rattle.fdp_collector.proofs.Readied.{HasPass, IsHaving, IsTaking, emptied-unit, open-pass, target-of}
use Rattle.fdp_collector.proofs.Using.{IsFilled, IsUsable, StaysTarget, used-how, uses-pass}
use Rattle.fdp_flash.specs.declared.answer.Wrote.{Wrote}
use Rattle.fdp_flash.specs.declared.answer.Wrote.TheVariants as wrote
use Rattle.fdp_flash.specs.FlashState.{FlashState}
use Rattle.fdp_handles.specs.HandleTable.{HandleTable, reference_at}
use Rattle.fdp_owners.specs.declared.owner.Owner.{Owner}
use Rattle.fdp_owners.specs.OwnerTable.{OwnerTable, owner_at}
use Rattle.fdp_owners.proofs.Tables.{owned-within}
use Rattle.fdp_pages.specs.Joined.{AreFilled, AreJoined, IsLaneOf, IsRelocating}
use Rattle.fdp_pages.specs.PageTables.{PageTables, passes_at, relocation_at}
use Rattle.fdp_pages.proofs.Added.{added-worked, skipped-worked, used-worked}
use Rattle.fdp_pages.proofs.Fitting.{AreFit, FitsIn, change-fit, fit-sound, same-fit}
use Rattle.fdp_pages.proofs.Groups.{KeepsGroup, copied-kept, from-ways, gains-kept, pages-of, ready-kept, targeted-kept}
use Rattle.fdp_pages.proofs.Inside.{StaysOutside, change-stays, same-stays, stays-on}
use Rattle.fdp_pages.proofs.Places.{never, no, one, same-from}
use Rattle.fdp_pages.proofs.Regrouped.{one-group}
use Rattle.fdp_pages.proofs.Worked.{AreWorked, ended-worked, opened-worked}
use Rattle.fdp_passes.specs.declared.due.Due.TheVariants as due
use Rattle.fdp_passes.specs.declared.lane.Lane.{Lane}
use Rattle.fdp_passes.specs.Due.{IsDue, IsShort, next_in}
use Rattle.fdp_passes.specs.GroupPasses.{GroupPasses, Pass, slot_of, with_copy}
use Rattle.fdp_passes.specs.Room.{room_in, wanted_in}
use Rattle.fdp_passes.specs.Targets.{OpensPage, OpensTarget, Starves, UsesPage, pass_in}
use Rattle.fdp_passes.proofs.Opened.{opened-unit}
use Rattle.fdp_units.specs.declared.data_unit.DataUnit.{DataUnit}
use Rattle.fdp_units.specs.declared.state.UnitState.{UnitState}
use Rattle.fdp_units.specs.declared.state.UnitState.TheVariants.{Free, Referenced, Target, Closed, Retired, Aside}
use Rattle.fdp_units.specs.DataUnits.{is_closed, is_free, is_open, turned, used}
use Rattle.fdp_units.specs.UnitTable.{Changes, IsGroup, IsVictim, UnitTable, cut_of, group_in, state_at, unit_at}

-- the unit that a pass under way empties has a page that is not live
abbrev HasGain : Relocation → Type 0
HasGain s = (pass : Pass) → s.passes.pass ≡ Some pass → (unit_at s.units pass.victim).live < s.units.unit_pages

-- a group after a step, and all that the step left as it was
record IsAdvanced (s now : Relocation) (o : OwnerTable) (classes : List Class) (rg : ℕ) : Type 0 where
  pub worked : AreWorked now o classes rg
  pub gains : HasGain now
  pub fits : AreFit now.units
  pub stays : StaysOutside s.units now.units rg

-- ---- states that differ

closed-referenced : Closed ≡ Referenced → ⊥
closed-referenced e = cc

target-referenced : Target ≡ Referenced → ⊥
target-referenced e = cc

free-referenced : (s : UnitState) → IsTrue (is_free s) → s ≡ Referenced → ⊥
free-referenced s free e = no (sym (ap is_free e) ∙ free)

-- ---- the pass is over, and its victim became another

-- neither a target nor a unit of a handle
record IsGone (y : DataUnit) : Type 0 where
  pub target : y.state ≡ Target → ⊥
  pub referenced : y.state ≡ Referenced → ⊥

ended-advanced : (s now : Relocation) (o : OwnerTable) (classes : List Class) (rg unit : ℕ) (y : DataUnit) → AreWorked s o classes rg → IsUnitOf s.units rg unit Closed → now.passes ≡ record s.passes { pass = None } → Changes s.units now.units unit y → IsGone y → AreFit s.units → FitsIn s.units.unit_pages y → IsAdvanced s now o classes rg
ended-advanced s now o classes rg unit y was is passes change gone fit here = record {
  fits = change-fit s.units now.units unit y change here fit;
  worked = ended-worked s now o classes rg change.cut passes (λ u stands. ⊎_elim
      (λ (same : u ≡ unit). absurd (gone.target (ap (λ (x : DataUnit). x.state) (sym (changed-here s.units now.units unit y change)) ∙ ap (state_at now.units) (sym same) ∙ stands)))
      (λ (ne : u ≢ unit). ap (λ (x : DataUnit). x.state) (sym (changed-other s.units now.units unit u y change ne)) ∙ stands)
      (cases_eq u unit)) was.targeted;
  gains = λ pass e. absurd (never pass (ap (λ (p : GroupPasses). p.pass) (sym passes) ∙ e));
  stays = change-stays s.units now.units rg unit y change is.group (λ e. closed-referenced (sym is.stands ∙ e)) gone.referenced;
}

-- a unit that comes into another state keeps its pages, unless it is free then or an opening found it used
kept-next : (pages : ℕ) (x : DataUnit) (to : UnitState) → is_closed to ≡ false → is_free to ≡ false → (turned pages to x).next ≡ x.next
kept-next pages x to unclosed unfree =
    ap (λ (b : Bool). if b then 0 else (if is_free x.state && is_closed to then pages else x.next)) unfree
    ∙ ap (λ (b : Bool). if is_free x.state && b then pages else x.next) unclosed
    ∙ ap (λ (b : Bool). if b then pages else x.next) (and-none (is_free x.state)) where
      and-none : (b : Bool) → (b && false) ≡ false
      and-none true = refl
      and-none false = refl

kept-within : (pages : ℕ) (x : DataUnit) (to : UnitState) → is_closed to ≡ false → is_free to ≡ false → FitsIn pages x → (turned pages to x).next ≤ pages
kept-within pages x to unclosed unfree fit =
    let same : (turned pages to x).next ≡ x.next = kept-next pages x to unclosed unfree in
    let within : x.next ≤ pages = fit.within in
    omega (arith, same, within)

erased-gone : (pages : ℕ) (x : DataUnit) (result : Wrote) → IsGone (turned pages (state_after result) x)
erased-gone pages x wrote.Done = record { target = free-target; referenced = free-ref } where
  free-target : Free ≡ Target → ⊥
  free-target e = cc

  free-ref : Free ≡ Referenced → ⊥
  free-ref e = cc
erased-gone pages x wrote.Failed = record { target = retired-target; referenced = retired-ref } where
  retired-target : Retired ≡ Target → ⊥
  retired-target e = cc

  retired-ref : Retired ≡ Referenced → ⊥
  retired-ref e = cc

-- an erased unit begins again, and one whose erase failed keeps its pages
erased-fits : (pages : ℕ) (x : DataUnit) (result : Wrote) → 1 ≤ pages → FitsIn pages x → FitsIn pages (turned pages (state_after result) x)
erased-fits pages x wrote.Done some fit = record { within = omega arith; room = λ e. omega (arith, some) }
erased-fits pages x wrote.Failed some fit = record { within = kept-within pages x Retired refl refl fit; room = λ e. absurd (no e) }

erased-advanced : (s now : Relocation) (o : OwnerTable) (classes : List Class) (rg : ℕ) (old new : FlashState) (unit : ℕ) (result : Wrote) → IsReady s o classes rg → AreWorked s o classes rg → AreFit s.units → 1 ≤ s.units.unit_pages → IsDue s.passes s.units o rg (due.Erase unit) → EndsInErase s now old new unit result → IsAdvanced s now o classes rg
erased-advanced s now o classes rg old new unit result ready was fit some is ends =
    let emptied = emptied-unit s o classes rg unit ready is.0 in
    ended-advanced s now o classes rg unit _ was emptied ends.passes ends.becomes (erased-gone s.units.unit_pages (unit_at s.units unit) result) fit (erased-fits s.units.unit_pages (unit_at s.units unit) result some (fit unit emptied.is_unit))

aside-advanced : (s now : Relocation) (o : OwnerTable) (classes : List Class) (rg unit : ℕ) → AreWorked s o classes rg → AreFit s.units → IsUnitOf s.units rg unit Closed → GoesAside s now unit → IsAdvanced s now o classes rg
aside-advanced s now o classes rg unit was fit is goes = ended-advanced s now o classes rg unit _ was is goes.passes goes.becomes (record { target = aside-target; referenced = aside-ref }) fit
    (record { within = kept-within s.units.unit_pages (unit_at s.units unit) Aside refl refl (fit unit is.is_unit); room = λ e. absurd (no e) }) where
      aside-target : Aside ≡ Target → ⊥
      aside-target e = cc

      aside-ref : Aside ≡ Referenced → ⊥
      aside-ref e = cc

starved-advanced : (s now : Relocation) (o : OwnerTable) (classes : List Class) (rg : ℕ) (lane : Lane) → AreWorked s o classes rg → AreFit s.units → Starves s.passes now.passes s.units now.units rg lane → IsAdvanced s now o classes rg
starved-advanced s now o classes rg lane was fit h = record {
  fits = same-fit s.units now.units h.cut h.units fit;
  worked = ended-worked s now o classes rg h.cut h.passes (λ u stands. ap (λ (f : ℕ → DataUnit). (f u).state) (sym h.units) ∙ stands) was.targeted;
  gains = λ pass e. absurd (never pass (ap (λ (p : GroupPasses). p.pass) (sym h.passes) ∙ e));
  stays = same-stays s.units now.units rg h.cut h.units;
}

rests-advanced : (s now : Relocation) (o : OwnerTable) (classes : List Class) (rg : ℕ) → AreWorked s o classes rg → HasGain s → AreFit s.units → now ≡ s → IsAdvanced s now o classes rg
rests-advanced s now o classes rg was gained fit same = subst (λ (r : Relocation). IsAdvanced s r o classes rg) (sym same) (record { worked = was; gains = gained; fits = fit; stays = same-stays s.units s.units rg refl refl })

-- ---- a copy

-- the way of an owner is that of a handle
owner-lane : (classes : List Class) (x : Owner) → x.spare.ruh < length classes → IsLaneOf classes (lane_at classes x)
owner-lane classes x low = (x.spare.ruh, get_or classes x.spare.ruh Initial, slice_get-get_or classes x.spare.ruh Initial low, refl)

opened-stays : (s now : Relocation) (rg victim : ℕ) (lane : Lane) (unit : ℕ) → OpensTarget s.passes now.passes s.units now.units rg victim lane unit → StaysOutside s.units now.units rg
opened-stays s now rg victim lane unit = ⊎_elim
    (λ (h : IsHaving s now victim lane unit). same-stays s.units now.units rg (ap cut_of h.units) (ap unit_at h.units))
    (λ (h : IsTaking s now rg victim lane unit). change-stays s.units now.units rg unit _ h.taken h.free.is_free.group (free-referenced (state_at s.units unit) h.free.is_free.free) target-referenced)

opened-fits : (s now : Relocation) (rg victim : ℕ) (lane : Lane) (unit : ℕ) → 1 ≤ s.units.unit_pages → AreFit s.units → OpensTarget s.passes now.passes s.units now.units rg victim lane unit → AreFit now.units
opened-fits s now rg victim lane unit some fit = ⊎_elim
    (λ (h : IsHaving s now victim lane unit). same-fit s.units now.units (ap cut_of h.units) (ap unit_at h.units) fit)
    (λ (h : IsTaking s now rg victim lane unit).
    let free : IsTrue (is_free (state_at s.units unit)) = h.free.is_free.free in
    let room : (unit_at s.units unit).next < s.units.unit_pages = (fit unit h.free.is_free.is_unit).room (ap (λ (b : Bool). b || is_open (state_at s.units unit)) free) in
    let same : (turned s.units.unit_pages Target (unit_at s.units unit)).next ≡ (unit_at s.units unit).next = kept-next s.units.unit_pages (unit_at s.units unit) Target refl refl in
    change-fit s.units now.units unit _ h.taken (record { within = omega (arith, room, same); room = λ e. omega (arith, room, same) }) fit)

used-fits : (s : Relocation) (passes : GroupPasses) (new : UnitTable) (lane : Lane) (unit : ℕ) → IsUsable s lane unit → UsesPage s.passes passes s.units new lane unit → AreFit s.units → AreFit new
used-fits s passes new lane unit usable uses fit =
    let within : (unit_at s.units unit).next < s.units.unit_pages = usable.within in
    let here : state_at new unit ≡ (used s.units.unit_pages (unit_at s.units unit)).state = ap (λ (x : DataUnit). x.state) (changed-here s.units new unit _ uses.page) in
    change-fit s.units new unit (used s.units.unit_pages (unit_at s.units unit)) uses.page (record {
      within = omega (arith, within);
      room = λ e. ⊎_elim
          (λ (h : StaysTarget s passes new unit). h.left)
          (λ (h : IsFilled s passes new lane unit). absurd (no (sym (ap (λ (state : UnitState). is_free state || is_open state) (sym here ∙ h.state)) ∙ e)))
          (used-how s passes new lane unit usable uses);
    }) fit

used-stays : (s : Relocation) (passes : GroupPasses) (new : UnitTable) (rg : ℕ) (lane : Lane) (unit : ℕ) → IsUnitOf s.units rg unit Target → IsUsable s lane unit → UsesPage s.passes passes s.units new lane unit → StaysOutside s.units new rg
used-stays s passes new rg lane unit own usable uses = change-stays s.units new rg unit (used s.units.unit_pages (unit_at s.units unit)) uses.page own.group (λ e. target-referenced (sym usable.opened ∙ e)) apart where
  here : state_at new unit ≡ (used s.units.unit_pages (unit_at s.units unit)).state
  here = ap (λ (x : DataUnit). x.state) (changed-here s.units new unit _ uses.page)

  apart : (used s.units.unit_pages (unit_at s.units unit)).state ≡ Referenced → ⊥
  apart e = ⊎_elim
      (λ (h : StaysTarget s passes new unit). target-referenced (sym h.state ∙ here ∙ e))
      (λ (h : IsFilled s passes new lane unit). closed-referenced (sym h.state ∙ here ∙ e))
      (used-how s passes new lane unit usable uses)

module _ (s now : Relocation) (o : OwnerTable) (classes : List Class) (rg : ℕ) (old new : FlashState) (ready : IsReady s o classes rg) (was : AreWorked s o classes rg) (gained : HasGain s) (fit : AreFit s.units) (some : 1 ≤ s.units.unit_pages) (from to : Spot) (owner : Owner) (middle : Relocation) (is_due : IsDue s.passes s.units o rg (due.Copy from)) (owned : owner_at o from ≡ Some owner) (opened : OpensPage s.passes middle.passes s.units middle.units rg from.unit (lane_at classes owner) to) where
  abbrev lane : Lane
  lane = lane_at classes owner

  middle-ready : IsReady middle o classes rg
  middle-ready = open-ready s middle o classes rg from to owner ready is_due owned opened

  middle-worked : AreWorked middle o classes rg
  middle-worked = opened-worked s middle o classes rg from.unit lane to.unit ready.live opened.stands (owner-lane classes owner (ready.lanes.handles from owner owned)) opened.target was

  middle-stays : StaysOutside s.units middle.units rg
  middle-stays = opened-stays s middle rg from.unit lane to.unit opened.target

  has : HasPass s middle from.unit
  has = open-pass s middle rg from.unit lane to.unit opened.target

  has-victim : has.pass.victim ≡ from.unit
  has-victim = has.same_victim ∙ began s.passes.pass is_due.0 where
    began : (p : Option Pass) → MatchOption p (IsShort s.units rg × IsVictim s.units rg from.unit) (λ (pass : Pass). pass.victim ≡ from.unit) → (pass_in (record s.passes { pass = p }) from.unit).victim ≡ from.unit
    began None both = refl
    began (Some pass) same = same

  has-order : has.pass.next ≤ from.page
  has-order =
      let next : has.pass.next ≡ next_in s.passes = has.same_next ∙ going s.passes.pass in
      let low : next_in s.passes ≤ from.page = is_due.1.behind in
      omega (arith, next, low) where
        going : (p : Option Pass) → (pass_in (record s.passes { pass = p }) from.unit).next ≡ next_in (record s.passes { pass = p })
        going None = refl
        going (Some pass) = refl

  usable : IsUsable middle lane to.unit
  usable =
      let within : to.page < middle.units.unit_pages = opened.within in
      let page : to.page ≡ (unit_at middle.units to.unit).next = opened.page in
      record {
        target = opened.stands;
        opened = opened-unit s.passes middle.passes s.units middle.units rg from.unit lane to.unit (target-of s o classes rg lane ready) opened.target;
        within = omega (arith, within, page);
      }

  own : IsUnitOf middle.units rg to.unit Target
  own = middle-ready.targets.targets (slot_of lane) to.unit opened.stands

  uses-advanced : (passes : GroupPasses) (after : UnitTable) → UsesPage middle.passes passes middle.units after lane to.unit → AreWorked (record { passes = passes; units = after }) o classes rg × StaysOutside s.units after rg
  uses-advanced passes after uses = (
    used-worked middle passes after o classes rg lane to.unit middle-ready.targets usable uses middle-worked,
    stays-on s.units middle.units after rg middle-stays (used-stays middle passes after rg lane to.unit own usable uses),
  )

  middle-fit : AreFit middle.units
  middle-fit = opened-fits s middle rg from.unit lane to.unit some fit opened.target

  -- as many pages of the victim are live
  victim-gains : (unit_at s.units from.unit).live < s.units.unit_pages
  victim-gains = cases s.passes.pass refl is_due.0 where
    cases : (p : Option Pass) → s.passes.pass ≡ p → MatchOption p (IsShort s.units rg × IsVictim s.units rg from.unit) (λ (pass : Pass). pass.victim ≡ from.unit) → (unit_at s.units from.unit).live < s.units.unit_pages
    cases None e both = both.1.candidate.gains
    cases (Some pass) e same = subst (λ (u : ℕ). (unit_at s.units u).live < s.units.unit_pages) same (gained pass e)

  used-gains : (passes : GroupPasses) (after : UnitTable) → UsesPage middle.passes passes middle.units after lane to.unit → (unit_at after from.unit).live < after.unit_pages
  used-gains passes after uses =
      let before : (unit_at s.units from.unit).live < s.units.unit_pages = victim-gains in
      let opens : (unit_at middle.units from.unit).live ≡ (unit_at s.units from.unit).live = (open-counts s middle rg from.unit lane to.unit from.unit opened.target).live in
      let same : (unit_at after from.unit).live ≡ (unit_at middle.units from.unit).live = ⊎_elim
      (λ (e : from.unit ≡ to.unit). ap (λ (u : ℕ). (unit_at after u).live) e ∙ ap (λ (x : DataUnit). x.live) (changed-here middle.units after to.unit _ uses.page) ∙ ap (λ (u : ℕ). (unit_at middle.units u).live) (sym e))
      (λ (ne : from.unit ≢ to.unit). ap (λ (x : DataUnit). x.live) (changed-other middle.units after to.unit from.unit _ uses.page ne))
      (cases_eq from.unit to.unit) in
      omega (arith, before, opens, same, pages-of middle.units after uses.page.cut, pages-of s.units middle.units middle-stays.cut)

  -- the pass under way is that which was when its page was found
  used-pass : (passes : GroupPasses) (after : UnitTable) → UsesPage middle.passes passes middle.units after lane to.unit → passes.pass ≡ Some has.pass
  used-pass passes after uses = (uses-pass middle passes after lane to.unit usable uses).0 ∙ has.under_way

  gains-of : (p : GroupPasses) (units : UnitTable) (pass : Pass) → (unit_at units from.unit).live < units.unit_pages → pass.victim ≡ from.unit → (unit_at units pass.victim).live < units.unit_pages
  gains-of p units pass gain same = subst (λ (u : ℕ). (unit_at units u).live < units.unit_pages) (sym same) gain

  adds-advanced : AddsCopy middle now lane (record { from = from; to = to }) → IsAdvanced s now o classes rg
  adds-advanced adds =
      let pages : middle.units.unit_pages ≡ s.units.unit_pages = pages-of s.units middle.units middle-stays.cut in
      let inside : from.page < o.unit_pages = owned-within o from owner owned in
      let low : from.page < middle.units.unit_pages = omega (arith, pages, inside, ready.cut.owners) in
      let closed : state_at middle.units has.pass.victim ≡ Closed = (middle-ready.victim has.pass has.under_way).stands in
      record {
        worked = subst (λ (p : GroupPasses). AreWorked (record { passes = p; units = now.units }) o classes rg) (sym adds.copied)
            (added-worked middle adds.passes now.units o classes rg lane to.unit middle-ready.targets usable adds.used middle-worked has.pass has.under_way (record { from = from; to = to }) owner has-victim has-order low closed own refl opened.page (open-unowned s middle o classes rg from.unit lane to ready opened) owned refl ready.lanes);
        gains = λ pass e.
            let is : with_copy (record { from = from; to = to }) has.pass ≡ pass = one (sym (ap (option_map (with_copy (record { from = from; to = to }))) (used-pass adds.passes now.units adds.used)) ∙ ap (λ (p : GroupPasses). p.pass) (sym adds.copied) ∙ e) in
            gains-of now.passes now.units pass (used-gains adds.passes now.units adds.used) (ap (λ (q : Pass). q.victim) (sym is) ∙ has-victim);
        fits = used-fits middle adds.passes now.units lane to.unit usable adds.used middle-fit;
        stays = (uses-advanced adds.passes now.units adds.used).1;
      }

  skips-advanced : SkipsPage middle now o lane to.unit → IsAdvanced s now o classes rg
  skips-advanced skips = record {
    worked = subst (λ (p : GroupPasses). AreWorked (record { passes = p; units = now.units }) o classes rg) (sym skips.left)
        (skipped-worked skips.passes now.units o classes rg lane (uses-advanced skips.passes now.units skips.used).0);
    gains = λ pass e. gains-of now.passes now.units pass (used-gains skips.passes now.units skips.used) (going-pass (nat_le (wanted_in skips.passes o) (room_in skips.passes now.units lane)) pass (ap (λ (p : GroupPasses). p.pass) (sym skips.left) ∙ e));
    fits = used-fits middle skips.passes now.units lane to.unit usable skips.used middle-fit;
    stays = (uses-advanced skips.passes now.units skips.used).1;
  } where
    going-pass : (b : Bool) (pass : Pass) → (if b then skips.passes else record skips.passes { pass = None }).pass ≡ Some pass → pass.victim ≡ from.unit
    going-pass true pass e = ap (λ (q : Pass). q.victim) (one (sym e ∙ used-pass skips.passes now.units skips.used)) ∙ has-victim
    going-pass false pass e = absurd (never pass e)

  copy-ends : (step : Step) → EndsCopy o lane from to owner.spare middle now old new step → IsAdvanced s now o classes rg
  copy-ends steps.Nothing e = absurd e
  copy-ends (steps.Copied copy) e = adds-advanced (subst (λ (c : Copied). AddsCopy middle now lane c) e.0 e.1)
  copy-ends steps.ReadyToMove e = absurd e
  copy-ends (steps.Erased unit) e = absurd e
  copy-ends steps.EraseDue e = absurd e
  copy-ends steps.Starved e = absurd e
  copy-ends (steps.Fault lost.None) e = skips-advanced e.0
  copy-ends (steps.Fault (lost.Aside unit)) e = absurd e
  copy-ends (steps.Fault (lost.Retired unit)) e = absurd e

copy-advanced : (s now : Relocation) (o : OwnerTable) (classes : List Class) (rg : ℕ) (old new : FlashState) (step : Step) → IsReady s o classes rg → AreWorked s o classes rg → HasGain s → AreFit s.units → 1 ≤ s.units.unit_pages → IsCopyStep o classes rg s now old new step → IsAdvanced s now o classes rg
copy-advanced s now o classes rg old new step ready was gained fit some h = copy-ends s now o classes rg old new ready was gained fit some h.from h.to h.owner h.middle h.due h.owned h.opened step h.ended

unread-advanced : (s now : Relocation) (o : OwnerTable) (classes : List Class) (rg : ℕ) (old new : FlashState) (unit : ℕ) → IsReady s o classes rg → AreWorked s o classes rg → AreFit s.units → IsUnread o classes rg s now old new unit → IsAdvanced s now o classes rg
unread-advanced s now o classes rg old new unit ready was fit h =
    aside-advanced s now o classes rg unit was fit (subst (λ (u : ℕ). IsUnitOf s.units rg u Closed) (sym h.unit_is) (emptied-unit s o classes rg h.from.unit ready h.due.0)) h.aside

-- ---- a step

step-advanced : (o : OwnerTable) (classes : List Class) (rg : ℕ) (may_erase : Bool) (s now : Relocation) (old new : FlashState) (step : Step) → IsReady s o classes rg → AreWorked s o classes rg → HasGain s → AreFit s.units → 1 ≤ s.units.unit_pages → IsStep o classes rg may_erase s now old new step → IsAdvanced s now o classes rg
step-advanced o classes rg may_erase s now old new steps.Nothing ready was gained fit some h = rests-advanced s now o classes rg was gained fit h.1.group
step-advanced o classes rg may_erase s now old new (steps.Copied copy) ready was gained fit some h = copy-advanced s now o classes rg old new (steps.Copied copy) ready was gained fit some h
step-advanced o classes rg may_erase s now old new steps.ReadyToMove ready was gained fit some h = rests-advanced s now o classes rg was gained fit h.1.group
step-advanced o classes rg may_erase s now old new (steps.Erased unit) ready was gained fit some h = erased-advanced s now o classes rg old new unit wrote.Done ready was fit some h.0 h.2
step-advanced o classes rg may_erase s now old new steps.EraseDue ready was gained fit some h = rests-advanced s now o classes rg was gained fit h.2.group
step-advanced o classes rg may_erase s now old new steps.Starved ready was gained fit some h = starved-advanced s now o classes rg _ was fit h.starved
step-advanced o classes rg may_erase s now old new (steps.Fault lost.None) ready was gained fit some h = copy-advanced s now o classes rg old new (steps.Fault lost.None) ready was gained fit some h
step-advanced o classes rg may_erase s now old new (steps.Fault (lost.Aside unit)) ready was gained fit some h = unread-advanced s now o classes rg old new unit ready was fit h
step-advanced o classes rg may_erase s now old new (steps.Fault (lost.Retired unit)) ready was gained fit some h = erased-advanced s now o classes rg old new unit wrote.Failed ready was fit some h.0 h.2

-- ---- the tables

-- handles fill what they filled
pub filled-outside : (x : HandleTable) (t new : UnitTable) (o : OwnerTable) (rg : ℕ) → StaysOutside t new rg → AreFilled x t o → AreFilled x new o
filled-outside x t new o rg h was = record {
  whole = λ g ruh e. was.whole g ruh e ∙ sym (pages-of t new h.cut);
  fills = λ g ruh u e.
      let old = was.fills g ruh u e in
      let same : unit_at new u ≡ unit_at t u = h.referenced u old.stands.stands in
      let next : (unit_at new u).next ≡ (unit_at t u).next = ap (λ (y : DataUnit). y.next) same in
      let left : (unit_at t u).next + (reference_at x g ruh).left ≡ t.unit_pages = old.left in
      record {
        stands = unit-of-kept t new g u Referenced h.cut old.stands (ap (λ (y : DataUnit). y.state) same);
        left = omega (arith, next, left, pages-of t new h.cut);
        some_left = old.some_left;
        own = old.own;
      };
  apart = was.apart;
  filled = λ u is stands.
      let old = was.filled u (unit-was t new u h.cut is) (h.back u stands) in
      (old.0, old.1, ap (λ (g : ℕ). (reference_at x g old.0).unit) (group-kept t new u (group_in t u) h.cut refl) ∙ old.2);
}

-- another group is as it was
pub other-kept : (p : GroupPasses) (t new : UnitTable) (o : OwnerTable) (classes : List Class) (rg other : ℕ) → other ≢ rg → StaysOutside t new rg → IsReady (record { passes = p; units = t }) o classes other → AreLive new o → IsRelocating (record { passes = p; units = t }) o classes other → IsRelocating (record { passes = p; units = new }) o classes other
other-kept p t new o classes rg other ne h ready live was = record {
  ready = ready-kept p t new o o classes other keeps live was.ready.lanes was.ready;
  targeted = targeted-kept p t new o o classes other h.cut (λ unit is. let own : group_in t unit ≡ other = group-kept new t unit other (sym h.cut) is.group in ap (λ (y : DataUnit). y.state) (sym (h.outside unit (λ e. ne (sym own ∙ e)))) ∙ is.stands) was.targeted.own was.targeted;
  copied = λ pass under. copied-kept p t new o o classes other pass keeps under (from-ways (record { passes = p; units = t }) o o classes other pass (was.copied pass under) (λ spot y filled owned. same-from (owner_at o spot) y owned)) (was.copied pass under);
  gains = gains-kept p t new o o classes other keeps live was;
} where
  keeps : KeepsGroup p t new o o other
  keeps = record {
    cut = h.cut;
    size = record { unit_pages = refl; pages = refl };
    states = λ unit group filled. ap (λ (y : DataUnit). y.state) (h.outside unit (λ e. ne (sym group ∙ e)));
    nexts = λ unit group filled. ap (λ (y : DataUnit). y.next) (h.outside unit (λ e. ne (sym group ∙ e)));
    owners = λ pass spot x under same owned. same-from (owner_at o spot) x owned;
  }

pub advance-joined : (t : PageTables) (rg : ℕ) (may_erase : Bool) (passes : GroupPasses) (units : UnitTable) (old new : FlashState) (step : Step) → AreJoined t → IsGroup t.units rg → IsStep t.owners t.handles.classes rg may_erase (relocation_at t rg) (record { passes = passes; units = units }) old new step → IsReady (record { passes = passes; units = units }) t.owners t.handles.classes rg
    → AreJoined (record t { units = units; passes = slice_set t.passes rg passes })
advance-joined t rg may_erase passes units old new step was is h ready =
    let before = was.groups rg is in
    let after = step-advanced t.owners t.handles.classes rg may_erase (relocation_at t rg) (record { passes = passes; units = units }) old new step before.ready (record { targeted = before.targeted; copied = before.copied }) before.gains (fit-sound t.units was.sound) was.cut.some_page h in
    one-group t rg units passes was is after.stays.cut after.fits ready.live (filled-outside t.handles t.units units t.owners rg after.stays was.filled)
    (record { ready = ready; targeted = after.worked.targeted; copied = after.worked.copied; gains = after.gains })
    (λ other ne there. other-kept (passes_at t other) t.units units t.owners t.handles.classes rg other ne after.stays (was.groups other there).ready ready.live (was.groups other there))
