-- What stands before each kind of step stands after it.
use Rattle.std.proofs.Common.{◌≡◌, ℕ, ◌<◌, ◌≤◌, Bool, true, false, List, Option, Some, None, refl, ap, sym, ◌∙◌, subst, arith}
use Rattle.std.specs.Prelude.{◌&&◌, MatchOption, is_some, if◌then◌else◌}
use Rattle.fdp_base.specs.declared.config.Class.{Class}
use Rattle.fdp_base.specs.declared.entry.Copied.{Copied}
use Rattle.fdp_base.specs.declared.entry.Spot.{Spot}
use Rattle.fdp_collector.specs.declared.step.Lost.TheVariants as lost
use Rattle.fdp_collector.specs.declared.step.Step.{Step}
use Rattle.fdp_collector.specs.declared.step.Step.TheVariants as steps
use Rattle.fdp_collector.specs.Ready.{IsReady, Relocation, lane_at}
use Rattle.fdp_collector.specs.Step.{AddsCopy, EndsCopy, EndsInErase, GoesAside, IsCopyStep, IsStarved, IsStep, IsUnread, Rests}
use Rattle.fdp_collector.specs.Erasing.{state_after}
use Rattle.fdp_collector.proofs.Kept.{EndsWell, cut-kept, ended-ready, never-some, unit-kept, unit-of-kept, unit-was}
use Rattle.fdp_collector.proofs.Opening.{open-ready}
use Rattle.fdp_collector.proofs.Readied.{emptied-unit, open-pass, target-of}
use Rattle.fdp_collector.proofs.Stepped.{IsCopying, copied-ready, skipped-ready}
use Rattle.fdp_collector.proofs.Using.{IsUsable}
use Rattle.fdp_flash.specs.declared.answer.Wrote.{Wrote}
use Rattle.fdp_flash.specs.declared.answer.Wrote.TheVariants as wrote
use Rattle.fdp_flash.specs.FlashState.{FlashState}
use Rattle.fdp_owners.specs.declared.owner.Owner.{Owner}
use Rattle.fdp_owners.specs.OwnerTable.{OwnerTable}
use Rattle.fdp_passes.specs.declared.due.Due.TheVariants as due
use Rattle.fdp_passes.specs.declared.lane.Lane.{Lane}
use Rattle.fdp_passes.specs.Due.{HasNoLive, IsDue, IsShort, next_in}
use Rattle.fdp_passes.specs.GroupPasses.{GroupPasses, Pass}
use Rattle.fdp_passes.specs.Targets.{OpensPage, pass_in}
use Rattle.fdp_passes.proofs.Opened.{opened-unit}
use Rattle.fdp_units.specs.declared.data_unit.DataUnit.{DataUnit}
use Rattle.fdp_units.specs.declared.state.UnitState.TheVariants.{Aside, Closed, Target}
use Rattle.fdp_units.specs.DataUnits.{is_free, turned}
use Rattle.fdp_units.specs.UnitTable.{IsVictim, state_at, unit_at}

no : false ≡ true → ⊥
no e = cc

and-false : (b : Bool) → (b && false) ≡ false
and-false true = refl
and-false false = refl

-- ---- an erase

erased-well : (o : OwnerTable) (unit : ℕ) (pages : ℕ) (x : DataUnit) (result : Wrote) → HasNoLive o unit 0 → EndsWell o unit x (turned pages (state_after result) x)
erased-well o unit pages x wrote.Done none = record { live = refl; used = λ page live. absurd (no (sym (ap is_some (none page (omega arith))) ∙ live)); unused = λ free. refl }
erased-well o unit pages x wrote.Failed none = record { live = refl; used = λ page live. absurd (no (sym (ap is_some (none page (omega arith))) ∙ live)); unused = λ free. absurd (no free) }

erased-ready : (s now : Relocation) (o : OwnerTable) (classes : List Class) (rg : ℕ) (old new : FlashState) (unit : ℕ) (result : Wrote) → IsReady s o classes rg → IsDue s.passes s.units o rg (due.Erase unit) → EndsInErase s now old new unit result → IsReady now o classes rg
erased-ready s now o classes rg old new unit result ready is ends =
    ended-ready s now o classes rg unit (turned s.units.unit_pages (state_after result) (unit_at s.units unit)) ready (emptied-unit s o classes rg unit ready is.0).stands ends.passes ends.becomes
    (erased-well o unit s.units.unit_pages (unit_at s.units unit) result is.2)

-- ---- a copy

aside-ready : (s now : Relocation) (o : OwnerTable) (classes : List Class) (rg unit : ℕ) → IsReady s o classes rg → state_at s.units unit ≡ Closed → GoesAside s now unit → IsReady now o classes rg
aside-ready s now o classes rg unit ready closed goes =
    let x : DataUnit = unit_at s.units unit in
    let next : (turned s.units.unit_pages Aside x).next ≡ x.next = ap (λ (b : Bool). if b then s.units.unit_pages else x.next) (and-false (is_free x.state)) in
    ended-ready s now o classes rg unit (turned s.units.unit_pages Aside x) ready closed goes.passes goes.becomes (record {
      live = refl;
      used = λ page live. let below : page < x.next = ready.live.used (record { unit = unit; page = page }) live in omega (arith, below, next);
      unused = λ free. absurd (no free);
    })

copying-of : (s : Relocation) (middle : Relocation) (o : OwnerTable) (classes : List Class) (rg : ℕ) (from to : Spot) (owner : Owner) → IsReady s o classes rg → IsDue s.passes s.units o rg (due.Copy from) → OpensPage s.passes middle.passes s.units middle.units rg from.unit (lane_at classes owner) to → IsCopying middle o from
copying-of s middle o classes rg from to owner ready is opened =
    let has = open-pass s middle rg from.unit (lane_at classes owner) to.unit opened.target in
    let next : has.pass.next ≡ next_in s.passes = has.same_next ∙ going s.passes.pass in
    let low : next_in s.passes ≤ from.page = is.1.behind in
    record {
      pass = has.pass;
      under_way = has.under_way;
      victim = has.same_victim ∙ began s.passes.pass is.0;
      order = omega (arith, next, low);
      none = λ page behind before. is.1.none page (omega (arith, behind, next)) before;
    } where
      began : (p : Option Pass) → MatchOption p (IsShort s.units rg × IsVictim s.units rg from.unit) (λ (pass : Pass). pass.victim ≡ from.unit) → (pass_in (record s.passes { pass = p }) from.unit).victim ≡ from.unit
      began None both = refl
      began (Some pass) same = same

      going : (p : Option Pass) → (pass_in (record s.passes { pass = p }) from.unit).next ≡ next_in (record s.passes { pass = p })
      going None = refl
      going (Some pass) = refl

usable-of : (s middle : Relocation) (o : OwnerTable) (classes : List Class) (rg : ℕ) (from to : Spot) (lane : Lane) → IsReady s o classes rg → OpensPage s.passes middle.passes s.units middle.units rg from.unit lane to → IsUsable middle lane to.unit
usable-of s middle o classes rg from to lane ready opened =
    let within : to.page < middle.units.unit_pages = opened.within in
    let page : to.page ≡ (unit_at middle.units to.unit).next = opened.page in
    record {
      target = opened.stands;
      opened = opened-unit s.passes middle.passes s.units middle.units rg from.unit lane to.unit (target-of s o classes rg lane ready) opened.target;
      within = omega (arith, within, page);
    }

copy-ready : (s now : Relocation) (o : OwnerTable) (classes : List Class) (rg : ℕ) (old new : FlashState) (step : Step) → IsReady s o classes rg → IsCopyStep o classes rg s now old new step → IsReady now o classes rg
copy-ready s now o classes rg old new step ready h = ends step h.ended where
  middle : IsReady h.middle o classes rg
  middle = open-ready s h.middle o classes rg h.from h.to h.owner ready h.due h.owned h.opened

  copying : IsCopying h.middle o h.from
  copying = copying-of s h.middle o classes rg h.from h.to h.owner ready h.due h.opened

  usable : IsUsable h.middle (lane_at classes h.owner) h.to.unit
  usable = usable-of s h.middle o classes rg h.from h.to (lane_at classes h.owner) ready h.opened

  ends : (step : Step) → EndsCopy o (lane_at classes h.owner) h.from h.to h.owner.spare h.middle now old new step → IsReady now o classes rg
  ends steps.Nothing e = absurd e
  ends (steps.Copied copy) e =
      copied-ready h.middle now o classes rg (lane_at classes h.owner) (record { from = h.from; to = h.to }) h.owner middle copying h.owned refl usable (subst (λ (c : Copied). AddsCopy h.middle now (lane_at classes h.owner) c) e.0 e.1)
  ends steps.ReadyToMove e = absurd e
  ends (steps.Erased unit) e = absurd e
  ends steps.EraseDue e = absurd e
  ends steps.Starved e = absurd e
  ends (steps.Fault lost.None) e = skipped-ready h.middle now o classes rg h.from (lane_at classes h.owner) h.to.unit h.owner middle copying h.owned refl usable e.0
  ends (steps.Fault (lost.Aside unit)) e = absurd e
  ends (steps.Fault (lost.Retired unit)) e = absurd e

unread-ready : (s now : Relocation) (o : OwnerTable) (classes : List Class) (rg : ℕ) (old new : FlashState) (unit : ℕ) → IsReady s o classes rg → IsUnread o classes rg s now old new unit → IsReady now o classes rg
unread-ready s now o classes rg old new unit ready h = aside-ready s now o classes rg unit ready (ap (state_at s.units) h.unit_is ∙ (emptied-unit s o classes rg h.from.unit ready h.due.0).stands) h.aside

-- ---- no free unit

starved-ready : (s now : Relocation) (o : OwnerTable) (classes : List Class) (rg : ℕ) (old new : FlashState) → IsReady s o classes rg → IsStarved o classes rg s now old new → IsReady now o classes rg
starved-ready s now o classes rg old new ready h =
    let same : (u : ℕ) → unit_at now.units u ≡ unit_at s.units u = λ u. ap (λ (units : ℕ → DataUnit). units u) h.starved.units in
    let cut = h.starved.cut in
    subst (λ (p : GroupPasses). IsReady (record { passes = p; units = now.units }) o classes rg) (sym h.starved.passes) (record {
      cut = cut-kept s.passes (record s.passes { pass = None }) s.units now.units o refl cut ready.cut;
      victim = λ pass e. absurd (never-some pass e);
      copied = λ pass page e. absurd (never-some pass e);
      targets = record {
        targets = λ slot u e. unit-of-kept s.units now.units rg u Target cut (ready.targets.targets slot u e) (ap (λ (z : DataUnit). z.state) (same u));
        apart = ready.targets.apart;
      };
      live = record {
        there = λ spot live. unit-kept s.units now.units spot.unit cut (ready.live.there spot live);
        used = λ spot live. let below = ready.live.used spot live in let next : (unit_at now.units spot.unit).next ≡ (unit_at s.units spot.unit).next = ap (λ (z : DataUnit). z.next) (same spot.unit) in omega (arith, below, next);
        counted = λ u there. ap (λ (z : DataUnit). z.live) (same u) ∙ ready.live.counted u (unit-was s.units now.units u cut there);
        unused = λ u free. ap (λ (z : DataUnit). z.next) (same u) ∙ ready.live.unused u (ap (λ (z : DataUnit). is_free z.state) (sym (same u)) ∙ free);
      };
      lanes = ready.lanes;
      enough = λ pass page x e. absurd (never-some pass e);
    })

rests-ready : (s now : Relocation) (o : OwnerTable) (classes : List Class) (rg : ℕ) (old new : FlashState) → IsReady s o classes rg → Rests s now old new → IsReady now o classes rg
rests-ready s now o classes rg old new ready h = subst (λ (r : Relocation). IsReady r o classes rg) (sym h.group) ready

pub step-ready : (o : OwnerTable) (classes : List Class) (rg : ℕ) (may_erase : Bool) (s now : Relocation) (old new : FlashState) (step : Step) → IsReady s o classes rg → IsStep o classes rg may_erase s now old new step → IsReady now o classes rg
step-ready o classes rg may_erase s now old new steps.Nothing ready h = rests-ready s now o classes rg old new ready h.1
step-ready o classes rg may_erase s now old new (steps.Copied copy) ready h = copy-ready s now o classes rg old new (steps.Copied copy) ready h
step-ready o classes rg may_erase s now old new steps.ReadyToMove ready h = rests-ready s now o classes rg old new ready h.1
step-ready o classes rg may_erase s now old new (steps.Erased unit) ready h = erased-ready s now o classes rg old new unit wrote.Done ready h.0 h.2
step-ready o classes rg may_erase s now old new steps.EraseDue ready h = rests-ready s now o classes rg old new ready h.2
step-ready o classes rg may_erase s now old new steps.Starved ready h = starved-ready s now o classes rg old new ready h
step-ready o classes rg may_erase s now old new (steps.Fault lost.None) ready h = copy-ready s now o classes rg old new (steps.Fault lost.None) ready h
step-ready o classes rg may_erase s now old new (steps.Fault (lost.Aside unit)) ready h = unread-ready s now o classes rg old new unit ready h
step-ready o classes rg may_erase s now old new (steps.Fault (lost.Retired unit)) ready h = erased-ready s now o classes rg old new unit wrote.Failed ready h.0 h.2
