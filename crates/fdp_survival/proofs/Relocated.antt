-- What is safe stays so behind a step of relocation, and a stop within it loses nothing and keeps data apart.
use Rattle.std.proofs.Common.{◌≡◌, ℕ, length, ◌<◌, ◌≤◌, ◌⊎◌, inl, inr, Bool, true, false, IsTrue, List, Option, refl, sym, ◌∙◌, ap, subst, arith, eqb-true}
use Rattle.std.specs.Prelude.{◌&&◌, ◌==◌, if◌then◌else◌}
use Rattle.fdp_base.specs.declared.config.DriveConfig.{DriveConfig}
use Rattle.fdp_base.specs.declared.config.Geometry.{Geometry}
use Rattle.fdp_base.specs.declared.entry.Copied.{Copied}
use Rattle.fdp_base.specs.declared.entry.Entry.{Entry}
use Rattle.fdp_base.specs.declared.entry.Spot.{Spot}
use Rattle.fdp_base.specs.Placement.{geometry_of}
use Rattle.fdp_base.specs.Spare.{data_spare}
use Rattle.fdp_durability.specs.fdp_collector.declared.step.Lost.TheVariants as lost
use Rattle.fdp_durability.specs.fdp_collector.declared.step.Step.{Step}
use Rattle.fdp_durability.specs.fdp_collector.declared.step.Step.TheVariants as steps
use Rattle.fdp_durability.specs.fdp_collector.Erasing.{state_after}
use Rattle.fdp_durability.specs.fdp_collector.Leaving.{ProgramsUnused, StepMayLeave}
use Rattle.fdp_durability.specs.fdp_collector.Ready.{Relocation, lane_at}
use Rattle.fdp_durability.specs.fdp_collector.Step.{IsCopyStep, IsStep, Rests}
use Rattle.fdp_durability.proofs.fdp_collector.Readied.{emptied-unit}
use Rattle.fdp_durability.specs.Durable.{IsDurable, UnitsMoveOn}
use Rattle.fdp_durability.proofs.Durable.{durable-erase, durable-moves, durable-program, durable-stands}
use Rattle.fdp_durability.proofs.Empty.{drawn-empty}
use Rattle.fdp_durability.proofs.Stepping.{durable-step}
use Rattle.fdp_durability.proofs.fdp_readings.Keeping.{erase-system, program-named, program-system}
use Rattle.fdp_flash.specs.declared.answer.Wrote.TheVariants as wrote
use Rattle.fdp_flash.specs.declared.cell.Cell.{Cell}
use Rattle.fdp_flash.specs.declared.cell.Cell.TheVariants.{Whole}
use Rattle.fdp_flash.specs.Cells.{EraseMayLeave, ProgramMayLeave}
use Rattle.fdp_flash.specs.FlashState.{FlashState}
use Rattle.fdp_flash.specs.Runs.{Runs}
use Rattle.fdp_flash.proofs.Pages.{erased_may_leave}
use Rattle.fdp_flash.proofs.Runs.{runs_weakened}
use Rattle.fdp_history.specs.Standing.{IsStanding}
use Rattle.fdp_image.specs.Kept.{StandsForBeginning}
use Rattle.fdp_durability.specs.fdp_journal.JournalState.{JournalState}
use Rattle.fdp_durability.specs.fdp_locations.Located.{AreLed, AreUnitsOf}
use Rattle.fdp_durability.specs.fdp_locations.Stored.{HoldsWritten}
use Rattle.fdp_durability.specs.fdp_locations.Written.{Written}
use Rattle.fdp_durability.proofs.fdp_locations.Copying.{copy-free, copy-fresh, copy-nexts, copy-to}
use Rattle.fdp_durability.proofs.fdp_locations.Others.{data-unit, is-group}
use Rattle.fdp_durability.specs.fdp_pages.Joined.{AreJoined}
use Rattle.fdp_durability.specs.fdp_pages.PageTables.{PageTables, relocation_at}
use Rattle.fdp_passes.specs.Due.{HasNoLive}
use Rattle.fdp_passes.specs.GroupPasses.{GroupPasses}
use Rattle.fdp_passes.specs.Targets.{UsesPage}
use Rattle.fdp_pointers.specs.Facts.{Page}
use Rattle.fdp_pointers.specs.Pointers.{Behind}
use Rattle.fdp_durability.specs.fdp_readings.Drawn.{drawn}
use Rattle.fdp_durability.specs.fdp_readings.Named.{NamesNone}
use Rattle.fdp_rules.specs.History.{Found, point_of}
use Rattle.fdp_isolation.specs.Isolated.{IsIsolatedDrive}
use Rattle.fdp_isolation.proofs.Pages.{erase-keeps}
use Rattle.fdp_isolation.proofs.Stopped.{LeavesApart, left-isolated}
use Rattle.fdp_survival.specs.Apart.{AreSaidApart, StandsApart}
use Rattle.fdp_survival.specs.Safe.{IsSafeAt}
use Rattle.fdp_survival.proofs.Apart.{durable-stands-apart, said-kept, said-left}
use Rattle.fdp_survival.proofs.Units.{GoOn, changed-go, next-go, same-go}
use Rattle.fdp_units.specs.declared.data_unit.DataUnit.{DataUnit}
use Rattle.fdp_units.specs.declared.state.UnitState.TheVariants.{Aside}
use Rattle.fdp_units.specs.DataUnits.{is_free, turned}
use Rattle.fdp_units.specs.UnitTable.{Changes, IsUnit, UnitTable, unit_at}

-- a unit that is set aside, or whose erase failed, has the next page that it had
lost-next : (pages : ℕ) (x : DataUnit) → x.next ≤ (turned pages Aside x).next
lost-next pages x = kept (is_free x.state) where
  kept : (b : Bool) → x.next ≤ (if (b && false) then pages else x.next)
  kept true = omega arith
  kept false = omega arith

retired-next : (pages : ℕ) (x : DataUnit) → x.next ≤ (turned pages (state_after wrote.Failed) x).next
retired-next pages x = kept (is_free x.state) where
  kept : (b : Bool) → x.next ≤ (if (b && false) then pages else x.next)
  kept true = omega arith
  kept false = omega arith

-- where one unit changed, each other has the next page that it had
freed-cases : (old new : UnitTable) (unit : ℕ) (x : DataUnit) → Changes old new unit x → (other : ℕ) → (other ≡ unit) ⊎ ((unit_at old other).next ≤ (unit_at new other).next)
freed-cases old new unit x h other =
    (elim (other == unit) as (λ b. (other == unit) ≡ b → (other ≡ unit) ⊎ ((unit_at old other).next ≤ (unit_at new other).next)) [
      | true ↦ λ is. inl (eqb-true other unit is)
      | false ↦ λ ne. inr (
          let same : unit_at new other ≡ unit_at old other = ap (λ (f : ℕ → DataUnit). f other) h.units ∙ ap (λ (b : Bool). if b then x else unit_at old other) ne in
          let next : (unit_at new other).next ≡ (unit_at old other).next = ap (λ (y : DataUnit). y.next) same in
          omega (arith, next))
    ]) refl

module _ (c : DriveConfig) (f : Found) (es : List Entry) (t new : PageTables) (rg : ℕ) (may_erase : Bool) (s : JournalState) (firm : ℕ) (old now : FlashState) (low : rg < c.groups) (joined : AreJoined t) (units : AreUnitsOf c (point_of c f es).state t) (written : Spot → Option Written) (at : Behind Page)
    (standing : IsStanding c (point_of c f es)) (led : AreLed c (point_of c f es) written at t) (geometry : old.geometry ≡ geometry_of c) (stored : IsTrue old.told → HoldsWritten old.geometry old.cells written t.units) (sure : IsTrue may_erase → s.in_doubt ≡ false)
    (was : IsSafeAt c f es t.units s firm old) where
  none-drawn : (unit : ℕ) → HasNoLive t.owners unit 0 → NamesNone c (drawn c (point_of c f es)) unit
  none-drawn unit none = drawn-empty c (point_of c f es) written at t unit standing led none

  -- whatever a stop leaves of it
  pub survives-step : Runs old now (λ m image. StepMayLeave may_erase old.geometry t.units t.owners old.cells image) → Runs old now (λ m image. StandsForBeginning c f es firm image)
  survives-step run =
      runs_weakened old now (λ m image. StepMayLeave may_erase old.geometry t.units t.owners old.cells image) (λ m image. StandsForBeginning c f es firm image) run
      (λ told m image above most left.
      durable-stands c f es firm s t.units image
      (durable-step c f es firm s may_erase t.units t.owners old.cells image (sym was.cut) was.sealed units.cut sure none-drawn
      (subst (λ (g : Geometry). StepMayLeave may_erase g t.units t.owners old.cells image) geometry left) (was.durable told)))

  -- the cells stay
  same-durable : IsTrue old.told → now.cells ≡ old.cells → IsDurable c f es firm s t.units now.cells
  same-durable told same = subst (IsDurable c f es firm s t.units) (sym same) (was.durable told)

  -- a page was programmed for a copy
  copied-durable : (step : Step) → (h : IsCopyStep t.owners t.handles.classes rg (relocation_at t rg) (relocation_at new rg) old now step) → (bytes : List ℕ) → IsTrue old.told → ProgramMayLeave old.geometry old.cells h.to (data_spare h.owner.spare) bytes now.cells → IsDurable c f es firm s t.units now.cells
  copied-durable step h bytes told left =
      let p = point_of c f es in
      let is = copy-to c p t rg h.from h.to h.owner h.middle joined units low h.due h.owned h.opened in
      let held : HoldsWritten (geometry_of c) old.cells written t.units = subst (λ (g : Geometry). HoldsWritten g old.cells written t.units) geometry (stored told) in
      durable-program c f es firm s t.units old.cells now.cells h.to (data_spare h.owner.spare) bytes (sym was.cut) was.sealed (record { unit = is.0; page = is.1 })
      (copy-free c p t rg h.from h.to h.owner h.middle joined units low h.due h.owned h.opened (geometry_of c) old.cells refl held.blank)
      (subst (λ (g : Geometry). ProgramMayLeave g old.cells h.to (data_spare h.owner.spare) bytes now.cells) geometry left)
      (was.durable told)

  -- a unit was erased, or that failed
  erased-durable : (unit : ℕ) → IsUnit t.units unit → IsTrue may_erase → HasNoLive t.owners unit 0 → IsTrue old.told → EraseMayLeave old.geometry old.cells unit now.cells → IsDurable c f es firm s t.units now.cells
  erased-durable unit there may none told left =
      durable-erase c f es firm s t.units old.cells now.cells unit (sym was.cut) was.sealed (sure may) (data-unit c (point_of c f es).state t unit units there) (none-drawn unit none)
      (subst (λ (g : Geometry). EraseMayLeave g old.cells unit now.cells) geometry left) (was.durable told)

  victim-there : (unit : ℕ) → IsStep t.owners t.handles.classes rg may_erase (relocation_at t rg) (relocation_at new rg) old now (steps.Erased unit) ⊎ IsStep t.owners t.handles.classes rg may_erase (relocation_at t rg) (relocation_at new rg) old now (steps.Fault (lost.Retired unit)) → IsUnit t.units unit
  victim-there unit h =
      let ready = (joined.groups rg (is-group c (point_of c f es).state t rg units low)).ready in
      elim h [
        | inl done ↦ (emptied-unit (relocation_at t rg) t.owners t.handles.classes rg unit ready done.0.0).is_unit
        | inr failed ↦ (emptied-unit (relocation_at t rg) t.owners t.handles.classes rg unit ready failed.0.0).is_unit
      ]

  -- the cells behind it
  step-durable : (step : Step) → IsStep t.owners t.handles.classes rg may_erase (relocation_at t rg) (relocation_at new rg) old now step → IsTrue old.told → IsDurable c f es firm s t.units now.cells
  step-durable steps.Nothing h told = same-durable told (h.1.flash.cells told)
  step-durable (steps.Copied copy) h told =
      let done = h.ended.2.done refl told in
      copied-durable (steps.Copied copy) h done.bytes told (record { cell = Whole (data_spare h.owner.spare) done.bytes; page = inr (inr refl); cells = done.now })
  step-durable steps.ReadyToMove h told = same-durable told (h.1.flash.cells told)
  step-durable (steps.Erased unit) h told = erased-durable unit (victim-there unit (inl h)) h.1 h.0.2 told (erased_may_leave old.geometry old.cells unit now.cells (h.2.flash.done told refl))
  step-durable steps.EraseDue h told = same-durable told (h.2.flash.cells told)
  step-durable steps.Starved h told = same-durable told (h.flash.cells told)
  step-durable (steps.Fault lost.None) h told = let left = h.ended.1.left refl told in copied-durable (steps.Fault lost.None) h left.0 told left.1
  step-durable (steps.Fault (lost.Aside unit)) h told = same-durable told (h.flash.read.cells told)
  step-durable (steps.Fault (lost.Retired unit)) h told = erased-durable unit (victim-there unit (inr h)) h.1 h.0.2 told (h.2.flash.failed told refl)

  -- ---- the units

  on : GoOn t.units new.units → UnitsMoveOn c f es s t.units new.units
  on go unit = inl (go unit)

  rested-go : Rests (relocation_at t rg) (relocation_at new rg) old now → GoOn t.units new.units
  rested-go h = same-go t.units new.units (ap (λ (r : Relocation). unit_at r.units) h.group)

  copied-go : (step : Step) → (h : IsCopyStep t.owners t.handles.classes rg (relocation_at t rg) (relocation_at new rg) old now step) → (passes : GroupPasses) → UsesPage h.middle.passes passes h.middle.units new.units (lane_at t.handles.classes h.owner) h.to.unit → GoOn t.units new.units
  copied-go step h passes uses =
      let p = point_of c f es in
      next-go t.units new.units h.to (copy-fresh c p t rg h.from h.to h.owner h.middle joined units low h.due h.owned h.opened)
      (copy-nexts c p t rg h.from h.to h.owner h.middle joined units low h.due h.owned h.opened passes new.units uses)

  -- the victim is erased, while nothing is in doubt, and the others stay
  freed-on : (unit : ℕ) (x : DataUnit) → IsTrue may_erase → HasNoLive t.owners unit 0 → Changes t.units new.units unit x → UnitsMoveOn c f es s t.units new.units
  freed-on unit x may none h other = cases (cases_of other) where
    cases_of : (other : ℕ) → (other ≡ unit) ⊎ ((unit_at t.units other).next ≤ (unit_at new.units other).next)
    cases_of other = freed-cases t.units new.units unit x h other

    cases : (other ≡ unit) ⊎ ((unit_at t.units other).next ≤ (unit_at new.units other).next) → ((unit_at t.units other).next ≤ (unit_at new.units other).next) ⊎ ((s.in_doubt ≡ false) × NamesNone c (drawn c (point_of c f es)) other)
    cases (inl is) = inr (sure may, subst (NamesNone c (drawn c (point_of c f es))) (sym is) (none-drawn unit none))
    cases (inr more) = inl more

  step-on : (step : Step) → IsStep t.owners t.handles.classes rg may_erase (relocation_at t rg) (relocation_at new rg) old now step → UnitsMoveOn c f es s t.units new.units
  step-on steps.Nothing h = on (rested-go h.1)
  step-on (steps.Copied copy) h = on (copied-go (steps.Copied copy) h h.ended.1.passes (subst (λ (u : ℕ). UsesPage h.middle.passes h.ended.1.passes h.middle.units new.units (lane_at t.handles.classes h.owner) u) (ap (λ (x : Copied). x.to.unit) h.ended.0) h.ended.1.used))
  step-on steps.ReadyToMove h = on (rested-go h.1)
  step-on (steps.Erased unit) h = freed-on unit _ h.1 h.0.2 h.2.becomes
  step-on steps.EraseDue h = on (rested-go h.2)
  step-on steps.Starved h = on (same-go t.units new.units h.starved.units)
  step-on (steps.Fault lost.None) h = on (copied-go (steps.Fault lost.None) h h.ended.0.passes h.ended.0.used)
  step-on (steps.Fault (lost.Aside unit)) h = on (changed-go t.units new.units unit _ h.aside.becomes (lost-next t.units.unit_pages (unit_at t.units unit)))
  step-on (steps.Fault (lost.Retired unit)) h = on (changed-go t.units new.units unit _ h.2.becomes (retired-next t.units.unit_pages (unit_at t.units unit)))

  -- ---- behind it

  pub safe-step : (step : Step) → IsStep t.owners t.handles.classes rg may_erase (relocation_at t rg) (relocation_at new rg) old now step → now.told ≡ old.told → IsSafeAt c f es new.units s firm now
  safe-step step h same = record {
    sealed = was.sealed;
    cut = was.cut;
    durable = λ told. durable-moves c f es firm s t.units new.units now.cells (sym was.cut) (step-on step h) (step-durable step h (subst IsTrue same told));
    firm_is = was.firm_is;
    within = was.within;
  }

  -- ---- isolation

  -- what a stop within it may leave, or the step itself: what the areas say is isolated there, where each unit that got a page is
  pub left-said : (image : List Cell) → IsTrue old.told → StepMayLeave may_erase old.geometry t.units t.owners old.cells image → LeavesApart c (point_of c f es).state old.cells image → AreSaidApart c s old.cells → AreSaidApart c s image
  left-said image told left apart said =
      let durable = was.durable told in
      let same = sym was.cut in
      elim (subst (λ (g : Geometry). StepMayLeave may_erase g t.units t.owners old.cells image) geometry left) [
        | inl as_was ↦ subst (AreSaidApart c s) (sym as_was) said
        | inr called ↦
            elim called [
              | inl p ↦
                  said-left c f es firm s t.units old.cells image same was.sealed (program-system c old.cells image p.at p.spare p.bytes p.page p.left) durable said
                  (λ r valid. program-named c r old.cells image p.at p.spare p.bytes valid p.blank p.left) apart
              | inr e ↦
                  said-kept c f es firm s t.units old.cells image same was.sealed (erase-system c old.cells image e.1.unit (data-unit c (point_of c f es).state t e.1.unit units e.1.is_unit) e.1.left) durable said
                  (λ unit is. erase-keeps c old.cells image e.1.unit e.1.left unit)
            ]
      ]

  -- data stands apart in an image within it
  pub left-apart : (image : List Cell) → IsTrue old.told → StepMayLeave may_erase old.geometry t.units t.owners old.cells image → LeavesApart c (point_of c f es).state old.cells image → AreSaidApart c s old.cells → IsIsolatedDrive c (point_of c f es) es old.cells → StandsApart c f es (length es) image
  left-apart image told left apart said isolated =
      durable-stands-apart c f es firm s t.units image
      (durable-step c f es firm s may_erase t.units t.owners old.cells image (sym was.cut) was.sealed units.cut sure none-drawn (subst (λ (g : Geometry). StepMayLeave may_erase g t.units t.owners old.cells image) geometry left) (was.durable told))
      (left-said image told left apart said) (left-isolated c (point_of c f es) es old.cells image apart isolated)

  -- what the step left is one of these
  copy-ended : (step : Step) → (h : IsCopyStep t.owners t.handles.classes rg (relocation_at t rg) (relocation_at new rg) old now step) → (bytes : List ℕ) → IsTrue old.told → ProgramMayLeave old.geometry old.cells h.to (data_spare h.owner.spare) bytes now.cells → ProgramsUnused old.geometry t.units old.cells now.cells
  copy-ended step h bytes told left =
      let p = point_of c f es in
      let is = copy-to c p t rg h.from h.to h.owner h.middle joined units low h.due h.owned h.opened in
      let fresh = copy-fresh c p t rg h.from h.to h.owner h.middle joined units low h.due h.owned h.opened in
      let held : HoldsWritten (geometry_of c) old.cells written t.units = subst (λ (g : Geometry). HoldsWritten g old.cells written t.units) geometry (stored told) in
      subst (λ (g : Geometry). ProgramsUnused g t.units old.cells now.cells) (sym geometry) (record {
        at = h.to;
        spare = data_spare h.owner.spare;
        bytes = bytes;
        page = record { unit = is.0; page = is.1 };
        unused = omega (arith, fresh);
        blank = copy-free c p t rg h.from h.to h.owner h.middle joined units low h.due h.owned h.opened (geometry_of c) old.cells refl held.blank;
        left = subst (λ (g : Geometry). ProgramMayLeave g old.cells h.to (data_spare h.owner.spare) bytes now.cells) geometry left;
      })

  pub step-ended : (step : Step) → IsStep t.owners t.handles.classes rg may_erase (relocation_at t rg) (relocation_at new rg) old now step → IsTrue old.told → StepMayLeave may_erase old.geometry t.units t.owners old.cells now.cells
  step-ended steps.Nothing h told = inl (h.1.flash.cells told)
  step-ended (steps.Copied copy) h told =
      let done = h.ended.2.done refl told in
      inr (inl (copy-ended (steps.Copied copy) h done.bytes told (record { cell = Whole (data_spare h.owner.spare) done.bytes; page = inr (inr refl); cells = done.now })))
  step-ended steps.ReadyToMove h told = inl (h.1.flash.cells told)
  step-ended (steps.Erased unit) h told = inr (inr (h.1, record { unit = unit; is_unit = victim-there unit (inl h); empty = h.0.2; left = erased_may_leave old.geometry old.cells unit now.cells (h.2.flash.done told refl) }))
  step-ended steps.EraseDue h told = inl (h.2.flash.cells told)
  step-ended steps.Starved h told = inl (h.flash.cells told)
  step-ended (steps.Fault lost.None) h told = let left = h.ended.1.left refl told in inr (inl (copy-ended (steps.Fault lost.None) h left.0 told left.1))
  step-ended (steps.Fault (lost.Aside unit)) h told = inl (h.flash.read.cells told)
  step-ended (steps.Fault (lost.Retired unit)) h told = inr (inr (h.1, record { unit = unit; is_unit = victim-there unit (inr h); empty = h.0.2; left = h.2.flash.failed told refl }))
