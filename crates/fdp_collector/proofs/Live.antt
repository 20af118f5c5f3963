-- A live page that was fetched, and the page that was found for its copy.
use Rattle.std.proofs.Common.{◌≡◌, ℕ, ◌<◌, ◌≤◌, Bool, List, Option, Some, refl, ap, sym, ◌∙◌, subst, arith, inl, inr}
use Rattle.std.specs.Prelude.{IfSome, IsTrue}
use Rattle.fdp_base.specs.declared.config.Class.{Class}
use Rattle.fdp_base.specs.declared.config.Geometry.{Geometry}
use Rattle.fdp_base.specs.declared.entry.Spot.{Spot}
use Rattle.fdp_base.specs.Geometry.{data_units}
use Rattle.fdp_base.specs.Spare.{data_spare}
use Rattle.fdp_collector.specs.declared.step.Lost.TheVariants as lost
use Rattle.fdp_collector.specs.declared.step.Step.TheVariants as steps
use Rattle.fdp_collector.specs.Copying.{Copies}
use Rattle.fdp_collector.specs.Leaving.{StepMayLeave}
use Rattle.fdp_collector.specs.Ready.{AreOfFlash, IsBlankBehind, IsOpen, IsReady, Relocation, lane_at}
use Rattle.fdp_collector.specs.Step.{AddsCopy, IsCopyStep, SkipsPage}
use Rattle.fdp_collector.proofs.Copied.{CopyMayLeave, CopyRun, copies-done, copies-unprogrammed}
use Rattle.fdp_collector.proofs.Readied.{copy-blank, copy-opened, copy-unused, data-unit, first-blank, open-cut, open-unit, target-of}
use Rattle.fdp_flash.specs.declared.answer.Fetched.TheVariants as fetched
use Rattle.fdp_flash.specs.declared.answer.Wrote.TheVariants as wrote
use Rattle.fdp_flash.specs.declared.cell.Cell.{Cell}
use Rattle.fdp_flash.specs.Answers.{Fetches, Programs}
use Rattle.fdp_flash.specs.Cells.{IsBlankFrom}
use Rattle.fdp_flash.specs.FlashState.{Begins, FlashState}
use Rattle.fdp_flash.specs.Runs.{Runs}
use Rattle.fdp_flash.proofs.Runs.{runs_weakened}
use Rattle.fdp_owners.specs.declared.owner.Owner.{Owner}
use Rattle.fdp_owners.specs.OwnerTable.{OwnerTable, owner_at}
use Rattle.fdp_passes.specs.declared.due.Due.TheVariants as due
use Rattle.fdp_passes.specs.declared.lane.Lane.{Lane}
use Rattle.fdp_passes.specs.Due.{IsDue}
use Rattle.fdp_passes.specs.GroupPasses.{IsLane, Pass}
use Rattle.fdp_passes.specs.Targets.{OpensPage}
use Rattle.fdp_units.specs.DataUnits.{is_open}
use Rattle.fdp_units.specs.UnitTable.{Cut, IsUnit, state_at}

module _ (s now : Relocation) (o : OwnerTable) (classes : List Class) (rg : ℕ) (from to : Spot) (x : Owner) (lane : Lane) (is : lane ≡ lane_at classes x) (ready : IsReady s o classes rg) (is_due : IsDue s.passes s.units o rg (due.Copy from)) (owned : owner_at o from ≡ Some x) (there : IsLane lane) (opened : OpensPage s.passes now.passes s.units now.units rg from.unit lane to) where
  own-opened : OpensPage s.passes now.passes s.units now.units rg from.unit (lane_at classes x) to
  own-opened = subst (λ (l : Lane). OpensPage s.passes now.passes s.units now.units rg from.unit l to) is opened

  pub live-open : IsOpen now o lane from to
  live-open = subst (λ (l : Lane). IsOpen now o l from to) (sym is) (copy-opened s now o classes rg from to x ready is_due owned (subst IsLane is there) own-opened)

  pub live-fills : IsTrue (is_open (state_at now.units to.unit))
  live-fills = ap is_open live-open.opened

  pub live-order : IfSome now.passes.pass (λ (pass : Pass). pass.next ≤ from.page)
  live-order = subst (λ (p : Option Pass). IfSome p (λ (pass : Pass). pass.next ≤ from.page)) (sym live-open.under_way) live-open.order

  pub live-victim : IfSome now.passes.pass (λ (pass : Pass). IsUnit now.units pass.victim)
  live-victim = subst (λ (p : Option Pass). IfSome p (λ (pass : Pass). IsUnit now.units pass.victim)) (sym live-open.under_way) (subst (λ (u : ℕ). IsUnit now.units u) (sym live-open.victim) live-open.old_unit)

  module _ (a b : FlashState) (spare bytes : List ℕ) (flash : AreOfFlash s.units a.geometry) (begins : Begins a b) (read : Fetches a b from spare bytes fetched.Whole) where
    pub live-blank : (IsTrue a.told → IsBlankBehind a.geometry a.cells s.units) → IsTrue b.told → IsBlankFrom b.geometry b.cells to
    live-blank blank told =
        let before : IsTrue a.told = sym begins.told ∙ told in
        subst (λ (g : Geometry). IsBlankFrom g b.cells to) (sym begins.geometry)
        (subst (λ (cells : List Cell). IsBlankFrom a.geometry cells to) (sym (read.reads.cells before)) (copy-blank s now o classes rg from to lane a.geometry a.cells ready opened (blank before)))

    data-page : to.unit < data_units a.geometry
    data-page = data-unit s.units a.geometry to.unit flash (open-unit s now rg from.unit (lane_at classes x) to.unit (target-of s o classes rg (lane_at classes x) ready) own-opened.target).is_unit

    within : to.page < a.geometry.unit_pages
    within =
        let cut : now.units.unit_pages ≡ s.units.unit_pages = ap (λ (k : Cut). k.unit_pages) (open-cut s now rg from.unit lane to.unit opened.target) in
        let below : to.page < now.units.unit_pages = opened.within in
        omega (arith, cut, below, flash.unit_pages)

    left : (may_erase : Bool) (image : List Cell) → IsBlankBehind a.geometry a.cells s.units → CopyMayLeave a to spare bytes image → StepMayLeave may_erase a.geometry s.units o a.cells image
    left may_erase image behind (inl same) = inl same
    left may_erase image behind (inr programmed) = inr (inl (record {
      at = to;
      spare = spare;
      bytes = bytes;
      page = record { unit = data-page; page = within };
      unused = copy-unused s now o classes rg from to lane ready opened;
      blank = first-blank a.geometry a.cells to within (copy-blank s now o classes rg from to lane a.geometry a.cells ready opened behind);
      left = programmed;
    }))

    leaves : (may_erase : Bool) (c : FlashState) → (IsTrue a.told → IsBlankBehind a.geometry a.cells s.units) → CopyRun a c to spare bytes → Runs a c (λ m image. StepMayLeave may_erase a.geometry s.units o a.cells image)
    leaves may_erase c behind run =
        runs_weakened a c (λ m image. CopyMayLeave a to spare bytes image) (λ m image. StepMayLeave may_erase a.geometry s.units o a.cells image) run (λ told m image above most h. left may_erase image (behind told) h)

    module _ (c : FlashState) (after : Relocation) (calls : Begins b c) (spare_is : spare ≡ data_spare x.spare) where
      pub live-copied-run : (may_erase : Bool) → (IsTrue a.told → IsBlankBehind a.geometry a.cells s.units) → Programs b c to spare bytes wrote.Done → Runs a c (λ m image. StepMayLeave may_erase a.geometry s.units o a.cells image)
      live-copied-run may_erase behind answer = leaves may_erase c behind (copies-done a b c from to spare bytes begins read data-page calls answer).0

      pub live-skipped-run : (may_erase : Bool) → (IsTrue a.told → IsBlankBehind a.geometry a.cells s.units) → Programs b c to spare bytes wrote.Failed → Runs a c (λ m image. StepMayLeave may_erase a.geometry s.units o a.cells image)
      live-skipped-run may_erase behind answer = leaves may_erase c behind (copies-unprogrammed a b c from to spare bytes begins read calls answer).0

      pub live-copied : Programs b c to spare bytes wrote.Done → AddsCopy now after lane (record { from = from; to = to }) → IsCopyStep o classes rg s after a c (steps.Copied (record { from = from; to = to }))
      live-copied answer adds = record {
        from = from;
        to = to;
        owner = x;
        middle = now;
        due = is_due;
        owned = owned;
        opened = own-opened;
        ended = (refl, subst (λ (l : Lane). AddsCopy now after l (record { from = from; to = to })) is adds, subst (λ (w : List ℕ). Copies a c from to w wrote.Done) spare_is (copies-done a b c from to spare bytes begins read data-page calls answer).1);
      }

      pub live-skipped : Programs b c to spare bytes wrote.Failed → SkipsPage now after o lane to.unit → IsCopyStep o classes rg s after a c (steps.Fault lost.None)
      live-skipped answer skips = record {
        from = from;
        to = to;
        owner = x;
        middle = now;
        due = is_due;
        owned = owned;
        opened = own-opened;
        ended = (subst (λ (l : Lane). SkipsPage now after o l to.unit) is skips, subst (λ (w : List ℕ). Copies a c from to w wrote.Failed) spare_is (copies-unprogrammed a b c from to spare bytes begins read calls answer).1);
      }
