-- The flash holds what was written after a step of relocation.
use Rattle.std.proofs.Common.{◌≡◌, ℕ, ◌<◌, Bool, List, [], ◌∷◌, ◌++◌, Option, Some, refl, sym, ap, subst}
use Rattle.std.specs.Prelude.{IsTrue, slice_get}
use Rattle.std.proofs.lemmas.List.{append-nil}
use Rattle.fdp_base.specs.declared.config.DriveConfig.{DriveConfig}
use Rattle.fdp_base.specs.declared.config.Geometry.{Geometry}
use Rattle.fdp_base.specs.declared.entry.Copied.{Copied}
use Rattle.fdp_base.specs.declared.entry.Entry.{Entry}
use Rattle.fdp_base.specs.declared.entry.Entry.TheVariants as entries
use Rattle.fdp_base.specs.declared.entry.Spot.{Spot}
use Rattle.fdp_base.specs.Placement.{geometry_of}
use Rattle.fdp_base.specs.Spare.{data_spare}
use Rattle.fdp_book.specs.declared.tables.Tables.{Tables}
use Rattle.fdp_book.specs.Held.{IsHeld}
use Rattle.fdp_book.specs.Relocating.{told_by}
use Rattle.fdp_readings.specs.fdp_collector.declared.step.Lost.TheVariants as lost
use Rattle.fdp_readings.specs.fdp_collector.declared.step.Step.{Step}
use Rattle.fdp_readings.specs.fdp_collector.declared.step.Step.TheVariants as steps
use Rattle.fdp_readings.specs.fdp_collector.Copying.{IsDataPage}
use Rattle.fdp_readings.specs.fdp_collector.Ready.{IsBlankBehind}
use Rattle.fdp_readings.specs.fdp_collector.Step.{IsCopyStep, IsStep}
use Rattle.fdp_flash.specs.declared.cell.Cell.TheVariants.{Blank}
use Rattle.fdp_flash.specs.FlashState.{FlashState}
use Rattle.fdp_flash.specs.Layout.{page_number}
use Rattle.fdp_flash.proofs.Pages.{erased_may_leave}
use Rattle.fdp_readings.specs.fdp_locations.Stored.{HoldsWritten}
use Rattle.fdp_readings.specs.fdp_locations.Written.{Written, written_after, written_by}
use Rattle.fdp_readings.proofs.fdp_locations.Copying.{copy-free, copy-to}
use Rattle.fdp_readings.proofs.fdp_locations.Histories.{written_by-push}
use Rattle.fdp_readings.proofs.fdp_locations.Storing.{holds-copied, holds-erased, holds-others, holds-still}
use Rattle.fdp_readings.specs.fdp_pages.Joined.{AreJoined}
use Rattle.fdp_readings.specs.fdp_pages.PageTables.{PageTables, relocation_at}
use Rattle.fdp_rules.specs.History.{Found, point_of}
use Rattle.fdp_rules.specs.Point.{Point}

module _ (c : DriveConfig) (found : Found) (first : Spot → Option Written) (es : List Entry) (t : Tables) (pages : PageTables) (rg : ℕ) (h : IsHeld c found first es t) (joined : AreJoined t.pages) (low : rg < c.groups) (old new : FlashState) (cut : old.geometry ≡ geometry_of c) (told : IsTrue old.told)
    (holds : HoldsWritten old.geometry old.cells (written_by c found first es) t.pages.units) (blank : IsBlankBehind old.geometry new.cells pages.units) where
  abbrev p : Point
  p = point_of c found es

  abbrev written : Spot → Option Written
  written = written_by c found first es

  -- what is held after an entry, or after none
  after-entry : (e : Entry) → HoldsWritten old.geometry new.cells (written_after c p.state written e) pages.units → HoldsWritten old.geometry new.cells (written_by c found first (es ++ e ∷ [])) pages.units
  after-entry e = subst (λ (w : Spot → Option Written). HoldsWritten old.geometry new.cells w pages.units) (sym (written_by-push c found first es e))

  after-none : HoldsWritten old.geometry new.cells written pages.units → HoldsWritten old.geometry new.cells (written_by c found first (es ++ [])) pages.units
  after-none = subst (λ (xs : List Entry). HoldsWritten old.geometry new.cells (written_by c found first xs) pages.units) (sym (append-nil es))

  still : new.cells ≡ old.cells → HoldsWritten old.geometry new.cells written pages.units
  still = holds-still old.geometry old.cells new.cells written t.pages.units pages.units blank holds

  -- the page that was found for a copy
  free : (step : Step) (s : IsCopyStep t.pages.owners t.pages.handles.classes rg (relocation_at t.pages rg) (relocation_at pages rg) old new step) → slice_get old.cells (page_number old.geometry s.to) ≡ Some Blank
  free step s = copy-free c p t.pages rg s.from s.to s.owner s.middle joined h.units_are low s.due s.owned s.opened old.geometry old.cells (ap (λ (g : Geometry). g.unit_pages) cut) holds.blank

  after-copy : (copy : Copied) → IsCopyStep t.pages.owners t.pages.handles.classes rg (relocation_at t.pages rg) (relocation_at pages rg) old new (steps.Copied copy) → HoldsWritten old.geometry new.cells (written_by c found first (es ++ entries.Copied copy ∷ [])) pages.units
  after-copy copy s =
      let there = copy-to c p t.pages rg s.from s.to s.owner s.middle joined h.units_are low s.due s.owned s.opened in
      subst (λ (x : Copied). HoldsWritten old.geometry new.cells (written_by c found first (es ++ entries.Copied x ∷ [])) pages.units) (sym s.ended.0)
      (after-entry (entries.Copied (record { from = s.from; to = s.to }))
      (holds-copied old.geometry old.cells new.cells written t.pages.units pages.units blank holds s.to (free (steps.Copied copy) s) s.from (data_spare s.owner.spare)
      (subst (λ (g : Geometry). IsDataPage g s.to) (sym cut) (record { unit = there.0; page = there.1 }))
      (s.ended.2.done refl told)))

  pub step-holds : (may_erase : Bool) (step : Step) → IsStep t.pages.owners t.pages.handles.classes rg may_erase (relocation_at t.pages rg) (relocation_at pages rg) old new step → HoldsWritten old.geometry new.cells (written_by c found first (es ++ told_by rg step)) pages.units
  step-holds may_erase steps.Nothing s = after-none (still (s.1.flash.cells told))
  step-holds may_erase (steps.Copied copy) s = after-copy copy s
  step-holds may_erase steps.ReadyToMove s = after-none (still (s.1.flash.cells told))
  step-holds may_erase (steps.Erased unit) s =
      after-entry (entries.Erased (record { unit = unit })) (holds-erased old.geometry old.cells new.cells written t.pages.units pages.units blank holds unit (erased_may_leave old.geometry old.cells unit new.cells (s.2.flash.done told refl)))
  step-holds may_erase steps.EraseDue s = after-none (still (s.2.flash.cells told))
  step-holds may_erase steps.Starved s = after-entry (entries.Worn (record { rg = rg })) (still (s.flash.cells told))
  step-holds may_erase (steps.Fault lost.None) s =
      after-none (holds-others old.geometry old.cells new.cells written t.pages.units pages.units blank holds s.to (free (steps.Fault lost.None) s) (s.ended.1.others told))
  step-holds may_erase (steps.Fault (lost.Aside unit)) s = after-entry (entries.Aside (record { unit = unit })) (still (s.flash.read.cells told))
  step-holds may_erase (steps.Fault (lost.Retired unit)) s =
      after-entry (entries.Retired (record { unit = unit })) (holds-erased old.geometry old.cells new.cells written t.pages.units pages.units blank holds unit (s.2.flash.failed told refl))
