-- The tables after a step of relocation.
use Rattle.std.proofs.Common.{◌≡◌, ℕ, ◌<◌, Bool, true, List, [], ◌∷◌, ◌++◌, Option, refl, sym, ap, subst}
use Rattle.std.specs.Prelude.{slice_set}
use Rattle.fdp_base.specs.declared.config.DriveConfig.{DriveConfig}
use Rattle.fdp_base.specs.declared.entry.Copied.{Copied}
use Rattle.fdp_base.specs.declared.entry.Entry.{Entry}
use Rattle.fdp_base.specs.declared.entry.Entry.TheVariants as entries
use Rattle.fdp_base.specs.declared.entry.Spot.{Spot}
use Rattle.fdp_book.specs.declared.tables.Tables.{Tables}
use Rattle.fdp_book.specs.Held.{IsHeld}
use Rattle.fdp_book.specs.Relocating.{CountsTold, told_by}
use Rattle.fdp_book.proofs.Held.Worked.{held-rested, held-unsaid, held-worked, quiet-aside, quiet-copied, quiet-erased, quiet-retired, quiet-worn}
use Rattle.fdp_readings.specs.fdp_collector.declared.step.Lost.TheVariants as lost
use Rattle.fdp_readings.specs.fdp_collector.declared.step.Step.{Step}
use Rattle.fdp_readings.specs.fdp_collector.declared.step.Step.TheVariants as steps
use Rattle.fdp_readings.specs.fdp_collector.Ready.{lane_at}
use Rattle.fdp_readings.specs.fdp_collector.Step.{AddsCopy, EndsInErase, GoesAside, IsCopyStep, IsStarved, IsStep, IsUnread, Rests}
use Rattle.fdp_flash.specs.declared.answer.Wrote.TheVariants as wrote
use Rattle.fdp_flash.specs.FlashState.{FlashState}
use Rattle.fdp_readings.specs.fdp_locations.Written.{Written, written_by}
use Rattle.fdp_readings.proofs.fdp_locations.Copying.{copied-led, copied-units, copy-alike, copy-follows}
use Rattle.fdp_readings.proofs.fdp_locations.Ending.{aside-follows, aside-led, aside-units, erase-follows, erased-led, erased-units, rests-same, retire-follows, retired-led, retired-units, skipped-led, skipped-units, worn-follows, worn-led, worn-units}
use Rattle.fdp_readings.proofs.fdp_locations.Others.{ChangesPasses}
use Rattle.fdp_readings.proofs.fdp_locations.Units.{units-same}
use Rattle.fdp_readings.specs.fdp_pages.Joined.{AreJoined}
use Rattle.fdp_readings.specs.fdp_pages.PageTables.{PageTables, passes_at, relocation_at}
use Rattle.fdp_passes.specs.declared.due.Due.TheVariants as due
use Rattle.fdp_passes.specs.Due.{IsDue}
use Rattle.fdp_rules.specs.History.{Found, point_of}
use Rattle.fdp_rules.specs.Next.{next}
use Rattle.fdp_rules.specs.Point.{Point}
use Rattle.fdp_units.specs.UnitTable.{IsGroup}

module _ (c : DriveConfig) (found : Found) (first : Spot → Option Written) (es : List Entry) (t now : Tables) (rg : ℕ) (h : IsHeld c found first es t) (joined : AreJoined t.pages) (low : rg < c.groups)
    (rest : now ≡ record t { outline = now.outline; pages = now.pages }) (pages : now.pages ≡ record t.pages { units = now.pages.units; passes = slice_set t.pages.passes rg (passes_at now.pages rg) }) where
  abbrev p : Point
  p = point_of c found es

  abbrev written : Spot → Option Written
  written = written_by c found first es

  owners : now.pages.owners ≡ t.pages.owners
  owners = ap (λ (x : PageTables). x.owners) pages

  handles : now.pages.handles ≡ t.pages.handles
  handles = ap (λ (x : PageTables). x.handles) pages

  others : ChangesPasses t.pages now.pages rg
  others = ap (λ (x : PageTables). x.passes) pages

  module _ (is : IsGroup t.pages.units rg) (old new : FlashState) where
    held-rests : now.outline ≡ t.outline → Rests (relocation_at t.pages rg) (relocation_at now.pages rg) old new → IsHeld c found first (es ++ []) now
    held-rests told r = held-rested c found first es t now h rest told (rests-same t.pages now.pages rg joined is pages r.group)

    held-copied : (copy : Copied) → CountsTold (entries.Copied copy ∷ []) t.outline now.outline → IsCopyStep t.pages.owners t.pages.handles.classes rg (relocation_at t.pages rg) (relocation_at now.pages rg) old new (steps.Copied copy) → IsHeld c found first (es ++ entries.Copied copy ∷ []) now
    held-copied copy told s =
        let own : Copied = record { from = s.from; to = s.to } in
        let adds = subst (λ (x : Copied). AddsCopy s.middle (relocation_at now.pages rg) (lane_at t.pages.handles.classes s.owner) x) s.ended.0 s.ended.1 in
        subst (λ (x : Copied). IsHeld c found first (es ++ entries.Copied x ∷ []) now) (sym s.ended.0)
        (held-worked c found first es t now h rest (entries.Copied own) refl
        (copy-follows c p t.pages rg s.from s.to s.owner s.middle joined h.units_are low s.due s.owned s.opened true)
        (quiet-copied c p own)
        told
        (units-same c p.state (next c p (entries.Copied own)).state t.pages now.pages (copied-units c p own) (copy-alike c p t.pages rg s.from s.to s.owner s.middle joined h.units_are low s.due s.owned s.opened adds.passes now.pages.units adds.used) handles h.units_are)
        (copied-led c p t.pages rg s.from s.to s.owner s.middle joined h.units_are low s.due s.owned s.opened written h.pages_are.at now.pages h.orderly h.pages_are.led owners others adds))

    held-erased : (unit : ℕ) → CountsTold (entries.Erased (record { unit = unit }) ∷ []) t.outline now.outline → IsDue (passes_at t.pages rg) t.pages.units t.pages.owners rg (due.Erase unit) → EndsInErase (relocation_at t.pages rg) (relocation_at now.pages rg) old new unit wrote.Done → IsHeld c found first (es ++ entries.Erased (record { unit = unit }) ∷ []) now
    held-erased unit told is_due ends =
        held-worked c found first es t now h rest (entries.Erased (record { unit = unit })) refl
        (erase-follows c p t.pages rg unit joined h.units_are low is_due written h.pages_are.at h.orderly h.pages_are.led true)
        (quiet-erased c p unit)
        told
        (erased-units c p t.pages rg unit joined h.units_are low is_due written h.pages_are.at h.orderly h.pages_are.led now.pages owners handles others ends.passes ends.becomes ends.worn)
        (erased-led c p t.pages rg unit joined h.units_are low is_due written h.pages_are.at h.orderly h.pages_are.led now.pages owners handles others ends.passes ends.becomes)

    held-retired : (unit : ℕ) → CountsTold (entries.Retired (record { unit = unit }) ∷ []) t.outline now.outline → IsDue (passes_at t.pages rg) t.pages.units t.pages.owners rg (due.Erase unit) → EndsInErase (relocation_at t.pages rg) (relocation_at now.pages rg) old new unit wrote.Failed → IsHeld c found first (es ++ entries.Retired (record { unit = unit }) ∷ []) now
    held-retired unit told is_due ends =
        held-worked c found first es t now h rest (entries.Retired (record { unit = unit })) refl
        (retire-follows c p t.pages rg unit joined h.units_are low is_due written h.pages_are.at h.orderly h.pages_are.led true)
        (quiet-retired c p unit)
        told
        (retired-units c p t.pages rg unit joined h.units_are low is_due written h.pages_are.at h.orderly h.pages_are.led now.pages owners handles others ends.passes ends.becomes ends.worn)
        (retired-led c p t.pages rg unit joined h.units_are low is_due written h.pages_are.at h.orderly h.pages_are.led now.pages owners handles others ends.passes ends.becomes)

    held-starved : CountsTold (entries.Worn (record { rg = rg }) ∷ []) t.outline now.outline → IsStarved t.pages.owners t.pages.handles.classes rg (relocation_at t.pages rg) (relocation_at now.pages rg) old new → IsHeld c found first (es ++ entries.Worn (record { rg = rg }) ∷ []) now
    held-starved told s =
        held-worked c found first es t now h rest (entries.Worn (record { rg = rg })) refl
        (worn-follows c p t.pages now.pages rg (lane_at t.pages.handles.classes s.owner) h.units_are low s.starved true)
        (quiet-worn c p rg)
        told
        (worn-units c p t.pages now.pages rg (lane_at t.pages.handles.classes s.owner) h.units_are low s.starved handles)
        (worn-led c p t.pages now.pages rg (lane_at t.pages.handles.classes s.owner) h.units_are low s.starved written h.pages_are.at h.orderly owners others h.pages_are.led)

    held-skipped : now.outline ≡ t.outline → IsCopyStep t.pages.owners t.pages.handles.classes rg (relocation_at t.pages rg) (relocation_at now.pages rg) old new (steps.Fault lost.None) → IsHeld c found first (es ++ []) now
    held-skipped told s =
        held-unsaid c found first es t now h rest told
        (skipped-units c p t.pages rg s.from s.to s.owner s.middle joined h.units_are low s.due s.owned s.opened written h.pages_are.at now.pages h.orderly h.pages_are.led owners handles others s.ended.0)
        (skipped-led c p t.pages rg s.from s.to s.owner s.middle joined h.units_are low s.due s.owned s.opened written h.pages_are.at now.pages h.orderly h.pages_are.led owners handles others s.ended.0)

    held-aside : (unit : ℕ) → CountsTold (entries.Aside (record { unit = unit }) ∷ []) t.outline now.outline → IsUnread t.pages.owners t.pages.handles.classes rg (relocation_at t.pages rg) (relocation_at now.pages rg) old new unit → IsHeld c found first (es ++ entries.Aside (record { unit = unit }) ∷ []) now
    held-aside unit told s =
        let goes = subst (λ (u : ℕ). GoesAside (relocation_at t.pages rg) (relocation_at now.pages rg) u) s.unit_is s.aside in
        subst (λ (u : ℕ). IsHeld c found first (es ++ entries.Aside (record { unit = u }) ∷ []) now) (sym s.unit_is)
        (held-worked c found first es t now h rest (entries.Aside (record { unit = s.from.unit })) refl
        (aside-follows c p t.pages rg s.from joined h.units_are low s.due true)
        (quiet-aside c p s.from.unit)
        told
        (aside-units c p t.pages rg s.from joined h.units_are low s.due now.pages handles goes)
        (aside-led c p t.pages rg s.from joined h.units_are low s.due now.pages handles goes written h.pages_are.at h.orderly h.pages_are.led owners others))

    pub held-step : (may_erase : Bool) (step : Step) → CountsTold (told_by rg step) t.outline now.outline → IsStep t.pages.owners t.pages.handles.classes rg may_erase (relocation_at t.pages rg) (relocation_at now.pages rg) old new step → IsHeld c found first (es ++ told_by rg step) now
    held-step may_erase steps.Nothing told s = held-rests told s.1
    held-step may_erase (steps.Copied copy) told s = held-copied copy told s
    held-step may_erase steps.ReadyToMove told s = held-rests told s.1
    held-step may_erase (steps.Erased unit) told s = held-erased unit told s.0 s.2
    held-step may_erase steps.EraseDue told s = held-rests told s.2
    held-step may_erase steps.Starved told s = held-starved told s
    held-step may_erase (steps.Fault lost.None) told s = held-skipped told s
    held-step may_erase (steps.Fault (lost.Aside unit)) told s = held-aside unit told s
    held-step may_erase (steps.Fault (lost.Retired unit)) told s = held-retired unit told s.0 s.2
