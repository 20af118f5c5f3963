-- The entry that tells of a step of relocation may follow.
use Rattle.std.proofs.Common.{ℕ, ◌<◌, Bool, ◌∷◌, [], Option, sym, subst}
use Rattle.fdp_base.specs.declared.entry.Copied.{Copied}
use Rattle.fdp_base.specs.declared.entry.Entry.TheVariants as entries
use Rattle.fdp_base.specs.declared.entry.Spot.{Spot}
use Rattle.fdp_book.specs.declared.tables.Tables.{Tables}
use Rattle.fdp_book.specs.Book.{BookSeen, point_in}
use Rattle.fdp_book.specs.Held.{IsHeld}
use Rattle.fdp_book.specs.Relocating.{MayFollow, told_by}
use Rattle.fdp_readings.specs.fdp_collector.declared.step.Lost.TheVariants as lost
use Rattle.fdp_readings.specs.fdp_collector.declared.step.Step.{Step}
use Rattle.fdp_readings.specs.fdp_collector.declared.step.Step.TheVariants as steps
use Rattle.fdp_readings.specs.fdp_collector.Ready.{lane_at}
use Rattle.fdp_readings.specs.fdp_collector.Step.{IsCopyStep, IsStep, IsUnread}
use Rattle.fdp_flash.specs.FlashState.{FlashState}
use Rattle.fdp_readings.specs.fdp_locations.Written.{Written}
use Rattle.fdp_readings.proofs.fdp_locations.Copying.{copy-follows}
use Rattle.fdp_readings.proofs.fdp_locations.Ending.{aside-follows, erase-follows, retire-follows, worn-follows}
use Rattle.fdp_readings.specs.fdp_pages.Joined.{AreJoined}
use Rattle.fdp_readings.specs.fdp_pages.PageTables.{PageTables, relocation_at}

module _ (b : BookSeen) (first : Spot → Option Written) (t : Tables) (pages : PageTables) (rg : ℕ) (h : IsHeld b.config b.found first b.entries t) (joined : AreJoined t.pages) (low : rg < b.config.groups) (old new : FlashState) where
  follows-copy : (copy : Copied) → IsCopyStep t.pages.owners t.pages.handles.classes rg (relocation_at t.pages rg) (relocation_at pages rg) old new (steps.Copied copy) → MayFollow b (entries.Copied copy ∷ [])
  follows-copy copy s = subst (λ (x : Copied). MayFollow b (entries.Copied x ∷ [])) (sym s.ended.0) (copy-follows b.config (point_in b) t.pages rg s.from s.to s.owner s.middle joined h.units_are low s.due s.owned s.opened)

  follows-aside : (unit : ℕ) → IsUnread t.pages.owners t.pages.handles.classes rg (relocation_at t.pages rg) (relocation_at pages rg) old new unit → MayFollow b (entries.Aside (record { unit = unit }) ∷ [])
  follows-aside unit s = subst (λ (u : ℕ). MayFollow b (entries.Aside (record { unit = u }) ∷ [])) (sym s.unit_is) (aside-follows b.config (point_in b) t.pages rg s.from joined h.units_are low s.due)

  pub step-follows : (may_erase : Bool) (step : Step) → IsStep t.pages.owners t.pages.handles.classes rg may_erase (relocation_at t.pages rg) (relocation_at pages rg) old new step → MayFollow b (told_by rg step)
  step-follows may_erase steps.Nothing s = tt
  step-follows may_erase (steps.Copied copy) s = follows-copy copy s
  step-follows may_erase steps.ReadyToMove s = tt
  step-follows may_erase (steps.Erased unit) s = erase-follows b.config (point_in b) t.pages rg unit joined h.units_are low s.0 _ h.pages_are.at h.orderly h.pages_are.led
  step-follows may_erase steps.EraseDue s = tt
  step-follows may_erase steps.Starved s = worn-follows b.config (point_in b) t.pages pages rg (lane_at t.pages.handles.classes s.owner) h.units_are low s.starved
  step-follows may_erase (steps.Fault lost.None) s = tt
  step-follows may_erase (steps.Fault (lost.Aside unit)) s = follows-aside unit s
  step-follows may_erase (steps.Fault (lost.Retired unit)) s = retire-follows b.config (point_in b) t.pages rg unit joined h.units_are low s.0 _ h.pages_are.at h.orderly h.pages_are.led
