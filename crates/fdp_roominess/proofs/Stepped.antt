-- A run that began with room, after a step of relocation or a move.
use Rattle.std.proofs.Common.{◌≡◌, ℕ, ◌<◌, Bool, false, List, [], ◌∷◌, refl, arith}
use Rattle.std.specs.List.{list_any}
use Rattle.fdp_base.specs.declared.entry.Entry.TheVariants as entries
use Rattle.fdp_base.specs.Counts.{Rose}
use Rattle.fdp_base.specs.EntryKinds.{wears_group}
use Rattle.fdp_book.specs.Book.{BookSeen, point_in, state_in}
use Rattle.fdp_book.specs.Relocating.{MovesPass, Relocates, told_by}
use Rattle.fdp_book.specs.fdp_collector.declared.step.Lost.TheVariants as lost
use Rattle.fdp_book.specs.fdp_collector.declared.step.Step.{Step}
use Rattle.fdp_book.specs.fdp_collector.declared.step.Step.TheVariants as steps
use Rattle.fdp_book.proofs.fdp_locations.Others.{is-group}
use Rattle.fdp_book.specs.fdp_pages.PageTables.{passes_at, relocation_at}
use Rattle.fdp_flash.specs.declared.cell.Cell.{Cell}
use Rattle.fdp_flash.specs.FlashState.{FlashState}
use Rattle.fdp_flash.specs.Runs.{Runs}
use Rattle.fdp_isolation.specs.Laned.{IsKnown}
use Rattle.fdp_passes.specs.declared.due.Due.TheVariants as due
use Rattle.fdp_passes.specs.Due.{IsDue}
use Rattle.fdp_rules.specs.Sites.{moved_blocks}
use Rattle.fdp_units.specs.UnitTable.{IsGroup}
use Rattle.fdp_roominess.specs.Room.{HaveRoom}
use Rattle.fdp_roominess.specs.Run.{KeepsRoom}
use Rattle.fdp_roominess.proofs.Moved.{room-moved}
use Rattle.fdp_roominess.proofs.Relocated.{never-starves, room-copied, room-erased, room-rested}
use Rattle.fdp_roominess.proofs.Runs.{keeps-failed, keeps-starved, keeps-well}

module _ (handed : ℕ) (b new : BookSeen) (old now : FlashState) (rg : ℕ) (may_erase : Bool) (Image : ℕ → List Cell → Type 0) (low : rg < b.config.groups) (known : IsKnown b) (run : Runs old now Image) (was : KeepsRoom handed old.faults old.told b) where
  there : IsGroup b.pages.units rg
  there = is-group b.config (state_in b) b.pages rg known.units low

  module _ (step : Step) (h : Relocates b new old now rg may_erase step) where
    well : list_any wears_group (told_by rg step) ≡ false → (HaveRoom b.pages → HaveRoom new.pages) → KeepsRoom handed now.faults now.told new
    well = keeps-well handed old.faults now.faults old.told now.told b new (told_by rg step) h.longer run.told run.faults was

    failed : Rose old.faults now.faults → KeepsRoom handed now.faults now.told new
    failed = keeps-failed handed old.faults now.faults old.told now.told b new (told_by rg step) h.longer run.told run.faults was

    starved : (HaveRoom b.pages → ⊥) → KeepsRoom handed now.faults now.told new
    starved = keeps-starved handed old.faults now.faults old.told now.told b new (told_by rg step) h.longer run.told run.faults was

    rested : relocation_at new.pages rg ≡ relocation_at b.pages rg → HaveRoom b.pages → HaveRoom new.pages
    rested = room-rested b.pages new.pages rg known.joined there h.rest

  -- a step of relocation was made
  pub keeps-relocated : (step : Step) → Relocates b new old now rg may_erase step → KeepsRoom handed now.faults now.told new
  keeps-relocated steps.Nothing h = well steps.Nothing h refl (rested steps.Nothing h h.is.1.group)
  keeps-relocated (steps.Copied copy) h =
      let c = h.is in
      well (steps.Copied copy) h refl (room-copied b.pages new.pages rg known.joined there h.rest c.from c.to c.owner c.middle c.due c.owned c.opened copy c.ended.0 c.ended.1)
  keeps-relocated steps.ReadyToMove h = well steps.ReadyToMove h refl (rested steps.ReadyToMove h h.is.1.group)
  keeps-relocated (steps.Erased unit) h =
      well (steps.Erased unit) h refl (room-erased b.pages new.pages rg known.joined there h.rest unit h.is.0 h.is.2.passes h.is.2.becomes)
  keeps-relocated steps.EraseDue h = well steps.EraseDue h refl (rested steps.EraseDue h h.is.2.group)
  keeps-relocated steps.Starved h =
      let s = h.is in
      starved steps.Starved h (λ room. never-starves b.pages rg known.joined there s.from s.owner (passes_at new.pages rg) new.pages.units s.due s.owned s.starved (room rg there))
  keeps-relocated (steps.Fault lost.None) h = failed (steps.Fault lost.None) h (h.is.ended.1.failed refl).rose
  keeps-relocated (steps.Fault (lost.Aside unit)) h = failed (steps.Fault (lost.Aside unit)) h h.is.flash.failed.rose
  keeps-relocated (steps.Fault (lost.Retired unit)) h = failed (steps.Fault (lost.Retired unit)) h (h.is.2.flash.ended.fault refl).rose

-- the copies of a pass were moved
pub keeps-moved : (handed faults : ℕ) (told : Bool) (b new : BookSeen) (rg : ℕ) → rg < b.config.groups → IsKnown b → IsDue (passes_at b.pages rg) b.pages.units b.pages.owners rg due.Move → MovesPass b new rg → KeepsRoom handed faults told b → KeepsRoom handed faults told new
keeps-moved handed faults told b new rg low known is_due h was =
    keeps-well handed faults faults told told b new (entries.Moved (record { rg = rg; blocks = moved_blocks (point_in b) rg }) ∷ []) h.longer refl (omega arith) was refl
    (room-moved b.pages new.pages rg known.joined (is-group b.config (state_in b) b.pages rg known.units low) is_due h.owners h.units h.passes)
