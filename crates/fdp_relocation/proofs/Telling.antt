-- The entries of relocation lie in its group.
use Rattle.std.proofs.Common.{◌≡◌, ℕ, ◌/◌, Bool, [], ◌∷◌, refl, sym, ◌∙◌, ap, subst}
use Rattle.std.proofs.lemmas.List.Elements.{All-cons, All-nil}
use Rattle.fdp_base.specs.declared.config.DriveConfig.{DriveConfig}
use Rattle.fdp_base.specs.declared.entry.Copied.{Copied}
use Rattle.fdp_base.specs.declared.entry.Entry.{Entry}
use Rattle.fdp_base.specs.declared.entry.Entry.TheVariants as entries
use Rattle.fdp_keeper.specs.fdp_book.Book.{BookSeen, point_in, state_in}
use Rattle.fdp_keeper.specs.fdp_book.Relocating.{Relocates, told_by}
use Rattle.fdp_keeper.specs.fdp_collector.declared.step.Lost.TheVariants as lost
use Rattle.fdp_keeper.specs.fdp_collector.declared.step.Step.{Step}
use Rattle.fdp_keeper.specs.fdp_collector.declared.step.Step.TheVariants as steps
use Rattle.fdp_keeper.specs.fdp_collector.Ready.{IsReady, lane_at}
use Rattle.fdp_keeper.specs.fdp_collector.Step.{IsStep}
use Rattle.fdp_keeper.proofs.fdp_collector.Readied.{emptied-unit}
use Rattle.fdp_flash.specs.FlashState.{FlashState}
use Rattle.fdp_keeper.specs.fdp_locations.Located.{AreUnitsOf}
use Rattle.fdp_keeper.specs.fdp_pages.Joined.{AreJoined}
use Rattle.fdp_keeper.specs.fdp_pages.PageTables.{PageTables, passes_at, relocation_at}
use Rattle.fdp_passes.specs.Due.{IsEmptied}
use Rattle.fdp_relocation.specs.Entries.{AreRelocationIn, IsRelocationIn}
use Rattle.fdp_relocation.proofs.Toil.Copied.{opened-group}
use Rattle.fdp_rules.specs.PlainState.{PlainState}
use Rattle.fdp_rules.specs.Sites.{group_of, moved_blocks}
use Rattle.fdp_units.specs.UnitTable.{IsGroup, group_in}

-- the group of a unit is that of the configuration
group-is : (c : DriveConfig) (s : PlainState) (t : PageTables) (rg unit : ℕ) → AreUnitsOf c s t → group_in t.units unit ≡ rg → group_of c unit ≡ rg
group-is c s t rg unit h is = ap (λ (k : ℕ). unit / k) h.agrees.units ∙ is

one : (c : DriveConfig) (rg : ℕ) (e : Entry) → IsRelocationIn c rg e → AreRelocationIn c rg (e ∷ [])
one c rg e h = All-cons (IsRelocationIn c rg) e [] h (All-nil (IsRelocationIn c rg))

none : (c : DriveConfig) (rg : ℕ) → AreRelocationIn c rg []
none c rg = All-nil (IsRelocationIn c rg)

module _ (c : DriveConfig) (s : PlainState) (t now : PageTables) (rg : ℕ) (before after : FlashState) (may_erase : Bool) (units : AreUnitsOf c s t) (ready : IsReady (relocation_at t rg) t.owners t.handles.classes rg) where
  -- the unit that is emptied is one of the group
  emptied-in : (unit : ℕ) → IsEmptied (passes_at t rg) t.units rg unit → group_of c unit ≡ rg
  emptied-in unit is = group-is c s t rg unit units (emptied-unit (relocation_at t rg) t.owners t.handles.classes rg unit ready is).group

  step-inside : (step : Step) → IsStep t.owners t.handles.classes rg may_erase (relocation_at t rg) (relocation_at now rg) before after step → AreRelocationIn c rg (told_by rg step)
  step-inside steps.Nothing h = none c rg
  step-inside (steps.Copied copy) h =
      let to = opened-group (relocation_at t rg) h.middle t.owners t.handles.classes rg h.from.unit (lane_at t.handles.classes h.owner) h.to.unit ready h.opened.target in
      subst (λ (x : Copied). AreRelocationIn c rg (entries.Copied x ∷ [])) (sym h.ended.0)
      (one c rg (entries.Copied (record { from = h.from; to = h.to })) (emptied-in h.from.unit h.due.0, group-is c s t rg h.to.unit units to))
  step-inside steps.ReadyToMove h = none c rg
  step-inside (steps.Erased unit) h = one c rg (entries.Erased (record { unit = unit })) (emptied-in unit h.0.0)
  step-inside steps.EraseDue h = none c rg
  step-inside steps.Starved h = one c rg (entries.Worn (record { rg = rg })) refl
  step-inside (steps.Fault lost.None) h = none c rg
  step-inside (steps.Fault (lost.Aside unit)) h = one c rg (entries.Aside (record { unit = unit })) (ap (group_of c) h.unit_is ∙ emptied-in h.from.unit h.due.0)
  step-inside (steps.Fault (lost.Retired unit)) h = one c rg (entries.Retired (record { unit = unit })) (emptied-in unit h.0.0)

-- each entry that tells of a step of relocation in a group lies there
pub told-inside : (old new : BookSeen) (before after : FlashState) (rg : ℕ) (may_erase : Bool) (step : Step) → AreUnitsOf old.config (state_in old) old.pages → AreJoined old.pages → IsGroup old.pages.units rg → Relocates old new before after rg may_erase step → AreRelocationIn old.config rg (told_by rg step)
told-inside old new before after rg may_erase step units was group h = step-inside old.config (state_in old) old.pages new.pages rg before after may_erase units (was.groups rg group).ready step h.is

-- and so does that of a move
pub moved-inside : (old : BookSeen) (rg : ℕ) → AreRelocationIn old.config rg (entries.Moved (record { rg = rg; blocks = moved_blocks (point_in old) rg }) ∷ [])
moved-inside old rg = one old.config rg (entries.Moved (record { rg = rg; blocks = moved_blocks (point_in old) rg })) refl
