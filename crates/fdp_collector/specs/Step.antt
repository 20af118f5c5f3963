-- One step of relocation in a group: what is due, and what it makes of the group and its flash.
use Rattle.std.specs.Prelude.{◌≡◌, ℕ, [], ◌∷◌, Bool, IsTrue, IsFalse, List, None, Some, option_map}
use Rattle.fdp_base.specs.declared.config.Class.{Class}
use Rattle.fdp_base.specs.declared.entry.Copied.{Copied}
use Rattle.fdp_base.specs.declared.entry.Spot.{Spot}
use Rattle.fdp_base.specs.declared.spare.DataSpare.{DataSpare}
use Rattle.fdp_base.specs.Spare.{data_spare}
use Rattle.fdp_calls.specs.Calls.{MakesCalls, erase_at}
use Rattle.fdp_collector.specs.declared.step.Lost.TheVariants as lost
use Rattle.fdp_collector.specs.declared.step.Step.{Step}
use Rattle.fdp_collector.specs.declared.step.Step.TheVariants as steps
use Rattle.fdp_collector.specs.Copying.{Copies, FailsToFetch}
use Rattle.fdp_collector.specs.Erasing.{state_after, worn_after}
use Rattle.fdp_collector.specs.Ready.{Relocation, lane_at}
use Rattle.fdp_flash.specs.declared.answer.Wrote.{Wrote}
use Rattle.fdp_flash.specs.declared.answer.Wrote.TheVariants as wrote
use Rattle.fdp_flash.specs.Answers.{Erases, wrote_failed}
use Rattle.fdp_flash.specs.FlashState.{FlashState}
use Rattle.fdp_owners.specs.declared.owner.Owner.{Owner}
use Rattle.fdp_owners.specs.OwnerTable.{OwnerTable, owner_at}
use Rattle.fdp_passes.specs.declared.due.Due.TheVariants as due
use Rattle.fdp_passes.specs.declared.lane.Lane.{Lane}
use Rattle.fdp_passes.specs.Due.{IsDue}
use Rattle.fdp_passes.specs.GroupPasses.{GroupPasses, with_copy}
use Rattle.fdp_passes.specs.Targets.{HasPlace, OpensPage, Starves, UsesPage, goes_on}
use Rattle.fdp_units.specs.declared.state.UnitState.TheVariants.{Aside}
use Rattle.fdp_units.specs.DataUnits.{turned}
use Rattle.fdp_units.specs.UnitTable.{Changes, is_worn_at, unit_at}

-- no call of the flash was made
pub record IsUncalled (old new : FlashState) : Type 0 where
  pub moment : new.moment ≡ old.moment
  pub faults : new.faults ≡ old.faults
  pub programs : new.programs ≡ old.programs
  pub cells : IsTrue old.told → new.cells ≡ old.cells
  pub calls : IsTrue new.tells_calls → new.calls ≡ old.calls

-- nothing was done
pub record Rests (s now : Relocation) (old new : FlashState) : Type 0 where
  pub group : now ≡ s
  pub flash : IsUncalled old new

-- the victim was erased, or that failed: the pass ends
pub record EndsInErase (s now : Relocation) (old new : FlashState) (unit : ℕ) (result : Wrote) : Type 0 where
  pub flash : Erases old new unit result
  pub made : MakesCalls old new (erase_at unit (wrote_failed result) ∷ [])
  pub passes : now.passes ≡ record s.passes { pass = None }
  pub becomes : Changes s.units now.units unit (turned s.units.unit_pages (state_after result) (unit_at s.units unit))
  pub worn : is_worn_at now.units ≡ worn_after s.units unit result

-- the victim of a copy that could not be fetched is out of use, and the pass is given up
pub record GoesAside (s now : Relocation) (unit : ℕ) : Type 0 where
  pub passes : now.passes ≡ record s.passes { pass = None }
  pub becomes : Changes s.units now.units unit (turned s.units.unit_pages Aside (unit_at s.units unit))
  pub worn : is_worn_at now.units ≡ is_worn_at s.units

-- a page of the target was used, and the pass goes on with one copy more
pub record AddsCopy (s now : Relocation) (lane : Lane) (copy : Copied) : Type 0 where
  pub passes : GroupPasses
  pub used : UsesPage s.passes passes s.units now.units lane copy.to.unit
  pub copied : now.passes ≡ record passes { pass = option_map (with_copy copy) passes.pass }

-- a page of the target was used for nothing; the pass is given up where the pages left do not suffice
pub record SkipsPage (s now : Relocation) (o : OwnerTable) (lane : Lane) (unit : ℕ) : Type 0 where
  pub passes : GroupPasses
  pub used : UsesPage s.passes passes s.units now.units lane unit
  pub left : now.passes ≡ goes_on passes now.units o lane

-- how the copy of a page ended, after its new page was found
abbrev pub EndsCopy : OwnerTable → Lane → Spot → Spot → DataSpare → Relocation → Relocation → FlashState → FlashState → Step → Type 0
EndsCopy o lane from to spare s now old new steps.Nothing = ⊥
EndsCopy o lane from to spare s now old new (steps.Copied copy) = (copy ≡ record { from = from; to = to }) × AddsCopy s now lane copy × Copies old new from to (data_spare spare) wrote.Done
EndsCopy o lane from to spare s now old new steps.ReadyToMove = ⊥
EndsCopy o lane from to spare s now old new (steps.Erased unit) = ⊥
EndsCopy o lane from to spare s now old new steps.EraseDue = ⊥
EndsCopy o lane from to spare s now old new steps.Starved = ⊥
EndsCopy o lane from to spare s now old new (steps.Fault lost.None) = SkipsPage s now o lane to.unit × Copies old new from to (data_spare spare) wrote.Failed
EndsCopy o lane from to spare s now old new (steps.Fault (lost.Aside unit)) = ⊥
EndsCopy o lane from to spare s now old new (steps.Fault (lost.Retired unit)) = ⊥

-- the next live page was to be copied and was fetched: a page was found for it, and so the copy ended
pub record IsCopyStep (o : OwnerTable) (classes : List Class) (rg : ℕ) (s now : Relocation) (old new : FlashState) (step : Step) : Type 0 where
  pub from : Spot
  pub to : Spot
  pub owner : Owner
  pub middle : Relocation
  pub due : IsDue s.passes s.units o rg (due.Copy from)
  pub owned : owner_at o from ≡ Some owner
  pub opened : OpensPage s.passes middle.passes s.units middle.units rg from.unit (lane_at classes owner) to
  pub ended : EndsCopy o (lane_at classes owner) from to owner.spare middle now old new step

-- the next live page was to be copied, for which a page could be had, and could not be fetched: the victim is set aside
pub record IsUnread (o : OwnerTable) (classes : List Class) (rg : ℕ) (s now : Relocation) (old new : FlashState) (unit : ℕ) : Type 0 where
  pub from : Spot
  pub owner : Owner
  pub due : IsDue s.passes s.units o rg (due.Copy from)
  pub owned : owner_at o from ≡ Some owner
  pub place : HasPlace s.passes s.units rg (lane_at classes owner)
  pub unit_is : unit ≡ from.unit
  pub aside : GoesAside s now unit
  pub flash : FailsToFetch old new from

-- the next live page was to be copied, and no unit is free for it
pub record IsStarved (o : OwnerTable) (classes : List Class) (rg : ℕ) (s now : Relocation) (old new : FlashState) : Type 0 where
  pub from : Spot
  pub owner : Owner
  pub due : IsDue s.passes s.units o rg (due.Copy from)
  pub owned : owner_at o from ≡ Some owner
  pub starved : Starves s.passes now.passes s.units now.units rg (lane_at classes owner)
  pub flash : IsUncalled old new

-- One step: each answer comes exactly where its step is due. Nothing is done where nothing is due, where the copies wait for their
-- move, and where an erase is due that may not be made yet.
abbrev pub IsStep : OwnerTable → List Class → ℕ → Bool → Relocation → Relocation → FlashState → FlashState → Step → Type 0
IsStep o classes rg may_erase s now old new steps.Nothing = IsDue s.passes s.units o rg due.Nothing × Rests s now old new
IsStep o classes rg may_erase s now old new (steps.Copied copy) = IsCopyStep o classes rg s now old new (steps.Copied copy)
IsStep o classes rg may_erase s now old new steps.ReadyToMove = IsDue s.passes s.units o rg due.Move × Rests s now old new
IsStep o classes rg may_erase s now old new (steps.Erased unit) = IsDue s.passes s.units o rg (due.Erase unit) × IsTrue may_erase × EndsInErase s now old new unit wrote.Done
IsStep o classes rg may_erase s now old new steps.EraseDue = ((unit : ℕ) × IsDue s.passes s.units o rg (due.Erase unit)) × IsFalse may_erase × Rests s now old new
IsStep o classes rg may_erase s now old new steps.Starved = IsStarved o classes rg s now old new
IsStep o classes rg may_erase s now old new (steps.Fault lost.None) = IsCopyStep o classes rg s now old new (steps.Fault lost.None)
IsStep o classes rg may_erase s now old new (steps.Fault (lost.Aside unit)) = IsUnread o classes rg s now old new unit
IsStep o classes rg may_erase s now old new (steps.Fault (lost.Retired unit)) = IsDue s.passes s.units o rg (due.Erase unit) × IsTrue may_erase × EndsInErase s now old new unit wrote.Failed
