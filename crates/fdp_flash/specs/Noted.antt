-- What a call leaves of the list of calls.
use Rattle.std.specs.Prelude.{◌≡◌, ℕ, ◌+◌, ◌<◌, List, [], ◌∷◌, ◌++◌, length, slice_get, Some}
use Rattle.fdp_base.specs.declared.entry.Spot.{Spot}
use Rattle.fdp_flash.specs.declared.answer.Operation.{Operation}
use Rattle.fdp_flash.specs.declared.answer.Operation.TheVariants.{Program}
use Rattle.fdp_flash.specs.declared.memory.recorded.Recorded.{Recorded}
use Rattle.fdp_flash.specs.declared.plan.Fate.{Fate}

-- each program on the list has the bytes of a block of this size
abbrev pub HaveProgramBytes : ℕ → List Recorded → Type 0
HaveProgramBytes size calls = (k : ℕ) (call : Recorded) → slice_get calls k ≡ Some call → call.operation ≡ Program → length call.bytes ≡ size

-- each block has this size
abbrev pub AllOfSize : ℕ → List (List ℕ) → Type 0
AllOfSize size blocks = (k : ℕ) (block : List ℕ) → slice_get blocks k ≡ Some block → length block ≡ size

-- one call more stands on the list
pub record NotesOne (old new : List Recorded) (operation : Operation) (at : Spot) (fate : Fate) (spare bytes : List ℕ) : Type 0 where
  pub call : Recorded
  pub list : new ≡ old ++ call ∷ []
  pub operation_is : call.operation ≡ operation
  pub at_is : call.at ≡ at
  pub fate_is : call.fate ≡ fate
  pub spare_is : call.spare ≡ spare
  pub bytes_are : operation ≡ Program → call.bytes ≡ bytes

-- a call is noted where there was a block for it, and takes that one
pub record Notes (old new : List Recorded) (old_blocks new_blocks : List (List ℕ)) (operation : Operation) (at : Spot) (fate : Fate) (spare bytes : List ℕ) : Type 0 where
  pub noted : 0 < length old_blocks → NotesOne old new operation at fate spare bytes
  pub taken : 0 < length old_blocks → length new_blocks + 1 ≡ length old_blocks
  pub full : length old_blocks ≡ 0 → new ≡ old
  pub none_taken : length old_blocks ≡ 0 → new_blocks ≡ old_blocks
  pub sizes : (size : ℕ) → AllOfSize size old_blocks → AllOfSize size new_blocks
