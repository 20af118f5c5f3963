-- What the page of a block says of the lists.
use Rattle.std.proofs.Common.{◌≡◌, ℕ, ◌-◌, ◌<◌, Bool, true, false, List, length, Option, None, Some, refl}
use Rattle.std.specs.Prelude.{if◌then◌else◌, slice_get}
use Rattle.std.specs.Option.{option_and_then, option_map_or}
use Rattle.std.proofs.lemmas.Option.{slice_get_within}
use Rattle.fdp_image.specs.Checkpoint.{page_in_lists}
use Rattle.fdp_image.specs.CheckpointRows.{is_namespace_id}
use Rattle.fdp_state.specs.Parts.{listed, row}

-- its address is one of its list
row-within : (list : List (Option ℕ)) (lba page : ℕ) → row list lba ≡ Some page → lba < length list
row-within list lba page at = of_entry (slice_get list lba) refl at where
  of_entry : (o : Option (Option ℕ)) → slice_get list lba ≡ o → option_and_then (λ (x : Option ℕ). x) o ≡ Some page → lba < length list
  of_entry None is at = cc
  of_entry (Some x) is at = slice_get_within list lba x is

pub listed-within : (lists : List (List (Option ℕ))) (nsid lba page : ℕ) → page_in_lists lists nsid lba ≡ Some page → lba < listed lists nsid
listed-within lists nsid lba page at = of_id (is_namespace_id nsid) at where
  of_list : (o : Option (List (Option ℕ))) → option_and_then (λ (list : List (Option ℕ)). row list lba) o ≡ Some page → lba < option_map_or length o 0
  of_list None at = cc
  of_list (Some list) at = row-within list lba page at

  of_id : (b : Bool) → (if b then option_and_then (λ (list : List (Option ℕ)). row list lba) (slice_get lists (nsid - 1)) else None) ≡ Some page
      → lba < (if b then option_map_or length (slice_get lists (nsid - 1)) 0 else 0)
  of_id false at = cc
  of_id true at = of_list (slice_get lists (nsid - 1)) at

-- its namespace has an identifier that it may have
pub listed-id : (lists : List (List (Option ℕ))) (nsid lba page : ℕ) → page_in_lists lists nsid lba ≡ Some page → is_namespace_id nsid ≡ true
listed-id lists nsid lba page at = of_id (is_namespace_id nsid) refl at where
  of_id : (b : Bool) → is_namespace_id nsid ≡ b → (if b then option_and_then (λ (list : List (Option ℕ)). row list lba) (slice_get lists (nsid - 1)) else None) ≡ Some page → is_namespace_id nsid ≡ true
  of_id true is at = is
  of_id false is at = cc
