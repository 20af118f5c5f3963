-- A state that says what a drive may say is one that a checkpoint has room for, and the other way round.
use Rattle.std.proofs.Common.{◌≡◌, ℕ, ◌+◌, ◌-◌, ◌^◌, ◌<◌, Bool, true, false, List, Option, None, Some, refl, ap, ◌∙◌, subst, arith}
use Rattle.std.specs.Prelude.{All, if◌then◌else◌, slice_get}
use Rattle.std.specs.Option.{option_and_then}
use Rattle.std.proofs.lemmas.Option.{get_or_from_slice_get, slice_get_within}
use Rattle.std.proofs.lemmas.Bool.Decides.{nat_tests}
use Rattle.fdp_snapshot.specs.declared.state.State.{State}
use Rattle.fdp_snapshot.specs.Checkpoint.{IsState}
use Rattle.fdp_snapshot.specs.Rows.{IsEntry}
use Rattle.fdp_image.specs.Checkpoint.{in_place, page_in_lists, reading_of_state}
use Rattle.fdp_image.specs.CheckpointRows.{is_namespace_id}
use Rattle.fdp_state.specs.Good.{IsSayable, LiesWithin}
use Rattle.fdp_state.specs.Loaded.{IsLoadable}
use Rattle.fdp_state.specs.Parts.{row}
use Rattle.fdp_state.proofs.Keeping.{within-of}
use Rattle.fdp_state.proofs.Listing.{listed-within}

-- what holds of each element holds of one that is read
pub all-read : {X : Type 0} (P : X → Type 0) (xs : List X) (k : ℕ) (x : X) → All P xs → slice_get xs k ≡ Some x → P x
all-read P xs k x all at = subst P (get_or_from_slice_get xs k x x at) (all k x (slice_get_within xs k x at))

-- what stands in the place of an identifier
pub place-id : (k : ℕ) → k < 16 → is_namespace_id (k + 1) ≡ true
place-id k low = grind (arith, nat_tests)

pub placed : {X : Type 0} (rows : List (Option X)) (k : ℕ) → k < 16 → in_place rows (k + 1) ≡ option_and_then (λ (x : Option X). x) (slice_get rows k)
placed {X} rows k low =
    let one : k + 1 - 1 ≡ k = omega arith in
    ap (λ (b : Bool). if b then option_and_then (λ (x : Option X). x) (slice_get rows (k + 1 - 1)) else None) (place-id k low)
    ∙ ap (λ (i : ℕ). option_and_then (λ (x : Option X). x) (slice_get rows i)) one

-- a state that a checkpoint has room for
pub sayable-of : (s : State) → IsState s → IsSayable (reading_of_state s)
unfolding reading_of_state
sayable-of s h = record { pages = few } where
  of_entry : (list : List (Option ℕ)) (lba page : ℕ) → All IsEntry list → (o : Option (Option ℕ)) → slice_get list lba ≡ o → option_and_then (λ (x : Option ℕ). x) o ≡ Some page → page + 1 < 2 ^ 32
  of_entry list lba page all None is at = cc
  of_entry list lba page all (Some x) is at = subst IsEntry at (all-read IsEntry list lba x all is)

  of_list : (i lba page : ℕ) (o : Option (List (Option ℕ))) → slice_get s.pages i ≡ o → option_and_then (λ (list : List (Option ℕ)). row list lba) o ≡ Some page → page + 1 < 2 ^ 32
  of_list i lba page None is at = cc
  of_list i lba page (Some list) is at = of_entry list lba page (all-read (λ (y : List (Option ℕ)). All IsEntry y) s.pages i list h.pages is) (slice_get list lba) refl at

  of_id : (nsid lba page : ℕ) (b : Bool) → (if b then option_and_then (λ (list : List (Option ℕ)). row list lba) (slice_get s.pages (nsid - 1)) else None) ≡ Some page → page + 1 < 2 ^ 32
  of_id nsid lba page false at = cc
  of_id nsid lba page true at = of_list (nsid - 1) lba page (slice_get s.pages (nsid - 1)) refl at

  few : (nsid lba page : ℕ) → page_in_lists s.pages nsid lba ≡ Some page → page + 1 < 2 ^ 32
  few nsid lba page at = of_id nsid lba page (is_namespace_id nsid) at

-- a block with a page lies within its namespace
pub lies-within : (s : State) → IsLoadable s → (nsid lba page : ℕ) → (reading_of_state s).pages nsid lba ≡ Some page → LiesWithin (reading_of_state s) nsid lba
unfolding reading_of_state
lies-within s l nsid lba page at = within-of (reading_of_state s) nsid lba (omega (arith, listed-within s.pages nsid lba page at, l.sizes nsid))
