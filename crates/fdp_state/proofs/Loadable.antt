-- A state that a checkpoint has room for can be loaded.
use Rattle.std.proofs.Common.{◌≡◌, ℕ, zero, suc, ◌-◌, Bool, true, false, List, [], ◌∷◌, length, map, Option, None, refl, ap, sym, ◌∙◌}
use Rattle.std.specs.Prelude.{if◌then◌else◌, slice_get}
use Rattle.std.specs.Option.{option_and_then, option_map_or}
use Rattle.std.proofs.lemmas.List.{length-map}
use Rattle.fdp_snapshot.specs.declared.space.Space.{Space}
use Rattle.fdp_snapshot.specs.declared.state.State.{State}
use Rattle.fdp_snapshot.specs.Checkpoint.{IsState}
use Rattle.fdp_snapshot.specs.Reading.{size_of_row}
use Rattle.fdp_image.specs.Checkpoint.{in_place, reading_of_state}
use Rattle.fdp_image.specs.CheckpointRows.{is_namespace_id}
use Rattle.fdp_state.specs.Loaded.{IsLoadable}
use Rattle.fdp_state.specs.Parts.{listed}
use Rattle.fdp_state.proofs.Spacing.{space_size}

-- each page list is as long as its namespace has blocks
lists_sized : (lists : List (List (Option ℕ))) (spaces : List (Option Space)) (k : ℕ) → map length lists ≡ map size_of_row spaces
    → option_map_or length (slice_get lists k) 0 ≡ option_map_or (λ (x : Space). x.size) (option_and_then (λ (x : Option Space). x) (slice_get spaces k)) 0
lists_sized [] [] k same = refl
lists_sized [] (x ∷ xs) k same = absurd cc
lists_sized (list ∷ lists) [] k same = absurd cc
lists_sized (list ∷ lists) (x ∷ xs) zero same = let head : length list ≡ size_of_row x = cc in head
lists_sized (list ∷ lists) (x ∷ xs) (suc k) same = let tail : map length lists ≡ map size_of_row xs = cc in lists_sized lists xs k tail

in_place_sized : (lists : List (List (Option ℕ))) (spaces : List (Option Space)) (nsid : ℕ) → map length lists ≡ map size_of_row spaces
    → listed lists nsid ≡ option_map_or (λ (x : Space). x.size) (in_place spaces nsid) 0
in_place_sized lists spaces nsid same = of_id (is_namespace_id nsid) where
  of_id : (b : Bool) → (if b then option_map_or length (slice_get lists (nsid - 1)) 0 else 0)
      ≡ option_map_or (λ (x : Space). x.size) (if b then option_and_then (λ (x : Option Space). x) (slice_get spaces (nsid - 1)) else None) 0
  of_id true = lists_sized lists spaces (nsid - 1) same
  of_id false = refl

pub loadable : (s : State) → IsState s → IsLoadable s
unfolding reading_of_state
loadable s h = record {
  spaces = h.summary.places;
  lists = sym (length-map s.pages length) ∙ ap length h.sizes ∙ length-map s.summary.spaces size_of_row ∙ h.summary.places;
  sizes = λ nsid. in_place_sized s.pages s.summary.spaces nsid h.sizes ∙ sym (space_size (in_place s.summary.spaces nsid));
  host_events = h.summary.host_count;
  controller_events = h.summary.controller_count;
}
