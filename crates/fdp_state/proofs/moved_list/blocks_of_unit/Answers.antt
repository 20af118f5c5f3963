use Rattle.std.proofs.Common.{◌++◌, ◌∙◌, ℕ, List, ap, filter, flat_map}
use Rattle.std.specs.Prelude.{◌==◌, zip}
use Rattle.fdp_image.specs.Reading.{blocks_on}
use Rattle.fdp_outline.specs.declared.moved_block.MovedBlock.{MovedBlock}
use Rattle.fdp_outline.specs.Events.{names_of_handle}
use Rattle.fdp_state.specs.Owners.{with_handle}
use Rattle.fdp_state.specs.Parts.{reading_of}
use Rattle.fdp_state.proofs.Moving.{of-handle}
use Rattle.fdp_state.proofs.moved_list.blocks_of_unit.Goals as goal

pub returns : goal.returns
returns c ruh =
    let g = blocks_on (reading_of c.args.parts.now) in
    ap (λ (xs : List MovedBlock). names_of_handle xs ruh)
    (c.in_ok-push_pages.ensures ∙ ap (λ (xs : List MovedBlock). xs ++ flat_map (λ (x : ℕ × ℕ). with_handle x.1 (g x.0)) (zip c.as_slice.result.now c.args.handles.now)) c.new-moved.ensures.items)
    ∙ of-handle g (zip c.as_slice.result.now c.args.handles.now) ruh
    ∙ ap (λ (ns : List ℕ). flat_map (λ (x : ℕ × ℕ). g x.0) (filter (λ (x : ℕ × ℕ). x.1 == ruh) (zip ns c.args.handles.now))) (c.as_slice.ensures.value ∙ c.in_ok-numbers.ensures)
