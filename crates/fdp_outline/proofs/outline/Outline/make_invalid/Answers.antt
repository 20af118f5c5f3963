use Rattle.std.proofs.Common.{◌∙◌, ap, refl, sym}
use Rattle.std.specs.Prelude.{slice_index}
use Rattle.fdp_image.specs.Outline.{outline_before}
use Rattle.fdp_image.specs.Reading.{group_of_page}
use Rattle.fdp_snapshot.specs.declared.state.Summary.{Summary}
use Rattle.fdp_outline.specs.Handles.{handles_at}
use Rattle.fdp_outline.proofs.Telling.{going_in, outline-invalid}
use Rattle.fdp_outline.proofs.outline.Outline.make_invalid.Goals as goal

pub returns : goal.returns
returns c r slba totals at h =
    outline-invalid c.args.config.now r c.args.self.now c.keep_invalid.new.self totals c.args.position c.args.nsid slba c.args.pid c.group_of_page-rg.result c.first_handle-ruh.result c.args.pages.now at
    (c.group_of_page-rg.ensures.value ∙ ap (group_of_page c.args.config.now) c.first_page.ensures)
    (c.first_handle-ruh.ensures ∙ ap (λ (s : Summary). slice_index (handles_at s c.args.nsid) 0) c.summary.ensures.summary)
    (c.keep_invalid.ensures (outline_before c.args.config.now r c.args.position) (going_in c.group_of_page-rg.result c.first_handle-ruh.result) (sym c.event_position.ensures) refl refl)
    h
