use Rattle.std.proofs.Common.{◌∙◌, ap, subst}
use Rattle.fdp_layouts.specs.declared.events.EventDesc.{EventDesc}
use Rattle.fdp_layouts.specs.Events.{event_desc, event_desc_numbers}
use Rattle.fdp_layouts.specs.Frame.{frame_of, Fits}
use Rattle.fdp_logs.proofs.Frames.{event_frame_bytes}
use Rattle.fdp_logs.proofs.events.event_frame.Goals as goal

pub returns : goal.returns
returns c =
    let fits = subst (λ (d : EventDesc). Fits event_desc (event_desc_numbers d)) c.of.ensures c.encode.ensures.fits in
    c.encode.ensures.frame ∙ ap (λ (d : EventDesc). frame_of 64 event_desc (event_desc_numbers d)) c.of.ensures ∙ event_frame_bytes c.args.event.now fits
