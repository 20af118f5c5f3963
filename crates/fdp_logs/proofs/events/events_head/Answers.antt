use Rattle.std.proofs.Common.{◌∙◌}
use Rattle.fdp_logs.proofs.Frames.{events_head_bytes}
use Rattle.fdp_logs.proofs.events.events_head.Goals as goal

pub returns : goal.returns
returns c = c.encode.ensures.frame ∙ events_head_bytes c.args.events
