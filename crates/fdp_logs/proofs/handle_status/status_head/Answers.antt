use Rattle.std.proofs.Common.{◌∙◌}
use Rattle.fdp_logs.proofs.Frames.{status_head_bytes}
use Rattle.fdp_logs.proofs.handle_status.status_head.Goals as goal

pub returns : goal.returns
returns c = c.encode.ensures.frame ∙ status_head_bytes c.args.descriptors
