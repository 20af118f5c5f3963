use Rattle.std.proofs.Common.{◌∙◌}
use Rattle.fdp_logs.proofs.Frames.{usage_head_bytes}
use Rattle.fdp_logs.proofs.usage.usage_head.Goals as goal

pub returns : goal.returns
returns c = c.encode.ensures.frame ∙ usage_head_bytes c.args.handles
