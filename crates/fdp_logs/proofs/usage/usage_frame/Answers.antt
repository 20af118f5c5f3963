use Rattle.std.proofs.Common.{◌∙◌}
use Rattle.fdp_logs.proofs.Frames.{usage_bytes}
use Rattle.fdp_logs.proofs.usage.usage_frame.Goals as goal

pub returns : goal.returns
returns c = c.encode.ensures.frame ∙ usage_bytes c.args.usage
