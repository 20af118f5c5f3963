use Rattle.std.proofs.Common.{◌∙◌}
use Rattle.fdp_logs.proofs.Frames.{configurations_head_bytes}
use Rattle.fdp_logs.proofs.configurations.configurations_head.Goals as goal

pub returns : goal.returns
returns c = c.encode.ensures.frame ∙ configurations_head_bytes c.args.last c.args.size
