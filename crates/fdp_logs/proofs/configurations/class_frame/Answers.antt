use Rattle.std.proofs.Common.{◌∙◌}
use Rattle.fdp_logs.proofs.Frames.{class_bytes}
use Rattle.fdp_logs.proofs.configurations.class_frame.Goals as goal

pub returns : goal.returns
returns c = c.encode.ensures.frame ∙ class_bytes c.args.class
