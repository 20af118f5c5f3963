use Rattle.std.proofs.Common.{◌∙◌}
use Rattle.fdp_logs.proofs.Frames.{status_bytes}
use Rattle.fdp_logs.proofs.handle_status.status_frame.Goals as goal

pub returns : goal.returns
returns c = c.encode.ensures.frame ∙ status_bytes c.args.pid c.args.ruh c.args.left
