use Rattle.std.proofs.Common.{◌∙◌}
use Rattle.fdp_logs.proofs.Frames.{sums_bytes}
use Rattle.fdp_logs.proofs.statistics.sums_frame.Goals as goal

pub returns : goal.returns
returns c = c.encode.ensures.frame ∙ sums_bytes c.args.written c.args.programmed c.args.erased
