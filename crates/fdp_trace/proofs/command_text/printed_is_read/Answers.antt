use Rattle.fdp_trace.proofs.ReadBack.{said}
use Rattle.fdp_trace.proofs.command_text.printed_is_read.Goals as goal

pub returns : goal.returns
returns c = said
