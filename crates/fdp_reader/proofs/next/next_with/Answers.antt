use Rattle.fdp_reader.proofs.Comparing.{entry-none}
use Rattle.fdp_reader.proofs.next.next_with.Goals as goal

pub returns-in-Err-Fault : goal.returns-in-Err-Fault
returns-in-Err-Fault c = entry-none c.args.given c.args.config.now c.args.text.now c.in-Err-Fault.field-0-0 c.requires.valid.ranges.block c.requires.gives (rw c.in-Err-Fault.field-0-is at c.in-Err-Fault.ensures)
