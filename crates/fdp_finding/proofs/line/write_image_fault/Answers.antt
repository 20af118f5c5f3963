use Rattle.std.proofs.Common.{sym}
use Rattle.fdp_finding.proofs.line.write_image_fault.Goals as goal

pub returns-in-Other : goal.returns-in-Other
returns-in-Other g c = rw c.in-Other.is (rw (sym c.word.ensures) c.write_parts.ensures)
