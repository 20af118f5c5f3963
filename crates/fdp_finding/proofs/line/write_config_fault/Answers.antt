use Rattle.std.proofs.Common.{sym}
use Rattle.fdp_finding.proofs.line.write_config_fault.Goals as goal

pub returns-in-Kind : goal.returns-in-Kind
returns-in-Kind g c = rw c.in-Kind.is (rw (sym c.word-in-Kind.ensures) c.write_parts-in-Kind.ensures)

pub returns-in-NoRoom : goal.returns-in-NoRoom
returns-in-NoRoom g c = rw c.in-NoRoom.is c.write_parts-in-NoRoom.ensures
