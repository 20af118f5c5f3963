use Rattle.fdp_finding.proofs.line.write_fault.Goals as goal

pub returns-in-Turns : goal.returns-in-Turns
returns-in-Turns g c = rw c.in-Turns.is c.write_parts-in-Turns.ensures
