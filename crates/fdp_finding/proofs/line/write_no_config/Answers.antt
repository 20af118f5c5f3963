use Rattle.fdp_finding.proofs.line.write_no_config.Goals as goal

pub returns-in-Absent : goal.returns-in-Absent
returns-in-Absent g c = rw c.in-Absent.is c.write_parts.ensures
