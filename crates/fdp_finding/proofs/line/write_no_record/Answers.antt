use Rattle.std.proofs.Common.{[], ◌∷◌, ◌++◌, sym}
use Rattle.std.specs.Prelude.{codes}
use Rattle.fdp_finding.proofs.Parts.{numbered_parts}
use Rattle.fdp_finding.proofs.line.write_no_record.Goals as goal

pub returns-in-Absent : goal.returns-in-Absent
returns-in-Absent g c = rw c.in-Absent.is (numbered_parts _ _ (codes "fault 14 record ") _ _ (codes "absent\n") _ _ c.numbered.ensures c.write_parts.ensures)

pub returns-in-TooLong : goal.returns-in-TooLong
returns-in-TooLong g c = rw c.in-TooLong.is (numbered_parts _ _ (codes "fault 14 record ") _ _ (codes "long\n") _ _ c.numbered.ensures c.write_parts-in-TooLong.ensures)

pub returns-in-Line : goal.returns-in-Line
returns-in-Line g c = rw c.in-Line.is (rw (sym c.format-line.ensures.text) (numbered_parts _ _ (codes "fault 14 record ") _ _ (c.format-line.result.now ++ 10 ∷ []) _ _ c.numbered.ensures c.write_parts-in-Line.ensures))
