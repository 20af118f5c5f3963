use Rattle.std.proofs.Common.{[], ◌∷◌, ◌++◌, sym}
use Rattle.std.specs.Prelude.{codes}
use Rattle.fdp_finding.proofs.Parts.{numbered_parts}
use Rattle.fdp_finding.proofs.line.write_lost.Goals as goal

pub returns : goal.returns
returns g c = rw (sym c.format-at.ensures.text) (numbered_parts _ _ (codes "fault 13 lost ") _ _ (c.format-at.result.now ++ 10 ∷ []) _ _ c.numbered.ensures c.write_parts.ensures)
