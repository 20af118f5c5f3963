use Rattle.fdp_output.specs.CommandText.{line_words}
use Rattle.fdp_trace.proofs.Parts.{ranges_found}
use Rattle.fdp_trace.proofs.ReadBack.{own_spells}
use Rattle.fdp_trace.proofs.SpelledLines.{line_is_spelled, spelled_row}
use Rattle.fdp_trace.proofs.laws.lines_spell_the_spelled.Goals as goal

pub returns-clause-just : goal.returns-clause-just
returns-clause-just c = λ command typed. (
  λ is. let r = spelled_row command typed is in (line_words command, own_spells r.line command r.row r.within),
  λ some. line_is_spelled some.1.0 command some.1.1 (ranges_found some.1.0 some.0 some.1.2),
)

pub returns-clause-own : goal.returns-clause-own
returns-clause-own c = λ command typed is. let r = spelled_row command typed is in own_spells r.line command r.row r.within
