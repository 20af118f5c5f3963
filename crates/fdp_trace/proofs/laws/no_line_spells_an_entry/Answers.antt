use Rattle.fdp_trace.proofs.Entries.{no_line}
use Rattle.fdp_trace.proofs.laws.no_line_spells_an_entry.Goals as goal

pub returns : goal.returns
returns c = λ work command spells. no_line work spells.0 command spells.1 spells.2
