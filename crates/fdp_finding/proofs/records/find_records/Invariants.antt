use Rattle.fdp_finding.proofs.RecordTexts.{AreRecords}
use Rattle.fdp_finding.proofs.records.find_records.Given as goal

abbrev pub invariant-loop-index : goal.invariant-loop-index
invariant-loop-index g l = AreRecords (g.B.Bench.state l.fn.bench) (g.B.Bench.state l.bench) l.names l.index l.texts.items
