use Rattle.fdp_finding.proofs.Parts.{AreWritten}
use Rattle.fdp_finding.proofs.line.write_parts.Given as goal

abbrev pub invariant-loop-part : goal.invariant-loop-part
invariant-loop-part g l = AreWritten (g.K.Sink.state l.fn.sink) (g.K.Sink.state l.sink) l.parts l.part-index
