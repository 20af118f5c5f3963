use Rattle.fdp_finding.proofs.Texts.{AreRead}
use Rattle.fdp_finding.proofs.traces.find_traces.Given as goal

abbrev pub invariant-loop-index : goal.invariant-loop-index
invariant-loop-index g l = AreRead l.texts l.config (g.B.Bench.state l.fn.bench) (g.B.Bench.state l.bench) l.names l.index l.traces.items
