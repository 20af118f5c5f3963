use Rattle.std.proofs.Common.{map}
use Rattle.fdp_gauge.proofs.gauge.Gauge.publish.Given as goal

abbrev pub ghosts-store : goal.ghosts-store
ghosts-store g a = record { list = map g.V.Recorded.mark (g.V.Recorded.entries a.value.now) }
