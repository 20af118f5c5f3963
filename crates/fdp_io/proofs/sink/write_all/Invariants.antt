use Rattle.std.proofs.Common.{◌-◌, length}
use Rattle.fdp_io.proofs.Written.{IsWrittenTo}
use Rattle.fdp_io.proofs.sink.write_all.Given as goal

abbrev pub invariant-loop-done : goal.invariant-loop-done
invariant-loop-done g l = IsWrittenTo (g.K.Sink.state l.initial.sink) (g.K.Sink.state l.sink) l.bytes l.done

abbrev pub decreases-loop-done : goal.decreases-loop-done
decreases-loop-done g l = length l.bytes - l.done
