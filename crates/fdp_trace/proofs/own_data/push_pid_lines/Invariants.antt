use Rattle.std.proofs.Common.{◌≡◌, ◌++◌, length}
use Rattle.fdp_output.specs.Output.{data_lines}
use Rattle.fdp_queues.specs.Data.{pids_data}
use Rattle.fdp_trace.specs.Printer.{Extends}
use Rattle.fdp_trace.proofs.own_data.push_pid_lines.Given as goal

abbrev pub invariant-loop-rest : goal.invariant-loop-rest
invariant-loop-rest l = (l.text.items ++ data_lines (pids_data l.rest) ≡ l.fn.text.items ++ data_lines (pids_data l.pids)) × Extends l.fn.text.items l.text.items

abbrev pub decreases-loop-rest : goal.decreases-loop-rest
decreases-loop-rest l = length l.rest
