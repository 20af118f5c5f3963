use Rattle.std.proofs.Common.{◌≡◌, ◌++◌, take}
use Rattle.fdp_base.specs.Text.{hex_bytes}
use Rattle.fdp_queues.specs.Data.{pids_data}
use Rattle.fdp_trace.specs.Printer.{Extends}
use Rattle.fdp_trace.proofs.own_data.push_pids.Given as goal

abbrev pub invariant-loop-pid : goal.invariant-loop-pid
invariant-loop-pid l = (l.text.items ≡ l.fn.text.items ++ hex_bytes (pids_data (take l.pid-index l.pids))) × Extends l.fn.text.items l.text.items
