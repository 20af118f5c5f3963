-- No line of a trace begins as an entry does.
use Rattle.std.proofs.Common.{◌≡◌, ℕ, List, get_or, ap, arith}
use Rattle.fdp_base.specs.declared.command.Command.{Command}
use Rattle.fdp_queues.specs.declared.work.Work.{Work}
use Rattle.fdp_output.specs.CommandText.{work_words}
use Rattle.fdp_trace.specs.Demands.{HasRanges}
use Rattle.fdp_trace.specs.Lines.{Part, IsLine, write, write_placed, read, zeroes, dealloc, flush, status, update, log, log_ctrl, log_host, set_fdp, get_fdp, set_events, create, delete}

first : (a b : List ℕ) → a ≡ b → get_or a 0 0 ≡ get_or b 0 0
first a b e = ap (λ (word : List ℕ). get_or word 0 0) e

pub no_line : (work : Work) (line : List Part) (c : Command) → IsLine line c → HasRanges line (work_words work) → ⊥
no_line work line c (write nsid slba count seed) h = omega (arith, first _ _ h.0)
no_line work line c (write_placed nsid slba count seed pid) h = omega (arith, first _ _ h.0)
no_line work line c (read nsid slba count) h = omega (arith, first _ _ h.0)
no_line work line c (zeroes nsid slba count) h = omega (arith, first _ _ h.0)
no_line work line c (dealloc nsid ranges some few) h = omega (arith, first _ _ h.0)
no_line work line c (flush nsid) h = omega (arith, first _ _ h.0)
no_line work line c (status nsid dwords) h = omega (arith, first _ _ h.0)
no_line work line c (update nsid pids some few) h = omega (arith, first _ _ h.0)
no_line work line c (log lid offset dwords) h = omega (arith, first _ _ h.0)
no_line work line c (log_ctrl lid offset dwords) h = omega (arith, first _ _ h.0)
no_line work line c (log_host lid offset dwords) h = omega (arith, first _ _ h.0)
no_line work line c (set_fdp enable index) h = omega (arith, first _ _ h.0)
no_line work line c get_fdp h = omega (arith, first _ _ h.0)
no_line work line c (set_events nsid handle enable types some few) h = omega (arith, first _ _ h.0)
no_line work line c (create blocks handles few) h = omega (arith, first _ _ h.0)
no_line work line c (delete nsid) h = omega (arith, first _ _ h.0)
