use Rattle.std.proofs.Common.{◌≡◌, ◌<◌, ℕ, false, get_or}
use Rattle.fdp_trace.specs.Reader.FrontOf.{is_line_feed}
use Rattle.fdp_reader.proofs.lines.line_len.Given as goal

abbrev pub invariant-loop-i : goal.invariant-loop-i
invariant-loop-i l = (k : ℕ) → k < l.i → is_line_feed (get_or l.text k 0) ≡ false
