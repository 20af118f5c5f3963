use Rattle.std.proofs.Common.{◌≡◌, ◌≤◌, ◌+◌, take, count_by}
use Rattle.fdp_trace.specs.Reader.FrontOf.{is_line_feed}
use Rattle.fdp_reader.proofs.lines.line_at.Given as goal

abbrev pub invariant-loop-b : goal.invariant-loop-b
invariant-loop-b l = (l.number ≡ count_by is_line_feed (take l.b-index l.b-items) + 1) × (l.number ≤ l.b-index + 1)
