use Rattle.std.proofs.Common.{◌≡◌, ◌+◌, ◌≤◌, length, vec_len}
use Rattle.std.specs.Str.Lines.{lines}
use Rattle.fdp_trace.specs.Reader.Trace.{trace_from, trace_of}
use Rattle.fdp_trace.proofs.Steps.{with_commands}
use Rattle.fdp_trace.proofs.Wanting.{IsBehind}
use Rattle.fdp_trace.proofs.trace.read_lines.Given as goal

abbrev pub invariant-loop-rest : goal.invariant-loop-rest
invariant-loop-rest l =
    (with_commands l.commands.items (trace_from (record { lines = l.number; commands = vec_len l.commands; blocks = l.blocks }) (lines l.rest)) ≡ trace_of l.text)
    × (l.number + length l.rest ≤ length l.text) × (vec_len l.commands ≤ 8192) × (l.blocks ≤ 8192) × IsBehind l.text l.rest l.blocks l.commands.items

abbrev pub decreases-loop-rest : goal.decreases-loop-rest
decreases-loop-rest l = length l.rest
