use Rattle.std.proofs.Common.{◌≡◌, ◌-◌, length}
use Rattle.std.specs.List.{find, range_with_len}
use Rattle.fdp_layouts.specs.Frame.{is_stray, first_reserved}
use Rattle.fdp_layouts.proofs.span.first_reserved.Given as goal

abbrev pub invariant-loop-i : goal.invariant-loop-i
invariant-loop-i l = find (is_stray l.fields l.bytes) (range_with_len l.i (length l.bytes - l.i)) ≡ first_reserved (length l.bytes) l.fields l.bytes
