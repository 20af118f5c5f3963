use Rattle.std.proofs.Common.{◌≡◌, List, length}
use Rattle.fdp_base.specs.declared.command.Range.{Range}
use Rattle.fdp_trace.specs.Words.{words_of}
use Rattle.fdp_trace.specs.Reader.Commands.{ranges_of}
use Rattle.fdp_trace.proofs.Fronts.{with_front}
use Rattle.fdp_trace.proofs.lists.are_ranges.Given as goal

abbrev pub invariant-loop-slba : goal.invariant-loop-slba
invariant-loop-slba l = (front : List Range) × (with_front front (ranges_of (words_of l.rest)) ≡ ranges_of (words_of l.line))

abbrev pub decreases-loop-slba : goal.decreases-loop-slba
decreases-loop-slba l = length l.rest
