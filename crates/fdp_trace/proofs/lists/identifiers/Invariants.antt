use Rattle.std.proofs.Common.{◌≡◌, length}
use Rattle.fdp_trace.specs.Words.{words_of}
use Rattle.fdp_trace.specs.Reader.Commands.{numbers_of}
use Rattle.fdp_trace.proofs.Fronts.{with_front}
use Rattle.fdp_trace.proofs.lists.identifiers.Given as goal

abbrev pub invariant-loop-word : goal.invariant-loop-word
invariant-loop-word l = with_front l.numbers.items (numbers_of 65535 (words_of l.rest)) ≡ numbers_of 65535 (words_of l.line)

abbrev pub decreases-loop-word : goal.decreases-loop-word
decreases-loop-word l = length l.rest
