use Rattle.std.proofs.Common.{◌≡◌, ℕ, List, length}
use Rattle.fdp_trace.specs.Words.{words_of}
use Rattle.fdp_trace.specs.Reader.Commands.{numbers_of}
use Rattle.fdp_trace.proofs.Fronts.{with_front}
use Rattle.fdp_trace.proofs.lists.are_within.Given as goal

abbrev pub invariant-loop-word : goal.invariant-loop-word
invariant-loop-word l = (front : List ℕ) × (with_front front (numbers_of l.high (words_of l.rest)) ≡ numbers_of l.high (words_of l.line))

abbrev pub decreases-loop-word : goal.decreases-loop-word
decreases-loop-word l = length l.rest
