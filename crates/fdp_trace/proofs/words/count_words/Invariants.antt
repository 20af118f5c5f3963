use Rattle.std.proofs.Common.{◌≡◌, ◌≤◌, ◌+◌, length}
use Rattle.fdp_trace.specs.Words.{words_of}
use Rattle.fdp_trace.proofs.words.count_words.Given as goal

abbrev pub invariant-loop-after : goal.invariant-loop-after
invariant-loop-after l = (l.count + length (words_of l.rest) ≡ length (words_of l.line)) × (l.count + length l.rest ≤ length l.line)

abbrev pub decreases-loop-after : goal.decreases-loop-after
decreases-loop-after l = length l.rest
