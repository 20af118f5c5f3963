use Rattle.std.proofs.Common.{◌≡◌, ◌≤◌, ◌+◌, length}
use Rattle.fdp_trace.specs.Words.{words_of}
use Rattle.fdp_trace.specs.Reader.Shapes.{words_fit}
use Rattle.fdp_trace.proofs.line.words_fit.Given as goal

abbrev pub invariant-loop-text : goal.invariant-loop-text
invariant-loop-text l =
    (words_fit l.word l.place (words_of l.rest) ≡ words_fit l.word 0 (words_of l.line)) × (l.place + length l.rest ≤ length l.line)

abbrev pub decreases-loop-text : goal.decreases-loop-text
decreases-loop-text l = length l.rest
