use Rattle.std.proofs.Common.{◌≡◌, length}
use Rattle.fdp_trace.specs.Words.{words_of}
use Rattle.fdp_prints.specs.Reader.{names_in}
use Rattle.fdp_reader.proofs.Steps.{with_names}
use Rattle.fdp_reader.proofs.names.names.Given as goal

abbrev pub invariant-loop-word : goal.invariant-loop-word
invariant-loop-word l = with_names l.names.items (names_in (words_of l.rest)) ≡ names_in (words_of l.line)

abbrev pub decreases-loop-word : goal.decreases-loop-word
decreases-loop-word l = length l.rest
