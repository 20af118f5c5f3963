use Rattle.std.proofs.Common.{◌≡◌, drop}
use Rattle.fdp_trace.specs.Words.{words_of}
use Rattle.fdp_reader.proofs.frame.skip_words.Given as goal

abbrev pub invariant-loop : goal.invariant-loop
invariant-loop l = words_of l.rest ≡ drop l.counter (words_of l.line)
