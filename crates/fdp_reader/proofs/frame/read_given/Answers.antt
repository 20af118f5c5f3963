use Rattle.std.proofs.Common.{List, ℕ, ap, length, ◌∙◌}
use Rattle.fdp_trace.specs.Words.{words_of}
use Rattle.fdp_reader.proofs.Giving.{work-length}
use Rattle.fdp_reader.proofs.frame.read_given.Goals as goal

pub given_by-requires-clause-whole : goal.given_by-requires-clause-whole
given_by-requires-clause-whole c = ap (λ (t : List ℕ). length t) c.as_slice.ensures.value ∙ work-length (words_of c.command_part.result.now) (c.in-Ok.admin, c.in-Ok.bytes.items) c.in-Ok.ensures
