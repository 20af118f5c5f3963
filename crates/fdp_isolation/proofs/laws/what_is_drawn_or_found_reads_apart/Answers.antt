use Rattle.fdp_isolation.proofs.Readings.{drawn-isolates, found-reads, fresh-reads}
use Rattle.fdp_isolation.proofs.laws.what_is_drawn_or_found_reads_apart.Goals as goal

pub returns : goal.returns
returns c = record { drawn = drawn-isolates; found = found-reads; fresh = fresh-reads }
