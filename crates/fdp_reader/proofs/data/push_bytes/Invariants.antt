use Rattle.std.proofs.Common.{◌≡◌, ◌++◌, ◌-◌}
use Rattle.fdp_prints.specs.Reader.{bytes_in}
use Rattle.fdp_reader.proofs.data.push_bytes.Given as goal

abbrev pub invariant-loop : goal.invariant-loop
invariant-loop l = l.into.items ++ bytes_in (l.size - l.counter) l.rest ≡ l.fn.into.items ++ bytes_in l.size l.digits
