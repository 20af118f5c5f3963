use Rattle.std.proofs.Common.{◌≤◌, length, arith}
use Rattle.fdp_io.proofs.Rest.{rest_is}
use Rattle.fdp_io.proofs.bench_file.read_rest.Goals as goal

pub returns-in-Ok-2-clause-answer : goal.returns-in-Ok-2-clause-answer
returns-in-Ok-2-clause-answer g c =
    let short : length c.read_to_end.new.buf.items ≤ c.args.limit = omega arith in
    (short, rest_is g.F.Read.remaining _ _ _ _ _ c.take.ensures.limit c.take.ensures.inner c.new-bytes.ensures.items (omega arith) c.in-Ok.ensures.bytes)
