use Rattle.std.proofs.Common.{◌∙◌, arith, ap, length, drop}
use Rattle.fdp_records.proofs.Telling.{length-items-read}
use Rattle.fdp_snapshot.specs.Events.{event_at}
use Rattle.fdp_snapshot.proofs.reading.read_events.Goals as goal

pub of_slice-requires : goal.of_slice-requires
of_slice-requires c =
    let many = ap length (c.as_slice.ensures ∙ c.in_ok-events.ensures) ∙ length-items-read 64 event_at c.args.count (drop c.args.at c.args.bytes.now) in
    omega (arith, many, c.requires.few)
