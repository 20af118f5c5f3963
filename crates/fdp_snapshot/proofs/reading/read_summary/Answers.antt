use Rattle.std.proofs.Common.{◌∙◌, ap, drop, min, ℕ}
use Rattle.std.specs.Prelude.{◌==◌, slice_index}
use Rattle.fdp_records.specs.Bytes.{items}
use Rattle.fdp_snapshot.specs.Events.{event_at}
use Rattle.fdp_snapshot.specs.Reading.{summary_in}
use Rattle.fdp_snapshot.proofs.reading.read_summary.Goals as goal

pub returns : goal.returns
unfolding summary_in
returns c =
    let bytes = c.args.bytes.now in
    let hosts = c.min-hosts.ensures ∙ ap (λ (n : ℕ). min n 32) c.from.ensures in
    let host_rows = c.in-Ok-read_events.ensures ∙ ap (λ (n : ℕ). items 64 event_at n (drop 832 bytes)) hosts in
    let controllers = c.min-controllers.ensures ∙ ap (λ (n : ℕ). min n 32) c.from-2.ensures in
    let controller_rows = c.in-Ok-read_events-2.ensures ∙ ap (λ (n : ℕ). items 64 event_at n (drop 2880 bytes)) controllers in
    λ i. record {
      keys = c.in_ok-keys.ensures i;
      totals = c.read_totals.ensures i;
      enabled = slice_index bytes 48 == 1;
      index = slice_index bytes 49;
      generation = c.read_u32.ensures i;
      masks = c.read_masks.ensures i;
      spaces = c.in-Ok.ensures i;
      host_events = host_rows i;
      controller_events = controller_rows i;
    }
