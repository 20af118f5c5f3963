use Rattle.std.proofs.Common.{◌∙◌, ap, drop, min, ℕ}
use Rattle.fdp_records.specs.Bytes.{items}
use Rattle.fdp_snapshot.specs.Rows.{configuration_in}
use Rattle.fdp_snapshot.proofs.reading.read_keys.Goals as goal

pub returns : goal.returns
returns c =
    let count = c.min-count.ensures ∙ ap (λ (n : ℕ). min n 4) c.read_u32.ensures in
    let rows = c.in_ok-configurations.ensures ∙ ap (λ (n : ℕ). items 4 configuration_in n (drop 96 c.args.bytes.now)) count in
    λ i. record {
      block = c.read_u32-2.ensures i;
      unit_pages = c.read_u32-3.ensures i;
      groups = c.read_u32-4.ensures i;
      units = c.read_u32-5.ensures i;
      area_units = c.read_u32-6.ensures i;
      queues = c.read_u32-7.ensures i;
      blocks_per_command = c.read_u32-8.ensures i;
      configurations = rows i;
    }
