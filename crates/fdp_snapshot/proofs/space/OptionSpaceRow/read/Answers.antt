use Rattle.std.proofs.Common.{◌≡◌, ◌∙◌, ap, sym, min, refl, false, ℕ}
use Rattle.std.specs.Prelude.{◌==◌, slice_index}
use Rattle.fdp_records.specs.Bytes.{◌⊕◌, value}
use Rattle.fdp_snapshot.proofs.Spaces.{most_taken, not_zero, space_read}
use Rattle.fdp_snapshot.proofs.space.OptionSpaceRow.read.Goals as goal

pub returns : goal.returns
returns c =
    let bytes = c.args.bytes.now in
    let count = c.min-count.ensures ∙ ap (λ (n : ℕ). min n 16) c.from.ensures in
    let some : (value (0 ⊕ 8) bytes == 0) ≡ false = ap (λ (n : ℕ). n == 0) (sym c.read_u64-size.ensures) ∙ not_zero c.read_u64-size.result c.if-size-eq0.false in
    let list = c.of_slice.ensures ∙ most_taken bytes (slice_index bytes 17) c.min-count.result c.requires count in
    space_read bytes c.of_slice.result c.read_u64-size.result c.read_u64.result (slice_index bytes 16 == 1) some c.read_u64-size.ensures c.read_u64.ensures refl list
