use Rattle.std.proofs.Common.{◌≡◌, ℕ, ◌+◌, ◌-◌, take, drop, length, min, ap, ◌∙◌, arith}
use Rattle.fdp_pieces.proofs.Putting.{puts_cut}
use Rattle.fdp_pieces.proofs.parts.put_piece.Goals as goal

pub returns : goal.returns
returns c =
    let piece = c.args.piece.now in
    let skipped = c.min-skipped.result in
    let start = c.min-start.result in
    let count = c.min-count.result in
    let plain : skipped + count - skipped ≡ count = omega arith in
    puts_cut c.args.offset c.args.at skipped start count piece _ c.args.into.now _
    (record {
      skipped_is = c.min-skipped.ensures ∙ ap (λ (n : ℕ). min n (length piece)) c.saturating_sub.ensures;
      start_is = c.min-start.ensures ∙ ap (λ (n : ℕ). min n (length c.args.into.now)) c.saturating_sub-2.ensures;
      count_is = c.min-count.ensures;
    })
    (ap (λ (n : ℕ). take n (drop skipped piece)) plain) c.put.ensures
