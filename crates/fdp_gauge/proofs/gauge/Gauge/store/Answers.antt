use Rattle.std.proofs.Common.{◌≡◌, arith, ◌∷◌, []}
use Rattle.crossbeam_utils.specs.Seq.{cell_view}
use Rattle.fdp_gauge.proofs.Shown.{stores}
use Rattle.fdp_gauge.specs.Rule.{counts_of}
use Rattle.fdp_gauge.proofs.gauge.Gauge.store.Goals as goal

pub swap_as-requires : goal.swap_as-requires
swap_as-requires g c =
    let place = c.args.teller.now.place in
    let s = c.args.snapshot in
    let words = s.length ∷ s.host_blocks ∷ s.media_blocks ∷ s.erases ∷ [] in
    let counted : words ≡ counts_of g.J.Listed.list = λ i. (c.requires.counts i).length ∷ (c.requires.counts i).host_blocks ∷ (c.requires.counts i).media_blocks ∷ (c.requires.counts i).erases ∷ [] in
    (omega arith, (omega arith, (c.requires.of_gauge, stores place.id (cell_view place) words g.J.Listed.list c.args.teller.now.tells.0 c.requires.goes_on counted)))
