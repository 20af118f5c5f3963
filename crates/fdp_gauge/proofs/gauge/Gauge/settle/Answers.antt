use Rattle.std.proofs.Common.{◌∙◌, sym, arith}
use Rattle.crossbeam_utils.specs.Seq.{cell_view}
use Rattle.fdp_gauge.proofs.Shown.{goes_off, informs, learns}
use Rattle.fdp_gauge.proofs.gauge.Gauge.settle.Goals as goal

pub split_pass-whole-requires : goal.split_pass-whole-requires
split_pass-whole-requires g c =
    let place = c.args.pass.place in
    (omega arith, (omega arith, (c.requires.of_gauge.1, goes_off place.id (cell_view place))))

pub join_pass-requires : goal.join_pass-requires
join_pass-requires g c =
    let place = c.args.teller.now.place in
    let told = c.split_pass-whole.result in
    let given = c.split_pass-whole.ensures.given in
    (omega arith, (omega arith, ((c.requires.of_gauge.0, given.0 ∙ (c.requires.of_gauge.1 ∙ sym c.requires.of_gauge.0), given.2), informs place.id (cell_view place) told.id (cell_view told))))

pub load_as-requires : goal.load_as-requires
load_as-requires g c =
    let place = c.join_pass.new.pass in
    (omega arith, (omega arith, (c.join_pass.ensures.0.0 ∙ c.requires.of_gauge.0, learns place.id (cell_view place))))
