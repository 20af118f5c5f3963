use Rattle.std.proofs.Common.{arith}
use Rattle.crossbeam_utils.specs.Seq.{cell_view}
use Rattle.fdp_gauge.proofs.Shown.{notes}
use Rattle.fdp_gauge.proofs.gauge.Gauge.split.Goals as goal

pub split_pass-requires : goal.split_pass-requires
split_pass-requires c =
    let place = c.args.pass.now.place in
    (omega arith, (omega arith, (c.requires.of_gauge, notes place.id (cell_view place))))
