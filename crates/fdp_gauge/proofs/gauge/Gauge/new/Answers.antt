use Rattle.std.proofs.Common.{arith}
use Rattle.crossbeam_utils.specs.Seq.{cell_view}
use Rattle.fdp_gauge.proofs.Shown.{notes}
use Rattle.fdp_gauge.proofs.gauge.Gauge.new.Goals as goal

pub split_pass-requires : goal.split_pass-requires
split_pass-requires c =
    let place = c.in_ok-cell.place in
    (omega arith, (omega arith, (c.in_ok-cell.ensures.0, notes place.id (cell_view place))))
