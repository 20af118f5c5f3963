use Rattle.std.proofs.Common.{arith}
use Rattle.crossbeam_utils.specs.Seq.{cell_view}
use Rattle.fdp_gauge.proofs.Shown.{reads}
use Rattle.fdp_gauge.proofs.gauge.Gauge.read.Goals as goal

pub load_as-words-requires : goal.load_as-words-requires
load_as-words-requires g c =
    let place = c.args.pass.now.place in
    (omega arith, (omega arith, (c.requires.of_gauge, reads place.id (cell_view place))))
