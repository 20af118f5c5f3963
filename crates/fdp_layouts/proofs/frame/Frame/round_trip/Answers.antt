use Rattle.std.proofs.Common.{◌<◌, ◌^◌, arith}
use Rattle.std.proofs.lemmas.Bool.{ltb-true}
use Rattle.fdp_layouts.proofs.frame.Frame.round_trip.Goals as goal

pub encode-requires : goal.encode-requires
encode-requires g c =
    let small : g.row.N < 2 ^ 63 = ltb-true g.row.N (2 ^ 63) g.met.Self.Frame.small in
    omega arith

pub decode-requires : goal.decode-requires
decode-requires g c =
    let small : g.row.N < 2 ^ 63 = ltb-true g.row.N (2 ^ 63) g.met.Self.Frame.small in
    omega arith
