-- The sums of an endurance group are known by their numbers.
use Rattle.std.proofs.Common.{◌≡◌}
use Rattle.fdp_layouts.specs.declared.statistics.Stats.{Stats}
use Rattle.fdp_layouts.specs.Statistics.{stats_numbers}

pub stats_by_numbers : (v w : Stats) → stats_numbers v ≡ stats_numbers w → v ≡ w
stats_by_numbers v w e =
    let hbmw : v.hbmw ≡ w.hbmw = cc in
    let mbmw : v.mbmw ≡ w.mbmw = cc in
    let mbe : v.mbe ≡ w.mbe = cc in
    λ i. record { hbmw = hbmw i; mbmw = mbmw i; mbe = mbe i }
