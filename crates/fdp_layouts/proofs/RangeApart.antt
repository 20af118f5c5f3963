-- A range is known by its numbers.
use Rattle.std.proofs.Common.{◌≡◌}
use Rattle.fdp_layouts.specs.declared.range.DsmRange.{DsmRange}
use Rattle.fdp_layouts.specs.Range.{dsm_range_numbers}

pub dsm_range_by_numbers : (v w : DsmRange) → dsm_range_numbers v ≡ dsm_range_numbers w → v ≡ w
dsm_range_by_numbers v w e =
    let attributes : v.attributes ≡ w.attributes = cc in
    let length : v.length ≡ w.length = cc in
    let slba : v.slba ≡ w.slba = cc in
    λ i. record { attributes = attributes i; length = length i; slba = slba i }
