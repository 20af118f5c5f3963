-- The parts of the Reclaim Unit Handle Status are known by their numbers.
use Rattle.std.proofs.Common.{◌≡◌}
use Rattle.fdp_layouts.specs.declared.handle_status.RuhStatusHead.{RuhStatusHead}
use Rattle.fdp_layouts.specs.declared.handle_status.RuhStatusDesc.{RuhStatusDesc}
use Rattle.fdp_layouts.specs.HandleStatus.{ruh_status_head_numbers, ruh_status_desc_numbers}

pub ruh_status_head_by_numbers : (v w : RuhStatusHead) → ruh_status_head_numbers v ≡ ruh_status_head_numbers w → v ≡ w
ruh_status_head_by_numbers v w e =
    let descriptors : v.descriptors ≡ w.descriptors = cc in
    λ i. record { descriptors = descriptors i }

pub ruh_status_desc_by_numbers : (v w : RuhStatusDesc) → ruh_status_desc_numbers v ≡ ruh_status_desc_numbers w → v ≡ w
ruh_status_desc_by_numbers v w e =
    let pid : v.pid ≡ w.pid = cc in
    let ruhid : v.ruhid ≡ w.ruhid = cc in
    let earutr : v.earutr ≡ w.earutr = cc in
    let ruamw : v.ruamw ≡ w.ruamw = cc in
    λ i. record { pid = pid i; ruhid = ruhid i; earutr = earutr i; ruamw = ruamw i }
