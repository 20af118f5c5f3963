-- Blank pages hold nothing.
use Rattle.std.proofs.Common.{◌≡◌, ℕ, zero, suc, Bool, true, false, cond, Option, None, refl, replicate}
use Rattle.std.specs.Prelude.{◌&&◌, nat_lt, slice_get, option_and_then}
use Rattle.fdp_base.specs.declared.config.DriveConfig.{DriveConfig}
use Rattle.fdp_base.specs.Geometry.{data_units}
use Rattle.fdp_base.specs.Placement.{geometry_of}
use Rattle.fdp_flash.specs.declared.cell.Cell.TheVariants.{Blank}
use Rattle.fdp_flash.specs.Layout.{page_number}
use Rattle.fdp_locations.specs.Held.{held_in, no_pages, pages_held}
use Rattle.fdp_locations.specs.Written.{Written}

nothing-in : (n k : ℕ) → option_and_then held_in (slice_get (replicate n Blank) k) ≡ None
nothing-in zero zero = refl
nothing-in zero (suc k) = refl
nothing-in (suc n) zero = refl
nothing-in (suc n) (suc k) = nothing-in n k

either-way : (b : Bool) (x : Option Written) → x ≡ None → cond b x None ≡ None
either-way true x is = is
either-way false x is = refl

pub held-blank : (c : DriveConfig) (n : ℕ) → pages_held c (replicate n Blank) ≡ no_pages
held-blank c n = λ d spot.
    either-way (nat_lt spot.unit (data_units (geometry_of c)) && nat_lt spot.page (geometry_of c).unit_pages) (option_and_then held_in (slice_get (replicate n Blank) (page_number (geometry_of c) spot)))
    (nothing-in n (page_number (geometry_of c) spot)) d
