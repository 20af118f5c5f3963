-- How the units and pages of a flash are numbered.
use Rattle.std.specs.Prelude.{ℕ, ◌+◌, ◌*◌, ◌<◌}
use Rattle.fdp_base.specs.declared.config.Geometry.{Geometry}
use Rattle.fdp_base.specs.declared.entry.Spot.{Spot}
use Rattle.fdp_base.specs.Geometry.{all_units}

-- the number of the first page of a unit
abbrev pub first_page : Geometry → ℕ → ℕ
first_page g unit = unit * g.unit_pages

-- the number of a page
abbrev pub page_number : Geometry → Spot → ℕ
page_number g at = first_page g at.unit + at.page

-- the unit is one of the flash, and the page one of the unit
pub record IsIn (g : Geometry) (at : Spot) : Type 0 where
  pub unit : at.unit < all_units g
  pub page : at.page < g.unit_pages
