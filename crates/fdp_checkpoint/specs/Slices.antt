-- A checkpoint in slices: its calls by their numbers, what is done behind some of them, and what a stop leaves.
use Rattle.std.specs.Prelude.{◌⊎◌, ℕ, ◌+◌, ◌-◌, ◌≤◌, List, nat_lt, if◌then◌else◌}
use Rattle.fdp_base.specs.declared.config.Geometry.{Geometry}
use Rattle.fdp_flash.specs.declared.cell.Cell.{Cell}
use Rattle.fdp_flash.specs.Area.{IsBlankArea}
use Rattle.fdp_flash.specs.FlashState.{Call}
use Rattle.fdp_flash.specs.Planned.{erase_of}
use Rattle.fdp_image.specs.Areas.{area_of, area_unit}
use Rattle.fdp_image.specs.Replacing.{HasNoSeal, IsSameBeside, IsWiped}
use Rattle.fdp_checkpoint.specs.declared.target.Target.{Target}
use Rattle.fdp_checkpoint.specs.Writing.{HasPages, page_call}

-- a call of a checkpoint in slices, by its number: an erase of each unit of the area, and then a program of each checkpoint page
abbrev pub slice_call : Geometry → ℕ → ℕ → Call
slice_call g area number = if nat_lt number g.area_units then erase_of (area_unit g area + number) else page_call g area (number - g.area_units)

-- so many of these calls are done: the first units of the area are erased, or all of them, and of the pages with these bytes those stand that were programmed
pub record IsPartDone (x : Target) (frozen : List ℕ) (done : ℕ) (cells : List Cell) : Type 0 where
  pub erased : done ≤ x.geometry.area_units → IsBlankArea x.geometry (area_unit x.geometry x.area) done cells
  pub filled : x.geometry.area_units ≤ done → HasPages x.geometry.block x.stamp frozen (area_of x.geometry x.area cells) (done - x.geometry.area_units)

-- what a stop in a slice leaves: the pages beside the area are as they were, and some of its pages were wiped, or none is a seal
pub record IsSliced (g : Geometry) (area : ℕ) (old new : List Cell) : Type 0 where
  pub beside : IsSameBeside g area old new
  pub left : IsWiped (area_of g area old) (area_of g area new) ⊎ HasNoSeal (area_of g area new)
