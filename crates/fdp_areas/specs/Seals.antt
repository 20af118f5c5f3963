-- What a search for a seal finds.
use Rattle.std.specs.Prelude.{◌≡◌, ◌≤◌, ◌+◌, ℕ, suc, IsTrue, false, if◌then◌else◌, List, length, nat_lt, Option, Some, None}
use Rattle.fdp_base.specs.declared.config.Geometry.{Geometry}
use Rattle.fdp_base.specs.Geometry.{area_pages}
use Rattle.fdp_flash.specs.declared.cell.Cell.{Cell}
use Rattle.fdp_flash.specs.declared.cell.Cell.TheVariants.{Whole}
use Rattle.fdp_records.specs.declared.spare.Stamp.{Stamp}
use Rattle.fdp_records.specs.declared.spare.SystemKind.TheVariants.{Checkpoint, Journal}
use Rattle.fdp_image.specs.Areas.{Sealed, current_area, is_seal, page_bytes, sealed_in}
use Rattle.fdp_areas.specs.declared.seal.Current.{Current}
use Rattle.fdp_areas.specs.declared.seal.Seal.{Seal}
use Rattle.fdp_areas.specs.declared.seal.Step.{Step}
use Rattle.fdp_areas.specs.declared.seal.Step.TheVariants as steps

-- a sealed area has this version and epoch, and so many checkpoint pages and journal pages before the seal
pub record IsSealOf (seal : Seal) (area : Sealed) : Type 0 where
  pub stamp : area.stamp ≡ seal.stamp
  pub checkpoint : length area.checkpoint ≡ seal.checkpoint
  pub before : area.before ≡ seal.before

-- an area is sealed so
pub record IsSealed (cells : List Cell) (seal : Seal) : Type 0 where
  pub area : Sealed
  pub sealed : sealed_in cells ≡ Some area
  pub seal_is : IsSealOf seal area

-- what is said of an area: how it is sealed, or that it is not
abbrev pub Tells : List Cell → Option Seal → Type 0
Tells cells None = sealed_in cells ≡ None
Tells cells (Some seal) = IsSealed cells seal

-- a seal stands in its area, one of the two
pub record LiesIn (g : Geometry) (x : Current) : Type 0 where
  pub area : x.area ≤ 1
  pub pages : suc (x.seal.checkpoint + x.seal.before) ≤ area_pages g

-- an area is current, and sealed so
pub record IsCurrentSeal (g : Geometry) (cells : List Cell) (x : Current) : Type 0 where
  pub area : Sealed
  pub current : current_area g cells ≡ Some (x.area, area)
  pub seal_is : IsSealOf x.seal area

-- what is said of the current area, or that none is sealed
abbrev pub TellsCurrent : Geometry → List Cell → Option Current → Type 0
TellsCurrent g cells None = current_area g cells ≡ None
TellsCurrent g cells (Some x) = IsCurrentSeal g cells x

-- of the seals of both areas the one with the higher epoch, the first where they are equal
abbrev pub later_seal : Option Seal → Option Seal → Option Current
later_seal None None = None
later_seal (Some x) None = Some (record { area = 0; seal = x })
later_seal None (Some y) = Some (record { area = 1; seal = y })
later_seal (Some x) (Some y) = if nat_lt x.stamp.epoch y.stamp.epoch then Some (record { area = 1; seal = y }) else Some (record { area = 0; seal = x })

-- the page is no further checkpoint page: so many stand first, or journal pages came behind them already
abbrev pub IsNoPage : ℕ → ℕ → Stamp → Cell → Type 0
IsNoPage checkpoint before t cell = before ≡ 0 → page_bytes Checkpoint checkpoint t cell ≡ None

-- what a page is that comes behind so many checkpoint pages and, behind these, so many journal pages: one more of either, the seal, or none of them
abbrev pub IsStep : ℕ → ℕ → Stamp → List ℕ → List ℕ → Step → Type 0
IsStep checkpoint before t spare bytes steps.More = (before ≡ 0) × (page_bytes Checkpoint checkpoint t (Whole spare bytes) ≡ Some bytes)
IsStep checkpoint before t spare bytes steps.Record = IsNoPage checkpoint before t (Whole spare bytes) × (page_bytes Journal before t (Whole spare bytes) ≡ Some bytes)
IsStep checkpoint before t spare bytes steps.Seal =
    IsNoPage checkpoint before t (Whole spare bytes) × (page_bytes Journal before t (Whole spare bytes) ≡ None) × IsTrue (is_seal t (checkpoint + before) (Whole spare bytes))
IsStep checkpoint before t spare bytes steps.Other =
    IsNoPage checkpoint before t (Whole spare bytes) × (page_bytes Journal before t (Whole spare bytes) ≡ None) × (is_seal t (checkpoint + before) (Whole spare bytes) ≡ false)
