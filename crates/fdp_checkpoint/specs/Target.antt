-- A program of a page of a system area.
use Rattle.std.specs.Prelude.{◌≡◌, ℕ, ◌+◌, List}
use Rattle.fdp_flash.specs.declared.answer.Wrote.{Wrote}
use Rattle.fdp_flash.specs.Answers.{Programs}
use Rattle.fdp_flash.specs.FlashState.{Begins, FlashState}
use Rattle.fdp_flash.specs.Layout.{first_page, page_number}
use Rattle.fdp_image.specs.Areas.{area_unit}
use Rattle.fdp_image.specs.Spots.{spot_in}
use Rattle.fdp_records.specs.declared.spare.SystemKind.{SystemKind}
use Rattle.fdp_records.specs.Spares.{system_spare}
use Rattle.fdp_checkpoint.specs.declared.target.Target.{Target}

-- one call was made: the program of this page of the area, with the spare of this kind and number and these bytes
pub record ProgramsIn (x : Target) (kind : SystemKind) (number page : ℕ) (bytes : List ℕ) (old new : FlashState) (result : Wrote) : Type 0 where
  pub call : Begins old new
  pub answer : Programs old new (spot_in x.geometry x.area page) (system_spare (record { kind = kind; number = number; stamp = x.stamp })) bytes result
  pub place : page_number x.geometry (spot_in x.geometry x.area page) ≡ first_page x.geometry (area_unit x.geometry x.area) + page
