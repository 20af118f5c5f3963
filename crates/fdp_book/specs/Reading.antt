-- Where a block stands that is read.
use Rattle.std.specs.Prelude.{◌≡◌, Option, Some, None}
use Rattle.fdp_base.specs.Spare.{data_spare}
use Rattle.fdp_book.specs.declared.book.reading.Page.{Page}
use Rattle.fdp_book.specs.Book.{BookSeen, point_in, written_in}
use Rattle.fdp_readings.specs.fdp_locations.Written.{Written}
use Rattle.fdp_rules.specs.PlainState.{Block}
use Rattle.fdp_rules.specs.Step.{IsPage}

-- the page of a block: it is its site, one of the drive, and by the history it holds the block, with this spare
pub record IsPageOf (b : BookSeen) (block : Block) (page : Page) : Type 0 where
  pub site : (point_in b).trail.site block.page ≡ Some page.spot
  pub place : IsPage b.config page.spot
  pub written : Written
  pub holds : written_in b page.spot ≡ Some written
  pub bytes : written.bytes ≡ block.bytes
  pub spare : data_spare written.spare ≡ page.spare

-- a block has its page, an absent one none
abbrev pub StandsAt : BookSeen → Option Block → Option Page → Type 0
StandsAt b None None = Unit {0}
StandsAt b (Some block) (Some page) = IsPageOf b block page
StandsAt b None (Some page) = ⊥
StandsAt b (Some block) None = ⊥
