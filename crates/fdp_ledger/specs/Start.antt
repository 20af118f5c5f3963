-- How the run of a drive began.
use Rattle.std.specs.Prelude.{Bool, not, ◌||◌, IsTrue}
use Rattle.fdp_base.specs.Placement.{geometry_of}
use Rattle.fdp_book.specs.Book.{BookSeen}
use Rattle.fdp_ledger.specs.Uses.{RunStart}
use Rattle.fdp_image.specs.Roomy.{is_blank_unit}

-- how the run of a book began: fresh where no image was found; a unit had a page where one of it was not blank
abbrev pub start_of : BookSeen → RunStart
start_of b = record { fresh = not b.found.is_image; had = λ unit. not (is_blank_unit (geometry_of b.config) b.opened unit) }

-- which units had a page is known: the run began fresh, or the flash tells its cells
abbrev pub KnowsUnits : Bool → RunStart → Type 0
KnowsUnits told start = IsTrue (start.fresh || told)
