-- What is read of a page, by what stands there.
use Rattle.std.proofs.Common.{◌≡◌, ◌≢◌, ℕ, ◌<◌, List, length, Some, refl, ap, ◌∙◌}
use Rattle.std.specs.List.{slice_get}
use Rattle.std.proofs.lemmas.Option.{slice_get_read}
use Rattle.std.proofs.Math.ListN.{get_or}
use Rattle.fdp_flash.specs.declared.answer.Fetched.TheVariants as fetched
use Rattle.fdp_flash.specs.declared.answer.Seen.TheVariants as seen
use Rattle.fdp_flash.specs.declared.cell.Cell.{Cell}
use Rattle.fdp_flash.specs.declared.cell.Cell.TheVariants.{Blank, Torn, Whole}
use Rattle.fdp_flash.specs.Read.{ReadsPage, ReadsExpected}

-- the cell that was read stands there
pub stands_there : (cells : List Cell) (page : ℕ) (read cell : Cell) → page < length cells → read ≡ get_or cells page read → read ≡ cell → slice_get cells page ≡ Some cell
stands_there cells page read cell within is same = slice_get_read cells (length cells) page read refl within is ∙ ap Some same

pub reads_blank : (cells : List Cell) (page : ℕ) (spare bytes : List ℕ) → slice_get cells page ≡ Some Blank → ReadsPage cells page spare bytes seen.Blank
reads_blank cells page spare bytes there = record {
  answers = refl;
  whole = λ e. absurd (let f : seen.Blank ≡ seen.Whole = e in cc);
  blank = λ e. there;
  torn = λ e. absurd (let f : seen.Blank ≡ seen.Torn = e in cc);
}

pub reads_torn : (cells : List Cell) (page : ℕ) (spare bytes : List ℕ) → slice_get cells page ≡ Some Torn → ReadsPage cells page spare bytes seen.Torn
reads_torn cells page spare bytes there = record {
  answers = refl;
  whole = λ e. absurd (let f : seen.Torn ≡ seen.Whole = e in cc);
  blank = λ e. absurd (let f : seen.Torn ≡ seen.Blank = e in cc);
  torn = λ e. there;
}

pub reads_whole : (cells : List Cell) (page : ℕ) (spare bytes : List ℕ) → slice_get cells page ≡ Some (Whole spare bytes) → ReadsPage cells page spare bytes seen.Whole
reads_whole cells page spare bytes there = record {
  answers = refl;
  whole = λ e. there;
  blank = λ e. absurd (let f : seen.Whole ≡ seen.Blank = e in cc);
  torn = λ e. absurd (let f : seen.Whole ≡ seen.Torn = e in cc);
}

pub reads_other : (cells : List Cell) (page : ℕ) (spare bytes : List ℕ) (cell : Cell) → slice_get cells page ≡ Some cell → ((found : List ℕ) → cell ≢ Whole spare found) →
    ReadsExpected cells page spare bytes fetched.Other
reads_other cells page spare bytes cell there none = record {
  answers = refl;
  whole = λ e. absurd (let f : fetched.Other ≡ fetched.Whole = e in cc);
  other = λ e found is. none found (let s : cell ≡ Whole spare found = cc in s);
}

pub reads_expected : (cells : List Cell) (page : ℕ) (spare bytes : List ℕ) → slice_get cells page ≡ Some (Whole spare bytes) → ReadsExpected cells page spare bytes fetched.Whole
reads_expected cells page spare bytes there = record {
  answers = refl;
  whole = λ e. there;
  other = λ e. absurd (let f : fetched.Whole ≡ fetched.Other = e in cc);
}
