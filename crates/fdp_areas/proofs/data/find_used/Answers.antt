use Rattle.std.proofs.Common.{◌≡◌, List, Some, ap, ◌∙◌, arith, refl}
use Rattle.std.specs.Prelude.{slice_get}
use Rattle.fdp_flash.specs.declared.cell.Cell.{Cell}
use Rattle.fdp_flash.specs.declared.cell.Cell.TheVariants.{Blank, Torn, Whole}
use Rattle.fdp_image.specs.Areas.{data_pages}
use Rattle.fdp_areas.proofs.DataPages.{all_blank, blank_more, first_used}
use Rattle.fdp_flash.proofs.OnlyReads.{before_reads, reads_fewer, reads_joined}
use Rattle.fdp_areas.proofs.data.find_used.Goals as goal

pub returns-in-Whole-clause-looks : goal.returns-in-Whole-clause-looks
returns-in-Whole-clause-looks g c =
    let pages : data_pages c.geometry-geometry.result ≡ data_pages (g.F.Flash.state c.args.flash.now).geometry = ap data_pages c.geometry-geometry.ensures.value in
    reads_fewer _ _ _ _ (omega (arith, pages, c.loop-number-test.true, c.data_pages-number-end.ensures)) (reads_joined _ _ _ _ _ c.loop-number.invariant.looks c.in-Whole.ensures.looks)

pub returns-in-Torn-clause-looks : goal.returns-in-Torn-clause-looks
returns-in-Torn-clause-looks g c =
    let pages : data_pages c.geometry-geometry.result ≡ data_pages (g.F.Flash.state c.args.flash.now).geometry = ap data_pages c.geometry-geometry.ensures.value in
    reads_fewer _ _ _ _ (omega (arith, pages, c.loop-number-test.true, c.data_pages-number-end.ensures)) (reads_joined _ _ _ _ _ c.loop-number.invariant.looks c.in-Torn.ensures.looks)

pub returns-in-Failed-clause-looks : goal.returns-in-Failed-clause-looks
returns-in-Failed-clause-looks g c =
    let pages : data_pages c.geometry-geometry.result ≡ data_pages (g.F.Flash.state c.args.flash.now).geometry = ap data_pages c.geometry-geometry.ensures.value in
    reads_fewer _ _ _ _ (omega (arith, pages, c.loop-number-test.true, c.data_pages-number-end.ensures)) (reads_joined _ _ _ _ _ c.loop-number.invariant.looks c.in-Failed.ensures.looks)

pub returns-in-Whole-clause-found : goal.returns-in-Whole-clause-found
returns-in-Whole-clause-found g c told =
    let pages : data_pages c.geometry-geometry.result ≡ data_pages (g.F.Flash.state c.args.flash.now).geometry = ap data_pages c.geometry-geometry.ensures.value in
    let at = before_reads _ _ _ (λ (cells : List Cell). slice_get cells c.loop-number.number ≡ Some (Whole c.look_at_data.new.spare c.look_at_data.new.page)) c.loop-number.invariant.looks c.in-Whole.ensures.shown told in
    first_used _ _ _ _ (omega (arith, pages, c.loop-number-test.true, c.data_pages-number-end.ensures)) at refl (c.loop-number.invariant.blank told)

pub returns-in-Torn-clause-found : goal.returns-in-Torn-clause-found
returns-in-Torn-clause-found g c told =
    let pages : data_pages c.geometry-geometry.result ≡ data_pages (g.F.Flash.state c.args.flash.now).geometry = ap data_pages c.geometry-geometry.ensures.value in
    let at = before_reads _ _ _ (λ (cells : List Cell). slice_get cells c.loop-number.number ≡ Some Torn) c.loop-number.invariant.looks c.in-Torn.ensures.shown told in
    first_used _ _ _ _ (omega (arith, pages, c.loop-number-test.true, c.data_pages-number-end.ensures)) at refl (c.loop-number.invariant.blank told)

pub loop-number-preserved : goal.loop-number-preserved
loop-number-preserved g c = record {
  looks = reads_joined _ _ _ _ _ c.loop-number.invariant.looks c.in-Blank.ensures.looks;
  faultless = c.in-Blank.ensures.ends ∙ c.loop-number.invariant.faultless;
  blank = λ told.
      blank_more _ _ (c.loop-number.invariant.blank told)
      (before_reads _ _ _ (λ (cells : List Cell). slice_get cells c.loop-number.number ≡ Some Blank) c.loop-number.invariant.looks c.in-Blank.ensures.shown told);
}

pub returns-clause-found : goal.returns-clause-found
returns-clause-found g c told =
    let pages : data_pages c.geometry-geometry.result ≡ data_pages (g.F.Flash.state c.args.flash.now).geometry = ap data_pages c.geometry-geometry.ensures.value in
    all_blank _ _ (λ k lt. c.loop-number.invariant.blank told k (omega (arith, lt, pages, c.loop-number-test.false, c.data_pages-number-end.ensures)))
