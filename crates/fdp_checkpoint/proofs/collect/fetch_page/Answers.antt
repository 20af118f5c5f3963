use Rattle.std.proofs.Common.{◌≡◌, List, ℕ, Some, refl, subst, sym}
use Rattle.std.specs.Prelude.{slice_get}
use Rattle.fdp_flash.specs.declared.cell.Cell.TheVariants.{Whole}
use Rattle.fdp_flash.specs.Layout.{page_number}
use Rattle.fdp_flash.proofs.Failing.{fetch_failed}
use Rattle.fdp_flash.proofs.OnlyReads.{fetch_more, no_read}
use Rattle.fdp_checkpoint.proofs.Collecting.{page_got, page_is, page_missed}
use Rattle.fdp_checkpoint.proofs.collect.fetch_page.Goals as goal

pub returns-in-Whole-clause-reads : goal.returns-in-Whole-clause-reads
returns-in-Whole-clause-reads g c = fetch_more 0 _ _ _ _ _ _ _ (no_read _) c.fetch.ensures.call c.fetch.ensures.answer

pub returns-in-Other-clause-reads : goal.returns-in-Other-clause-reads
returns-in-Other-clause-reads g c = fetch_more 0 _ _ _ _ _ _ _ (no_read _) c.fetch.ensures.call c.fetch.ensures.answer

pub returns-in-Failed-clause-reads : goal.returns-in-Failed-clause-reads
returns-in-Failed-clause-reads g c = fetch_more 0 _ _ _ _ _ _ _ (no_read _) c.fetch.ensures.call c.fetch.ensures.answer

pub returns-in-Whole-clause-bytes : goal.returns-in-Whole-clause-bytes
returns-in-Whole-clause-bytes g c told is =
    let s = g.F.Flash.state c.args.flash.now in
    page_got c.args.geometry.now c.args.area s _ c.args.number c.args.stamp _ _
    (page_is c.args.geometry.now c.args.area s _ c.args.number c.args.stamp c.requires.geometry c.requires.number c.page_of_area-at.ensures.place (c.requires.page told)) (c.in-Whole.ensures.answer.whole told refl)

pub returns-in-Whole-clause-ends : goal.returns-in-Whole-clause-ends
returns-in-Whole-clause-ends g c = c.in-Whole.ensures.answer.ended.no_fault (c.in-Whole.ensures.answer.is_whole refl)

pub returns-in-Other-clause-ends : goal.returns-in-Other-clause-ends
returns-in-Other-clause-ends g c =
    let s = g.F.Flash.state c.args.flash.now in
    page_missed _ _ _ _ _ (g.met.F.Flash.well_formed c.fetch.new.self) c.in-Other.ensures.call c.in-Other.ensures.answer
    (λ told.
    let p = page_is c.args.geometry.now c.args.area s c.page_of_area-at.result c.args.number c.args.stamp c.requires.geometry c.requires.number c.page_of_area-at.ensures.place (c.requires.page told) in
    (p.bytes, subst (λ (sp : List ℕ). slice_get s.cells (page_number s.geometry c.page_of_area-at.result) ≡ Some (Whole sp p.bytes)) (sym c.encode.ensures) p.cell))

pub returns-in-Failed-clause-ends : goal.returns-in-Failed-clause-ends
returns-in-Failed-clause-ends g c = fetch_failed _ _ _ _ _ (g.met.F.Flash.well_formed c.fetch.new.self) c.in-Failed.ensures.call c.in-Failed.ensures.answer
