use Rattle.std.proofs.Common.{◌≡◌, ◌∙◌, ◌+◌, sym, subst, ap, List, ℕ}
use Rattle.fdp_base.specs.declared.config.Geometry.{Geometry}
use Rattle.fdp_base.specs.declared.entry.Spot.{Spot}
use Rattle.fdp_base.specs.Geometry.{all_pages}
use Rattle.fdp_flash.specs.Answers.{Programs}
use Rattle.fdp_flash.specs.Cells.{IsBlankFrom}
use Rattle.fdp_flash.specs.Layout.{first_page, page_number}
use Rattle.fdp_image.specs.Areas.{area_unit}
use Rattle.fdp_image.specs.Spots.{spot_in}
use Rattle.fdp_image.proofs.AreaPages.{blank_from_area}
use Rattle.fdp_checkpoint.proofs.target.program_page.Goals as goal

pub program-requires-clause-order : goal.program-requires-clause-order
program-requires-clause-order g c told =
    let s = g.F.Flash.state c.args.flash.now in
    let x = c.args.target.now in
    let size = (g.met.F.Flash.well_formed c.args.flash.now).size told ∙ ap all_pages (sym c.requires.geometry) in
    subst (λ (h : Geometry). IsBlankFrom h s.cells c.page_of_area-at.result) c.requires.geometry
    (blank_from_area x.geometry s.cells x.area c.args.place c.page_of_area-at.result size c.requires.area c.requires.place c.page_of_area-at.ensures.place (c.requires.order told))

pub returns : goal.returns
returns g c =
    let x = c.args.target.now in
    let old = g.F.Flash.state c.args.flash.now in
    let new = g.F.Flash.state c.program.new.self in
    let at : c.page_of_area-at.result ≡ spot_in x.geometry x.area c.args.place = c.page_of_area-at.ensures.spot in
    record {
      call = c.program.ensures.call;
      answer =
          subst (λ (spare : List ℕ). Programs old new (spot_in x.geometry x.area c.args.place) spare c.args.page.now c.program.result) c.encode.ensures
          (subst (λ (spot : Spot). Programs old new spot c.encode.result c.args.page.now c.program.result) at c.program.ensures.answer);
      place = subst (λ (spot : Spot). page_number x.geometry spot ≡ first_page x.geometry (area_unit x.geometry x.area) + c.args.place) at c.page_of_area-at.ensures.place;
    }
