use Rattle.std.proofs.Common.{◌≡◌, None, ap, subst, ◌∙◌, arith}
use Rattle.std.specs.Prelude.{slice_get}
use Rattle.std.specs.Option.{option_and_then}
use Rattle.fdp_base.specs.declared.config.Geometry.{Geometry}
use Rattle.fdp_base.specs.Geometry.{area_pages}
use Rattle.fdp_image.specs.Areas.{area_of, stamp_of}
use Rattle.fdp_image.proofs.NextRecord.{area_long}
use Rattle.fdp_areas.proofs.Walking.{no_first, slice_get-end}
use Rattle.fdp_areas.proofs.search.find_seal.Goals as goal

pub returns-then-area_pages-eq0-clause-found : goal.returns-then-area_pages-eq0-clause-found
returns-then-area_pages-eq0-clause-found g c told =
    let s = g.F.Flash.state c.args.flash.now in
    let long = area_long s.geometry c.args.area s.cells c.requires.area ((g.met.F.Flash.well_formed c.args.flash.now).size told) in
    let pages : area_pages c.geometry-geometry.result ≡ area_pages s.geometry = ap area_pages c.geometry-geometry.ensures.value in
    no_first _ (ap (option_and_then stamp_of) (slice_get-end _ 0 (omega (arith, long, pages, c.area_pages.ensures, c.if-area_pages-eq0.true))))

pub returns-in-Ok-None-clause-found : goal.returns-in-Ok-None-clause-found
returns-in-Ok-None-clause-found g c told =
    let s = g.F.Flash.state c.args.flash.now in
    no_first _
    (subst (λ (x : Geometry). option_and_then stamp_of (slice_get (area_of x c.args.area s.cells) 0) ≡ None) c.geometry-geometry.ensures.value
    (c.in-Ok-None.ensures.found told ∙ c.in-Ok-None.field-0-is))
