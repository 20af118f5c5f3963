use Rattle.std.proofs.Common.{◌+◌, ◌∙◌, IsTrue, subst, sym, refl}
use Rattle.fdp_base.specs.declared.config.Geometry.{Geometry}
use Rattle.fdp_flash.proofs.Failing.{failed_behind}
use Rattle.fdp_flash.specs.declared.answer.Wrote.TheVariants.{Failed}
use Rattle.fdp_flash.specs.Planned.{calls_from, erase_of}
use Rattle.fdp_image.specs.Areas.{area_unit}
use Rattle.fdp_flash.specs.Runs.{Holds}
use Rattle.fdp_flash.proofs.Planned.{stops_before}
use Rattle.fdp_image.specs.Replacing.{MayBeWritten}
use Rattle.fdp_checkpoint.specs.Writing.{IsWritten, page_call, with_pages}
use Rattle.fdp_checkpoint.proofs.Steps.{calls_at, erasing_written, whole_calls, written_whole}
use Rattle.fdp_checkpoint.proofs.writing.write.Goals as goal

pub put_content-requires-clause-geometry : goal.put_content-requires-clause-geometry
put_content-requires-clause-geometry g c = c.geometry-geometry.ensures.value ∙ sym c.in-Done.ensures.held.run.geometry

pub put_content-requires-clause-blank : goal.put_content-requires-clause-blank
put_content-requires-clause-blank g c told = c.in-Done.ensures.done (subst IsTrue c.in-Done.ensures.held.run.told told) refl

pub returns-in-Done-clause-held : goal.returns-in-Done-clause-held
returns-in-Done-clause-held g c =
    let s = g.F.Flash.state c.args.flash.now in
    subst (λ (h : Geometry). Holds (MayBeWritten h c.args.area c.args.epoch (with_pages c.args.summary.now c.args.pages.now) s.cells) s (g.F.Flash.state c.put_content.new.flash)) c.geometry-geometry.ensures.value
    (written_whole c.geometry-geometry.result c.args.area c.args.epoch (with_pages c.args.summary.now c.args.pages.now) _ _ _ c.requires.area c.in-Done.ensures.held c.put_content.ensures.held)

pub returns-in-Done-clause-done : goal.returns-in-Done-clause-done
returns-in-Done-clause-done g c told is =
    subst (λ (h : Geometry). IsWritten h c.args.area c.args.epoch (with_pages c.args.summary.now c.args.pages.now) (g.F.Flash.state c.put_content.new.flash).cells) c.geometry-geometry.ensures.value
    (c.put_content.ensures.done (subst IsTrue (sym c.in-Done.ensures.held.run.told) told) is)

pub returns-in-Done-clause-faultless : goal.returns-in-Done-clause-faultless
returns-in-Done-clause-faultless g c is = c.put_content.ensures.faultless is ∙ c.in-Done.ensures.faultless refl

pub returns-in-Done-clause-failed : goal.returns-in-Done-clause-failed
returns-in-Done-clause-failed g c is = failed_behind _ _ _ _ _ c.in-Done.ensures.held.run (c.put_content.ensures.failed is)

pub returns-in-Done-clause-calls : goal.returns-in-Done-clause-calls
returns-in-Done-clause-calls g c =
    let s = g.F.Flash.state c.args.flash.now in
    calls_at c.geometry-geometry.result s.geometry c.args.area _ (with_pages c.args.summary.now c.args.pages.now) _ _ _ c.geometry-geometry.ensures.value c.in-Some.ensures.count
    (whole_calls c.geometry-geometry.result c.args.area _ _ _ _ _ c.put_content.ensures.held.run.listed_before c.in-Done.ensures.calls c.put_content.ensures.calls)

pub returns-in-Failed-clause-held : goal.returns-in-Failed-clause-held
returns-in-Failed-clause-held g c =
    let s = g.F.Flash.state c.args.flash.now in
    subst (λ (h : Geometry). Holds (MayBeWritten h c.args.area c.args.epoch (with_pages c.args.summary.now c.args.pages.now) s.cells) s (g.F.Flash.state c.erase.new.flash)) c.geometry-geometry.ensures.value
    (erasing_written c.geometry-geometry.result c.args.area c.args.epoch (with_pages c.args.summary.now c.args.pages.now) _ _ c.requires.area c.in-Failed.ensures.held)

pub returns-in-Failed-clause-failed : goal.returns-in-Failed-clause-failed
returns-in-Failed-clause-failed g c is = c.in-Failed.ensures.failed refl

pub returns-in-Failed-clause-calls : goal.returns-in-Failed-clause-calls
returns-in-Failed-clause-calls g c =
    let s = g.F.Flash.state c.args.flash.now in
    let new = g.F.Flash.state c.erase.new.flash in
    let h = c.geometry-geometry.result in
    calls_at h s.geometry c.args.area c.in-Some.count (with_pages c.args.summary.now c.args.pages.now) s new Failed c.geometry-geometry.ensures.value c.in-Some.ensures.count
    (stops_before s new (calls_from erase_of (area_unit h c.args.area) h.area_units) (calls_from (page_call h c.args.area) 0 (c.in-Some.count + 1)) c.in-Failed.ensures.calls)
