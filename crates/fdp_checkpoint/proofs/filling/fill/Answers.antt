use Rattle.std.proofs.Common.{◌∙◌, IsTrue, subst, sym, refl, arith, inl}
use Rattle.fdp_base.specs.Geometry.{IsBlockSize}
use Rattle.fdp_flash.specs.Planned.{calls_from}
use Rattle.fdp_flash.proofs.Failing.{failed_behind, program_failed}
use Rattle.fdp_flash.proofs.Held.{holds_at_start}
use Rattle.fdp_flash.proofs.Planned.{none_made}
use Rattle.fdp_image.proofs.Unsealed.{blank_no_seal}
use Rattle.fdp_records.specs.declared.spare.SystemKind.TheVariants as kinds
use Rattle.fdp_checkpoint.specs.Writing.{with_pages}
use Rattle.fdp_checkpoint.proofs.SealedAnew.{pages_none}
use Rattle.fdp_checkpoint.proofs.Steps.{IsProgramming, page_made, page_stands, page_stops, page_unsealed, program_uncounted, put_by, unsealed_start}
use Rattle.fdp_checkpoint.proofs.Telling.{area_small}
use Rattle.fdp_checkpoint.proofs.filling.fill.Goals as goal

pub loop-number-init : goal.loop-number-init
unfolding calls_from
loop-number-init g c =
    let s = g.F.Flash.state c.args.flash.now in
    record {
      size = refl;
      held = holds_at_start _ s (unsealed_start _ _ s (λ told. blank_no_seal _ (c.requires.blank told)));
      pages = λ told. pages_none _ _ _ _ (c.requires.blank told);
      faultless = refl;
      programs = refl;
      made = none_made s (g.met.F.Flash.well_formed c.args.flash.now);
    }

pub put_page-requires-clause-block : goal.put_page-requires-clause-block
put_page-requires-clause-block g c = subst IsBlockSize (sym (c.loop-number.invariant.size ∙ c.requires.room)) c.requires.valid.block

pub put_page-requires-clause-number : goal.put_page-requires-clause-number
put_page-requires-clause-number g c = omega (arith, area_small _ c.requires.valid, c.requires.count, c.loop-number-test.true)

pub loop-number-preserved : goal.loop-number-preserved
loop-number-preserved g c =
    let inv = c.loop-number.invariant in
    let x = c.args.target.now in
    let n = c.loop-number.number in
    let at : IsProgramming x n (g.F.Flash.state c.loop-number.flash) = record {
      geometry = c.requires.geometry ∙ sym inv.held.run.geometry;
      area = c.requires.area;
      inside = omega (arith, c.requires.count, c.loop-number-test.true);
      well_formed = g.met.F.Flash.well_formed c.loop-number.flash;
    } in
    let bytes =
    put_by c.args.fixed.now (with_pages c.args.summary.now c.args.pages.now) _ _ n c.args.count x.geometry.block c.put_page.new.into refl (inv.size ∙ c.requires.room) c.requires.fixed c.requires.long c.requires.state
    (omega (arith, c.loop-number-test.true)) c.requires.fits c.put_page.ensures in
    record {
      size = search;
      held = page_unsealed x _ n n _ _ _ _ _ (inl refl) at inv.held c.in-Done.ensures;
      pages = λ told. page_stands x n _ _ _ _ at bytes c.in-Done.ensures (subst IsTrue (sym inv.held.run.told) told) (inv.pages told);
      faultless = c.in-Done.ensures.answer.ended.no_fault refl ∙ inv.faultless;
      programs = program_uncounted x _ n n _ _ _ _ at.geometry c.in-Done.ensures ∙ inv.programs;
      made = page_made x kinds.Checkpoint n 0 n n _ _ _ _ (omega arith) inv.made c.in-Done.ensures;
    }

pub returns-in-Failed-clause-held : goal.returns-in-Failed-clause-held
returns-in-Failed-clause-held g c =
    let inv = c.loop-number.invariant in
    let x = c.args.target.now in
    let n = c.loop-number.number in
    let at : IsProgramming x n (g.F.Flash.state c.loop-number.flash) = record {
      geometry = c.requires.geometry ∙ sym inv.held.run.geometry;
      area = c.requires.area;
      inside = omega (arith, c.requires.count, c.loop-number-test.true);
      well_formed = g.met.F.Flash.well_formed c.loop-number.flash;
    } in
    page_unsealed x _ n n _ _ _ _ _ (inl refl) at inv.held c.in-Failed.ensures

pub returns-in-Failed-clause-calls : goal.returns-in-Failed-clause-calls
returns-in-Failed-clause-calls g c =
    page_stops c.args.target.now kinds.Checkpoint c.loop-number.number 0 c.loop-number.number c.args.count c.loop-number.number _ _ _ _ c.loop-number-test.true (omega arith) c.loop-number.invariant.made c.in-Failed.ensures

pub returns-in-Failed-clause-failed : goal.returns-in-Failed-clause-failed
returns-in-Failed-clause-failed g c is =
    failed_behind _ _ _ _ _ c.loop-number.invariant.held.run (program_failed _ _ _ _ _ (g.met.F.Flash.well_formed c.program_page.new.flash) c.in-Failed.ensures.call c.in-Failed.ensures.answer)

pub returns-in-Failed-clause-programs : goal.returns-in-Failed-clause-programs
returns-in-Failed-clause-programs g c =
    let inv = c.loop-number.invariant in
    program_uncounted c.args.target.now _ c.loop-number.number c.loop-number.number _ _ _ _ (c.requires.geometry ∙ sym inv.held.run.geometry) c.in-Failed.ensures ∙ inv.programs
