use Rattle.std.proofs.Common.{◌+◌, ◌∙◌, IsTrue, Some, length, ap, subst, sym, refl, arith, inr}
use Rattle.fdp_flash.specs.Planned.{calls_from}
use Rattle.fdp_flash.proofs.Failing.{failed_behind, program_failed}
use Rattle.fdp_flash.proofs.Held.{holds_at_start}
use Rattle.fdp_flash.proofs.Planned.{none_made}
use Rattle.fdp_records.specs.declared.spare.SystemKind.TheVariants as kinds
use Rattle.fdp_checkpoint.proofs.SealedAnew.{get_at, none_kept}
use Rattle.fdp_checkpoint.proofs.Steps.{IsProgramming, page_made, page_stops, page_unsealed, program_uncounted, record_stands, unsealed_start}
use Rattle.fdp_checkpoint.proofs.keeping.keep.Goals as goal

pub loop-number-init : goal.loop-number-init
unfolding calls_from
loop-number-init g c =
    let s = g.F.Flash.state c.args.flash.now in
    record {
      held = holds_at_start _ s (unsealed_start _ _ s c.requires.none);
      kept = λ told. none_kept _ _ _ _ (c.requires.blank told);
      faultless = refl;
      programs = refl;
      made = none_made s (g.met.F.Flash.well_formed c.args.flash.now);
    }

pub loop-number-preserved : goal.loop-number-preserved
loop-number-preserved g c =
    let inv = c.loop-number.invariant in
    let x = c.args.target.now in
    let n = c.loop-number.number in
    let first = c.args.count in
    let at : IsProgramming x (first + n) (g.F.Flash.state c.loop-number.flash) = record {
      geometry = c.requires.geometry ∙ sym inv.held.run.geometry;
      area = c.requires.area;
      inside = omega (arith, c.requires.inside, c.loop-number-test.true);
      well_formed = g.met.F.Flash.well_formed c.loop-number.flash;
    } in
    let there = get_at c.args.kept.now n c.index-kept-number.result (omega (arith, c.loop-number-test.true)) ∙ ap Some (sym (c.as_slice-page.ensures ∙ c.index-kept-number.is)) in
    record {
      held = page_unsealed x kinds.Journal n (first + n) _ _ _ _ _ (inr refl) at inv.held c.in-Done.ensures;
      kept = λ told. record_stands x first n c.args.kept.now _ _ _ _ at there c.in-Done.ensures (subst IsTrue (sym inv.held.run.told) told) (inv.kept told);
      faultless = c.in-Done.ensures.answer.ended.no_fault refl ∙ inv.faultless;
      programs = program_uncounted x kinds.Journal n (first + n) _ _ _ _ at.geometry c.in-Done.ensures ∙ inv.programs;
      made = page_made x kinds.Journal n first n (first + n) _ _ _ _ refl inv.made c.in-Done.ensures;
    }

pub returns-in-Failed-clause-held : goal.returns-in-Failed-clause-held
returns-in-Failed-clause-held g c =
    let inv = c.loop-number.invariant in
    let x = c.args.target.now in
    let n = c.loop-number.number in
    let first = c.args.count in
    let at : IsProgramming x (first + n) (g.F.Flash.state c.loop-number.flash) = record {
      geometry = c.requires.geometry ∙ sym inv.held.run.geometry;
      area = c.requires.area;
      inside = omega (arith, c.requires.inside, c.loop-number-test.true);
      well_formed = g.met.F.Flash.well_formed c.loop-number.flash;
    } in
    page_unsealed x kinds.Journal n (first + n) _ _ _ _ _ (inr refl) at inv.held c.in-Failed.ensures

pub returns-in-Failed-clause-calls : goal.returns-in-Failed-clause-calls
returns-in-Failed-clause-calls g c =
    let n = c.loop-number.number in
    page_stops c.args.target.now kinds.Journal n c.args.count n (length c.args.kept.now) (c.args.count + n) _ _ _ _ (omega (arith, c.loop-number-test.true)) refl c.loop-number.invariant.made c.in-Failed.ensures

pub returns-in-Failed-clause-failed : goal.returns-in-Failed-clause-failed
returns-in-Failed-clause-failed g c is =
    failed_behind _ _ _ _ _ c.loop-number.invariant.held.run (program_failed _ _ _ _ _ (g.met.F.Flash.well_formed c.program_page.new.flash) c.in-Failed.ensures.call c.in-Failed.ensures.answer)

pub returns-in-Failed-clause-programs : goal.returns-in-Failed-clause-programs
returns-in-Failed-clause-programs g c =
    let inv = c.loop-number.invariant in
    program_uncounted c.args.target.now kinds.Journal c.loop-number.number (c.args.count + c.loop-number.number) _ _ _ _ (c.requires.geometry ∙ sym inv.held.run.geometry) c.in-Failed.ensures ∙ inv.programs
