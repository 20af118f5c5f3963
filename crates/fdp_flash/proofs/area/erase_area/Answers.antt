use Rattle.std.proofs.Common.{arith, refl, ◌∙◌}
use Rattle.fdp_flash.specs.Planned.{calls_from, erase_of}
use Rattle.fdp_flash.proofs.Failing.{erase_failed, failed_behind}
use Rattle.fdp_flash.proofs.Planned.{next_made, next_stops, none_made}
use Rattle.fdp_flash.proofs.Units.{area_begins, area_held, area_blank}
use Rattle.fdp_flash.proofs.area.erase_area.Goals as goal

pub returns-in-Failed-clause-held : goal.returns-in-Failed-clause-held
returns-in-Failed-clause-held g c =
    area_held _ _ _ c.args.first c.args.count _ _ c.loop-i.invariant.held (omega arith) (omega arith) c.in-Failed.ensures.call c.in-Failed.ensures.answer

pub loop-i-init : goal.loop-i-init
unfolding calls_from
loop-i-init g c =
    let s = g.F.Flash.state c.args.flash.now in
    record {
      held = area_begins s c.args.first c.args.count;
      blank = λ told unit least most. absurd (omega arith);
      faultless = refl;
      made = none_made s (g.met.F.Flash.well_formed c.args.flash.now);
      programs = refl;
    }

pub returns-in-Failed-clause-failed : goal.returns-in-Failed-clause-failed
returns-in-Failed-clause-failed g c is =
    failed_behind _ _ _ _ _ c.loop-i.invariant.held.run (erase_failed _ _ _ (g.met.F.Flash.well_formed c.erase.new.self) c.in-Failed.ensures.call c.in-Failed.ensures.answer)

pub returns-in-Failed-clause-calls : goal.returns-in-Failed-clause-calls
returns-in-Failed-clause-calls g c =
    next_stops erase_of c.args.first c.loop-i.i c.args.count _ _ _ _ c.loop-i-test.true c.loop-i.invariant.made c.in-Failed.ensures.call c.in-Failed.ensures.answer.ended

pub loop-i-preserved : goal.loop-i-preserved
loop-i-preserved g c =
    let held = c.loop-i.invariant.held in
    record {
      held = area_held _ _ _ c.args.first c.args.count _ _ held (omega arith) (omega arith) c.in-Done.ensures.call c.in-Done.ensures.answer;
      blank = area_blank _ _ _ c.args.first c.args.count c.loop-i.i held c.loop-i.invariant.blank c.in-Done.ensures.answer;
      faultless = c.in-Done.ensures.answer.ended.no_fault refl ∙ c.loop-i.invariant.faultless;
      made = next_made erase_of c.args.first c.loop-i.i _ _ _ _ c.loop-i.invariant.made c.in-Done.ensures.call c.in-Done.ensures.answer.ended;
      programs = c.in-Done.ensures.answer.programs ∙ c.loop-i.invariant.programs;
    }
