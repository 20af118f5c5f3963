use Rattle.std.proofs.Common.{refl, sym, ◌∙◌, subst}
use Rattle.fdp_collector.specs.Ready.{Relocation}
use Rattle.fdp_collector.proofs.Readied.{room-some}
use Rattle.fdp_passes.specs.declared.lane.Lane.{Lane}
use Rattle.fdp_passes.specs.Targets.{HasNoPlace}
use Rattle.fdp_passes.proofs.Opened.{starves}
use Rattle.fdp_collector.proofs.copy_step.copy_next.Goals as goal

pub returns-else-has_place-clause-step : goal.returns-else-has_place-clause-step
returns-else-has_place-clause-step g c may_erase =
    let s : Relocation = record { passes = c.args.passes.now; units = c.args.units.now } in
    let owned = sym c.get.ensures ∙ c.in-Some.is in
    record {
      from = c.args.from;
      owner = c.in-Some.owner;
      due = c.requires.due;
      owned = owned;
      starved = starves c.args.passes.now c.end.new.self c.args.units.now c.wear.new.self c.args.rg _
          (room-some s c.args.owners.now c.args.classes.now c.args.rg c.args.from c.in-Some.owner c.requires.ready c.requires.due owned)
          (subst (λ (lane : Lane). HasNoPlace c.args.passes.now c.args.units.now c.args.rg lane) c.lane_of_owner-lane.ensures.value (c.has_place.ensures.none c.if-has_place.false))
          c.end.ensures c.wear.ensures.units c.wear.ensures.cut c.wear.ensures.worn;
      flash = record { moment = refl; faults = refl; programs = refl; cells = λ told. refl; calls = λ tells. refl };
    }
