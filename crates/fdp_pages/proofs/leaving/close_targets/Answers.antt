use Rattle.std.proofs.Common.{◌<◌, arith, length}
use Rattle.std.proofs.lemmas.Option.{slice_get-get_or}
use Rattle.fdp_pages.proofs.Untargeted.{closable, closes-more}
use Rattle.fdp_pages.proofs.leaving.close_targets.Goals as goal

pub close_target-requires-clause-target : goal.close_target-requires-clause-target
close_target-requires-clause-target c = λ unit target. closable c.args.passes.now c.args.classes.now c.loop-ruh.ruh c.args.units.now c.loop-ruh.units unit c.loop-ruh.invariant (c.requires.targets c.of.result unit target)

pub loop-ruh-preserved : goal.loop-ruh-preserved
loop-ruh-preserved c =
    let low : c.from.result < length c.args.classes.now = omega (arith, c.from.ensures, c.loop-ruh-test.true) in
    closes-more c.args.passes.now c.args.classes.now c.loop-ruh.ruh c.from.result c.args.units.now c.loop-ruh.units c.close_target.new.units c.of.result _ c.loop-ruh.invariant c.from.ensures
    (slice_get-get_or c.args.classes.now c.from.result _ low) c.of.ensures.value c.close_target.ensures.units c.close_target.ensures.closed c.close_target.ensures.cut c.close_target.ensures.worn
