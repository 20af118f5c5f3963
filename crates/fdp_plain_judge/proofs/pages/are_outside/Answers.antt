use Rattle.std.proofs.Common.{arith}
use Rattle.std.proofs.lemmas.Bool.Decides.{not_from_Decides}
use Rattle.fdp_tables.specs.State.{point_kept}
use Rattle.fdp_plain_judge.specs.Judging.{IsOutside}
use Rattle.fdp_plain_judge.proofs.Scanning.{each, each_next, not_each}
use Rattle.fdp_plain_judge.proofs.pages.are_outside.Goals as goal

pub returns-then-not-is_outside : goal.returns-then-not-is_outside
returns-then-not-is_outside c =
    not_each (IsOutside (point_kept c.args.kept.now) c.args.unit c.args.nsid) c.args.places.now c.loop-lba.lba-index 0 c.loop-lba-test.true (not_from_Decides _ c.is_outside.ensures c.if-not-is_outside.true)

pub loop-lba-preserved : goal.loop-lba-preserved
loop-lba-preserved c =
    each_next (IsOutside (point_kept c.args.kept.now) c.args.unit c.args.nsid) c.args.places.now c.loop-lba.lba-index 0 c.loop-lba-test.true (c.is_outside.ensures.0 c.if-not-is_outside.false) c.loop-lba.invariant

pub returns : goal.returns
returns c = each (IsOutside (point_kept c.args.kept.now) c.args.unit c.args.nsid) c.args.places.now c.loop-lba.lba-index (omega (arith, c.loop-lba-test.false)) c.loop-lba.invariant
