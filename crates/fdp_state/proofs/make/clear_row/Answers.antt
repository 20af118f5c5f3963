use Rattle.std.proofs.Common.{arith, refl}
use Rattle.fdp_state.proofs.Putting.{row-all, row-next, row-start}
use Rattle.fdp_state.proofs.make.clear_row.Goals as goal

pub overflow_add-slba : goal.overflow_add-slba
overflow_add-slba c = record { fits = c.loop-i.invariant.1 }

pub put_page-requires-clause-sound : goal.put_page-requires-clause-sound
put_page-requires-clause-sound c = c.loop-i.invariant.0.sound

pub put_page-requires-clause-within : goal.put_page-requires-clause-within
put_page-requires-clause-within c = omega (arith, c.loop-i.invariant.0.sizes c.args.nsid, c.requires.within, c.loop-i-test.true)

pub loop-i-init : goal.loop-i-init
loop-i-init c = (row-start c.args.parts.now _ c.args.nsid c.args.slba c.requires.sound, omega (arith, c.ranges.slba.fits))

pub loop-i-preserved : goal.loop-i-preserved
loop-i-preserved c =
    (row-next c.args.parts.now c.loop-i.parts c.put_page.new.parts _ c.args.nsid c.args.slba c.loop-i.i _ refl c.loop-i.invariant.0 c.put_page.ensures.put, omega (arith, c.put_page.ensures.small))

pub returns : goal.returns
returns c = row-all c.args.parts.now c.loop-i.parts _ c.args.nsid c.args.slba c.loop-i.i c.args.count (omega (arith, c.loop-i-test.false, c.loop-i.auto.i-end)) c.loop-i.invariant.0
