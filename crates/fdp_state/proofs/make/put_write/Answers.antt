use Rattle.std.proofs.Common.{◌≤◌, ◌+◌, arith, length, refl}
use Rattle.fdp_image.specs.Checkpoint.{reading_of_state}
use Rattle.fdp_state.specs.Parts.{listed}
use Rattle.fdp_state.proofs.Making.{made-pages}
use Rattle.fdp_state.proofs.Putting.{row-all, row-next, row-start, row-value}
use Rattle.fdp_state.proofs.Spacing.{within_list}
use Rattle.fdp_state.proofs.make.put_write.Goals as goal

pub overflow_add-slba : goal.overflow_add-slba
overflow_add-slba c = record { fits = c.loop-i.invariant.1 }

pub put_page-requires-clause-sound : goal.put_page-requires-clause-sound
put_page-requires-clause-sound c = c.loop-i.invariant.0.sound

pub put_page-requires-clause-within : goal.put_page-requires-clause-within
put_page-requires-clause-within c =
    let fits : c.args.slba + length c.args.pages.now ≤ listed c.args.parts.now.pages.items c.args.nsid =
    within_list c.args.parts.now c.args.nsid c.args.slba (length c.args.pages.now) c.requires.sound c.requires.within in
    omega (arith, fits, c.loop-i.invariant.0.sizes c.args.nsid, c.loop-i-test.true)

pub loop-i-init : goal.loop-i-init
loop-i-init c = (row-start c.args.parts.now _ c.args.nsid c.args.slba c.requires.sound, omega (arith, c.ranges.slba.fits))

pub loop-i-preserved : goal.loop-i-preserved
loop-i-preserved c = (
  row-next c.args.parts.now c.loop-i.parts c.put_page.new.parts _ c.args.nsid c.args.slba c.loop-i.i _ (row-value c.args.pages.now c.args.slba c.loop-i.i c.loop-i-test.true) c.loop-i.invariant.0 c.put_page.ensures.put,
  omega (arith, c.put_page.ensures.small),
)

pub returns : goal.returns
unfolding reading_of_state
returns c = record {
  made = λ k pid invalid.
      made-pages k _ c.args.parts.now c.loop-i.parts _ (row-all c.args.parts.now c.loop-i.parts _ c.args.nsid c.args.slba c.loop-i.i (length c.args.pages.now) (omega (arith, c.loop-i-test.false, c.loop-i.auto.i-end)) c.loop-i.invariant.0) (λ position. refl) (λ n l. refl);
}
