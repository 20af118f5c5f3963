use Rattle.std.proofs.Common.{ℕ, arith, get_or}
use Rattle.fdp_base.specs.declared.entry.BlockName.{BlockName}
use Rattle.fdp_state.proofs.Putting.{any-default, pages-all, pages-next, pages-start}
use Rattle.fdp_state.proofs.make.put_blocks.Goals as goal

pub put_page-requires-clause-sound : goal.put_page-requires-clause-sound
put_page-requires-clause-sound c = c.loop-x.invariant.sound

pub put_page-requires-clause-within : goal.put_page-requires-clause-within
put_page-requires-clause-within c =
    let d : BlockName × ℕ = (record { nsid = 0; lba = 0 }, 0) in
    let x = get_or c.args.blocks.now c.loop-x.x-index d in
    omega (arith, c.requires.within c.loop-x.x-index d c.loop-x-test.true, c.loop-x.invariant.sizes x.0.nsid)

pub loop-x-init : goal.loop-x-init
loop-x-init c = pages-start c.args.parts.now c.args.blocks.now c.requires.sound

pub loop-x-preserved : goal.loop-x-preserved
loop-x-preserved c =
    let d : BlockName × ℕ = (record { nsid = 0; lba = 0 }, 0) in
    let x = get_or c.args.blocks.now c.loop-x.x-index d in
    pages-next c.args.parts.now c.loop-x.parts c.put_page.new.parts c.args.blocks.now c.loop-x.x-index x c.loop-x-test.true (any-default c.args.blocks.now c.loop-x.x-index d x c.loop-x-test.true) c.loop-x.invariant c.put_page.ensures.put

pub returns : goal.returns
returns c = pages-all c.args.parts.now c.loop-x.parts c.args.blocks.now c.loop-x.x-index (omega (arith, c.loop-x-test.false)) c.loop-x.invariant
