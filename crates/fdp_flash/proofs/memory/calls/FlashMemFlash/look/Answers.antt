use Rattle.std.proofs.Common.{length, arith, ap}
use Rattle.fdp_flash.specs.FlashMem.{state_of, plan_of}
use Rattle.fdp_flash.specs.Layout.{IsIn}
use Rattle.fdp_flash.proofs.Answered.{look_read}
use Rattle.fdp_flash.proofs.Pages.{page_number-below}
use Rattle.fdp_flash.proofs.memory.calls.FlashMemFlash.look.Goals as goal

pub read_page-requires-clause-within : goal.read_page-requires-clause-within
read_page-requires-clause-within c =
    let place : IsIn (state_of c.call.new.self).geometry c.args.at = rw c.call.ensures.called.begins.geometry c.requires.place in
    let below = page_number-below (state_of c.call.new.self).geometry c.args.at place in
    rw c.page_index-page.ensures (omega (arith, below, c.call.new.self.sound.size, ap length c.as_slice.ensures.value))

pub returns-clause-answer : goal.returns-clause-answer
returns-clause-answer c =
    look_read (plan_of c.args.self.now) (state_of c.args.self.now) (state_of c.call.new.self) _ _ _ _ _ _ (rw c.if-call.false at c.call.ensures.called)
    (rw (c.as_slice.ensures.value, c.page_index-page.ensures, c.call.ensures.called.begins.geometry) at c.read_page.ensures)
