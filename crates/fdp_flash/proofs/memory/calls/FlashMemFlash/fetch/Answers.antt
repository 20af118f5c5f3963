use Rattle.std.proofs.Common.{length, arith, ap}
use Rattle.fdp_flash.specs.FlashMem.{state_of}
use Rattle.fdp_flash.specs.Layout.{IsIn}
use Rattle.fdp_flash.proofs.Pages.{page_number-below}
use Rattle.fdp_flash.proofs.memory.calls.FlashMemFlash.fetch.Goals as goal

pub read_expected-requires-clause-within : goal.read_expected-requires-clause-within
read_expected-requires-clause-within c =
    let place : IsIn (state_of c.call.new.self).geometry c.args.at = rw c.call.ensures.called.begins.geometry c.requires.place in
    let below = page_number-below (state_of c.call.new.self).geometry c.args.at place in
    rw c.page_index-page.ensures (omega (arith, below, c.call.new.self.sound.size, ap length c.as_slice.ensures.value))
