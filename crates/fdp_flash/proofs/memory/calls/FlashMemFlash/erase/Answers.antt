use Rattle.std.proofs.Common.{arith}
use Rattle.fdp_flash.specs.FlashMem.{plan_of}
use Rattle.fdp_flash.proofs.Answered.{erase_answers}
use Rattle.fdp_flash.proofs.memory.calls.FlashMemFlash.erase.Goals as goal

pub returns-then-call-clause-answer : goal.returns-then-call-clause-answer
returns-then-call-clause-answer c =
    erase_answers (plan_of c.args.self.now) _ _ _ _ _ _ (rw c.if-call.true at c.call.ensures.called)
    (record { unit = c.requires.place; page = omega (arith, c.args.self.now.sound.geometry) }) c.args.self.now.sound.size

pub returns-else-call-clause-answer : goal.returns-else-call-clause-answer
returns-else-call-clause-answer c =
    erase_answers (plan_of c.args.self.now) _ _ _ _ _ _ (rw c.if-call.false at c.call.ensures.called)
    (record { unit = c.requires.place; page = omega (arith, c.args.self.now.sound.geometry) }) c.args.self.now.sound.size
