use Rattle.std.proofs.Common.{arith, refl}
use Rattle.fdp_flash.specs.FlashMem.{plan_of}
use Rattle.fdp_flash.proofs.Answered.{program_answers}
use Rattle.fdp_flash.proofs.memory.calls.FlashMemFlash.program.Goals as goal

pub returns-then-call-clause-answer : goal.returns-then-call-clause-answer
returns-then-call-clause-answer c =
    program_answers (plan_of c.args.self.now) _ _ _ _ _ _ (rw c.if-call.true at c.call.ensures.called) c.requires.place c.args.self.now.sound.size
    ((c.requires.order refl).blank c.args.at.page (omega arith) c.requires.place.page)

pub returns-else-call-clause-answer : goal.returns-else-call-clause-answer
returns-else-call-clause-answer c =
    program_answers (plan_of c.args.self.now) _ _ _ _ _ _ (rw c.if-call.false at c.call.ensures.called) c.requires.place c.args.self.now.sound.size
    ((c.requires.order refl).blank c.args.at.page (omega arith) c.requires.place.page)
