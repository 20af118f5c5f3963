use Rattle.std.proofs.lemmas.List.{length-map}
use Rattle.std.proofs.lemmas.Result.{IfOk-weaker}
use Rattle.fdp_flash.proofs.OnList.{recorded_keeps, recorded_first, image_during}
use Rattle.fdp_flash.proofs.memory.FlashMem.image_at.Goals as goal

pub image-requires-clause-size : goal.image-requires-clause-size
image-requires-clause-size c =
    rw c.as_slice.ensures.value (recorded_first _ _ _ _ _ _ _ _ _ c.args.moment c.args.self.now.sound c.requires.least (rw length-map at c.requires.most))

pub returns-clause-during : goal.returns-clause-during
returns-clause-during c =
    let most = rw length-map at c.requires.most in
    let keeps = recorded_keeps _ _ _ _ _ _ _ _ _ c.args.moment c.args.self.now.sound c.requires.least most in
    let image = image_during _ _ _ _ _ _ _ _ _ c.args.moment c.args.outcome c.args.self.now.sound c.requires.least most in
    IfOk-weaker c.image.result _ _ (λ cells is. (keeps, rw (rw (c.as_slice.ensures.value, c.as_slice-calls.ensures.value) at is) image)) c.image.ensures

pub returns-clause-cells : goal.returns-clause-cells
returns-clause-cells c =
    let most = rw length-map at c.requires.most in
    let keeps = recorded_keeps _ _ _ _ _ _ _ _ _ c.args.moment c.args.self.now.sound c.requires.least most in
    let image = image_during _ _ _ _ _ _ _ _ _ c.args.moment c.args.outcome c.args.self.now.sound c.requires.least most in
    IfOk-weaker c.image.result _ _ (λ cells is.
    c.args.self.now.sound.images c.args.moment cells.items keeps (rw (rw (c.as_slice.ensures.value, c.as_slice-calls.ensures.value) at is) image)) c.image.ensures
