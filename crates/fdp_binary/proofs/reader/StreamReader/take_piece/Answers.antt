use Rattle.std.proofs.Common.{drop, refl, sym, ap, subst, ◌∙◌}
use Rattle.fdp_binary.specs.Reading.{IsWaiting, Stream}
use Rattle.fdp_binary.proofs.Advancing.{fed-breaks, fed-waits, waiting-read}
use Rattle.fdp_binary.proofs.reader.StreamReader.take_piece.Goals as goal

pub returns-in-None : goal.returns-in-None
returns-in-None c = λ bytes w.
    let s = c.self.view_is in
    let none = ap (λ x. x.fault) s ∙ c.requires in
    let before = subst (λ (x : Stream). IsWaiting x bytes) (sym s) w in
    let whole = c.as_slice.ensures.value ∙ c.in_default.ensures.items in
    let left = c.drop_front.ensures ∙ ap (drop c.in-Ok.reached.done) (sym c.as_slice.ensures.value) in
    (ap (λ x. x.block) s, none, waiting-read _ _ none (fed-waits _ bytes c.args.piece.now c.as_slice.result.now c.drop_front.new.bytes.items c.read_frames-read.new.commands.items c.in-Ok.reached whole left c.in-None.is c.in-Ok.ensures.ok before))

pub returns-in-Some : goal.returns-in-Some
returns-in-Some c = λ bytes w.
    let s = c.self.view_is in
    let before = subst (λ (x : Stream). IsWaiting x bytes) (sym s) w in
    let whole = c.as_slice.ensures.value ∙ c.in_default.ensures.items in
    (ap (λ x. x.block) s, refl, fed-breaks _ bytes c.args.piece.now c.as_slice.result.now c.read_frames-read.new.commands.items c.in-Ok.reached c.in-Some.kind whole c.in-Some.is c.in-Ok.ensures.ok before)
