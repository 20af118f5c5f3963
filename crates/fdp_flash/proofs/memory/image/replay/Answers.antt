use Rattle.std.proofs.Common.{◌≡◌, ◌+◌, ◌++◌, ◌∷◌, [], take, refl, sym, ap, ◌∙◌}
use Rattle.std.proofs.lemmas.List.{take_more}
use Rattle.std.proofs.lemmas.Option.{slice_get_read}
use Rattle.fdp_flash.proofs.Replay.{replay-none, replay-append}
use Rattle.fdp_flash.proofs.memory.image.replay.Goals as goal

pub loop-call-init : goal.loop-call-init
loop-call-init c = record { cells = sym (replay-none _ _); size = refl }

pub repeat-requires-clause-place : goal.repeat-requires-clause-place
repeat-requires-clause-place c = c.requires.places c.loop-call.call-index c.call-item.result (slice_get_read _ _ _ _ refl c.loop-call-test.true c.call-item.is)

pub loop-call-preserved : goal.loop-call-preserved
loop-call-preserved c =
    let front : take (c.loop-call.call-index + 1) c.args.calls.now ≡ take c.loop-call.call-index c.args.calls.now ++ c.call-item.result ∷ [] =
    take_more c.args.calls.now c.loop-call.call-index c.call-item.result c.loop-call-test.true ∙ ap (λ x. take c.loop-call.call-index c.args.calls.now ++ x ∷ []) (sym c.call-item.is) in
    record {
      cells = c.in_ok-repeat.ensures ∙ rw (front, replay-append, ← c.loop-call.invariant.cells) refl;
      size = c.repeat.auto.cells ∙ c.loop-call.invariant.size;
    }
