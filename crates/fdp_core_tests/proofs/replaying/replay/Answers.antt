use Rattle.std.proofs.Common.{ap, sym, subst, arith, Some, ◌∙◌}
use Rattle.std.proofs.lemmas.Option.{slice_get-get_or}
use Rattle.fdp_plain.specs.Refusing.{IsCause}
use Rattle.fdp_core_tests.proofs.Taken.{replayed-all, replayed-refused}
use Rattle.fdp_core_tests.proofs.replaying.replay.Goals as goal

pub returns-in-Err-Illegal : goal.returns-in-Err-Illegal
returns-in-Err-Illegal c =
    let run = c.loop-place.plain in
    let e = c.index-entries-place.result in
    replayed-refused c.args.config.now c.args.entries.now run c.loop-place.place e c.in-Err-Illegal.field-0-0 c.in-Err-Illegal.field-0-1
    (slice_get-get_or c.args.entries.now c.loop-place.place e c.loop-place-test.true ∙ sym (ap Some c.index-entries-place.is))
    (subst (IsCause run e) c.in-Err-Illegal.field-0-is c.in-Err-Illegal.ensures.cause) c.loop-place.invariant

pub returns : goal.returns
returns c = replayed-all c.args.config.now c.args.entries.now c.loop-place.plain c.loop-place.place (omega (arith, c.loop-place-test.false)) c.loop-place.invariant
