use Rattle.std.proofs.Common.{◌≡◌, ◌∙◌, ap, arith, sym}
use Rattle.std.specs.Prelude.{is_some}
use Rattle.fdp_passes.proofs.Counted.{as_number, byte-is, none-counted, one-counted, test-bound}
use Rattle.fdp_passes.proofs.room.live_from.Goals as goal

pub loop-page-init : goal.loop-page-init
loop-page-init c = record { counted = sym (none-counted c.args.owners.now c.args.unit c.args.first); bound = omega arith }

pub loop-page-preserved : goal.loop-page-preserved
loop-page-preserved c =
    let one : c.from-live.result ≡ as_number (is_some c.get.result) = c.from-live.ensures ∙ byte-is c.is_some.result ∙ ap as_number c.is_some.ensures in
    let more = one-counted c.args.owners.now c.args.unit c.args.first c.loop-page.page c.loop-page.live c.get.result c.loop-page.auto.page c.loop-page.invariant.counted c.get.ensures in
    record { counted = omega (arith, one, more); bound = omega (arith, one, test-bound (is_some c.get.result), c.loop-page.invariant.bound) }
