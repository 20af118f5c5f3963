use Rattle.std.proofs.Common.{◌-◌, ◌<◌, length, drop, sym, subst, arith}
use Rattle.fdp_prints.specs.Told.{printed}
use Rattle.fdp_reader.specs.Next.{IsNext}
use Rattle.fdp_reader.proofs.Fronts.{front-len, some-left}
use Rattle.fdp_reader.proofs.Prefixes.{read-more, stop-behind}
use Rattle.fdp_reader.proofs.entries.read_entries.Goals as goal

pub returns-in-Stop : goal.returns-in-Stop
returns-in-Stop c =
    let rest = c.loop-rest.rest.now in
    let text = c.args.text.now in
    let inv = c.loop-rest.invariant in
    let some : 0 < length rest = some-left rest (sym c.loop-rest-test.ensures) in
    let len = front-len text (printed c.args.config.now.block c.loop-rest.entries.items) rest inv.text_is in
    let stops = subst (IsNext c.args.config.now rest) c.in-Stop.is c.in_ok-next.ensures in (
      stop-behind c.args.config.now text c.loop-rest.entries.items rest (length text - length rest) c.in-Stop.len c.requires.ranges.block inv some (omega (arith, len)) stops,
      omega (arith, len, some),
    )

pub loop-rest-preserved : goal.loop-rest-preserved
loop-rest-preserved c =
    let config = c.args.config.now in
    let rest = c.loop-rest.rest.now in
    let next = subst (IsNext config rest) c.in-Entry.is c.in_ok-next.ensures in
    let more = read-more config c.args.text.now c.loop-rest.entries.items (c.in-Entry.position, c.in-Entry.entry) rest (drop c.in-Entry.len rest) c.loop-rest.invariant next.told next.text_is in
    rw (c.in_ok-push-in-Entry.ensures.items, c.behind-rest.ensures) more
