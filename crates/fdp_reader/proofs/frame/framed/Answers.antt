use Rattle.std.proofs.Common.{◌∙◌, ap, length, List, ℕ, sym}
use Rattle.fdp_binary.specs.Fields.{blocks_in}
use Rattle.fdp_reader.specs.Framing.{unlike}
use Rattle.fdp_reader.proofs.ByKind.{read-size}
use Rattle.fdp_reader.proofs.Giving.{given-other, none-spelled, unlike-size, write-size}
use Rattle.fdp_reader.proofs.frame.framed.Goals as goal

pub command_of-requires-clause-sized : goal.command_of-requires-clause-sized
command_of-requires-clause-sized c =
    ap (λ (t : List ℕ). length t) (c.as_slice.ensures.value ∙ c.in_ok-body.ensures) ∙ read-size c.args.block c.args.asked c.args.front.now.entry c.args.behind.now c.requires.block

pub returns-then-not-is_write : goal.returns-then-not-is_write
returns-then-not-is_write c =
    none-spelled c.args.block c.args.front.now.admin c.args.bytes.now c.args.behind.now c.as_slice.result.now c.args.front.now.entry c.args.asked c.in_ok-command.command c.requires.block c.requires.fits c.requires.is c.requires.asks
    c.if-not-is_write.ensures c.in_ok-command.ensures (sym c.is_spelled.ensures ∙ c.if-not-is_spelled.false)

pub command_of-requires-2-clause-sized : goal.command_of-requires-2-clause-sized
command_of-requires-2-clause-sized c =
    let e = c.args.front.now.entry in
    let size = write-size c.args.block e c.args.asked c.args.behind.now c.in_ok-body.body.items c.requires.block c.if-not-is_write.ensures c.in_ok-body.ensures in
    unlike-size c.args.block e c.args.asked c.args.behind.now c.in_ok-body.body.items c.as_slice-2.result.now c.requires.block c.if-not-is_write.ensures c.in_ok-body.ensures
    (c.as_slice-2.ensures.value ∙ c.in_ok-make_unlike.ensures (blocks_in e) size)

pub returns : goal.returns
returns c =
    let e = c.args.front.now.entry in
    let size = write-size c.args.block e c.args.asked c.args.behind.now c.in_ok-body.body.items c.requires.block c.if-not-is_write.ensures c.in_ok-body.ensures in
    given-other c.args.block c.args.front.now.admin c.args.bytes.now c.args.behind.now c.as_slice.result.now c.as_slice-2.result.now e c.args.asked c.in_ok-command.command c.in_ok-other.other c.requires.block c.requires.fits c.requires.is c.requires.asks
    c.if-not-is_write.ensures (c.as_slice.ensures.value ∙ c.in_ok-body.ensures) c.in_ok-command.ensures (sym c.is_spelled.ensures ∙ c.if-not-is_spelled.false)
    (c.as_slice-2.ensures.value ∙ c.in_ok-make_unlike.ensures (blocks_in e) size ∙ ap (unlike c.args.block (blocks_in e)) (sym c.as_slice.ensures.value)) c.in_ok-other.ensures
