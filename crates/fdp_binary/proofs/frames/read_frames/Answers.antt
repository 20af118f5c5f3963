use Rattle.std.proofs.Common.{◌-◌, List, ℕ, ◌+◌, ◌∙◌, ap, subst, drop, length, take}
use Rattle.fdp_base.specs.declared.command.Command.{Command}
use Rattle.fdp_binary.specs.Reader.{IsNext, IsWhole}
use Rattle.fdp_binary.proofs.Advancing.{goes-next, rest-is, sum-next}
use Rattle.fdp_binary.proofs.frames.read_frames.Goals as goal

pub frames-preserved : goal.frames-preserved
frames-preserved c =
    let bytes = c.args.bytes.now in
    let done = c.frames.done in
    let cut = take (length bytes - done) (drop done bytes) in
    let next = subst (IsNext c.args.block c.as_slice.result.now cut) c.in-Whole.is c.in_ok-next_frame.ensures in
    let there = subst (λ (cs : List Command). IsWhole c.args.block cs cut c.in-Whole.command c.in-Whole.len) c.as_slice.ensures.value next in
    let whole = subst (λ (t : List ℕ). IsWhole c.args.block c.frames.commands.items t c.in-Whole.command c.in-Whole.len) (rest-is bytes done) there in
    let pushed = c.in_ok-push-in-Whole.ensures.items in (
      goes-next c.args.block c.args.commands.now.items c.frames.commands.items _ bytes done c.in-Whole.len c.in-Whole.command c.frames.invariant.0 whole pushed,
      ap (λ k. c.frames.blocks + k) (c.from-blocks.ensures ∙ c.blocks_read.ensures) ∙ sum-next c.frames.commands.items _ c.in-Whole.command c.frames.blocks c.frames.invariant.1 pushed,
    )
