use Rattle.std.proofs.Common.{arith, ◌+◌, ◌<◌, ◌^◌, length}
use Rattle.fdp_plain.proofs.Ready.{effect_ready}
use Rattle.fdp_plain.proofs.made.make_completion.Goals as goal

pub returns : goal.returns
returns c =
    let k = c.args.kept.now in
    let host = c.requires.host in
    let few : length k.entries.items + 1 < 2 ^ 64 = omega (arith, k.entries.ok, k.entries.small) in
    record {
      queue_is = omega (arith, host.2.queue_is.1, c.requires.sound.going);
      effect = λ applied.
          effect_ready k c.args.queue host.0 c.args.reply.now host.1 _ _ c.requires.sound few applied c.args.command.now host.2 (rw c.new-standing.ensures at c.in_ok-make_blocks_of.ensures) (rw c.new-standing.ensures at c.in_ok-make_space_of.ensures);
      moments = c.requires.moment;
    }
