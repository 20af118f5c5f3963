use Rattle.std.proofs.Common.{◌≡◌, ◌-◌, length}
use Rattle.std.specs.List.{sum_by}
use Rattle.fdp_base.specs.CommandKinds.{blocks_read}
use Rattle.fdp_binary.specs.Reader.{GoesOn}
use Rattle.fdp_binary.proofs.frames.read_frames.Given as goal

abbrev pub invariant-frames : goal.invariant-frames
invariant-frames l = GoesOn l.block l.fn.commands.items l.commands.items l.bytes l.done × (l.blocks ≡ sum_by blocks_read l.commands.items)

abbrev pub decreases-frames : goal.decreases-frames
decreases-frames l = length l.bytes - l.done
