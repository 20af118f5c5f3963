use Rattle.fdp_binary.proofs.Blocks.{one_seed}
use Rattle.fdp_binary.proofs.payload.pattern_of.Goals as goal

pub returns-else-is_pattern : goal.returns-else-is_pattern
returns-else-is_pattern c = λ seed small e.
    c.if-is_pattern.ensures (one_seed c.args.block c.args.count seed _ c.args.body.now c.copy_from_slice.new.self c.requires.block c.requires.some small c.copy_from_slice.ensures.after c.from_le_bytes-seed.ensures e)
