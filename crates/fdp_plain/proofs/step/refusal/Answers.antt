use Rattle.fdp_plain.proofs.Sound.{history_sound}
use Rattle.fdp_plain.proofs.step.refusal.Goals as goal

pub new-requires : goal.new-requires
new-requires c = history_sound c.args.kept.now c.requires
