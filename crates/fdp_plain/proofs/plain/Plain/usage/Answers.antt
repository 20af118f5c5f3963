use Rattle.std.proofs.Common.{◌≡◌}
use Rattle.std.specs.Prelude.{None, Some, nat_lt, if◌then◌else◌}
use Rattle.fdp_rules.specs.LogPages.{usage_of}
use Rattle.fdp_rules.specs.Room.{handles_in_force}
use Rattle.fdp_plain.proofs.Sound.{history_sound}
use Rattle.fdp_plain.proofs.Told.{told_after}
use Rattle.fdp_plain.proofs.plain.Plain.usage.Goals as goal

pub new-requires : goal.new-requires
new-requires c = history_sound c.self.inside.kept c.self.invariant

pub returns : goal.returns
returns c =
    told_after (λ b p. c.usage.result ≡ (if nat_lt c.args.ruh (handles_in_force b p.state) then Some (usage_of p.state c.args.ruh) else None)) c.self.inside.kept c.new.result c.args.self.now c.self.invariant c.new.ensures c.self.view_is c.usage.ensures
