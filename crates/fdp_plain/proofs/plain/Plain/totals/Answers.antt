use Rattle.std.proofs.Common.{◌≡◌, ◌∙◌}
use Rattle.fdp_plain.proofs.Sound.{history_sound}
use Rattle.fdp_plain.proofs.Told.{told_after, totals_after}
use Rattle.fdp_plain.proofs.plain.Plain.totals.Goals as goal

pub new-requires : goal.new-requires
new-requires c = history_sound c.self.inside.kept c.self.invariant

pub returns : goal.returns
returns c =
    told_after (λ b p. c.totals.result ≡ p.totals) c.self.inside.kept c.new.result c.args.self.now c.self.invariant c.new.ensures c.self.view_is c.totals.ensures
    ∙ totals_after c.args.self.now
