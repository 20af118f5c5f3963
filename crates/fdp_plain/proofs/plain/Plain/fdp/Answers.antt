use Rattle.std.proofs.Common.{◌≡◌, refl}
use Rattle.fdp_plain.proofs.Told.{told_after}
use Rattle.fdp_plain.proofs.plain.Plain.fdp.Goals as goal

pub returns-clause-enabled : goal.returns-clause-enabled
returns-clause-enabled c =
    let k = c.self.inside.kept in
    told_after (λ b p. k.enabled ≡ p.state.enabled) k k c.args.self.now c.self.invariant refl c.self.view_is refl

pub returns-clause-index : goal.returns-clause-index
returns-clause-index c =
    let k = c.self.inside.kept in
    told_after (λ b p. k.index ≡ p.state.index) k k c.args.self.now c.self.invariant refl c.self.view_is refl
