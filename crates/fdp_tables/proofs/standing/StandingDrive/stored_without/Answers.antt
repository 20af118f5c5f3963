use Rattle.std.proofs.Common.{ℕ, ◌∙◌, ◌&&◌, ◌==◌, ap, not}
use Rattle.fdp_base.specs.Numbers.{is_among}
use Rattle.fdp_rules.specs.Room.{stored_where}
use Rattle.fdp_tables.specs.declared.state.Kept.{Kept}
use Rattle.fdp_tables.specs.State.{plain_of}
use Rattle.fdp_tables.proofs.standing.StandingDrive.stored_without.Goals as goal

-- what a group stores but for so many blocks
abbrev others : Kept → (rg nsid slba count : ℕ) → ℕ
others k rg nsid slba count = stored_where (plain_of k) rg (λ n lba. not (n == nsid && is_among slba count lba))

pub returns-clause-value : goal.returns-clause-value
returns-clause-value c =
    c.stored_outside.ensures.value
    ∙ ap (λ (count : ℕ). others c.self.inside.kept.now c.args.rg c.args.nsid c.args.slba count) c.from.ensures
    ∙ ap (λ (k : Kept). others k c.args.rg c.args.nsid c.args.slba c.args.count) c.self.view_is
