-- What the command is that puts another configuration in force.
use Rattle.std.proofs.Common.{◌≡◌, ℕ, ◌+◌, Bool, true, false, refl, ◌∙◌, ap}
use Rattle.std.specs.Prelude.{if◌then◌else◌}
use Rattle.fdp_base.specs.declared.command.Command.{Command}
use Rattle.fdp_base.specs.declared.config.DriveConfig.{DriveConfig}
use Rattle.fdp_base.specs.declared.entry.Entry.TheVariants as entries
use Rattle.fdp_base.specs.declared.entry.Reply.{Reply}
use Rattle.fdp_base.specs.CommandKinds.{is_setting, is_write}
use Rattle.fdp_rules.specs.Change.{after, changed_by}
use Rattle.fdp_rules.specs.Effect.{effect_of}
use Rattle.fdp_rules.specs.Next.{next}
use Rattle.fdp_rules.specs.PlainState.{PlainState}
use Rattle.fdp_rules.specs.Point.{Point}
use Rattle.fdp_rules.proofs.Effects.{each-setting}

-- it is no write
pub set-unwritten : (command : Command) → is_setting command ≡ true → is_write command ≡ false
set-unwritten command sets = each-setting (λ x. is_write x ≡ false) (λ set. refl) command sets

effect-renews : (c : DriveConfig) (s : PlainState) (queue : ℕ) (command : Command) → is_setting command ≡ true → (effect_of c s queue command).generation ≡ s.generation + 1
unfolding effect_of
effect-renews c s queue command sets = each-setting (λ x. (effect_of c s queue x).generation ≡ s.generation + 1) (λ set. refl) command sets

-- behind it the generation is one more
pub generation-set : (c : DriveConfig) (p : Point) (queue number : ℕ) (command : Command) (reply : Reply) (moment : ℕ) → is_setting command ≡ true → reply.applied ≡ true
    → (next c p (entries.Host (record { queue = queue; number = number; command = command; reply = reply; moment = moment }))).state.generation ≡ p.state.generation + 1
unfolding next after changed_by
generation-set c p queue number command reply moment sets made =
    ap (λ (b : Bool). (if b then effect_of c p.state queue command else p.state).generation) made ∙ effect-renews c p.state queue command sets
