-- What a reply to a command may be, decided by tests of its parts.
use Rattle.std.specs.Bool.{Decides}
use Rattle.std.proofs.Common.{◌≡◌, ◌∙◌, ℕ, Bool, false, Option, Some, inl, inr, subst, sym, ⊎_elim}
use Rattle.fdp_base.specs.declared.command.Command.{Command}
use Rattle.fdp_base.specs.declared.config.DriveConfig.{DriveConfig}
use Rattle.fdp_base.specs.declared.entry.Reply.{Reply}
use Rattle.fdp_base.specs.declared.status.Status.{Status}
use Rattle.fdp_rules.specs.Answer.{bare}
use Rattle.fdp_rules.specs.PlainState.{Going, PlainState}
use Rattle.fdp_rules.specs.Point.{Point}
use Rattle.fdp_rules.specs.Refusal.{refusal_of}
use Rattle.fdp_rules.specs.Step.{IsEnd, IsGoing, IsWriteReply}

-- at most one write is going in a queue
same_going : (s : PlainState) (queue number : ℕ) (command : Command) (g h : Going) → IsGoing s queue number command g → IsGoing s queue number command h → g ≡ h
same_going s queue number command g h a b =
    let one : Some g ≡ Some h = sym a.going ∙ b.going in
    cc

module _ (told : Bool) (c : DriveConfig) (p : Point) (queue number : ℕ) (command : Command) (reply : Reply) (moment : ℕ) where
  -- of a write that is going, its end
  pub ends_decide : (g : Going) (r : Bool) → IsGoing p.state queue number command g → Decides r (IsEnd told c p g reply moment) → Decides r (IsWriteReply told c p queue number command reply moment)
  ends_decide g r going d = (
    λ e. inl (g, going, d.0 e),
    λ reply_is. ⊎_elim
        (λ ended. d.1 (subst (λ (h : Going). IsEnd told c p h reply moment) (same_going p.state queue number command ended.0 g ended.1 going) ended.2))
        (λ refused. absurd (refused.0 g going))
        reply_is,
  )

  -- of a write that is not going, a refusal
  pub refusals_decide : (refusal : Option Status) (r : Bool) → ((g : Going) → IsGoing p.state queue number command g → ⊥) → refusal ≡ refusal_of c p command → Decides r ((status : Status) × (refusal ≡ Some status) × (reply ≡ bare status false)) → Decides r (IsWriteReply told c p queue number command reply moment)
  refusals_decide refusal r none is d = (
    λ e. let x = d.0 e in inr (none, (x.0, sym is ∙ x.1, x.2)),
    λ reply_is. ⊎_elim
        (λ ended. absurd (none ended.0 ended.1))
        (λ refused. d.1 (refused.1.0, is ∙ refused.1.1, refused.1.2))
        reply_is,
  )
