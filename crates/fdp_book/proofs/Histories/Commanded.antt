-- Which ends of a command other than a write may follow: its success, or a media error of one that is saved.
use Rattle.std.proofs.Common.{◌≡◌, ℕ, Bool, true, false, [], length, refl, sym, ap, inl, inr, None, MatchBool, ◌∙◌}
use Rattle.std.specs.Prelude.{IsTrue}
use Rattle.std.proofs.lemmas.Bool.{false≢true}
use Rattle.fdp_base.specs.declared.command.Command.{Command}
use Rattle.fdp_base.specs.declared.config.DriveConfig.{DriveConfig}
use Rattle.fdp_base.specs.declared.entry.Entry.TheVariants as entries
use Rattle.fdp_base.specs.declared.entry.Reply.{Reply}
use Rattle.fdp_base.specs.declared.status.TheConstants.Status as statuses
use Rattle.fdp_base.specs.CommandKinds.{IsWellFormed, is_saved, is_write}
use Rattle.fdp_book.specs.Book.{BookSeen, point_in, state_in}
use Rattle.fdp_book.specs.Commanded.{MayTakeEffect, applied_reply}
use Rattle.fdp_rules.specs.Answer.{IsSuccess, bare, data_of}
use Rattle.fdp_rules.specs.PlainState.{PlainState}
use Rattle.fdp_rules.specs.Point.{Point}
use Rattle.fdp_rules.specs.Refusal.{refusal_of}
use Rattle.fdp_rules.specs.Step.{Follows, IsNewMoment, IsQueue, IsWriteFault}
use Rattle.fdp_rules.proofs.Effects.{by-effect}

no-write : (P Q : Type 0) (b : Bool) → b ≡ false → Q → MatchBool b P Q
no-write P Q true e q = absurd (false≢true (sym e))
no-write P Q false e q = q

-- a command that is not refused may succeed
pub success-follows : (told : Bool) (c : DriveConfig) (p : Point) (queue number : ℕ) (command : Command) (reply : Reply) (moment : ℕ) → IsQueue c queue → IsWellFormed c command → refusal_of c p command ≡ None → is_write command ≡ false
    → IsSuccess told c p command reply → Follows told c p (entries.Host (record { queue = queue; number = number; command = command; reply = reply; moment = moment }))
unfolding Follows
success-follows told c p queue number command reply moment queue_is formed accepted other success = record {
  queue_is = queue_is;
  formed = formed;
  replied = no-write _ _ (is_write command) other (inr (inl (accepted, success)));
}

-- the saving of one may fail, at a new moment, with its change or without
pub fault-follows : (told : Bool) (c : DriveConfig) (p : Point) (queue number : ℕ) (command : Command) (reply : Reply) (moment : ℕ) → IsQueue c queue → IsWellFormed c command → refusal_of c p command ≡ None → is_write command ≡ false
    → IsTrue (is_saved command) → IsNewMoment p.state moment → IsWriteFault reply → Follows told c p (entries.Host (record { queue = queue; number = number; command = command; reply = reply; moment = moment }))
unfolding Follows
fault-follows told c p queue number command reply moment queue_is formed accepted other saved new fault = record {
  queue_is = queue_is;
  formed = formed;
  replied = no-write _ _ (is_write command) other (inr (inr (accepted, new, inr (saved, fault))));
}

-- ---- what a command answers

-- the success of a command that is saved has no data
pub applied-succeeds : (told : Bool) (c : DriveConfig) (p : Point) (command : Command) → IsTrue (is_saved command) → IsSuccess told c p command (applied_reply p.state command statuses.SUCCESS)
applied-succeeds told c p command saved = record { status = refl; dword0 = refl; size = size command saved; bytes_are = λ _. sym (none command saved); applied = sym saved } where
  none : (x : Command) → is_saved x ≡ true → data_of c p x ≡ []
  none =
      by-effect (λ x. is_saved x ≡ true → data_of c p x ≡ [])
      (record {
        write = λ w e. refl;
        zero = λ z e. refl;
        dealloc = λ d e. refl;
        delete = λ d e. refl;
        update = λ u e. refl;
        set_fdp = λ s e. refl;
        set_events = λ s e. refl;
        create = λ create e. refl;
        nothing = λ x unsaved e. absurd (false≢true (sym unsaved.saved ∙ e));
      })

  size : (x : Command) → is_saved x ≡ true → 0 ≡ length (data_of c p x)
  size x e = sym (ap length (none x e))

-- Write Fault has no dword 0, whatever the command
pub applied-fault : (s : PlainState) (command : Command) → applied_reply s command statuses.WRITE_FAULT ≡ bare statuses.WRITE_FAULT true
applied-fault s command = refl

-- ---- one that may take effect

module _ (told : Bool) (b : BookSeen) (queue number : ℕ) (command : Command) (moment : ℕ) (may : MayTakeEffect b queue command) where
  pub effect-follows : Follows told b.config (point_in b) (entries.Host (record { queue = queue; number = number; command = command; reply = applied_reply (state_in b) command statuses.SUCCESS; moment = moment }))
  effect-follows =
      success-follows told b.config (point_in b) queue number command (applied_reply (state_in b) command statuses.SUCCESS) moment may.queue_is may.formed may.accepted may.other
      (applied-succeeds told b.config (point_in b) command may.saved)

  -- its saving failed: its change was made, or it was not
  pub unsure-follows : IsNewMoment (state_in b) moment → Follows told b.config (point_in b) (entries.Host (record { queue = queue; number = number; command = command; reply = bare statuses.WRITE_FAULT true; moment = moment }))
  unsure-follows new = fault-follows told b.config (point_in b) queue number command (bare statuses.WRITE_FAULT true) moment may.queue_is may.formed may.accepted may.other may.saved new (inr refl)

  pub unmade-follows : IsNewMoment (state_in b) moment → Follows told b.config (point_in b) (entries.Host (record { queue = queue; number = number; command = command; reply = bare statuses.WRITE_FAULT false; moment = moment }))
  unmade-follows new = fault-follows told b.config (point_in b) queue number command (bare statuses.WRITE_FAULT false) moment may.queue_is may.formed may.accepted may.other may.saved new (inl refl)
