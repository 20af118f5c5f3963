-- Which beginnings of a history stay kept as it grows.
use Rattle.std.proofs.Common.{◌≡◌, ◌∙◌, ℕ, ◌≤◌, Bool, true, false, cond, ◌&&◌, ◌||◌, List, [], ◌∷◌, ◌++◌, Option, Some, None, append_assoc, refl, ap, arith, nat_eq}
use Rattle.std.specs.Prelude.{All, IsFalse, ◌==◌}
use Rattle.std.specs.List.{cons_option}
use Rattle.std.specs.Option.{option_map_or}
use Rattle.std.proofs.lemmas.Bool.Decides.{nat_tests}
use Rattle.std.proofs.lemmas.List.Elements.{All-append, All-cons, All-head, All-nil, All-tail}
use Rattle.fdp_base.specs.declared.command.Command.{Command}
use Rattle.fdp_base.specs.declared.config.DriveConfig.{DriveConfig}
use Rattle.fdp_base.specs.declared.entry.Entry.{Entry}
use Rattle.fdp_base.specs.declared.entry.Entry.TheVariants as entries
use Rattle.fdp_base.specs.declared.entry.Host.{Host}
use Rattle.fdp_base.specs.declared.status.TheConstants.Status as statuses
use Rattle.fdp_base.specs.CommandKinds.{is_saved}
use Rattle.fdp_base.proofs.Entries.{by-host}
use Rattle.fdp_workers.specs.fdp_book.declared.ticket.Done.{Done}
use Rattle.fdp_workers.specs.fdp_core.Seen.{Seen}
use Rattle.fdp_workers.specs.fdp_core.Steps.{Completes}
use Rattle.fdp_workers.proofs.fdp_durability.Owed.{owed-later, unowed, unowed-late}
use Rattle.fdp_flash.specs.declared.cell.Cell.{Cell}
use Rattle.fdp_flash.specs.FlashState.{Call, FlashState}
use Rattle.fdp_image.specs.Kept.{IsBeginning, StandsForKept, is_completed, is_owed}
use Rattle.fdp_rules.specs.Change.{is_media_error, is_status}
use Rattle.fdp_rules.specs.History.{Found}
use Rattle.fdp_rules.specs.Queue.{completed, completed_by}

-- none of these entries completes a change before a moment
abbrev pub AreLate : ℕ → List Entry → Type 0
AreLate m es = All (λ e. IsFalse (is_owed m e)) es

-- ---- beginnings that are kept

-- a beginning that is kept stays so behind entries that complete no change before
pub kept-grown : (c : DriveConfig) (f : Found) (es more : List Entry) (least m : ℕ) (image : List Cell) → AreLate m more → StandsForKept c f es least m image → StandsForKept c f (es ++ more) least m image
kept-grown c f es more least m image late s =
    let split : IsBeginning (es ++ more) s.beginning.kept (s.beginning.lost ++ more) = record { split = ap (λ (xs : List Entry). xs ++ more) s.beginning.beginning.split ∙ append_assoc s.beginning.kept s.beginning.lost more } in
    record {
      beginning = record { kept = s.beginning.kept; lost = s.beginning.lost ++ more; beginning = split; enough = s.beginning.enough; stands = s.beginning.stands };
      kept = record { beginning = split; none_owed = All-append (λ e. IsFalse (is_owed m e)) s.beginning.lost more s.kept.none_owed late };
    }

-- and where fewer entries are asked for
pub kept-less : (c : DriveConfig) (f : Found) (es : List Entry) (most least m : ℕ) (image : List Cell) → least ≤ most → StandsForKept c f es most m image → StandsForKept c f es least m image
kept-less c f es most least m image fewer s = record {
  beginning = record { kept = s.beginning.kept; lost = s.beginning.lost; beginning = s.beginning.beginning; enough = omega (arith, fewer, s.beginning.enough); stands = s.beginning.stands };
  kept = s.kept;
}

-- what completes no change before a moment completes none before an earlier one
pub each_later : (m n : ℕ) (es : List Entry) → m ≤ n → AreLate n es → AreLate m es
each_later m n [] later late = All-nil (λ e. IsFalse (is_owed m e))
each_later m n (e ∷ es) later late =
    All-cons (λ x. IsFalse (is_owed m x)) e es (owed-later m n e later (All-head (λ x. IsFalse (is_owed n x)) e es late)) (each_later m n es later (All-tail (λ x. IsFalse (is_owed n x)) e es late))

-- ---- what a step completes

head-none : {X : Type 0} (o : Option X) (xs : List X) → cons_option o xs ≡ [] → (o ≡ None) × (xs ≡ [])
head-none None xs e = (refl, e)
head-none (Some x) xs e = absurd cc

not_some : {X : Type 0} (b : Bool) (x : X) → b ≡ true → cond b (Some x) None ≡ None → ⊥
not_some true x is none = cc
not_some false x is none = cc

equal_self : (n : ℕ) → nat_eq n n ≡ true
equal_self n = grind (arith, nat_tests)

-- entries that complete no command complete no change
pub silent-late : (m : ℕ) (es : List Entry) → ((queue : ℕ) → completed queue es ≡ []) → AreLate m es
silent-late m [] none = All-nil (λ e. IsFalse (is_owed m e))
silent-late m (e ∷ es) none =
    let P : Entry → Type 0 = λ x. ((queue : ℕ) → completed_by queue x ≡ None) → IsFalse (is_owed m x) in
    let first = by-host P
    (λ h no. absurd (not_some (nat_eq h.queue h.queue) (h.number, h.command) (equal_self h.queue) (no h.queue)))
    (λ x host no. unowed m x (ap (λ (o : Option Host). quiet o) host)) e (λ queue. (head-none (completed_by queue e) (completed queue es) (none queue)).0) in
    All-cons (λ x. IsFalse (is_owed m x)) e es first (silent-late m es (λ queue. (head-none (completed_by queue e) (completed queue es) (none queue)).1))
  where
    quiet : Option Host → Bool
    quiet o = option_map_or (λ (h : Host). is_completed h.command h.reply) o false

media_fails : (sct sc : ℕ) → ((sct == 2 && sc == 128) || (sct == 2 && sc == 129)) ≡ true → (sct == 0 && sc == 0) ≡ false
media_fails sct sc is = grind (arith, nat_tests)

and_false : (b c : Bool) → c ≡ false → (b && c) ≡ false
and_false true c is = is
and_false false c is = refl

-- a command that completes a change does so at no moment before its step
pub host-late : {F : Type 0} (state : F → FlashState) (old new : Seen F) (before : List Entry) (queue number : ℕ) (command : Command) (calls : List Call) (done : Done) → Completes state old new before queue number command calls done → AreLate (state old.flash).moment before →
    AreLate (state old.flash).moment (before ++ entries.Host (record { queue = queue; number = number; command = command; reply = done.reply; moment = done.moment }) ∷ [])
host-late state old new before queue number command calls done h late =
    let m = (state old.flash).moment in
    let e : Entry = entries.Host (record { queue = queue; number = number; command = command; reply = done.reply; moment = done.moment }) in
    let P : Bool → Type 0 = λ b. is_media_error done.reply.status ≡ b → IsFalse (is_owed m e) in
    let one : IsFalse (is_owed m e) = (elim (is_media_error done.reply.status) as P [
      | true ↦ λ media. unowed m e (and_false (is_saved command) (is_status done.reply.status statuses.SUCCESS) (media_fails done.reply.status.sct done.reply.status.sc media))
      | false ↦ λ well. unowed-late m (record { queue = queue; number = number; command = command; reply = done.reply; moment = done.moment }) (omega (arith, h.moment_is well, h.step.matches.made.run.later))
    ]) refl in
    All-append (λ x. IsFalse (is_owed m x)) before (e ∷ []) late (All-cons (λ x. IsFalse (is_owed m x)) e [] one (All-nil (λ x. IsFalse (is_owed m x))))
