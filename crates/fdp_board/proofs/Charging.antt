-- Which failed calls the media errors of a history tell of, as it grows.
use Rattle.std.proofs.Common.{◌≡◌, ℕ, ◌-◌, ◌≤◌, false, List, [], ◌∷◌, ◌++◌, Option, ap, subst, arith}
use Rattle.std.specs.Prelude.{All, IsTrue}
use Rattle.std.specs.Option.{option_map_or}
use Rattle.std.proofs.lemmas.List.Elements.{All-append, All-cons, All-head, All-nil, All-tail, All-weaker}
use Rattle.fdp_base.specs.declared.command.Command.{Command}
use Rattle.fdp_base.specs.declared.entry.Entry.{Entry}
use Rattle.fdp_base.specs.declared.entry.Entry.TheVariants as entries
use Rattle.fdp_base.specs.declared.entry.Host.{Host}
use Rattle.fdp_workers.specs.fdp_book.declared.ticket.Done.{Done}
use Rattle.fdp_workers.specs.fdp_core.Seen.{Seen}
use Rattle.fdp_workers.specs.fdp_core.Steps.{Completes}
use Rattle.fdp_flash.specs.declared.cell.Cell.{Cell}
use Rattle.fdp_flash.specs.FlashState.{Call, FlashState}
use Rattle.fdp_flash.specs.Runs.{Runs}
use Rattle.fdp_workers.specs.fdp_ledger.Told.{is_media_reply}
use Rattle.fdp_rules.specs.Change.{is_media_error}
use Rattle.fdp_board.specs.Board.{AreCharged, FailedSince, moment_of}
use Rattle.fdp_base.specs.EntryKinds.{ServesNone}

-- an entry that is no media error tells of no failed call
pub uncharged : (since : ℕ) (now : FlashState) (e : Entry) → is_media_reply e ≡ false → AreCharged since now (e ∷ [])
uncharged since now e none =
    All-cons (λ x. IsTrue (is_media_reply x) → FailedSince since now (moment_of x)) e [] (λ media. absurd (let bad : IsTrue false = subst IsTrue none media in cc)) (All-nil (λ x. IsTrue (is_media_reply x) → FailedSince since now (moment_of x)))

none-unmedia : (e : Entry) → ServesNone e → is_media_reply e ≡ false
none-unmedia e q = ap (λ (o : Option Host). option_map_or (λ (h : Host). is_media_error h.reply.status) o false) q.host

-- nor do entries that serve no host
pub none-charged : (since : ℕ) (now : FlashState) (es : List Entry) → All ServesNone es → AreCharged since now es
none-charged since now [] all = All-nil (λ x. IsTrue (is_media_reply x) → FailedSince since now (moment_of x))
none-charged since now (e ∷ es) all =
    All-append (λ x. IsTrue (is_media_reply x) → FailedSince since now (moment_of x)) (e ∷ []) es (uncharged since now e (none-unmedia e (All-head ServesNone e es all))) (none-charged since now es (All-tail ServesNone e es all))

-- a command that a step completed with a media error met a call that failed in the step
pub host-charged : {F : Type 0} (state : F → FlashState) (old new : Seen F) (before : List Entry) (queue number : ℕ) (command : Command) (calls : List Call) (done : Done) → Completes state old new before queue number command calls done → All ServesNone before →
    AreCharged (state old.flash).moment (state new.flash) (before ++ entries.Host (record { queue = queue; number = number; command = command; reply = done.reply; moment = done.moment }) ∷ [])
host-charged state old new before queue number command calls done h none =
    let P : Entry → Type 0 = λ x. IsTrue (is_media_reply x) → FailedSince (state old.flash).moment (state new.flash) (moment_of x) in
    let e : Entry = entries.Host (record { queue = queue; number = number; command = command; reply = done.reply; moment = done.moment }) in
    All-append P before (e ∷ []) (none-charged (state old.flash).moment (state new.flash) before none)
    (All-cons P e [] (λ media. let f = h.media media in record { later = f.since; until = f.until; failed = f.failed }) (All-nil P))

-- a call that failed stays on the list
failed-kept : (since : ℕ) (old new : FlashState) (Image : ℕ → List Cell → Type 0) (moment : ℕ) → Runs old new Image → FailedSince since old moment → FailedSince since new moment
failed-kept since old new Image moment run f = record {
  later = f.later;
  until = omega (arith, f.until, run.later);
  failed = λ told. let at = f.failed (run.listed_before told) in (at.0, run.listed told (moment - 1) at.0 at.1, at.2);
}

-- and failed since any earlier moment
failed-earlier : (early since : ℕ) (now : FlashState) (moment : ℕ) → early ≤ since → FailedSince since now moment → FailedSince early now moment
failed-earlier early since now moment before f = record { later = grind (arith, before, f.later); until = f.until; failed = f.failed }

-- the media errors of a history that grew
pub charged-after : (early : ℕ) (old new : FlashState) (Image : ℕ → List Cell → Type 0) (es more : List Entry) → early ≤ old.moment → Runs old new Image → AreCharged early old es → AreCharged old.moment new more → AreCharged early new (es ++ more)
charged-after early old new Image es more before run was now =
    let P : Entry → Type 0 = λ x. IsTrue (is_media_reply x) → FailedSince early new (moment_of x) in
    All-append P es more
    (All-weaker (λ x. IsTrue (is_media_reply x) → FailedSince early old (moment_of x)) P (λ x f media. failed-kept early old new Image (moment_of x) run (f media)) es was)
    (All-weaker (λ x. IsTrue (is_media_reply x) → FailedSince old.moment new (moment_of x)) P (λ x f media. failed-earlier early old.moment new (moment_of x) before (f media)) more now)
