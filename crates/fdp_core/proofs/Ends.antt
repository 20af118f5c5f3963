-- A going write that ends.
use Rattle.std.proofs.Common.{◌≡◌, ℕ, ◌+◌, ◌<◌, ◌≤◌, arith, Bool, true, false, ◌||◌, List, [], ◌∷◌, refl, sym, ◌∙◌, ap}
use Rattle.std.specs.Prelude.{IsTrue, count_by}
use Rattle.std.specs.List.{list_any}
use Rattle.std.proofs.lemmas.Bool.{false≢true}
use Rattle.fdp_base.specs.declared.entry.Reply.{Reply}
use Rattle.fdp_relocation.specs.fdp_book.declared.ticket.Done.{Done}
use Rattle.fdp_relocation.specs.fdp_book.declared.ticket.Ticket.{Ticket}
use Rattle.fdp_relocation.specs.fdp_book.Book.{BookSeen, IsLed, point_in, state_in}
use Rattle.fdp_relocation.specs.fdp_book.Steps as book
use Rattle.fdp_relocation.specs.fdp_book.Tickets.{IsTicketOf}
use Rattle.fdp_relocation.proofs.fdp_book.Histories.Follows.{end-follows}
use Rattle.fdp_calls.specs.Calls.{counted_more}
use Rattle.fdp_calls.proofs.Made.{calls-none}
use Rattle.fdp_core.specs.Answers.{EndsAlone}
use Rattle.fdp_core.specs.Seen.{HasMoments, Seen}
use Rattle.fdp_core.specs.Sound.{IsSound}
use Rattle.fdp_core.proofs.Apart.{apart-answered}
use Rattle.fdp_core.proofs.Grown.{completes, host, matches-none}
use Rattle.fdp_core.proofs.Sound.{begun, same-flash, sound-told}
use Rattle.fdp_flash.specs.FlashState.{FlashState}
use Rattle.fdp_history.specs.Orderly.{IsOrderly}
use Rattle.fdp_loading.specs.fdp_isolation.Laned.{IsKnown}
use Rattle.fdp_loading.specs.fdp_ledger.declared.counts.Counts.{Counts}
use Rattle.fdp_loading.specs.fdp_ledger.Told.{is_media_reply, tells_failure}
use Rattle.fdp_loading.proofs.fdp_ledger.Answered.{ledger-answered}
use Rattle.fdp_loading.proofs.fdp_ledger.Flash.{OnlyFetches}
use Rattle.fdp_relocation.specs.fdp_pages.Steps.{ChangesOwners}
use Rattle.fdp_rules.specs.Change.{is_media_error}
use Rattle.fdp_rules.specs.PlainState.{Going}
use Rattle.fdp_rules.specs.Step.{Follows, IsEnd}
use Rattle.fdp_flash.proofs.Runs.{no_run}
use Rattle.fdp_calls.specs.Media.{IsReadFrom}
use Rattle.fdp_roominess.proofs.Answered.{room-answered}
use Rattle.fdp_roominess.proofs.Runs.{keeps-well}

-- the end of a going write may follow
pub may-follow : (f : FlashState) (b : BookSeen) (ticket : Ticket) (g : Going) (reply : Reply) → IsOrderly b.config (point_in b) → IsTicketOf (state_in b) ticket g → ((IsTrue (is_media_error reply.status) → HasMoments f) → IsEnd f.told b.config (point_in b) g reply f.moment) → (IsTrue (is_media_error reply.status) → HasMoments f) → Follows f.told b.config (point_in b) (host ticket.queue g.number g.command reply f.moment)
may-follow f b ticket g reply orderly is may moments =
    end-follows f.told b.config (point_in b) ticket.queue g reply f.moment (orderly.state.writes ticket.queue g is.going_is) is.going_is (may moments)

-- no call reads nothing
pub no-read : (f : FlashState) → IsReadFrom f f
no-read f = record { kept = record { geometry = refl; told = refl; reliable = refl; moment = omega arith; faults = omega arith }; stops = no_run f (λ m image. image ≡ f.cells); programs = refl; cells = λ _. refl }

-- and fetches nothing
pub no-fetches : (f : FlashState) → OnlyFetches f f
no-fetches f = record { calls = []; made = calls-none f; fetches = refl; read = no-read f }

pub sound-ended : (handed : Counts) (f : FlashState) (b d : BookSeen) (block : List ℕ) (ticket : Ticket) (g : Going) (reply : Reply) (done : Done) →
    IsSound handed f b block → IsKnown b → IsLed d → IsTicketOf (state_in b) ticket g → ((IsTrue (is_media_error reply.status) → HasMoments f) → IsEnd f.told b.config (point_in b) g reply f.moment) →
    (IsTrue (is_media_error reply.status) → counted_more handed.faults (count_by is_media_reply b.entries + 1) ≤ f.faults) →
    reply.applied ≡ false → book.Completes b d [] ticket.queue g.number g.command reply f.moment done → ChangesOwners b.pages d.pages → IsSound handed f d block
sound-ended handed f b d block ticket g reply done so known led is may fault unapplied ends owners =
    sound-told handed f f b d (host ticket.queue g.number g.command reply f.moment) block block so (same-flash f) ends.step owners refl
    (may-follow f b ticket g reply known.orderly is may)
    (ledger-answered handed b d f f ticket.queue g.number g.command reply f.moment done ends owners (no-fetches f) (λ error. record { fault = fault error; until = omega arith }) so.ledger)
    (apart-answered f f b d ticket.queue g.number g.command reply f.moment done known led (same-flash f) ends owners unapplied so.apart)
    (keeps-well handed.faults f.faults f.faults f.told f.told b d (host ticket.queue g.number g.command reply f.moment ∷ []) ends.step refl (omega arith) so.room refl
    (room-answered b d ticket.queue g.number g.command reply f.moment done known led ends owners unapplied))
    refl

-- a step that only ends a write, and calls no flash
pub ends-alone : {F : Type 0} (state : F → FlashState) (old new : Seen F) (ticket : Ticket) (g : Going) (reply : Reply) (done : Done) → 0 < old.book.spare → is_media_error reply.status ≡ false →
    book.Completes (begun old.book) new.book [] ticket.queue g.number g.command reply (state old.flash).moment done → new.handed ≡ old.handed → new.flash ≡ old.flash → EndsAlone state old new ticket g reply done
ends-alone {F} state old new ticket g reply done spare fine ends handed same =
    let moment : (state old.flash).moment ≡ (state new.flash).moment = sym (ap (λ (x : F). (state x).moment) same) in
    let quiet : list_any tells_failure (host ticket.queue g.number g.command reply (state old.flash).moment ∷ []) ≡ false = none-of (is_media_error reply.status) fine in
    record {
      completes = completes state old new [] ticket.queue g.number g.command reply (state old.flash).moment [] done spare (record {
        longer = ends.step;
        done_is = ends.done_is;
        handed = handed;
        matches = matches-none state old.flash new.flash (host ticket.queue g.number g.command reply (state old.flash).moment ∷ []) same refl quiet (λ unit. refl);
        moment_is = λ _. moment;
        failed = sym fine;
        media = λ wrong. absurd (false≢true (sym fine ∙ wrong));
      });
      reply_is = ap (λ (d : Done). d.reply) ends.done_is;
      uncalled = same;
    }
  where
    none-of : (b : Bool) → b ≡ false → ((b || false || false) || false) ≡ false
    none-of true e = e
    none-of false e = refl
