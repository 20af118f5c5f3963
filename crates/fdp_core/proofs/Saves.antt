-- How a write ends whose change was saved, or could not be.
use Rattle.std.proofs.Common.{◌≡◌, ◌≢◌, ℕ, ◌+◌, ◌<◌, ◌≤◌, true, false, List, [], ◌∷◌, refl, sym, ap, subst, arith, inl, inr}
use Rattle.std.specs.Prelude.{IsFalse, IsTrue}
use Rattle.std.specs.List.{count_by, list_any}
use Rattle.std.proofs.lemmas.Bool.{false≢true}
use Rattle.fdp_base.specs.declared.status.TheConstants.Status as statuses
use Rattle.fdp_relocation.specs.fdp_book.Steps as book
use Rattle.fdp_relocation.specs.fdp_durability.Firm as durable
use Rattle.fdp_relocation.specs.fdp_saving.declared.saved.Saved.TheVariants as savings
use Rattle.fdp_relocation.specs.fdp_book.Book.{BookSeen, IsLed, point_in, state_in}
use Rattle.fdp_relocation.specs.fdp_pages.Steps.{ChangesOwners}
use Rattle.fdp_loading.specs.fdp_ledger.declared.counts.Counts.{Counts}
use Rattle.fdp_base.specs.declared.command.Command.{Command}
use Rattle.fdp_base.specs.declared.command.Command.TheVariants as commands
use Rattle.fdp_base.specs.declared.command.Write.{Write}
use Rattle.fdp_base.specs.declared.entry.Reply.{Reply}
use Rattle.fdp_base.specs.CommandKinds.{is_write}
use Rattle.fdp_base.proofs.Writes.{each-write}
use Rattle.fdp_core.specs.Answers.{EndsSaved, SavesWrite}
use Rattle.fdp_calls.specs.Calls.{FailedAt, counted_more, has_failed}
use Rattle.fdp_flash.specs.FlashState.{FlashState}
use Rattle.fdp_rules.specs.PlainState.{Going}
use Rattle.fdp_core.specs.Seen.{HasMoments, Seen}
use Rattle.fdp_flash.specs.Failing.{FailsLast}
use Rattle.fdp_rules.specs.Step.{IsEnd, MaySucceed}
use Rattle.fdp_loading.specs.fdp_survival.Books.{IsInOrder}
use Rattle.fdp_core.specs.Sound.{IsSound, IsWhole}
use Rattle.fdp_loading.specs.fdp_isolation.Laned.{IsKnown}
use Rattle.fdp_relocation.specs.fdp_book.Tickets.{IsTicketOf}
use Rattle.fdp_relocation.specs.fdp_keeper.Keeper.{KeeperSeen, KeepsEntry}
use Rattle.fdp_core.specs.Stops.{OutlastsStops}
use Rattle.fdp_relocation.specs.fdp_saving.declared.saved.Saved.{Saved}
use Rattle.fdp_base.specs.declared.status.Status.{Status}
use Rattle.fdp_relocation.specs.fdp_book.declared.ticket.Ticket.{Ticket}
use Rattle.fdp_core.proofs.Apart.{apart-committed, known-begun}
use Rattle.fdp_rules.specs.Answer.{bare}
use Rattle.fdp_core.proofs.Sound.{begun, same-flash, sound-told}
use Rattle.fdp_core.proofs.Made.{MayFault, made-completes, made-whole, may-fault, saving-failed, sound-behind, unmade-completes, unmade-whole}
use Rattle.fdp_relocation.proofs.fdp_saving.Failing.{doubtful_failed, saved_well}
use Rattle.fdp_core.proofs.Grown.{host}
use Rattle.fdp_rules.specs.Change.{is_media_error}
use Rattle.fdp_loading.specs.fdp_ledger.Told.{is_media_reply}
use Rattle.fdp_core.proofs.Called.{last-failed}
use Rattle.fdp_loading.proofs.fdp_ledger.Answered.{ledger-answered}
use Rattle.fdp_core.proofs.Ends.{may-follow, no-fetches, sound-ended}
use Rattle.fdp_core.proofs.Commits.{may-succeed}
use Rattle.fdp_loading.proofs.fdp_survival.Steps.{owners-go}
use Rattle.fdp_core.proofs.Refusals.{uncompleted}
use Rattle.fdp_relocation.specs.fdp_book.declared.ticket.Done.{Done}
use Rattle.fdp_roominess.proofs.Answered.{room-written}
use Rattle.fdp_roominess.proofs.Runs.{keeps-well}

-- ---- the change was made

-- a write ends with its change, over the flash behind its saving
sound-made : (handed : Counts) (n : FlashState) (b d : BookSeen) (block : List ℕ) (ticket : Ticket) (g : Going) (status : Status) (done : Done) → IsSound handed n b block → IsKnown b → IsLed d → IsTicketOf (state_in b) ticket g → MaySucceed b.config (point_in b) g →
    ((IsTrue (is_media_error status) → HasMoments n) → IsEnd n.told b.config (point_in b) g (bare status true) n.moment) → (IsTrue (is_media_error status) → counted_more handed.faults (count_by is_media_reply b.entries + 1) ≤ n.faults) →
    book.Completes b d [] ticket.queue g.number g.command (bare status true) n.moment done → ChangesOwners b.pages d.pages → IsSound handed n d block
sound-made handed n b d block ticket g status done so known led is may ends fault completes owners =
    sound-told handed n n b d (host ticket.queue g.number g.command (bare status true) n.moment) block block so (same-flash n) completes.step owners refl
    (may-follow n b ticket g (bare status true) known.orderly is ends)
    (ledger-answered handed b d n n ticket.queue g.number g.command (bare status true) n.moment done completes owners (no-fetches n) (λ error. record { fault = fault error; until = omega arith }) so.ledger)
    (apart-committed n b d ticket.queue n.moment g status done known led is.going_is may completes owners so.apart)
    (keeps-well handed.faults n.faults n.faults n.told n.told b d (host ticket.queue g.number g.command (bare status true) n.moment ∷ []) completes.step refl (omega arith) so.room refl
    (room-written b d ticket.queue n.moment g status done known led is.going_is may completes owners))
    refl

module _ {F : Type 0} (state : F → FlashState) (x y : F) (handed : Counts) (b d : BookSeen) (k l : KeeperSeen) (block : List ℕ) (ticket : Ticket) (g : Going) (status : Status) (done : Done) (answer : Saved) (order : IsInOrder b) (then_order : IsInOrder d)
    (whole : IsWhole handed (state x) b k block) (is : IsTicketOf (state_in b) ticket g) (may : MaySucceed b.config (point_in b) g) (keeps : KeepsEntry b (host ticket.queue g.number g.command (bare status true) (state y).moment) k l (state x) (state y) answer)
    (ends : book.Completes (begun b) d [] ticket.queue g.number g.command (bare status true) (state y).moment done) (owners : ChangesOwners b.pages d.pages) where
  made-sound : ((IsTrue (is_media_error status) → HasMoments (state y)) → IsEnd (state y).told b.config (point_in b) g (bare status true) (state y).moment) → (IsTrue (is_media_error status) → counted_more handed.faults (count_by is_media_reply b.entries + 1) ≤ (state y).faults) → IsSound handed (state y) d block
  made-sound legal fault =
      sound-made handed (state y) (begun b) d block ticket g status done
      (sound-behind state x y handed b (host ticket.queue g.number g.command (bare status true) (state y).moment) k l block answer order whole keeps)
      (known-begun b order.known) then_order.known.led is may legal fault ends owners

  pub written-whole : ((IsTrue (is_media_error status) → HasMoments (state y)) → IsEnd (state y).told b.config (point_in b) g (bare status true) (state y).moment) → (IsTrue (is_media_error status) → counted_more handed.faults (count_by is_media_reply b.entries + 1) ≤ (state y).faults) →
      (answer ≢ savings.Done → IsFalse (durable.completes (host ticket.queue g.number g.command (bare status true) (state y).moment))) →
      IsWhole handed (state y) d l block × OutlastsStops state (record { book = b; keeper = k; handed = handed; flash = x }) (record { book = d; keeper = l; handed = handed; flash = y })
  written-whole legal fault none =
      made-whole state x y handed b d k l block ticket.queue g.number g.command (bare status true) done answer order then_order whole keeps ends (owners-go (begun b) d owners) (made-sound legal fault) refl none

  -- what it comes to
  pub ends-saved : (reply_is : bare status true ≡ done.reply) → 0 < b.spare → list_any has_failed keeps.saves.calls.calls ≡ is_media_error status → (IsTrue (is_media_error status) → FailedAt (state x) (state y) (state y).moment) →
      EndsSaved state (record { book = b; keeper = k; handed = handed; flash = x }) (record { book = d; keeper = l; handed = handed; flash = y }) ticket g answer (bare status true) done
  ends-saved reply_is spare failed media = record {
    summary = keeps.saves.given.summary;
    calls = keeps.saves.calls.calls;
    saved = keeps.saves.calls.are;
    completes = made-completes state x y handed b d k l block ticket.queue g.number g.command (bare status true) done answer order then_order whole keeps ends spare failed media;
    reply_is = sym reply_is;
  }

-- ---- its change was saved in a step, made or not

-- the reply to a write, by the answer of the saving
abbrev reply_to_write : Saved → Reply
reply_to_write savings.Done = bare statuses.SUCCESS true
reply_to_write (savings.Doubtful moment) = bare statuses.WRITE_FAULT true
reply_to_write (savings.Unsaved moment) = bare statuses.WRITE_FAULT false

-- a step of a group that is seen so saved the change of the write of a ticket with this answer, and ended the write
pub record SavesTicket {F : Type 0} (state : F → FlashState) (x y : F) (handed : Counts) (b d : BookSeen) (k l : KeeperSeen) (block : List ℕ) (seen : Seen F) (ticket : Ticket) (answer : Saved) (done : Done) : Type 0 where
  pub view_is : ◌≡◌ {A = Seen F} (record { book = b; keeper = k; handed = handed; flash = x }) seen
  pub order : IsInOrder seen.book
  pub then_order : IsInOrder d
  pub whole : IsWhole handed (state x) b k block
  pub may : (g : Going) → IsTicketOf (state_in seen.book) ticket g → MaySucceed seen.book.config (point_in seen.book) g
  pub keeps : (g : Going) (w : Write) (reply : Reply) (moment : ℕ) → IsTicketOf (state_in b) ticket g → g.command ≡ commands.Write w → IsTrue reply.applied → KeepsEntry b (host ticket.queue ticket.number (commands.Write w) reply moment) k l (state x) (state y) answer
  pub now : BookSeen
  pub now_is : now ≡ begun b
  pub moment : ℕ
  pub moment_is : moment ≡ (state y).moment
  pub ends : (g : Going) → IsTicketOf (state_in now) ticket g → book.Completes now d [] ticket.queue g.number g.command (reply_to_write answer) moment done
  pub pages : ChangesOwners now.pages d.pages

-- a write is one
as-write : (command : Command) → is_write command ≡ true → (w : Write) × (command ≡ commands.Write w)
as-write command is = each-write (λ x. (w : Write) × (x ≡ commands.Write w)) (λ w. (w, refl)) command is

module _ {F : Type 0} {state : F → FlashState} {x y : F} {handed : Counts} {b d : BookSeen} {k l : KeeperSeen} {block : List ℕ} {seen : Seen F} {ticket : Ticket} {done : Done} where
  module _ (answer : Saved) (h : SavesTicket state x y handed b d k l block seen ticket answer done) where
    abbrev new : Seen F
    new = record { book = d; keeper = l; handed = handed; flash = y }

    order : IsInOrder b
    order = subst (λ (s : Seen F). IsInOrder s.book) (sym h.view_is) h.order

    owners : ChangesOwners b.pages d.pages
    owners = subst (λ (n : BookSeen). ChangesOwners n.pages d.pages) h.now_is h.pages

    module _ (g : Going) (is : IsTicketOf (state_in b) ticket g) where
      may : MaySucceed b.config (point_in b) g
      may = subst (λ (s : Seen F). IsTicketOf (state_in s.book) ticket g → MaySucceed s.book.config (point_in s.book) g) (sym h.view_is) (h.may g) is

      made : (reply : Reply) → IsTrue reply.applied → KeepsEntry b (host ticket.queue g.number g.command reply (state y).moment) k l (state x) (state y) answer
      made reply applied =
          let w = as-write g.command (order.known.orderly.state.writes ticket.queue g is.going_is).write in
          subst (λ (number : ℕ). KeepsEntry b (host ticket.queue number g.command reply (state y).moment) k l (state x) (state y) answer) (sym is.number_is)
          (subst (λ (command : Command). KeepsEntry b (host ticket.queue ticket.number command reply (state y).moment) k l (state x) (state y) answer) (sym w.1) (h.keeps g w.0 reply (state y).moment is w.1 applied))

      ends : book.Completes (begun b) d [] ticket.queue g.number g.command (reply_to_write answer) (state y).moment done
      ends =
          subst (λ (m : ℕ). book.Completes (begun b) d [] ticket.queue g.number g.command (reply_to_write answer) m done) h.moment_is
          (subst (λ (n : BookSeen). IsTicketOf (state_in n) ticket g → book.Completes n d [] ticket.queue g.number g.command (reply_to_write answer) h.moment done) h.now_is (h.ends g) is)

      fault : (moment : ℕ) → FailsLast (state x) (state y) moment → MayFault handed b (state y)
      fault moment fails = let run = (made (bare statuses.WRITE_FAULT true) refl).saves.calls.made.run in may-fault handed b (state x) (state y) moment h.whole.sound.ledger run.later run.faults fails

    abbrev Comes : Going → Type 0
    Comes g = IsWhole handed (state y) d l block × OutlastsStops state seen new × (0 < seen.book.spare → SavesWrite state seen new ticket g done)

    abbrev ComesOf : Going → Type 0
    ComesOf g = IsTicketOf (state_in b) ticket g → IsWhole handed (state y) d l block × OutlastsStops state (record { book = b; keeper = k; handed = handed; flash = x }) new × (0 < b.spare → SavesWrite state (record { book = b; keeper = k; handed = handed; flash = x }) new ticket g done)

    came : (g : Going) → ComesOf g → IsTicketOf (state_in seen.book) ticket g → Comes g
    came g = subst (λ (s : Seen F). IsTicketOf (state_in s.book) ticket g → IsWhole handed (state y) d l block × OutlastsStops state s new × (0 < s.book.spare → SavesWrite state s new ticket g done)) h.view_is

  pub ticket-saved : (answer : Saved) (h : SavesTicket state x y handed b d k l block seen ticket answer done) (g : Going) → IsTicketOf (state_in seen.book) ticket g → Comes answer h g
  ticket-saved savings.Done h g =
      came savings.Done h g
      (λ is.
      let o = order savings.Done h in
      let m = may savings.Done h g is in
      let keeps = made savings.Done h g is (bare statuses.SUCCESS true) refl in
      let e = ends savings.Done h g is in
      let p = owners savings.Done h in
      let whole =
      written-whole state x y handed b d k l block ticket g statuses.SUCCESS done savings.Done o h.then_order h.whole is m keeps e p
      (λ _. may-succeed (state y) b ticket g o.known.orderly is m) (λ wrong. absurd (false≢true wrong)) (λ other. absurd (other refl)) in (
        whole.0,
        whole.1,
        λ spare. inl
            (ends-saved state x y handed b d k l block ticket g statuses.SUCCESS done savings.Done o h.then_order h.whole is m keeps e p (sym (ap (λ (z : Done). z.reply) e.done_is)) spare
            (saved_well k.saver keeps.saves.given.summary keeps.saves.calls.calls keeps.saves.calls.are) (λ wrong. absurd (false≢true wrong))),
      ))
  ticket-saved (savings.Doubtful moment) h g =
      came (savings.Doubtful moment) h g
      (λ is.
      let o = order (savings.Doubtful moment) h in
      let m = may (savings.Doubtful moment) h g is in
      let keeps = made (savings.Doubtful moment) h g is (bare statuses.WRITE_FAULT true) refl in
      let e = ends (savings.Doubtful moment) h g is in
      let p = owners (savings.Doubtful moment) h in
      let f = fault (savings.Doubtful moment) h g is moment keeps.saves.ends in
      let whole =
      written-whole state x y handed b d k l block ticket g statuses.WRITE_FAULT done (savings.Doubtful moment) o h.then_order h.whole is m keeps e p
      (λ moments. inr (inr (inr (inl (m, f.new (moments refl), inr refl))))) (λ _. f.fault) (λ other. uncompleted g.command (bare statuses.WRITE_FAULT true) refl) in (
        whole.0,
        whole.1,
        λ spare. inr
            (inl (
              moment,
              ends-saved state x y handed b d k l block ticket g statuses.WRITE_FAULT done (savings.Doubtful moment) o h.then_order h.whole is m keeps e p (sym (ap (λ (z : Done). z.reply) e.done_is)) spare
                  (last-failed keeps.saves.calls.calls (doubtful_failed k.saver keeps.saves.given.summary moment keeps.saves.calls.calls keeps.saves.calls.are)) (λ _. saving-failed (state x) (state y) moment keeps.saves.ends),
            )),
      ))
  ticket-saved (savings.Unsaved moment) h g =
      came (savings.Unsaved moment) h g
      (λ is.
      let o = order (savings.Unsaved moment) h in
      let m = may (savings.Unsaved moment) h g is in
      let keeps = made (savings.Unsaved moment) h g is (bare statuses.WRITE_FAULT true) refl in
      let e = ends (savings.Unsaved moment) h g is in
      let p = owners (savings.Unsaved moment) h in
      let f = fault (savings.Unsaved moment) h g is moment keeps.saves.ends in
      let so =
      sound-ended handed (state y) (begun b) d block ticket g (bare statuses.WRITE_FAULT false) done (sound-behind state x y handed b _ k l block (savings.Unsaved moment) o h.whole keeps)
      (known-begun b o.known) h.then_order.known.led is (λ moments. inr (inr (inr (inl (m, f.new (moments refl), inl refl))))) (λ _. f.fault) refl e p in
      let whole = unmade-whole state x y handed b d k l block ticket.queue g.number g.command _ moment done o h.whole keeps e p h.then_order.known so in (
        whole.0,
        whole.1,
        λ spare. inr (inr (
          moment,
          record {
            summary = keeps.saves.given.summary;
            calls = keeps.saves.calls.calls;
            saved = keeps.saves.calls.are;
            completes = unmade-completes state x y handed b d k l block ticket.queue g.number g.command _ moment done o h.whole keeps e p spare;
            reply_is = ap (λ (z : Done). z.reply) e.done_is;
          },
        )),
      ))
