-- A command was completed, with its change or without.
use Rattle.std.proofs.Common.{◌≡◌, ℕ, ◌+◌, ◌≤◌, Bool, true, false, cond, IsTrue, List, [], ◌∷◌, ◌++◌, Option, refl, sym, ap, subst, arith}
use Rattle.std.specs.Prelude.{count_by}
use Rattle.std.specs.Option.{option_map_or}
use Rattle.fdp_base.specs.declared.command.Command.{Command}
use Rattle.fdp_base.specs.declared.entry.Entry.{Entry}
use Rattle.fdp_base.specs.declared.entry.Entry.TheVariants as entries
use Rattle.fdp_base.specs.declared.entry.Reply.{Reply}
use Rattle.fdp_book.specs.declared.ticket.Done.{Done}
use Rattle.fdp_book.specs.Book.{BookSeen, state_in}
use Rattle.fdp_book.specs.Steps.{Completes}
use Rattle.fdp_calls.specs.Calls.{counted_more}
use Rattle.fdp_flash.specs.FlashState.{FlashState}
use Rattle.fdp_book.specs.fdp_pages.PageTables.{PageTables, passes_at}
use Rattle.fdp_book.specs.fdp_pages.Steps.{ChangesOwners, LeavesUnits}
use Rattle.fdp_passes.specs.GroupPasses.{GroupPasses, Pass}
use Rattle.fdp_passes.specs.Place.{has_taken}
use Rattle.fdp_rules.specs.Change.{is_media_error}
use Rattle.fdp_ledger.specs.declared.counts.Counts.{Counts}
use Rattle.fdp_ledger.specs.Calls.{MayTell, OnlyFetches}
use Rattle.fdp_ledger.specs.Uses.{RunStart}
use Rattle.fdp_ledger.specs.Start.{start_of}
use Rattle.fdp_ledger.specs.Ledger.{IsLedger}
use Rattle.fdp_ledger.specs.Told.{is_media_reply}
use Rattle.fdp_ledger.proofs.Called.{after-made, fetches-erase}
use Rattle.fdp_ledger.proofs.Counting.{still-bound}
use Rattle.fdp_ledger.proofs.Entries.{count-push, quiet-one}
use Rattle.fdp_ledger.proofs.Ledgers.{AreStill, KeepsFree, still-ledger}
use Rattle.fdp_ledger.proofs.Moments.{HavePassed, host-media, passed-told}
use Rattle.fdp_ledger.proofs.Units.{left-units, recounts-keep}

-- ---- which units are free

-- owners alone change
pub owners-keep : (old new : PageTables) → ChangesOwners old new → KeepsFree old new
owners-keep old new h = record { units = recounts-keep old.units new.units new.owners h.units; taken = λ rg there. ap (λ (ps : List GroupPasses). has_taken (passes_at (record old { passes = ps }) rg)) h.passes }

-- units are left, and closed
pub left-keep : (old new : PageTables) → LeavesUnits old new → KeepsFree old new
left-keep old new h = record { units = left-units old.units new.units h.cut h.units; taken = λ rg there. ap (λ (pass : Option Pass). option_map_or (λ (p : Pass). p.took_unit) pass false) (h.passes rg) }

-- ---- the entry of a command

pub host-still : (start : RunStart) (es : List Entry) (queue number : ℕ) (command : Command) (reply : Reply) (moment : ℕ) → AreStill start es (entries.Host (record { queue = queue; number = number; command = command; reply = reply; moment = moment }) ∷ [])
host-still start es queue number command reply moment = record { pages = refl; shut = refl; lost = refl; worn = refl; says = quiet-one start es _ (record { filled = refl; erased = refl }) }

-- faults that stand for the replies of media errors, with one reply more
pub reply-bound : (handed : Counts) (b : BookSeen) (old now : FlashState) (queue number : ℕ) (command : Command) (reply : Reply) (moment : ℕ) → old.faults ≤ now.faults → (IsTrue (is_media_error reply.status) → MayTell handed b now moment) → IsLedger handed b old → counted_more handed.faults (count_by is_media_reply (b.entries ++ entries.Host (record { queue = queue; number = number; command = command; reply = reply; moment = moment }) ∷ [])) ≤ now.faults
reply-bound handed b old now queue number command reply moment up media was = chosen (is_media_error reply.status) refl where
  host : Entry
  host = entries.Host (record { queue = queue; number = number; command = command; reply = reply; moment = moment })

  chosen : (error : Bool) → is_media_error reply.status ≡ error → counted_more handed.faults (count_by is_media_reply (b.entries ++ entries.Host (record { queue = queue; number = number; command = command; reply = reply; moment = moment }) ∷ [])) ≤ now.faults
  chosen true is =
      let one : count_by is_media_reply (entries.Host (record { queue = queue; number = number; command = command; reply = reply; moment = moment }) ∷ []) ≡ 1 = ap (λ (x : Bool). 0 + cond x 1 0) is in
      still-bound handed.faults (count_by is_media_reply b.entries + 1) _ now.faults now.faults was.handed_is (omega (arith, count-push is_media_reply b.entries (entries.Host (record { queue = queue; number = number; command = command; reply = reply; moment = moment }) ∷ []), one)) (omega arith) (media is).fault
  chosen false is =
      let none : count_by is_media_reply (entries.Host (record { queue = queue; number = number; command = command; reply = reply; moment = moment }) ∷ []) ≡ 0 = ap (λ (x : Bool). 0 + cond x 1 0) is in
      still-bound handed.faults (count_by is_media_reply b.entries) _ old.faults now.faults was.handed_is (omega (arith, count-push is_media_reply b.entries (entries.Host (record { queue = queue; number = number; command = command; reply = reply; moment = moment }) ∷ []), none)) up was.counted.media_replies

-- the flash was only read from, or not called, and the same units are free
pub ledger-commanded : (handed : Counts) (b new : BookSeen) (old now : FlashState) (queue number : ℕ) (command : Command) (reply : Reply) (moment : ℕ) (done : Done) → Completes b new [] queue number command reply moment done → KeepsFree b.pages new.pages → OnlyFetches old now → (IsTrue (is_media_error reply.status) → MayTell handed b now moment) → IsLedger handed b old → IsLedger handed new now
ledger-commanded handed b new old now queue number command reply moment done step keeps fetched media was =
    let after = after-made old now fetched.calls fetched.made in
    still-ledger handed b new old now fetched.calls (entries.Host (record { queue = queue; number = number; command = command; reply = reply; moment = moment }) ∷ []) step.step after (fetches-erase fetched.calls fetched.fetches) fetched.read.programs fetched.read.cells
    (host-still (start_of b) b.entries queue number command reply moment) keeps
    (reply-bound handed b old now queue number command reply moment after.faults media was)
    (subst (λ (xs : List ℕ). HavePassed xs now.moment) (sym (host-media b new [] queue number command reply moment step.step refl))
    (passed-told (state_in b).media moment old.moment now.moment (is_media_error reply.status) after.moment (λ error. (media error).until) was.moments))
    was

pub ledger-answered : (handed : Counts) (b new : BookSeen) (old now : FlashState) (queue number : ℕ) (command : Command) (reply : Reply) (moment : ℕ) (done : Done) → Completes b new [] queue number command reply moment done → ChangesOwners b.pages new.pages → OnlyFetches old now → (IsTrue (is_media_error reply.status) → MayTell handed b now moment) → IsLedger handed b old → IsLedger handed new now
ledger-answered handed b new old now queue number command reply moment done step owners fetched media was =
    ledger-commanded handed b new old now queue number command reply moment done step (owners-keep b.pages new.pages owners) fetched media was
