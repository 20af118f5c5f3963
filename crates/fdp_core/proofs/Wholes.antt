-- A group behind an entry that saves nothing: what saves the drive stands for its history, and no stop in the step loses what was firm.
use Rattle.std.proofs.Common.{◌≡◌, ℕ, ◌≤◌, false, List, [], ◌∷◌, length, subst, arith}
use Rattle.std.specs.Prelude.{IsFalse}
use Rattle.std.specs.List.{count_by}
use Rattle.std.proofs.lemmas.List.Elements.{All-cons, All-nil}
use Rattle.fdp_base.specs.declared.command.Command.{Command}
use Rattle.fdp_base.specs.declared.entry.Entry.{Entry}
use Rattle.fdp_base.specs.declared.entry.Reply.{Reply}
use Rattle.fdp_relocation.specs.fdp_book.declared.ticket.Done.{Done}
use Rattle.fdp_relocation.specs.fdp_book.declared.ticket.Ticket.{Ticket}
use Rattle.fdp_relocation.specs.fdp_book.Book.{BookSeen, IsLonger}
use Rattle.fdp_relocation.specs.fdp_book.Steps as book
use Rattle.fdp_calls.specs.Media.{IsReadFrom}
use Rattle.fdp_core.specs.Seen.{Seen}
use Rattle.fdp_core.specs.Sound.{IsKept, IsWhole}
use Rattle.fdp_core.specs.Stops.{IsSafeNow, KeepsPart, LeavesIsolated, LeavesRoomy, Outlasts, OutlastsStops}
use Rattle.fdp_core.proofs.Apart.{known-begun}
use Rattle.fdp_core.proofs.Grown.{host}
use Rattle.fdp_core.proofs.Kept.{kept-begun, kept-on}
use Rattle.fdp_core.proofs.Outlasting.{outlasts-all, outlasts-part, outlasts-stops}
use Rattle.fdp_core.proofs.Rooms.{begun_seen}
use Rattle.fdp_core.proofs.Sound.{begun, sound-begun}
use Rattle.fdp_relocation.specs.fdp_durability.Firm.{completes}
use Rattle.fdp_relocation.proofs.fdp_durability.Owed.{unowed}
use Rattle.fdp_flash.specs.FlashState.{FlashState}
use Rattle.fdp_flash.proofs.Runs.{no_run}
use Rattle.fdp_image.specs.Kept.{AreFirm, is_completed, is_owed}
use Rattle.fdp_relocation.specs.fdp_keeper.Keeper.{KeeperSeen}
use Rattle.fdp_loading.specs.fdp_ledger.declared.counts.Counts.{Counts}
use Rattle.fdp_relocation.specs.fdp_pages.Steps.{ChangesOwners}
use Rattle.fdp_loading.specs.fdp_survival.Books.{IsInOrder, IsSafe, Survives}
use Rattle.fdp_loading.specs.fdp_survival.Safe.{IsSafeImage}
use Rattle.fdp_loading.proofs.fdp_survival.Safe.{one-none}
use Rattle.fdp_loading.proofs.fdp_survival.Steps.{safe-answered, safe-fetched, safe-started, survives-longer}
use Rattle.fdp_loading.specs.fdp_ledger.Ledger.{IsLedger}
use Rattle.fdp_calls.proofs.Made.{counted_more-none}
use Rattle.fdp_loading.specs.fdp_ledger.Told.{is_media_reply}
use Rattle.fdp_loading.proofs.fdp_ledger.Counting.{more-mono}

-- ---- a step that has begun

pub order-begun : (b : BookSeen) → IsInOrder b → IsInOrder (begun b)
order-begun b order = record { known = known-begun b order.known; standing = order.standing; listed = order.listed }

pub whole-begun : (handed : Counts) (f : FlashState) (b : BookSeen) (k : KeeperSeen) (block : List ℕ) → IsWhole handed f b k block → IsWhole handed f (begun b) k block
whole-begun handed f b k block h = record { sound = sound-begun handed f b block h.sound; kept = kept-begun handed f b k h.kept }

-- a stop cannot tell whether the step had begun
pub unbegun : {F : Type 0} (state : F → FlashState) (old new : Seen F) → OutlastsStops state (begun_seen old) new → OutlastsStops state old new
unbegun state old new h = record { stops = h.stops; apart = h.apart; isolated = h.isolated; opens = h.opens; roomy = h.roomy; more = h.more; firm = h.firm }

-- a step that completes no change, from where it has begun
pub outlasts-begun : {F : Type 0} {state : F → FlashState} {old new seen : Seen F} {now : BookSeen} → old ≡ seen → now ≡ begun old.book → AreFirm old.book.entries old.keeper.firm → IsSafeNow (state new.flash) new.book new.keeper → Outlasts state (record { book = now; keeper = old.keeper; handed = old.handed; flash = old.flash }) new → OutlastsStops state seen new
outlasts-begun {F} {state} {old} {new} is begins firm safe h =
    subst (λ (s : Seen F). OutlastsStops state s new) is
    (unbegun state old new (outlasts-all state (begun_seen old) new firm safe (subst (λ (b : BookSeen). Outlasts state (record { book = b; keeper = old.keeper; handed = old.handed; flash = old.flash }) new) begins h)))

-- ---- an entry that completes no change

-- part of a step
pub outlasts-entry : {F : Type 0} (state : F → FlashState) (old new : Seen F) (e : Entry) → IsLonger old.book new.book (e ∷ []) → IsFalse (completes e) → Survives old.book old.keeper.firm (length old.book.entries) (state old.flash) (state new.flash) → old.keeper.firm ≤ new.keeper.firm → new.handed ≡ old.handed → LeavesRoomy state old new → KeepsPart old.book new.book (state old.flash) (state new.flash) → Outlasts state old new
outlasts-entry state old new e longer none run more handed roomy isolated =
    outlasts-part state old new (e ∷ []) longer (one-none e none) (survives-longer old.book new.book (e ∷ []) old.keeper.firm (length old.book.entries) (state old.flash) (state new.flash) longer run) more handed roomy isolated

-- a whole step
pub entry-stops : {F : Type 0} (state : F → FlashState) (old new : Seen F) (e : Entry) → IsLonger (begun old.book) new.book (e ∷ []) → IsFalse (completes e) → Survives old.book old.keeper.firm (length old.book.entries) (state old.flash) (state new.flash) → IsSafe old.book old.keeper.saver old.keeper.firm (state old.flash) →
    IsSafeNow (state new.flash) new.book new.keeper → old.keeper.firm ≤ new.keeper.firm → LeavesRoomy state old new → LeavesIsolated old.book new.book (state old.flash) (state new.flash) → OutlastsStops state old new
entry-stops state old new e longer none run was safe more roomy isolated =
    let P : Entry → Type 0 = λ x. IsFalse (is_owed (state new.flash).moment x) in
    outlasts-stops state old new (e ∷ []) longer.config_is longer.found_is longer.opened_is longer.entries_are was.at.firm_is
    (All-cons P e [] (unowed (state new.flash).moment e none) (All-nil P))
    (survives-longer (begun old.book) new.book (e ∷ []) old.keeper.firm (length old.book.entries) (state old.flash) (state new.flash) longer run) safe more roomy isolated

-- no call loses nothing
pub survives-uncalled : (b : BookSeen) (firm from : ℕ) (f : FlashState) → Survives b firm from f f
survives-uncalled b firm from f = no_run f (λ m image. IsSafeImage b.config b.found b.opened b.entries firm from image)

-- ---- an answer that changes nothing

-- the flash was read from, or not called
module _ (handed : Counts) (f n : FlashState) (b d : BookSeen) (queue number : ℕ) (command : Command) (reply : Reply) (moment : ℕ) (done : Done) (k : KeeperSeen) (order : IsInOrder b) (was : IsKept handed f b k) (read : IsReadFrom f n)
    (ends : book.Completes b d [] queue number command reply moment done) (unapplied : reply.applied ≡ false) (none : IsFalse (is_completed command reply)) (owners : ChangesOwners b.pages d.pages) where
  pub answered-safe : IsSafe d k.saver k.firm n
  answered-safe = safe-answered b d queue number command reply moment done k.saver k.firm n order ends unapplied none owners (safe-fetched b k.saver k.firm f n read was.safe)

  pub answered-kept : IsKept handed n d k
  answered-kept = kept-on handed f n b d (host queue number command reply moment ∷ []) k was ends.step read.kept.faults answered-safe

-- ---- a write that is started

module _ (handed : Counts) (f : FlashState) (b d : BookSeen) (queue number : ℕ) (command : Command) (ticket : Ticket) (k : KeeperSeen) (order : IsInOrder b) (was : IsKept handed f b k) (starts : book.Starts b d queue number command ticket) (owners : ChangesOwners b.pages d.pages) where
  pub started-safe : IsSafe d k.saver k.firm f
  started-safe = safe-started b d queue number command ticket k.saver k.firm f order starts owners was.safe

  pub started-kept : IsKept handed f d k
  started-kept = kept-on handed f f b d _ k was starts.step (omega arith) started-safe

-- ---- what was counted

-- no fault that was counted before is forgotten
pub low-faults : (handed : Counts) (b : BookSeen) (f : FlashState) → IsLedger handed b f → handed.faults ≤ f.faults
low-faults handed b f ledger =
    let more = more-mono handed.faults 0 (count_by is_media_reply b.entries) ledger.handed_is (omega arith) in
    let none = counted_more-none handed.faults in
    let all = ledger.counted.media_replies in
    omega (arith, more, none, all)
