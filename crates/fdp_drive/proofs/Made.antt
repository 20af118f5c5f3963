-- A session, by what the crews of its drive have done.
use Rattle.std.proofs.Common.{◌≡◌, ◌≢◌, ℕ, zero, suc, ◌+◌, ◌-◌, ◌≤◌, get_or, List, [], ◌∷◌, ◌++◌, length, ap, sym, ◌∙◌, subst, arith, refl, inl, inr}
use Rattle.std.specs.Prelude.{All, None, Option, Some, if◌then◌else◌, map, nat_eq, option_and_then}
use mathlib.Core.List.{IsPrefix, Sublist, map-append, nil-sublist}
use Rattle.std.specs.List.{cons_option}
use Rattle.std.proofs.lemmas.Bool.{cases_lt}
use Rattle.std.proofs.lemmas.List.Elements.{All-head, All-tail}
use Rattle.fdp_base.specs.declared.command.Command.{Command}
use Rattle.fdp_base.specs.declared.config.DriveConfig.{DriveConfig}
use Rattle.fdp_base.specs.declared.entry.Entry.{Entry}
use Rattle.fdp_base.specs.declared.entry.Started.{Started}
use Rattle.fdp_base.specs.Records.{CarriesNone}
use Rattle.fdp_base.proofs.Records.{prefix_refl}
use Rattle.fdp_board.specs.Board.{AreCharged, Began, BoardSeen, EmptiedAreTold, HasServedNothing, IsRoomySince, IsSafeSince, IsUnfailing, StepsAreTold, began_with, items_of}
use Rattle.fdp_board.proofs.Charging.{none-charged}
use Rattle.fdp_board.proofs.Items.{entries-marked, none-carry, none-completes}
use Rattle.fdp_crews.specs.Crews.{trace_of}
use Rattle.fdp_crews.specs.Shifts.{HasLeft as LeavesOne, HasTrace, IsShift}
use Rattle.fdp_crews.specs.fdp_core.Seen.{Seen}
use Rattle.fdp_flash.specs.FlashState.{FlashState}
use Rattle.fdp_rules.specs.Queue.{HoldsWhole, IsSilent, KeepsQueueOrder, StartsOwn, numbered, started_by}
use Rattle.fdp_rules.specs.Step.{IsQueue}
use Rattle.fdp_crews.specs.fdp_workers.declared.ends.End.{End}
use Rattle.fdp_crews.specs.fdp_workers.declared.ends.End.TheVariants as ends
use Rattle.fdp_crews.specs.fdp_workers.declared.receipt.Receipt.{Receipt}
use Rattle.fdp_crews.specs.fdp_workers.Marks.{entry_in, mark_in}
use Rattle.fdp_crews.specs.fdp_workers.Queues.{receipts_of}
use Rattle.fdp_crews.specs.fdp_workers.Run.{Run}
use Rattle.fdp_drive.specs.Session.{EndsAs, HasLeft, IsSameDrive, IsSession}
use Rattle.fdp_base.specs.EntryKinds.{ServesNone}

-- ---- queues without a trace

beyond : (traces : List (List Command)) (i : ℕ) → length traces ≤ i → get_or traces i [] ≡ []
beyond [] i high = refl
beyond (t ∷ ts) zero high = absurd (omega (arith, high))
beyond (t ∷ ts) (suc i) high = beyond ts i (omega (arith, high))

-- a silent queue let no write go
none-own : (queue : ℕ) (trace : List Command) (es : List Entry) → IsSilent queue es → StartsOwn queue trace es
none-own queue trace es silent = subst (λ (xs : List (ℕ × Command)). Sublist xs (numbered trace)) (sym silent.starts) (nil-sublist (numbered trace))

-- ---- the drive

same-drive : {F : Type 0} (state : F → FlashState) (old new : BoardSeen F) → began_with state new ≡ began_with state old → IsSameDrive state old.group new.group
same-drive state old new same = record {
  config_is = ap (λ (b : Began). b.run.config) same;
  found_is = ap (λ (b : Began). b.run.found) same;
  opened_is = ap (λ (b : Began). b.opened) same;
  handed_is = ap (λ (b : Began). b.handed) same;
  told_is = ap (λ (b : Began). b.told) same;
  images_are = ap (λ (b : Began). b.tells_images) same;
  reliable_is = ap (λ (b : Began). b.reliable) same;
}

entries-of : {F : Type 0} (s : Seen F) → map entry_in (items_of s) ≡ s.book.entries
entries-of s = entries-marked s.book.found [] s.book.entries

goes-on : {F : Type 0} (old new : Seen F) → IsPrefix (items_of old) (items_of new) → IsPrefix old.book.entries new.book.entries
goes-on old new p =
    (map entry_in p.0, ap (λ (es : List Entry). es ++ map entry_in p.0) (sym (entries-of old)) ∙ sym (map-append entry_in (items_of old) p.0) ∙ ap (map entry_in) p.1 ∙ entries-of new)

-- ---- the session

module _ (run : Run) (traces : List (List Command)) (receipts : List (List Receipt)) (es : List Entry) (spent : ℕ) (end : End) (shift : IsShift run traces receipts es spent end) where
  queue-order : (c : DriveConfig) (queue : ℕ) → IsQueue c queue → KeepsQueueOrder queue (trace_of traces queue) es
  queue-order c queue is = elim (cases_lt (length traces) queue) [
    | inl high ↦ (numbered (trace_of traces queue), ap (λ (xs : List (ℕ × Command)). xs ++ numbered (trace_of traces queue)) (sym (shift.others queue high).completes))
    | inr most ↦ shift.orders queue (record { least = is.0; most = most })
  ]

  queue-starts : (c : DriveConfig) (queue : ℕ) → IsQueue c queue → StartsOwn queue (trace_of traces queue) es
  queue-starts c queue is = elim (cases_lt (length traces) queue) [
    | inl high ↦ none-own queue (trace_of traces queue) es (shift.others queue high)
    | inr most ↦ shift.starts queue (record { least = is.0; most = most })
  ]

  queue-whole : (c : DriveConfig) (queue : ℕ) → IsQueue c queue → ((queue : ℕ) → HasTrace traces queue → HoldsWhole queue (trace_of traces queue) es) → HoldsWhole queue (trace_of traces queue) es
  queue-whole c queue is whole = elim (cases_lt (length traces) queue) [
    | inl high ↦ (shift.others queue high).completes ∙ ap numbered (sym (beyond traces (queue - 1) (omega (arith, high))))
    | inr most ↦ whole queue (record { least = is.0; most = most })
  ]

left-in : {F : Type 0} (s : Seen F) (traces : List (List Command)) → length traces ≤ s.book.config.queues → LeavesOne traces s.book.entries → HasLeft s.book.config traces s.book.entries
left-in s traces few l = record { queue = l.queue; is_queue = (l.is_queue.least, omega (arith, l.is_queue.most, few)); left = l.left }

ended-as : {F : Type 0} (s : Seen F) (run : Run) (traces : List (List Command)) (receipts : List (List Receipt)) (end : End) → length traces ≤ s.book.config.queues → IsShift run traces receipts s.book.entries s.book.spent end → EndsAs s.book traces receipts end
ended-as s run traces receipts ends.Whole few shift =
    ((λ queue is. queue-whole run traces receipts s.book.entries s.book.spent ends.Whole shift s.book.config queue is (λ q has. (shift.ended.0 q has).whole)), shift.ended.1)
ended-as s run traces receipts ends.Turns few shift = (left-in s traces few shift.ended.0, shift.ended.1)
ended-as s run traces receipts ends.NoMemory few shift = elim shift.ended [
  | inl left ↦ inl (left-in s traces few left)
  | inr none ↦ inr none
]

pub session-made : {F : Type 0} (state : F → FlashState) (old new : BoardSeen F) (traces : List (List Command)) (receipts : List (List Receipt)) (end : End) → length traces ≤ old.group.book.config.queues → began_with state new ≡ began_with state old → IsPrefix (items_of old.group) (items_of new.group) →
    IsShift (began_with state old).run traces receipts (map entry_in (items_of new.group)) new.group.book.spent end → IsSafeSince new.group.handed.moment (state new.group.flash) new.group.book → IsRoomySince new.group.handed (state new.group.flash) new.group.book →
    AreCharged new.group.handed.moment (state new.group.flash) new.group.book.entries → IsUnfailing new.group.handed (state new.group.flash) → StepsAreTold new.group.book → EmptiedAreTold (state new.group.flash) new.group.book → IsSession state old.group new.group traces receipts end
session-made state old new traces receipts end few same prefix shift safe roomy charged unfailing steps emptied =
    let s = new.group in
    let r = (began_with state old).run in
    let here : IsShift r traces receipts s.book.entries s.book.spent end = subst (λ (es : List Entry). IsShift r traces receipts es s.book.spent end) (entries-of s) shift in
    let drive = same-drive state old new same in
    let found = ap (λ (b : Began). b.run.found) same in
    record {
      same = drive;
      goes_on = goes-on old.group s prefix;
      orders = λ queue is. queue-order r traces receipts s.book.entries s.book.spent end here s.book.config queue is;
      starts = λ queue is. queue-starts r traces receipts s.book.entries s.book.spent end here s.book.config queue is;
      others = here.others;
      receipts_are = record { count = here.receipts_are.count; each = λ i low. here.receipts_are.each i low ∙ ap (λ f. receipts_of f (i + 1) s.book.entries) (sym found) };
      ended = ended-as s r traces receipts end (subst (λ (c : DriveConfig). length traces ≤ c.queues) (sym drive.config_is) few) here;
      safe = safe;
      roomy = roomy;
      charged = charged;
      unfailing = unfailing;
      steps = steps;
      emptied = emptied;
    }

-- ---- entries that serve no host

none-starts : (queue : ℕ) (es : List Entry) → All ServesNone es → started_by queue es ≡ []
none-starts queue [] all = refl
none-starts queue (e ∷ es) all =
    ap (λ (o : Option Started). cons_option (option_and_then (λ (s : Started). if nat_eq s.queue queue then Some (s.number, s.command) else None) o) (started_by queue es)) (All-head ServesNone e es all).started
    ∙ none-starts queue es (All-tail ServesNone e es all)

none-silent : (queue : ℕ) (es : List Entry) → All ServesNone es → IsSilent queue es
none-silent queue es all = record { completes = none-completes queue es all; starts = none-starts queue es all }

-- nothing was served
pub session-unserved : {F : Type 0} (state : F → FlashState) (s : Seen F) (traces : List (List Command)) → HasServedNothing state s → IsSession state s s traces [] ends.NoMemory
session-unserved state s traces unserved = record {
  same = record { config_is = refl; found_is = refl; opened_is = refl; handed_is = refl; told_is = refl; images_are = refl; reliable_is = refl };
  goes_on = prefix_refl s.book.entries;
  orders = λ queue is. (numbered (trace_of traces queue), ap (λ (xs : List (ℕ × Command)). xs ++ numbered (trace_of traces queue)) (sym (silent queue).completes));
  starts = λ queue is. none-own queue (trace_of traces queue) s.book.entries (silent queue);
  others = λ queue high. silent queue;
  receipts_are = record { count = inr refl; each = λ i low. absurd (omega (arith, low)) };
  ended = inr (record { no_receipts = refl; silent = λ queue low. silent queue });
  safe = unserved.safe;
  roomy = unserved.roomy;
  charged = none-charged s.handed.moment (state s.flash) s.book.entries unserved.none;
  unfailing = unserved.unfailing;
  steps = unserved.steps;
  emptied = unserved.emptied;
} where
  silent : (queue : ℕ) → IsSilent queue s.book.entries
  silent queue = none-silent queue s.book.entries unserved.none

-- where it ended before it began
pub ended-early : {F X : Type 0} (items : X → List Receipt) (state : F → FlashState) (s new : Seen F) (traces : List (List Command)) (receipts : List X) (end : End) → new ≡ s → receipts ≡ [] → end ≡ ends.NoMemory → HasServedNothing state s → IsSession state s new traces (map items receipts) end
ended-early {F} {X} items state s new traces receipts end same none is unserved =
    subst (λ (x : Seen F). IsSession state s x traces (map items receipts) end) (sym same)
    (subst (λ (rs : List X). IsSession state s s traces (map items rs) end) (sym none)
    (subst (λ (e : End). IsSession state s s traces [] e) (sym is) (session-unserved state s traces unserved)))

-- no entry carries a number yet
pub none-marked : {F : Type 0} (s : Seen F) → All ServesNone s.book.entries → CarriesNone mark_in (items_of s)
none-marked s none = none-carry s.book.found [] s.book.entries none
