-- How a group begins a command: it refuses it, reads for it, or starts it.
use Rattle.std.proofs.Common.{◌≡◌, ℕ, ◌<◌, arith, Bool, true, false, ◌||◌, List, [], ◌∷◌, ◌++◌, refl, ap, sym, ◌∙◌, subst, inl, inr, Some, None}
use Rattle.std.specs.Prelude.{IsFalse, IsTrue, not, is_some}
use Rattle.std.specs.List.{list_all, list_any}
use Rattle.std.proofs.lemmas.Bool.{false≢true}
use Rattle.std.proofs.lemmas.List.{append-nil}
use Rattle.std.proofs.lemmas.List.Folds.{list_any-append}
use Rattle.fdp_base.specs.declared.command.Command.{Command}
use Rattle.fdp_base.specs.declared.command.Command.TheVariants as commands
use Rattle.fdp_base.specs.declared.command.Read.{Read}
use Rattle.fdp_base.specs.declared.entry.Entry.TheVariants as entries
use Rattle.fdp_base.specs.declared.entry.Reply.{Reply}
use Rattle.fdp_base.specs.declared.entry.Spot.{Spot}
use Rattle.fdp_base.specs.declared.status.Status.{Status}
use Rattle.fdp_base.specs.CommandKinds.{IsWellFormed, is_saved, is_write}
use Rattle.fdp_relocation.specs.fdp_book.declared.room.Replies.{Replies}
use Rattle.fdp_relocation.specs.fdp_book.declared.ticket.Done.{Done}
use Rattle.fdp_relocation.specs.fdp_book.declared.ticket.Ticket.{Ticket}
use Rattle.fdp_relocation.specs.fdp_book.Book.{BookSeen, IsLed, point_in, state_in}
use Rattle.fdp_relocation.specs.fdp_book.FirstSteps.{is_answered}
use Rattle.fdp_relocation.specs.fdp_book.Stages.{IsFree}
use Rattle.fdp_relocation.specs.fdp_book.Steps as book
use Rattle.fdp_relocation.proofs.fdp_book.Histories.Commanded.{success-follows}
use Rattle.fdp_relocation.proofs.fdp_book.Histories.Follows.{accepted-blocks, read-follows, refused-follows, unread-follows}
use Rattle.fdp_calls.specs.Calls.{FailedAt, MakesCalls, fetch_at, has_failed}
use Rattle.fdp_calls.specs.Media.{IsReadFrom}
use Rattle.fdp_calls.proofs.Made.{counted_more-none, failed-last}
use Rattle.fdp_core.specs.Answers.{EndsAtOnce, Starts}
use Rattle.fdp_core.specs.Fetches.{Fetches, MakesFetches, fetches_of, pages_of}
use Rattle.fdp_core.specs.ReadSteps.{Reads, ReadsAll}
use Rattle.fdp_core.specs.Seen.{HasMoments, Seen}
use Rattle.fdp_core.specs.Sound.{IsSound, IsWhole}
use Rattle.fdp_core.specs.Stops.{OutlastsStops}
use Rattle.fdp_core.proofs.Apart.{apart-answered, apart-started, known-begun, safe-now, sound-isolated}
use Rattle.fdp_core.proofs.Ends.{no-fetches}
use Rattle.fdp_core.proofs.Grown.{adds, completes, host, matches-none}
use Rattle.fdp_core.proofs.Isolating.{data-read, leaves-data}
use Rattle.fdp_core.proofs.Kept.{kept-begun}
use Rattle.fdp_core.proofs.Places.{moment-new}
use Rattle.fdp_core.proofs.Reading.{length-blocks_from}
use Rattle.fdp_core.proofs.Sound.{IsSameFlash, begun, same-flash, sound-begun, sound-told}
use Rattle.fdp_core.proofs.Roomy.{leaves-read}
use Rattle.fdp_core.proofs.Wholes.{answered-kept, entry-stops, order-begun}
use Rattle.fdp_image.specs.Kept.{is_completed}
use Rattle.fdp_loading.specs.fdp_survival.Books.{IsInOrder}
use Rattle.fdp_loading.proofs.fdp_survival.Steps.{survives-fetched}
use Rattle.fdp_relocation.specs.fdp_keeper.Keeper.{KeeperSeen}
use Rattle.fdp_flash.specs.FlashState.{Call, FlashState, IsWellFormed as IsFlashFormed}
use Rattle.fdp_history.specs.OrderlyState.{IsOrderlyState}
use Rattle.fdp_loading.specs.fdp_isolation.Laned.{IsKnown}
use Rattle.fdp_loading.specs.fdp_ledger.declared.counts.Counts.{Counts}
use Rattle.fdp_loading.specs.fdp_ledger.Calls.{MayTell, OnlyFetches, is_fetch}
use Rattle.fdp_loading.specs.fdp_ledger.Ledger.{IsLedger}
use Rattle.fdp_loading.proofs.fdp_ledger.Blank.{emptied-read, erased-none}
use Rattle.fdp_loading.specs.fdp_ledger.Told.{tells_failure}
use Rattle.fdp_loading.proofs.fdp_ledger.Answered.{ledger-answered}
use Rattle.fdp_loading.proofs.fdp_ledger.Moments.{may-tell}
use Rattle.fdp_loading.proofs.fdp_ledger.Started.{ledger-started}
use Rattle.fdp_relocation.specs.fdp_pages.Steps.{ChangesOwners}
use Rattle.fdp_rules.specs.Answer.{IsSuccess, bare}
use Rattle.fdp_rules.specs.Change.{is_media_error}
use Rattle.fdp_rules.specs.Refusal.{refusal_of}
use Rattle.fdp_rules.specs.Step.{Follows, IsQueue}
use Rattle.fdp_roominess.proofs.Answered.{room-answered, room-started}
use Rattle.fdp_roominess.proofs.Runs.{keeps-well}
use Rattle.fdp_rules.proofs.Refusing.{refused-fine}
use Rattle.fdp_rules.proofs.Effects.{by-effect}
use Rattle.fdp_base.proofs.Writes.{by-write}

-- ---- a step that completes a command

-- what a step needs that only answers: the flash was read from, or not called; the answer may follow, and a media error has its fault
record MayAnswer (handed : Counts) (f n : FlashState) (b : BookSeen) (queue number : ℕ) (command : Command) (reply : Reply) (moment : ℕ) : Type 0 where
  known : IsKnown b
  flash : IsSameFlash f n
  fetches : OnlyFetches f n
  follows : (IsTrue (is_media_error reply.status) → HasMoments n) → Follows n.told b.config (point_in b) (host queue number command reply moment)
  told : IsTrue (is_media_error reply.status) → MayTell handed b n moment
  unapplied : reply.applied ≡ false

sound-answered : (handed : Counts) (f n : FlashState) (b d : BookSeen) (block : List ℕ) (queue number : ℕ) (command : Command) (reply : Reply) (moment : ℕ) (done : Done) →
    IsSound handed f b block → MayAnswer handed f n b queue number command reply moment → IsLed d → book.Completes (begun b) d [] queue number command reply moment done → ChangesOwners b.pages d.pages → IsSound handed n d block
sound-answered handed f n b d block queue number command reply moment done so may led ends owners =
    let was = sound-begun handed f b block so in
    sound-told handed f n (begun b) d (host queue number command reply moment) block block was may.flash ends.step owners refl may.follows
    (ledger-answered handed (begun b) d f n queue number command reply moment done ends owners may.fetches
    (λ error. let t = may.told error in record { fault = t.fault; until = t.until }) was.ledger)
    (apart-answered f n (begun b) d queue number command reply moment done (known-begun b may.known) led may.flash ends owners may.unapplied was.apart)
    (keeps-well handed.faults f.faults n.faults f.told n.told (begun b) d (host queue number command reply moment ∷ []) ends.step may.flash.told may.fetches.made.run.faults was.room refl
    (room-answered (begun b) d queue number command reply moment done (known-begun b may.known) led ends owners may.unapplied))
    refl

-- a step of a group that is seen so answers a command, with no change; the flash was read from, or not called
pub record AnswersCommand {F : Type 0} (state : F → FlashState) (x y : F) (handed : Counts) (b d : BookSeen) (k : KeeperSeen) (block : List ℕ) (seen : Seen F) (queue number : ℕ) (command : Command) (reply : Reply) (moment : ℕ) (done : Done) : Type 0 where
  pub view_is : ◌≡◌ {A = Seen F} (record { book = b; keeper = k; handed = handed; flash = x }) seen
  pub order : IsInOrder b
  pub then_known : IsKnown d
  pub whole : IsWhole handed (state x) b k block
  pub read : IsReadFrom (state x) (state y)
  pub now : BookSeen
  pub now_is : now ≡ begun b
  pub ends : book.Completes now d [] queue number command reply moment done
  pub owners : ChangesOwners now.pages d.pages

module _ {F : Type 0} {state : F → FlashState} {x y : F} {handed : Counts} {b d : BookSeen} {k : KeeperSeen} {block : List ℕ} {seen : Seen F} {queue number : ℕ} {command : Command} {reply : Reply} {moment : ℕ} {done : Done} (h : AnswersCommand state x y handed b d k block seen queue number command reply moment done) where
  -- from the book before the step began
  pub completed : book.Completes (begun b) d [] queue number command reply moment done
  completed = subst (λ (n : BookSeen). book.Completes n d [] queue number command reply moment done) h.now_is h.ends

  pub owners : ChangesOwners b.pages d.pages
  owners = subst (λ (n : BookSeen). ChangesOwners n.pages d.pages) h.now_is h.owners

  pub answered-stands : reply.applied ≡ false → IsFalse (is_completed command reply) → IsSound handed (state y) d block → IsWhole handed (state y) d k block × OutlastsStops state seen (record { book = d; keeper = k; handed = handed; flash = y })
  answered-stands unapplied none so =
      let whole : IsWhole handed (state y) d k block =
      record { sound = so; kept = answered-kept handed (state x) (state y) (begun b) d queue number command reply moment done k (order-begun b h.order) (kept-begun handed (state x) b k h.whole.kept) h.read completed unapplied none owners } in
      let now = safe-now handed (state y) d k block h.then_known whole in (
        whole,
        subst (λ (s : Seen F). OutlastsStops state s (record { book = d; keeper = k; handed = handed; flash = y })) h.view_is
            (entry-stops state (record { book = b; keeper = k; handed = handed; flash = x }) (record { book = d; keeper = k; handed = handed; flash = y }) (host queue number command reply moment) completed.step none
            (survives-fetched b k.saver k.firm (state x) (state y) h.read h.whole.kept.safe (sound-isolated handed (state x) b block h.order.known h.whole.sound)) h.whole.kept.safe now (omega arith)
            (leaves-read handed (state x) (state y) b k block h.order.known h.whole h.read.kept.faults h.read)
            (leaves-data b d (state x) (state y) completed.step.config_is completed.step.found_is completed.step.opened_is (data-read b.config (state x) (state y) h.read) now.isolated)),
      )

-- an answer of no media error tells of no failed call
quiet : (queue number : ℕ) (command : Command) (reply : Reply) (moment : ℕ) → is_media_error reply.status ≡ false → list_any tells_failure (host queue number command reply moment ∷ []) ≡ false
quiet queue number command reply moment fine = none-of (is_media_error reply.status) fine
  where
    none-of : (b : Bool) → b ≡ false → ((b || false || false) || false) ≡ false
    none-of true e = e
    none-of false e = refl

-- ---- refusals

-- a command is refused
pub record IsRefusal (b : BookSeen) (queue number : ℕ) (command : Command) (status : Status) (reply : Reply) : Type 0 where
  pub queue_is : IsQueue b.config queue
  pub formed : IsWellFormed b.config command
  pub free : IsFree (state_in b) queue number
  pub refused : refusal_of b.config (point_in b) command ≡ Some status
  pub reply_is : reply ≡ bare status false

refusal-fine : (b : BookSeen) (queue number : ℕ) (command : Command) (status : Status) (reply : Reply) → IsRefusal b queue number command status reply → is_media_error reply.status ≡ false
refusal-fine b queue number command status reply is = ap (λ (r : Reply). is_media_error r.status) is.reply_is ∙ refused-fine b.config (point_in b) command status is.refused

pub sound-refused : (handed : Counts) (f : FlashState) (b d : BookSeen) (block : List ℕ) (queue number : ℕ) (command : Command) (status : Status) (reply : Reply) (moment : ℕ) (done : Done) →
    IsSound handed f b block → IsKnown b → IsLed d → IsRefusal b queue number command status reply → book.Completes (begun b) d [] queue number command reply moment done → ChangesOwners b.pages d.pages → IsSound handed f d block
sound-refused handed f b d block queue number command status reply moment done so known led is ends owners =
    sound-answered handed f f b d block queue number command reply moment done so (record {
      known = known;
      flash = same-flash f;
      fetches = no-fetches f;
      follows = λ _. subst (λ (r : Reply). Follows f.told b.config (point_in b) (host queue number command r moment)) (sym is.reply_is) (refused-follows f.told b.config (point_in b) queue number command status moment is.queue_is is.formed is.free is.refused);
      told = λ wrong. absurd (false≢true (sym (refusal-fine b queue number command status reply is) ∙ wrong));
      unapplied = ap (λ (r : Reply). r.applied) is.reply_is;
    }) led ends owners

pub begins-refused : {F : Type 0} (state : F → FlashState) (old new : Seen F) (queue number : ℕ) (command : Command) (status : Status) (reply : Reply) (moment : ℕ) (done : Done) → 0 < old.book.spare → new.handed ≡ old.handed → new.flash ≡ old.flash →
    IsRefusal old.book queue number command status reply → book.Completes (begun old.book) new.book [] queue number command reply moment done → moment ≡ (state new.flash).moment → EndsAtOnce state old new queue number command done
begins-refused state old new queue number command status reply moment done spare handed same is ends moment_is =
    let fine = refusal-fine old.book queue number command status reply is in
    record {
      calls = [];
      completes = completes state old new [] queue number command reply moment [] done spare (record {
        longer = ends.step;
        done_is = ends.done_is;
        handed = handed;
        matches = matches-none state old.flash new.flash (host queue number command reply moment ∷ []) same refl (quiet queue number command reply moment fine) (λ unit. refl);
        moment_is = λ _. moment_is;
        failed = sym fine;
        media = λ wrong. absurd (false≢true (sym fine ∙ wrong));
      });
      came = inl (record { status = status; refused = is.refused; reply_is = ap (λ (d : Done). d.reply) ends.done_is ∙ is.reply_is; none = refl; uncalled = same });
    }

-- ---- answers that change nothing

-- a command that is not refused is answered, without a change
pub record IsAnswer (told : Bool) (b : BookSeen) (queue : ℕ) (command : Command) (reply : Reply) : Type 0 where
  pub queue_is : IsQueue b.config queue
  pub formed : IsWellFormed b.config command
  pub accepted : refusal_of b.config (point_in b) command ≡ None
  pub other : is_write command ≡ false
  pub success : IsSuccess told b.config (point_in b) command reply
  pub unapplied : reply.applied ≡ false

-- one that is answered so is neither a write nor one that is saved
pub answered-other : (command : Command) → is_answered command ≡ true → is_write command ≡ false
answered-other command =
    by-write (λ x. is_answered x ≡ true → is_write x ≡ false) (λ w is. absurd (false≢true is)) (λ x none is. ap is_some none) command

pub answered-unsaved : (command : Command) → is_answered command ≡ true → is_saved command ≡ false
answered-unsaved =
    by-effect (λ x. is_answered x ≡ true → is_saved x ≡ false)
    (record {
      write = λ w is. absurd (false≢true is);
      zero = λ z is. absurd (false≢true is);
      dealloc = λ d is. kept d.deallocate is;
      delete = λ d is. absurd (false≢true is);
      update = λ u is. absurd (false≢true is);
      set_fdp = λ s is. absurd (false≢true is);
      set_events = λ s is. absurd (false≢true is);
      create = λ c is. absurd (false≢true is);
      nothing = λ x none is. none.saved;
    })
  where
    kept : (b : Bool) → not b ≡ true → b ≡ false
    kept true e = absurd (false≢true e)
    kept false e = refl

answer-fine : (told : Bool) (b : BookSeen) (queue : ℕ) (command : Command) (reply : Reply) → IsAnswer told b queue command reply → is_media_error reply.status ≡ false
answer-fine told b queue command reply is = ap is_media_error is.success.status

pub sound-succeeded : (handed : Counts) (f : FlashState) (b d : BookSeen) (block : List ℕ) (queue number : ℕ) (command : Command) (reply : Reply) (moment : ℕ) (done : Done) → IsSound handed f b block → IsKnown b → IsLed d → IsAnswer f.told b queue command reply
    → book.Completes (begun b) d [] queue number command reply moment done → ChangesOwners b.pages d.pages → IsSound handed f d block
sound-succeeded handed f b d block queue number command reply moment done so known led is ends owners =
    sound-answered handed f f b d block queue number command reply moment done so (record {
      known = known;
      flash = same-flash f;
      fetches = no-fetches f;
      follows = λ _. success-follows f.told b.config (point_in b) queue number command reply moment is.queue_is is.formed is.accepted is.other is.success;
      told = λ wrong. absurd (false≢true (sym (answer-fine f.told b queue command reply is) ∙ wrong));
      unapplied = is.unapplied;
    }) led ends owners

pub begins-succeeded : {F : Type 0} (state : F → FlashState) (old new : Seen F) (queue number : ℕ) (command : Command) (reply : Reply) (moment : ℕ) (done : Done) → 0 < old.book.spare → new.handed ≡ old.handed → new.flash ≡ old.flash →
    IsAnswer (state old.flash).told old.book queue command reply → book.Completes (begun old.book) new.book [] queue number command reply moment done → moment ≡ (state new.flash).moment → EndsAtOnce state old new queue number command done
begins-succeeded state old new queue number command reply moment done spare handed same is ends moment_is =
    let fine = answer-fine (state old.flash).told old.book queue command reply is in
    record {
      calls = [];
      completes = completes state old new [] queue number command reply moment [] done spare (record {
        longer = ends.step;
        done_is = ends.done_is;
        handed = handed;
        matches = matches-none state old.flash new.flash (host queue number command reply moment ∷ []) same refl (quiet queue number command reply moment fine) (λ unit. refl);
        moment_is = λ _. moment_is;
        failed = sym fine;
        media = λ wrong. absurd (false≢true (sym fine ∙ wrong));
      });
      came = inr (inr (inl (record {
        accepted = is.accepted;
        unsaved = sym is.success.applied ∙ is.unapplied;
        success = subst (IsSuccess (state old.flash).told old.book.config (point_in old.book) command) (sym (ap (λ (d : Done). d.reply) ends.done_is)) is.success;
        none = refl;
        uncalled = same;
      })));
    }

-- ---- writes that are started

pub sound-started : (handed : Counts) (f : FlashState) (b d : BookSeen) (block : List ℕ) (queue number : ℕ) (command : Command) (ticket : Ticket) →
    IsSound handed f b block → IsKnown b → IsLed d → book.Starts (begun b) d queue number command ticket → ChangesOwners b.pages d.pages → IsSound handed f d block
sound-started handed f b d block queue number command ticket so known led is owners =
    let e = entries.Started (record { queue = queue; number = number; command = command; rg = is.target.rg; ruh = is.target.ruh; pid_valid = is.target.valid }) in
    let was = sound-begun handed f b block so in
    sound-told handed f f (begun b) d e block block was (same-flash f) is.step owners refl (λ _. is.follows f.told)
    (ledger-started handed (begun b) d f queue number command ticket is owners was.ledger)
    (apart-started f (begun b) d queue number command ticket (known-begun b known) led is owners was.apart)
    (keeps-well handed.faults f.faults f.faults f.told f.told (begun b) d (e ∷ []) is.step refl (omega arith) was.room refl (room-started (begun b) d queue number command ticket (known-begun b known) led is owners)) refl

pub begins-started : {F : Type 0} (state : F → FlashState) (old new : Seen F) (queue number : ℕ) (command : Command) (ticket : Ticket) → 0 < old.book.spare → new.handed ≡ old.handed → new.flash ≡ old.flash →
    refusal_of old.book.config (point_in old.book) command ≡ None → book.Starts (begun old.book) new.book queue number command ticket → Starts state old new queue number command ticket
begins-started state old new queue number command ticket spare handed same accepted is =
    let e = entries.Started (record { queue = queue; number = number; command = command; rg = is.target.rg; ruh = is.target.ruh; pid_valid = is.target.valid }) in
    record {
      accepted = accepted;
      few = accepted-blocks old.book.config (point_in old.book) command accepted;
      target = is.target;
      target_is = is.target_is;
      step = adds state old new (e ∷ []) [] refl spare is.step handed (matches-none state old.flash new.flash (e ∷ []) same refl refl (λ unit. refl));
      ticket_is = is.ticket_is;
      going = is.going;
      uncalled = same;
    }

-- ---- reads

-- a read is not refused
pub record IsRead (b : BookSeen) (queue : ℕ) (command : Command) (x : Read) : Type 0 where
  pub command_is : command ≡ commands.Read x
  pub queue_is : IsQueue b.config queue
  pub formed : IsWellFormed b.config command
  pub accepted : refusal_of b.config (point_in b) command ≡ None

all-well : (pages : List Spot) → list_any has_failed (fetches_of pages) ≡ false
all-well [] = refl
all-well (page ∷ pages) = all-well pages

last-failed : (calls : List Call) (page : Spot) → list_any has_failed (calls ++ fetch_at page true ∷ []) ≡ true
last-failed calls page = list_any-append has_failed calls (fetch_at page true ∷ []) ∙ or-true (list_any has_failed calls)
  where
    or-true : (b : Bool) → b || true ≡ true
    or-true true = refl
    or-true false = refl

all-fetches : (pages : List Spot) (rest : List Call) → IsTrue (list_all is_fetch rest) → IsTrue (list_all is_fetch (fetches_of pages ++ rest))
all-fetches [] rest h = h
all-fetches (page ∷ pages) rest h = all-fetches pages rest h

-- the calls of a read are fetches, of which one failed or none
only-fetches : (f n : FlashState) (b : BookSeen) (x : Read) (failed : Bool) → IsReadFrom f n → (m : MakesFetches f n b x failed) → IsTrue (list_all is_fetch m.calls)
only-fetches f n b x true reads m = subst (λ (cs : List Call). IsTrue (list_all is_fetch cs)) (sym m.fetches.calls_are) (all-fetches (pages_of b x.nsid x.slba m.fetches.index) (fetch_at m.fetches.page true ∷ []) refl)
only-fetches f n b x false reads m =
    subst (λ (cs : List Call). IsTrue (list_all is_fetch cs)) (sym (m.fetches ∙ sym (append-nil (fetches_of (pages_of b x.nsid x.slba x.count))))) (all-fetches (pages_of b x.nsid x.slba x.count) [] refl)

failed-told : (f n : FlashState) (b : BookSeen) (x : Read) (failed : Bool) (m : MakesFetches f n b x failed) → list_any has_failed m.calls ≡ failed
failed-told f n b x true m = ap (list_any has_failed) m.fetches.calls_are ∙ last-failed (fetches_of (pages_of b x.nsid x.slba m.fetches.index)) m.fetches.page
failed-told f n b x false m = ap (list_any has_failed) m.fetches ∙ all-well (pages_of b x.nsid x.slba x.count)

-- the reply to a read is a media error exactly where a fetch failed
read-told : (f : FlashState) (b : BookSeen) (x : Read) (replies : Replies) (failed : Bool) → Reads f b x replies failed → is_media_error replies.history.status ≡ failed
read-told f b x replies true h = ap (λ (r : Reply). is_media_error r.status) h.history_is
read-told f b x replies false h = ap (λ (r : Reply). is_media_error r.status) h.twice.history_is

-- and changes nothing
pub read-unapplied : (f : FlashState) (b : BookSeen) (x : Read) (replies : Replies) (failed : Bool) → Reads f b x replies failed → replies.history.applied ≡ false
read-unapplied f b x replies true h = ap (λ (r : Reply). r.applied) h.history_is
read-unapplied f b x replies false h = ap (λ (r : Reply). r.applied) h.twice.history_is

-- the last fetch failed, at the moment of the flash
fetch-failed : (f n : FlashState) (b : BookSeen) (x : Read) (failed : Bool) → failed ≡ true → IsFlashFormed n → MakesFetches f n b x failed → FailedAt f n n.moment
fetch-failed f n b x false e formed m = absurd (false≢true e)
fetch-failed f n b x true e formed m =
    failed-last f n (fetches_of (pages_of b x.nsid x.slba m.fetches.index)) (fetch_at m.fetches.page true) formed (subst (MakesCalls f n) m.fetches.calls_are m.made) refl

-- the answer to a read may follow
read-may-follow : (handed : Counts) (f n : FlashState) (b : BookSeen) (queue number : ℕ) (x : Read) (replies : Replies) (failed : Bool) → IsLedger handed b f → IsOrderlyState b.config (state_in b) → IsFlashFormed n → IsRead b queue (commands.Read x) x → IsReadFrom f n →
    Reads f b x replies failed → MakesFetches f n b x failed → (IsTrue (is_media_error replies.history.status) → HasMoments n) → Follows n.told b.config (point_in b) (host queue number (commands.Read x) replies.history n.moment)
read-may-follow handed f n b queue number x replies true ledger orderly formed is reads h m moments =
    subst (λ (r : Reply). Follows n.told b.config (point_in b) (host queue number (commands.Read x) r n.moment)) (sym h.history_is)
    (unread-follows n.told b.config (point_in b) queue number x.nsid x.slba x.count n.moment is.queue_is is.formed is.accepted
    (moment-new handed b f n n.moment ledger reads.kept.moment (fetch-failed f n b x true refl formed m) (moments (ap (λ (r : Reply). is_media_error r.status) h.history_is))))
read-may-follow handed f n b queue number x replies false ledger orderly formed is reads h m moments =
    subst (λ (r : Reply). Follows n.told b.config (point_in b) (host queue number (commands.Read x) r n.moment)) (sym h.twice.history_is)
    (read-follows n.told b.config (point_in b) queue number x.nsid x.slba x.count h.bytes n.moment is.queue_is is.formed is.accepted
    (h.size ∙ sym (length-blocks_from b x.nsid x.slba x.count orderly)) (λ tells. h.blocks (sym reads.kept.told ∙ tells)))

same-by : (f n : FlashState) → IsReadFrom f n → IsSameFlash f n
same-by f n reads = record { geometry = reads.kept.geometry; told = reads.kept.told; moment = reads.kept.moment; cells = reads.cells }

-- a media error of a read has its fault
read-fault : (handed : Counts) (f n : FlashState) (b : BookSeen) (x : Read) (failed : Bool) → failed ≡ true → IsLedger handed b f → IsFlashFormed n → MakesFetches f n b x failed → MayTell handed b n n.moment
read-fault handed f n b x failed e ledger formed m =
    may-tell handed b b f n [] n.moment (record { config_is = refl; found_is = refl; opened_is = refl; entries_are = sym (append-nil b.entries); spare_is = refl; spent_is = refl; room_is = omega arith }) refl
    m.made.run.faults (m.made.fault (failed-told f n b x failed m ∙ e)).rose (fetch-failed f n b x failed e formed m) ledger

pub sound-read : (handed : Counts) (f n : FlashState) (b d : BookSeen) (block : List ℕ) (queue number : ℕ) (command : Command) (x : Read) (replies : Replies) (moment : ℕ) (done : Done) →
    IsSound handed f b block → IsKnown b → IsLed d → IsFlashFormed n → IsRead b queue command x → ReadsAll f n b x replies → moment ≡ n.moment →
    book.Completes (begun b) d [] queue number command replies.history moment done → ChangesOwners b.pages d.pages → IsSound handed n d block
sound-read handed f n b d block queue number command x replies moment done so known led formed is h moment_is ends owners =
    sound-answered handed f n b d block queue number command replies.history moment done so (record {
      known = known;
      flash = same-by f n h.read;
      fetches = record { calls = h.fetches.calls; made = h.fetches.made; fetches = only-fetches f n b x h.failed h.read h.fetches; read = h.read };
      follows = λ moments. subst (λ (m : ℕ). Follows n.told b.config (point_in b) (host queue number command replies.history m)) (sym moment_is)
          (subst (λ (y : Command). Follows n.told b.config (point_in b) (host queue number y replies.history n.moment)) (sym is.command_is)
          (read-may-follow handed f n b queue number x replies h.failed so.ledger known.orderly.state formed (subst (λ (y : Command). IsRead b queue y x) is.command_is is) h.read h.told h.fetches moments));
      told = λ error. subst (MayTell handed b n) (sym moment_is) (read-fault handed f n b x h.failed (sym (read-told f b x replies h.failed h.told) ∙ error) so.ledger formed h.fetches);
      unapplied = read-unapplied f b x replies h.failed h.told;
    }) led ends owners

pub read-completes : {F : Type 0} (state : F → FlashState) (old new : Seen F) (queue number : ℕ) (command : Command) (x : Read) (replies : Replies) (moment : ℕ) (done : Done) → 0 < old.book.spare → new.handed ≡ old.handed → IsFlashFormed (state new.flash) → IsRead old.book queue command x →
    ReadsAll (state old.flash) (state new.flash) old.book x replies → moment ≡ (state new.flash).moment → book.Completes (begun old.book) new.book [] queue number command replies.history moment done → EndsAtOnce state old new queue number command done
read-completes state old new queue number command x replies moment done spare handed formed is h moment_is ends =
    let f = state old.flash in
    let n = state new.flash in
    let told : list_any has_failed h.fetches.calls ≡ h.failed = failed-told f n old.book x h.failed h.fetches in
    let error = read-told f old.book x replies h.failed h.told in
    record {
      calls = h.fetches.calls;
      completes = completes state old new [] queue number command replies.history moment h.fetches.calls done spare (record {
        longer = ends.step;
        done_is = ends.done_is;
        handed = handed;
        matches = record {
          made = h.fetches.made;
          programs = h.read.programs ∙ sym (counted_more-none f.programs);
          failed = λ tells. told ∙ sym error ∙ told-of (is_media_error replies.history.status) tells;
          erased = λ tells. erased-none f.geometry n.cells _ (λ unit. refl);
          emptied = emptied-read f n _ h.read;
        };
        moment_is = λ _. moment_is;
        failed = told ∙ sym error;
        media = λ wrong. subst (FailedAt f n) (sym moment_is) (fetch-failed f n old.book x h.failed (sym error ∙ wrong) formed h.fetches);
      });
      came = inr (inl (record {
        accepted = is.accepted;
        read = x;
        command_is = is.command_is;
        fetches = subst (Fetches old.book x h.fetches.calls) (sym told) h.fetches.fetches;
        cells = h.read.cells;
      }));
    }
  where
    told-of : (b : Bool) → IsTrue ((b || false || false) || false) → b ≡ true
    told-of true e = refl
    told-of false e = absurd (false≢true e)
