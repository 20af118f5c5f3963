-- What stands behind a step that saved the change of a command and made it, whether or not that was told.
use Rattle.std.proofs.Common.{◌≡◌, ◌≢◌, ℕ, ◌+◌, ◌<◌, ◌≤◌, Bool, true, false, List, [], ◌∷◌, refl, sym, ◌∙◌, ap, not, subst, arith, length-append, ◌||◌}
use Rattle.std.specs.Prelude.{IsFalse, IsTrue}
use Rattle.std.specs.List.{count_by, list_any}
use Rattle.std.proofs.lemmas.List.Elements.{All-cons, All-nil}
use Rattle.fdp_base.specs.declared.command.Command.{Command}
use Rattle.fdp_base.specs.declared.entry.Entry.{Entry}
use Rattle.fdp_base.specs.declared.entry.Reply.{Reply}
use Rattle.fdp_base.specs.declared.status.TheConstants.Status as statuses
use Rattle.fdp_relocation.specs.fdp_book.declared.ticket.Done.{Done}
use Rattle.fdp_relocation.specs.fdp_book.Book.{BookSeen, state_in}
use Rattle.fdp_relocation.specs.fdp_book.Steps as book
use Rattle.fdp_calls.specs.Calls.{FailedAt, counted_more, has_failed}
use Rattle.fdp_core.specs.Seen.{HasMoments, Seen}
use Rattle.fdp_core.specs.Sound.{IsKept, IsSound, IsWhole}
use Rattle.fdp_core.specs.Steps as steps
use Rattle.fdp_core.specs.Stops.{OutlastsStops}
use Rattle.fdp_core.proofs.Apart.{sound-isolated}
use Rattle.fdp_core.proofs.Called.{last-failed}
use Rattle.fdp_core.proofs.Grown.{completes, host}
use Rattle.fdp_core.proofs.Ends.{no-read}
use Rattle.fdp_core.proofs.Kept.{kept-begun, kept-not-saved, kept-saved}
use Rattle.fdp_core.proofs.Isolating.{data-prefix, leaves-data}
use Rattle.fdp_core.proofs.Outlasting.{outlasts-stops}
use Rattle.fdp_core.proofs.Passing.{longer-none, prefix-matches, saving-prefix}
use Rattle.fdp_core.proofs.Places.{moment-new}
use Rattle.fdp_core.proofs.Refusals.{uncompleted}
use Rattle.fdp_core.proofs.Relocated.{sound-prefix}
use Rattle.fdp_core.proofs.Sound.{begun, sound-begun}
use Rattle.fdp_core.proofs.Wholes.{answered-kept, entry-stops, low-faults, order-begun, whole-begun}
use Rattle.fdp_relocation.specs.fdp_durability.Firm as durable
use Rattle.fdp_relocation.specs.fdp_durability.Saved.{firm_with}
use Rattle.fdp_relocation.proofs.fdp_durability.Owed.{unowed-late}
use Rattle.fdp_flash.specs.Failing.{FailsLast}
use Rattle.fdp_flash.specs.FlashState.{FlashState}
use Rattle.fdp_image.specs.Kept.{is_owed}
use Rattle.fdp_relocation.specs.fdp_keeper.Keeper.{KeeperSeen, KeepsEntry}
use Rattle.fdp_loading.specs.fdp_isolation.Laned.{IsKnown}
use Rattle.fdp_loading.specs.fdp_ledger.declared.counts.Counts.{Counts}
use Rattle.fdp_loading.specs.fdp_ledger.Ledger.{IsLedger}
use Rattle.fdp_loading.specs.fdp_ledger.Told.{is_media_reply, tells_failure}
use Rattle.fdp_loading.proofs.fdp_ledger.Moments.{may-tell}
use Rattle.fdp_relocation.specs.fdp_pages.Steps.{ChangesOwners}
use Rattle.fdp_rules.specs.Answer.{bare}
use Rattle.fdp_rules.specs.Change.{is_media_error}
use Rattle.fdp_rules.specs.Step.{IsNewMoment}
use Rattle.fdp_relocation.specs.fdp_saving.declared.saved.Saved.{Saved}
use Rattle.fdp_relocation.specs.fdp_saving.declared.saved.Saved.TheVariants as savings
use Rattle.fdp_relocation.proofs.fdp_saving.Failing.{unsaved_failed}
use Rattle.fdp_loading.specs.fdp_survival.Books.{IsInOrder, IsSafe, KeepsIsolated}
use Rattle.fdp_loading.proofs.fdp_survival.Steps.{safe-not-saved, safe-saved, survives-not-saved, survives-saved}
use Rattle.fdp_loading.proofs.fdp_survival.Units.{GoOn}
use Rattle.fdp_core.proofs.Roomy.{leaves-failed, leaves-saving}

-- ---- calls that failed at last

-- a saving that was not done failed at the moment of the flash
pub saving-failed : (f n : FlashState) (moment : ℕ) → FailsLast f n moment → FailedAt f n n.moment
saving-failed f n moment h = subst (FailedAt f n) h.moment_is (record { since = h.since; until = omega (arith, h.moment_is); failed = h.failed })

-- a reply may tell of it, and its moment is none of an earlier media error
pub record MayFault (handed : Counts) (b : BookSeen) (n : FlashState) : Type 0 where
  pub fault : counted_more handed.faults (count_by is_media_reply b.entries + 1) ≤ n.faults
  pub new : HasMoments n → IsNewMoment (state_in b) n.moment

pub may-fault : (handed : Counts) (b : BookSeen) (f n : FlashState) (moment : ℕ) → IsLedger handed b f → f.moment ≤ n.moment → f.faults ≤ n.faults → FailsLast f n moment → MayFault handed b n
may-fault handed b f n moment ledger later up fails =
    let failed = saving-failed f n moment fails in
    record {
      fault = (may-tell handed b b f n [] n.moment (longer-none b) refl up fails.faulted.rose failed ledger).fault;
      new = λ moments. moment-new handed b f n n.moment ledger later failed moments;
    }

-- ---- over the flash behind the saving

pub sound-behind : {F : Type 0} (state : F → FlashState) (x y : F) (handed : Counts) (b : BookSeen) (e : Entry) (k l : KeeperSeen) (block : List ℕ) (answer : Saved) → IsInOrder b → IsWhole handed (state x) b k block → KeepsEntry b e k l (state x) (state y) answer → IsSound handed (state y) (begun b) block
sound-behind state x y handed b e k l block answer order whole keeps =
    sound-begun handed (state y) b block
    (sound-prefix handed (state x) (state y) b keeps.saves.calls.calls block order.known (saving-prefix b e k.saver l.saver k.firm (state x) (state y) answer whole.kept.safe keeps.saves) whole.sound)

-- ---- the change was made

module _ {F : Type 0} (state : F → FlashState) (x y : F) (handed : Counts) (b d : BookSeen) (k l : KeeperSeen) (block : List ℕ) (queue number : ℕ) (command : Command) (reply : Reply) (done : Done) (answer : Saved) (order : IsInOrder b) (then_order : IsInOrder d)
    (whole : IsWhole handed (state x) b k block) (keeps : KeepsEntry b (host queue number command reply (state y).moment) k l (state x) (state y) answer)
    (ends : book.Completes (begun b) d [] queue number command reply (state y).moment done) where
  abbrev change : Entry
  change = host queue number command reply (state y).moment

  abbrev before : Seen F
  before = record { book = b; keeper = k; handed = handed; flash = x }

  abbrev after : Seen F
  after = record { book = d; keeper = l; handed = handed; flash = y }

  apart-before : KeepsIsolated (state x) b
  apart-before = sound-isolated handed (state x) b block order.known whole.sound

  module _ (go : GoOn b.pages.units d.pages.units) (so : IsSound handed (state y) d block) where
    apart-then : KeepsIsolated (state y) d
    apart-then = sound-isolated handed (state y) d block then_order.known so

    made-safe : (answer ≢ savings.Done → IsFalse (durable.completes change)) → IsSafe d l.saver l.firm (state y)
    made-safe none =
        subst (λ (firm : ℕ). IsSafe d l.saver firm (state y)) (sym keeps.firm_is)
        (safe-saved (begun b) d change k.saver l.saver k.firm (state x) (state y) answer (order-begun b order) whole.sound.geometry whole.sound.stored apart-before whole.kept.safe keeps.saves then_order ends.step go so.stored apart-then none)

    made-kept : reply.applied ≡ true → IsSafe d l.saver l.firm (state y) → IsKept handed (state y) d l
    made-kept applied safe =
        kept-saved handed (state x) (state y) (begun b) d change k l answer order.known.config (ap (λ (x : Bool). not (not x)) applied) (kept-begun handed (state x) b k whole.kept) (low-faults handed b (state x) whole.sound.ledger) ends.step
        (record { saves = keeps.saves; geometry = keeps.geometry; firm_is = keeps.firm_is }) safe

    firm-up : (z : Saved) → k.firm ≤ firm_with b.entries (change ∷ []) k.firm z
    firm-up savings.Done = let size = length-append b.entries (change ∷ []) in omega (arith, whole.kept.safe.at.within, size)
    firm-up (savings.Doubtful moment) = omega arith
    firm-up (savings.Unsaved moment) = omega arith

    made-stops : IsSafe d l.saver l.firm (state y) → OutlastsStops state before after
    made-stops safe =
        let P : Entry → Type 0 = λ e. IsFalse (is_owed (state y).moment e) in
        outlasts-stops state before after (change ∷ []) ends.step.config_is ends.step.found_is ends.step.opened_is ends.step.entries_are whole.kept.safe.at.firm_is
        (All-cons P change [] (unowed-late (state y).moment (record { queue = queue; number = number; command = command; reply = reply; moment = (state y).moment }) (omega arith)) (All-nil P))
        (survives-saved (begun b) d change k.saver l.saver k.firm (state x) (state y) answer (order-begun b order) whole.sound.geometry whole.sound.stored apart-before whole.kept.safe keeps.saves then_order ends.step go so.stored apart-then)
        (record { safe = safe; isolated = apart-then }) (subst (λ (n : ℕ). k.firm ≤ n) (sym keeps.firm_is) (firm-up answer))
        (leaves-saving handed (state x) (state y) (begun b) k block (order-begun b order).known (whole-begun handed (state x) b k block whole) keeps.saves.calls.made.run.faults change d then_order.known so.room keeps.saves.calls.made.run.told ends.step l.saver answer keeps.saves)
        (leaves-data b d (state x) (state y) ends.step.config_is ends.step.found_is ends.step.opened_is
        (data-prefix b (state x) (state y) keeps.saves.calls.calls (saving-prefix b change k.saver l.saver k.firm (state x) (state y) answer whole.kept.safe keeps.saves)) apart-then)

    pub made-whole : reply.applied ≡ true → (answer ≢ savings.Done → IsFalse (durable.completes change)) → IsWhole handed (state y) d l block × OutlastsStops state before after
    made-whole applied none = let safe = made-safe none in (record { sound = so; kept = made-kept applied safe }, made-stops safe)

  -- what it comes to
  pub made-completes : 0 < b.spare → list_any has_failed keeps.saves.calls.calls ≡ is_media_error reply.status → (IsTrue (is_media_error reply.status) → FailedAt (state x) (state y) (state y).moment) → steps.Completes state before after [] queue number command keeps.saves.calls.calls done
  made-completes spare failed media =
      completes state before after [] queue number command reply (state y).moment keeps.saves.calls.calls done spare (record {
        longer = ends.step;
        done_is = ends.done_is;
        handed = refl;
        matches = prefix-matches b (state x) (state y) keeps.saves.calls.calls (change ∷ []) whole.sound.geometry refl (told failed) (λ unit. refl) (saving-prefix b change k.saver l.saver k.firm (state x) (state y) answer whole.kept.safe keeps.saves);
        moment_is = λ _. refl;
        failed = failed;
        media = media;
      })
    where
      told : list_any has_failed keeps.saves.calls.calls ≡ is_media_error reply.status → list_any tells_failure (change ∷ []) ≡ true → list_any has_failed keeps.saves.calls.calls ≡ true
      told same tells = same ∙ or-false (is_media_error reply.status) tells where
        or-false : (e : Bool) → (e || false || false) || false ≡ true → e ≡ true
        or-false true h = refl
        or-false false h = h

-- ---- the change was not saved, and is not made

-- the command ends with Write Fault
module _ {F : Type 0} (state : F → FlashState) (x y : F) (handed : Counts) (b d : BookSeen) (k l : KeeperSeen) (block : List ℕ) (queue number : ℕ) (command : Command) (e : Entry) (moment : ℕ) (done : Done) (order : IsInOrder b) (whole : IsWhole handed (state x) b k block)
    (keeps : KeepsEntry b e k l (state x) (state y) (savings.Unsaved moment)) (ends : book.Completes (begun b) d [] queue number command (bare statuses.WRITE_FAULT false) (state y).moment done) (owners : ChangesOwners b.pages d.pages) where
  abbrev answer : Entry
  answer = host queue number command (bare statuses.WRITE_FAULT false) (state y).moment

  apart-old : KeepsIsolated (state x) b
  apart-old = sound-isolated handed (state x) b block order.known whole.sound

  unmade-before : IsKept handed (state y) b l
  unmade-before =
      kept-not-saved handed (state x) (state y) b e k l moment whole.kept (low-faults handed b (state x) whole.sound.ledger) keeps
      (subst (λ (firm : ℕ). IsSafe b l.saver firm (state y)) (sym keeps.firm_is) (safe-not-saved b e k.saver l.saver k.firm (state x) (state y) moment order whole.sound.geometry whole.sound.stored apart-old whole.kept.safe keeps.saves))

  unmade-kept : IsKept handed (state y) d l
  unmade-kept =
      answered-kept handed (state y) (state y) (begun b) d queue number command (bare statuses.WRITE_FAULT false) (state y).moment done l (order-begun b order) (kept-begun handed (state y) b l unmade-before) (no-read (state y)) ends refl
      (uncompleted command (bare statuses.WRITE_FAULT false) refl) owners

  pub unmade-whole : IsKnown d → IsSound handed (state y) d block → IsWhole handed (state y) d l block × OutlastsStops state (record { book = b; keeper = k; handed = handed; flash = x }) (record { book = d; keeper = l; handed = handed; flash = y })
  unmade-whole then_known so = (
    record { sound = so; kept = unmade-kept },
    entry-stops state (record { book = b; keeper = k; handed = handed; flash = x }) (record { book = d; keeper = l; handed = handed; flash = y }) answer ends.step (uncompleted command (bare statuses.WRITE_FAULT false) refl)
        (survives-not-saved b e k.saver l.saver k.firm (state x) (state y) moment order whole.sound.geometry whole.sound.stored apart-old whole.kept.safe keeps.saves) whole.kept.safe (record { safe = unmade-kept.safe; isolated = sound-isolated handed (state y) d block then_known so }) (let same = keeps.firm_is in omega (arith, same))
        (leaves-failed handed (state x) (state y) b (low-faults handed b (state x) whole.sound.ledger) keeps.saves.ends.faulted.rose)
        (leaves-data b d (state x) (state y) ends.step.config_is ends.step.found_is ends.step.opened_is
        (data-prefix b (state x) (state y) keeps.saves.calls.calls (saving-prefix b e k.saver l.saver k.firm (state x) (state y) (savings.Unsaved moment) whole.kept.safe keeps.saves)) (sound-isolated handed (state y) d block then_known so)),
  )

  pub unmade-completes : 0 < b.spare → steps.Completes state (record { book = b; keeper = k; handed = handed; flash = x }) (record { book = d; keeper = l; handed = handed; flash = y }) [] queue number command keeps.saves.calls.calls done
  unmade-completes spare =
      let failed = last-failed keeps.saves.calls.calls (unsaved_failed k.saver keeps.saves.given.summary moment keeps.saves.calls.calls keeps.saves.calls.are) in
      completes state _ _ [] queue number command (bare statuses.WRITE_FAULT false) (state y).moment keeps.saves.calls.calls done spare (record {
        longer = ends.step;
        done_is = ends.done_is;
        handed = refl;
        matches = prefix-matches b (state x) (state y) keeps.saves.calls.calls (answer ∷ []) whole.sound.geometry refl (λ _. failed) (λ unit. refl)
            (saving-prefix b e k.saver l.saver k.firm (state x) (state y) (savings.Unsaved moment) whole.kept.safe keeps.saves);
        moment_is = λ _. refl;
        failed = failed;
        media = λ _. saving-failed (state x) (state y) moment keeps.saves.ends;
      })
