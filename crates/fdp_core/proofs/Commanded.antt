-- A command other than a write: what stands behind the step that saved its change and made it, could not save it, or answered it.
use Rattle.std.proofs.Common.{◌≡◌, ℕ, ◌+◌, ◌<◌, ◌≤◌, Bool, true, false, List, [], ◌∷◌, Option, refl, sym, ap, subst, arith, inr}
use Rattle.std.specs.Prelude.{IsTrue}
use Rattle.std.specs.List.{count_by}
use Rattle.std.proofs.lemmas.Bool.{false≢true}
use Rattle.fdp_base.specs.declared.command.Command.{Command}
use Rattle.fdp_base.specs.declared.config.DriveConfig.{DriveConfig}
use Rattle.fdp_base.specs.declared.config.Geometry.{Geometry}
use Rattle.fdp_base.specs.declared.entry.Reply.{Reply}
use Rattle.fdp_base.specs.declared.entry.Spot.{Spot}
use Rattle.fdp_base.specs.declared.status.TheConstants.Status as statuses
use Rattle.fdp_base.specs.CommandKinds.{is_setting, is_write}
use Rattle.fdp_base.specs.Placement.{classes_of}
use Rattle.fdp_relocation.specs.fdp_book.declared.ticket.Done.{Done}
use Rattle.fdp_relocation.specs.fdp_book.Book.{BookSeen, IsLed, point_in, state_in, written_in}
use Rattle.fdp_relocation.specs.fdp_book.Commanded.{AppliesTo, MayTakeEffect, applied_reply}
use Rattle.fdp_relocation.specs.fdp_book.Steps as book
use Rattle.fdp_relocation.proofs.fdp_book.Histories.Commanded.{effect-follows, unmade-follows, unsure-follows}
use Rattle.fdp_relocation.proofs.fdp_book.Longer.{written-one}
use Rattle.fdp_calls.specs.Calls.{counted_more}
use Rattle.fdp_core.specs.Answers.{EndsAtOnce, reply_to_change}
use Rattle.fdp_core.specs.Seen.{HasMoments, HoldsHistory, Seen}
use Rattle.fdp_core.specs.Sound.{IsSound, IsWhole}
use Rattle.fdp_core.specs.Steps as steps
use Rattle.fdp_core.specs.Stops.{OutlastsStops}
use Rattle.fdp_core.proofs.Apart.{apart-answered, apart-commanded, apart-set, known-begun}
use Rattle.fdp_core.proofs.Called.{last-failed}
use Rattle.fdp_core.proofs.Ends.{no-fetches}
use Rattle.fdp_core.proofs.Grown.{host}
use Rattle.fdp_core.proofs.Made.{MayFault, made-completes, made-whole, may-fault, saving-failed, sound-behind, unmade-completes, unmade-whole}
use Rattle.fdp_core.proofs.Refusals.{uncompleted}
use Rattle.fdp_core.proofs.Sound.{begun, same-flash, sound-entry, sound-told}
use Rattle.fdp_flash.specs.declared.cell.Cell.{Cell}
use Rattle.fdp_flash.specs.Failing.{FailsLast}
use Rattle.fdp_flash.specs.FlashState.{FlashState}
use Rattle.fdp_loading.specs.fdp_isolation.Laned.{IsKnown}
use Rattle.fdp_loading.proofs.fdp_isolation.Keeping.{FillsNoMore, FillsNone, left-fill, owners-fill, set-none}
use Rattle.fdp_relocation.specs.fdp_keeper.Keeper.{KeeperSeen, KeepsEntry}
use Rattle.fdp_loading.specs.fdp_ledger.declared.counts.Counts.{Counts}
use Rattle.fdp_loading.specs.fdp_ledger.Told.{is_media_reply}
use Rattle.fdp_loading.proofs.fdp_ledger.Answered.{left-keep, ledger-answered, ledger-commanded, owners-keep}
use Rattle.fdp_loading.proofs.fdp_ledger.Ledgers.{KeepsFree}
use Rattle.fdp_relocation.specs.fdp_locations.Stored.{HoldsWritten}
use Rattle.fdp_relocation.specs.fdp_locations.Written.{Written}
use Rattle.fdp_relocation.proofs.fdp_locations.Left.{holds-left, left-none}
use Rattle.fdp_relocation.specs.fdp_pages.PageTables.{PageTables}
use Rattle.fdp_relocation.specs.fdp_pages.Steps.{ChangesOwners, LeavesUnits}
use Rattle.fdp_relocation.proofs.Moving.{blank-recounted}
use Rattle.fdp_rules.specs.Answer.{bare}
use Rattle.fdp_rules.specs.Change.{is_media_error}
use Rattle.fdp_rules.specs.Step.{Follows}
use Rattle.fdp_relocation.specs.fdp_saving.declared.saved.Saved.{Saved}
use Rattle.fdp_relocation.specs.fdp_saving.declared.saved.Saved.TheVariants as savings
use Rattle.fdp_relocation.proofs.fdp_saving.Failing.{doubtful_failed, saved_well}
use Rattle.fdp_loading.proofs.fdp_isolation.LeftAlone.{KeepsShut, left-shut, owners-shut}
use Rattle.fdp_loading.specs.fdp_survival.Books.{IsInOrder, KeepsApart}
use Rattle.fdp_loading.proofs.fdp_survival.Units.{GoOn, left-go, recounted-go}
use Rattle.fdp_roominess.proofs.Answered.{room-answered, room-applied}
use Rattle.fdp_roominess.proofs.Runs.{keeps-well}
use Rattle.fdp_relocation.proofs.fdp_book.PageChanges.{by-pages}
use Rattle.fdp_rules.proofs.Effects.{each-setting}

-- ---- what a change does to the pages

-- what stands between the pages and a flash, whatever a command does to them
record LeavesPages (t now : PageTables) : Type 0 where
  free : KeepsFree t now
  go : GoOn t.units now.units
  shut : KeepsShut t now
  holds : (g : Geometry) (cells : List Cell) (written : Spot → Option Written) → HoldsWritten g cells written t.units → HoldsWritten g cells written now.units

by-owners : (t now : PageTables) → ChangesOwners t now → LeavesPages t now
by-owners t now h = record {
  free = owners-keep t now h;
  go = recounted-go t.units now.units now.owners h.units;
  shut = owners-shut t now h;
  holds = λ g cells written was. record { lie = was.lie; whole = was.whole; blank = blank-recounted g cells t.units now.units now.owners h.units was.blank };
}

by-left : (t now : PageTables) → LeavesUnits t now → LeavesPages t now
by-left t now h = record { free = left-keep t now h; go = left-go t.units now.units h.units; shut = left-shut t now h; holds = λ g cells written was. holds-left g cells written t now h was }

by-none : (t now : PageTables) → now ≡ t → LeavesPages t now
by-none t now same = subst (LeavesPages t) (sym same) (by-left t t (left-none t))

pages-left : (c : DriveConfig) (command : Command) (t now : PageTables) → AppliesTo c command t now → LeavesPages t now
pages-left c command t now h =
    by-pages c (λ x old new. LeavesPages old new)
    (record {
      written = λ w old new changes. by-owners old new changes;
      still = λ x old new same. by-none old new same;
      gone = λ x old new lets. by-owners old new lets.changes;
      left = λ x old new leaves. by-left old new leaves.leaves;
      set = λ s old new sets. by-left old new sets.sets.leaves;
    })
    command t now h

fills-none-more : (t now : PageTables) → now ≡ t → FillsNoMore t now
fills-none-more t now same = subst (FillsNoMore t) (sym same) (record { classes = refl; filled = λ rg ruh unit e. e; targets = λ rg unit lane e. e })

-- one that is no setting lets nothing more be filled
fills-no-more : (c : DriveConfig) (command : Command) (t now : PageTables) → is_setting command ≡ false → AppliesTo c command t now → FillsNoMore t now
fills-no-more c command t now other h =
    by-pages c (λ x old new. is_setting x ≡ false → FillsNoMore old new)
    (record {
      written = λ w old new changes unset. owners-fill old new changes;
      still = λ x old new same unset. fills-none-more old new same;
      gone = λ x old new lets unset. owners-fill old new lets.changes;
      left = λ x old new leaves unset. left-fill old new leaves.leaves leaves.classes;
      set = λ s old new sets unset. absurd (false≢true (sym unset));
    })
    command t now h other

-- behind a setting nothing is filled
fills-nothing : (c : DriveConfig) (command : Command) (t now : PageTables) → is_setting command ≡ true → AppliesTo c command t now → FillsNone now
fills-nothing c command t now sets h =
    each-setting (λ x. AppliesTo c x t now → FillsNone now) (λ s applies. set-none t now (classes_of c s.enable s.index) applies.sets) command sets h

-- ---- its change was made

apart-applied : (f : FlashState) (b d : BookSeen) (queue number : ℕ) (command : Command) (reply : Reply) (moment : ℕ) (done : Done) → IsKnown b → IsLed d → book.Completes b d [] queue number command reply moment done → AppliesTo b.config command b.pages d.pages
    → is_write command ≡ false → reply.applied ≡ true → KeepsApart f b → KeepsApart f d
apart-applied f b d queue number command reply moment done known led ends applies other made h = by (is_setting command) refl where
  keeps : KeepsShut b.pages d.pages
  keeps = (pages-left b.config command b.pages d.pages applies).shut

  by : (sets : Bool) → is_setting command ≡ sets → KeepsApart f d
  by true is = apart-set f b d queue number command reply moment done known led ends (fills-nothing b.config command b.pages d.pages is applies) keeps is made h
  by false is = apart-commanded f b d queue number command reply moment done known led ends (fills-no-more b.config command b.pages d.pages is applies) keeps other is h

held-applied : (n : FlashState) (b d : BookSeen) → LeavesPages b.pages d.pages → written_in d ≡ written_in b → HoldsHistory n b → HoldsHistory n d
held-applied n b d left written holds tells =
    subst (λ (w : Spot → Option Written). HoldsWritten n.geometry n.cells w d.pages.units) (sym written) (left.holds n.geometry n.cells (written_in b) (holds tells))

sound-applied : (handed : Counts) (n : FlashState) (b d : BookSeen) (block : List ℕ) (queue number : ℕ) (command : Command) (reply : Reply) (done : Done) → IsSound handed n b block → IsKnown b → IsLed d → is_write command ≡ false → reply.applied ≡ true
    → AppliesTo b.config command b.pages d.pages → ((IsTrue (is_media_error reply.status) → HasMoments n) → Follows n.told b.config (point_in b) (host queue number command reply n.moment))
    → (IsTrue (is_media_error reply.status) → counted_more handed.faults (count_by is_media_reply b.entries + 1) ≤ n.faults) → book.Completes b d [] queue number command reply n.moment done → IsSound handed n d block
sound-applied handed n b d block queue number command reply done so known led other made applies follows fault ends =
    let left = pages-left b.config command b.pages d.pages applies in
    sound-entry handed n n b d (host queue number command reply n.moment) block block so (same-flash n) ends.step
    (held-applied n b d left (written-one b d (host queue number command reply n.moment) ends.step) so.stored)
    follows
    (ledger-commanded handed b d n n queue number command reply n.moment done ends left.free (no-fetches n) (λ error. record { fault = fault error; until = omega arith }) so.ledger)
    (apart-applied n b d queue number command reply n.moment done known led ends applies other made so.apart)
    (keeps-well handed.faults n.faults n.faults n.told n.told b d (host queue number command reply n.moment ∷ []) ends.step refl (omega arith) so.room refl (room-applied b.config command b.pages d.pages known.joined other applies))
    refl

-- ---- its change was saved in a step, made or not

-- what the step does to the pages, by the answer of the saving
abbrev ChangesPages : Saved → BookSeen → Command → PageTables → Type 0
ChangesPages savings.Done b command now = AppliesTo b.config command b.pages now
ChangesPages (savings.Doubtful moment) b command now = AppliesTo b.config command b.pages now
ChangesPages (savings.Unsaved moment) b command now = ChangesOwners b.pages now

-- a step of a group that is seen so saved the change of a command with this answer, and completed the command
pub record SavesCommand {F : Type 0} (state : F → FlashState) (x y : F) (handed : Counts) (b d : BookSeen) (k l : KeeperSeen) (block : List ℕ) (seen : Seen F) (queue number : ℕ) (command : Command) (answer : Saved) (done : Done) : Type 0 where
  pub view_is : ◌≡◌ {A = Seen F} (record { book = b; keeper = k; handed = handed; flash = x }) seen
  pub order : IsInOrder seen.book
  pub then_order : IsInOrder d
  pub whole : IsWhole handed (state x) b k block
  pub may : MayTakeEffect seen.book queue command
  pub keeps : (reply : Reply) (moment : ℕ) → IsTrue reply.applied → KeepsEntry b (host queue number command reply moment) k l (state x) (state y) answer
  pub now : BookSeen
  pub now_is : now ≡ begun b
  pub moment : ℕ
  pub moment_is : moment ≡ (state y).moment
  pub ends : book.Completes now d [] queue number command (reply_to_change (state_in now) command answer) moment done
  pub pages : ChangesPages answer now command d.pages

module _ {F : Type 0} {state : F → FlashState} {x y : F} {handed : Counts} {b d : BookSeen} {k l : KeeperSeen} {block : List ℕ} {seen : Seen F} {queue number : ℕ} {command : Command} {done : Done} where
  module _ (answer : Saved) (h : SavesCommand state x y handed b d k l block seen queue number command answer done) where
    abbrev new : Seen F
    new = record { book = d; keeper = l; handed = handed; flash = y }

    order : IsInOrder b
    order = subst (λ (s : Seen F). IsInOrder s.book) (sym h.view_is) h.order

    may : MayTakeEffect b queue command
    may = subst (λ (s : Seen F). MayTakeEffect s.book queue command) (sym h.view_is) h.may

    ends : book.Completes (begun b) d [] queue number command (reply_to_change (state_in b) command answer) (state y).moment done
    ends =
        subst (λ (m : ℕ). book.Completes (begun b) d [] queue number command (reply_to_change (state_in b) command answer) m done) h.moment_is
        (subst (λ (n : BookSeen). book.Completes n d [] queue number command (reply_to_change (state_in n) command answer) h.moment done) h.now_is h.ends)

    pages : ChangesPages answer (begun b) command d.pages
    pages = subst (λ (n : BookSeen). ChangesPages answer n command d.pages) h.now_is h.pages

    made : (reply : Reply) → IsTrue reply.applied → KeepsEntry b (host queue number command reply (state y).moment) k l (state x) (state y) answer
    made reply = h.keeps reply (state y).moment

    behind : IsSound handed (state y) (begun b) block
    behind = sound-behind state x y handed b (host queue number command (bare statuses.WRITE_FAULT true) (state y).moment) k l block answer order h.whole (made (bare statuses.WRITE_FAULT true) refl)

    faulted : (moment : ℕ) → FailsLast (state x) (state y) moment → MayFault handed b (state y)
    faulted moment fails = let run = (made (bare statuses.WRITE_FAULT true) refl).saves.calls.made.run in may-fault handed b (state x) (state y) moment h.whole.sound.ledger run.later run.faults fails

    -- by the calls of the saving
    abbrev Comes : Type 0
    Comes = IsWhole handed (state y) d l block × OutlastsStops state seen new × (0 < seen.book.spare → EndsAtOnce state seen new queue number command done)

    came : (reply : Reply) (applied : IsTrue reply.applied) → IsWhole handed (state y) d l block × OutlastsStops state (record { book = b; keeper = k; handed = handed; flash = x }) new
        → (0 < b.spare → steps.Completes state (record { book = b; keeper = k; handed = handed; flash = x }) new [] queue number command (made reply applied).saves.calls.calls done) → Comes
    came reply applied whole completes = (
      whole.0,
      subst (λ (s : Seen F). OutlastsStops state s new) h.view_is whole.1,
      subst (λ (s : Seen F). 0 < s.book.spare → EndsAtOnce state s new queue number command done) h.view_is (λ spare. record {
        calls = (made reply applied).saves.calls.calls;
        completes = completes spare;
        came = inr (inr (inr (record {
          accepted = may.accepted;
          saves = may.saved;
          summary = (made reply applied).saves.given.summary;
          answer = answer;
          saved = (made reply applied).saves.calls.are;
          reply_is = ap (λ (z : Done). z.reply) ends.done_is;
        })));
      }),
    )

  pub command-saved : (answer : Saved) (h : SavesCommand state x y handed b d k l block seen queue number command answer done) → Comes answer h
  command-saved savings.Done h =
      let success : Reply = applied_reply (state_in b) command statuses.SUCCESS in
      let o = order savings.Done h in
      let m = may savings.Done h in
      let e = ends savings.Done h in
      let p = pages savings.Done h in
      let keeps = made savings.Done h success refl in
      let so =
      sound-applied handed (state y) (begun b) d block queue number command success done (behind savings.Done h) (known-begun b o.known) h.then_order.known.led m.other refl p
      (λ _. effect-follows (state y).told b queue number command (state y).moment m) (λ wrong. absurd (false≢true wrong)) e in
      came savings.Done h success refl
      (made-whole state x y handed b d k l block queue number command success done savings.Done o h.then_order h.whole keeps e (pages-left b.config command b.pages d.pages p).go so refl (λ other. absurd (other refl)))
      (λ spare. made-completes state x y handed b d k l block queue number command success done savings.Done o h.then_order h.whole keeps e spare (saved_well k.saver keeps.saves.given.summary keeps.saves.calls.calls keeps.saves.calls.are) (λ wrong. absurd (false≢true wrong)))
  command-saved (savings.Doubtful moment) h =
      let unsure : Reply = bare statuses.WRITE_FAULT true in
      let o = order (savings.Doubtful moment) h in
      let m = may (savings.Doubtful moment) h in
      let e = ends (savings.Doubtful moment) h in
      let p = pages (savings.Doubtful moment) h in
      let keeps = made (savings.Doubtful moment) h unsure refl in
      let fault = faulted (savings.Doubtful moment) h moment keeps.saves.ends in
      let so =
      sound-applied handed (state y) (begun b) d block queue number command unsure done (behind (savings.Doubtful moment) h) (known-begun b o.known) h.then_order.known.led m.other refl p
      (λ moments. unsure-follows (state y).told b queue number command (state y).moment m (fault.new (moments refl))) (λ _. fault.fault) e in
      came (savings.Doubtful moment) h unsure refl
      (made-whole state x y handed b d k l block queue number command unsure done (savings.Doubtful moment) o h.then_order h.whole keeps e (pages-left b.config command b.pages d.pages p).go so refl (λ other. uncompleted command unsure refl))
      (λ spare. made-completes state x y handed b d k l block queue number command unsure done (savings.Doubtful moment) o h.then_order h.whole keeps e spare
      (last-failed keeps.saves.calls.calls (doubtful_failed k.saver keeps.saves.given.summary moment keeps.saves.calls.calls keeps.saves.calls.are)) (λ _. saving-failed (state x) (state y) moment keeps.saves.ends))
  command-saved (savings.Unsaved moment) h =
      let unmade : Reply = bare statuses.WRITE_FAULT false in
      let n = state y in
      let o = order (savings.Unsaved moment) h in
      let e = ends (savings.Unsaved moment) h in
      let p = pages (savings.Unsaved moment) h in
      let keeps = made (savings.Unsaved moment) h (bare statuses.WRITE_FAULT true) refl in
      let fault = faulted (savings.Unsaved moment) h moment keeps.saves.ends in
      let so = behind (savings.Unsaved moment) h in
      let then_so =
      sound-told handed n n (begun b) d (host queue number command unmade n.moment) block block so (same-flash n) e.step p refl
      (λ moments. unmade-follows n.told b queue number command n.moment (may (savings.Unsaved moment) h) (fault.new (moments refl)))
      (ledger-answered handed (begun b) d n n queue number command unmade n.moment done e p (no-fetches n) (λ error. record { fault = fault.fault; until = omega arith }) so.ledger)
      (apart-answered n n (begun b) d queue number command unmade n.moment done (known-begun b o.known) h.then_order.known.led (same-flash n) e p refl so.apart)
      (keeps-well handed.faults n.faults n.faults n.told n.told (begun b) d (host queue number command unmade n.moment ∷ []) e.step refl (omega arith) so.room refl
      (room-answered (begun b) d queue number command unmade n.moment done (known-begun b o.known) h.then_order.known.led e p refl))
      refl in
      came (savings.Unsaved moment) h (bare statuses.WRITE_FAULT true) refl
      (unmade-whole state x y handed b d k l block queue number command _ moment done o h.whole keeps e p h.then_order.known then_so)
      (unmade-completes state x y handed b d k l block queue number command _ moment done o h.whole keeps e p)
