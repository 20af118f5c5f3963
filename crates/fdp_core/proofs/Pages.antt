-- A page of a write that was programmed, or not: what saves the drive stands for its history, and no stop in the step loses what was firm.
use Rattle.std.proofs.Common.{◌≡◌, ℕ, ◌≤◌, ◌<◌, inr, Bool, true, false, List, [], ◌∷◌, ◌-◌, Some, length, refl, sym, ◌∙◌, ap, subst, arith, length-append}
use Rattle.std.specs.Prelude.{IsFalse, IsTrue}
use Rattle.std.specs.List.{slice_get}
use Rattle.std.proofs.lemmas.Bool.{false≢true}
use Rattle.std.proofs.lemmas.List.Elements.{All-cons, All-nil}
use Rattle.fdp_base.specs.declared.entry.Entry.TheVariants as entries
use Rattle.fdp_base.specs.declared.status.TheConstants.Status as statuses
use Rattle.fdp_relocation.specs.fdp_book.Steps as book
use Rattle.fdp_flash.specs.declared.cell.Cell.TheVariants.{Blank, Whole}
use Rattle.fdp_relocation.specs.fdp_saving.declared.saved.Saved.TheVariants as savings
use Rattle.fdp_relocation.specs.fdp_book.Book.{BookSeen, point_in, state_in}
use Rattle.fdp_flash.specs.FlashState.{Call, FlashState, IsWellFormed as IsFlashFormed}
use Rattle.fdp_relocation.specs.fdp_durability.Beginnings.{CanBeSaved}
use Rattle.fdp_loading.specs.fdp_ledger.declared.counts.Counts.{Counts}
use Rattle.fdp_base.specs.declared.config.Geometry.{Geometry}
use Rattle.fdp_base.specs.declared.entry.Entry.{Entry}
use Rattle.fdp_calls.specs.Calls.{FailedAt, MakesCalls, program_at}
use Rattle.fdp_core.specs.Answers.{FailsToPlace}
use Rattle.fdp_loading.specs.fdp_ledger.Calls.{FailsToProgram}
use Rattle.fdp_rules.specs.PlainState.{Going}
use Rattle.fdp_loading.specs.fdp_survival.Books.{IsInOrder, IsSafe, KeepsIsolated, Survives}
use Rattle.fdp_core.specs.Sound.{IsKept, IsSound, IsWhole}
use Rattle.fdp_loading.specs.fdp_isolation.Laned.{IsKnown}
use Rattle.fdp_loading.specs.fdp_survival.Safe.{IsSafeImage}
use Rattle.fdp_relocation.specs.fdp_book.Tickets.{IsNextSpot, IsTicketOf}
use Rattle.fdp_core.proofs.Passing.{IsPrefix, matches-joined, prefix-as, prefix-matches, saving-prefix}
use Rattle.fdp_calls.specs.Media.{IsProgrammedTo}
use Rattle.fdp_relocation.specs.fdp_keeper.Keeper.{KeeperSeen, KeepsEntry}
use Rattle.fdp_loading.specs.fdp_ledger.Emptied.{OnlyErasesEmpty}
use Rattle.fdp_core.specs.Stops.{IsSafeNow, KeepsPart, OutlastsStops}
use Rattle.fdp_flash.specs.Cells.{ProgramMayLeave}
use Rattle.fdp_flash.specs.Runs.{Runs}
use Rattle.fdp_relocation.specs.fdp_saving.declared.saved.Saved.{Saved}
use Rattle.fdp_relocation.specs.fdp_book.Shutting.{ShutsAndEnds}
use Rattle.fdp_base.specs.declared.entry.Spot.{Spot}
use Rattle.fdp_image.specs.Kept.{is_completed, is_owed}
use Rattle.fdp_relocation.specs.fdp_book.declared.ticket.Ticket.{Ticket}
use Rattle.fdp_rules.specs.Answer.{bare}
use Rattle.fdp_core.proofs.Apart.{safe-now, sound-isolated}
use Rattle.fdp_core.proofs.Sound.{begun}
use Rattle.fdp_loading.proofs.fdp_isolation.Later.{setting-later, setting-same}
use Rattle.fdp_loading.proofs.fdp_isolation.Placed.{placed-generation, shut-generation}
use Rattle.fdp_loading.specs.fdp_isolation.Stays.{IsSameSetting}
use Rattle.fdp_core.proofs.Isolating.{data-prefix, part-data, part-joined, part-leaves, part-page}
use Rattle.fdp_loading.proofs.fdp_survival.Steps.{IsNextSpare, can-failed, isolated-unplaced, next-blank, page-left, safe-page, safe-placed, safe-shut, safe-unplaced, survives-longer, survives-page, survives-shut}
use Rattle.fdp_calls.proofs.Made.{counted_more-none, failed-last}
use Rattle.fdp_core.proofs.Wholes.{entry-stops, low-faults, order-begun}
use Rattle.fdp_loading.proofs.fdp_ledger.Blank.{erased-none}
use Rattle.fdp_relocation.specs.fdp_durability.Saved.{firm_with}
use Rattle.fdp_base.specs.Placement.{geometry_of}
use Rattle.fdp_core.proofs.Grown.{completes, host}
use Rattle.fdp_core.proofs.Kept.{kept-begun, kept-on, kept-over, kept-shut}
use Rattle.fdp_core.proofs.Outlasting.{outlasts-stops}
use Rattle.fdp_flash.specs.Layout.{page_number}
use Rattle.fdp_flash.proofs.Runs.{runs_joined}
use Rattle.fdp_flash.proofs.Lists.{slice_get-append}
use Rattle.fdp_core.proofs.Relocated.{sound-prefix}
use Rattle.fdp_core.proofs.Placing.{spot-begun}
use Rattle.fdp_core.proofs.Refusals.{uncompleted}
use Rattle.fdp_relocation.proofs.fdp_durability.Owed.{unowed}
use Rattle.fdp_relocation.specs.fdp_book.declared.ticket.Done.{Done}
use Rattle.fdp_core.proofs.Roomy.{leaves-failed, leaves-program}

-- ---- the program of a page keeps data apart, done or failed

programs-page : (b d : BookSeen) (f n : FlashState) (handed : Counts) (k : KeeperSeen) (block : List ℕ) (ticket : Ticket) (g : Going) (spot : Spot) (spare bytes : List ℕ) → IsInOrder b → IsWhole handed f b k block → IsNextSpot b ticket g spot → Runs f n (λ m image. ProgramMayLeave f.geometry f.cells spot spare bytes image)
    → (IsTrue f.told → ProgramMayLeave f.geometry f.cells spot spare bytes n.cells) → IsTicketOf (state_in b) ticket g → IsNextSpare b g spare → d.config ≡ b.config → IsSameSetting (state_in b) (state_in d) → KeepsPart b d f n
programs-page b d f n handed k block ticket g spot spare bytes order whole goes run left is named config setting =
    part-page b d f n spot spare bytes config setting
    (λ told. subst (λ (x : Geometry). slice_get f.cells (page_number x spot) ≡ Some Blank) geometry (next-blank b ticket g spot f geometry whole.sound.stored goes told))
    (subst (λ (x : Geometry). Runs f n (λ m image. ProgramMayLeave x f.cells spot spare bytes image)) geometry run)
    (λ told. subst (λ (x : Geometry). ProgramMayLeave x f.cells spot spare bytes n.cells) geometry (left told))
    (λ image told opened there.
    page-left b ticket g spot spare bytes k.saver k.firm f n geometry whole.sound.stored goes order is named whole.sound.apart whole.kept.safe image told opened (subst (λ (x : Geometry). ProgramMayLeave x f.cells spot spare bytes image) (sym geometry) there))
  where
    geometry : f.geometry ≡ geometry_of b.config
    geometry = whole.sound.geometry

-- ---- it was programmed

module _ {F : Type 0} (state : F → FlashState) (x y : F) (handed : Counts) (b d : BookSeen) (k : KeeperSeen) (block : List ℕ) (ticket : Ticket) (g : Going) (spot : Spot) (spare bytes : List ℕ) (last : Bool) (order : IsInOrder b) (whole : IsWhole handed (state x) b k block)
    (goes : IsNextSpot b ticket g spot) (programmed : IsProgrammedTo (state x) (state y) (page_number (state x).geometry spot) (Whole spare bytes)) (run : Runs (state x) (state y) (λ m image. ProgramMayLeave (state x).geometry (state x).cells spot spare bytes image))
    (placed : book.Places (begun b) d ticket g spot last) (is : IsTicketOf (state_in b) ticket g) (named : IsNextSpare b g spare) where
  page-safe : IsSafe d k.saver k.firm (state y)
  page-safe =
      safe-placed (begun b) d ticket g spot last k.saver k.firm (state y) (order-begun b order) (spot-begun b ticket g spot goes) placed
      (safe-page b ticket g spot spare bytes k.saver k.firm (state x) (state y) whole.sound.geometry whole.sound.stored goes order is named whole.sound.apart whole.kept.safe programmed)

  pub page-kept : IsKept handed (state y) d k
  page-kept = kept-on handed (state x) (state y) (begun b) d _ k (kept-begun handed (state x) b k whole.kept) placed.step programmed.kept.faults page-safe

  pub page-stops : IsSafeNow (state y) d k → OutlastsStops state (record { book = b; keeper = k; handed = handed; flash = x }) (record { book = d; keeper = k; handed = handed; flash = y })
  page-stops now =
      entry-stops state (record { book = b; keeper = k; handed = handed; flash = x }) (record { book = d; keeper = k; handed = handed; flash = y }) _ placed.step refl
      (survives-page b ticket g spot spare bytes k.saver k.firm (state x) (state y) whole.sound.geometry whole.sound.stored goes order is named whole.sound.apart whole.kept.safe run) whole.kept.safe now (omega arith)
      (leaves-program handed (state x) (state y) b k block order.known whole run.faults ticket g spot spare bytes goes run)
      (part-leaves b d (state x) (state y) placed.step.config_is placed.step.found_is placed.step.opened_is
      (programs-page b d (state x) (state y) handed k block ticket g spot spare bytes order whole goes run (λ told. record { cell = Whole spare bytes; page = inr (inr refl); cells = programmed.cells told }) is named placed.step.config_is
      (setting-later (begun b) d _ placed.step (placed-generation (begun b) d ticket g spot last placed)))
      now.isolated)

-- ---- that failed: the handle is shut, and this is saved

-- a call that failed did so also for who looks later
failed-on : (f m n : FlashState) (moment : ℕ) (calls : List Call) → FailedAt f m moment → MakesCalls m n calls → FailedAt f n moment
failed-on f m n moment calls failed made = record {
  since = failed.since;
  until = omega (arith, failed.until, made.run.later);
  failed = λ tells.
      let was = failed.failed (made.run.listed_before tells) in
      (was.0, subst (λ (cs : List Call). slice_get cs (moment - 1) ≡ Some was.0) (sym (made.listed tells)) (slice_get-append m.calls calls (moment - 1) was.0 was.1), was.2);
}

module _ {F : Type 0} (state : F → FlashState) (x m y : F) (handed : Counts) (b d : BookSeen) (k l : KeeperSeen) (block now : List ℕ) (ticket : Ticket) (g : Going) (spot : Spot) (spare bytes : List ℕ) (moment : ℕ) (done : Done) (answer : Saved)
    (order : IsInOrder b) (then_known : IsKnown d) (whole : IsWhole handed (state x) b k block) (goes : IsNextSpot b ticket g spot) (failed : FailsToProgram (state x) (state m) spot spare bytes)
    (run : Runs (state x) (state m) (λ at image. ProgramMayLeave (state x).geometry (state x).cells spot spare bytes image)) (keeps : KeepsEntry b (entries.Shut (record { rg = g.rg; ruh = g.ruh })) k l (state m) (state y) answer)
    (shuts : ShutsAndEnds (begun b) d ticket g spot statuses.WRITE_FAULT moment done) (is : IsTicketOf (state_in b) ticket g) (named : IsNextSpare b g spare) where
  abbrev shut : Entry
  shut = entries.Shut (record { rg = g.rg; ruh = g.ruh })

  abbrev ended : Entry
  ended = host ticket.queue g.number g.command (bare statuses.WRITE_FAULT false) moment

  unsuccessful : IsFalse (is_completed g.command (bare statuses.WRITE_FAULT false))
  unsuccessful = uncompleted g.command (bare statuses.WRITE_FAULT false) refl

  unplaced : IsSafe b k.saver k.firm (state m)
  unplaced = safe-unplaced b ticket g spot spare bytes k.saver k.firm (state x) (state m) whole.sound.geometry whole.sound.stored goes order is named whole.sound.apart whole.kept.safe failed.made.run.told failed.left

  apart-there : KeepsIsolated (state m) b
  apart-there = isolated-unplaced b ticket g spot spare bytes k.saver k.firm (state x) (state m) whole.sound.geometry whole.sound.stored goes order is named whole.sound.apart whole.kept.safe failed.made.run.told failed.left

  middle-geometry : (state m).geometry ≡ geometry_of b.config
  middle-geometry = failed.made.run.geometry ∙ whole.sound.geometry

  can : IsTrue (state m).told → CanBeSaved b.config (point_in b) b.pages.units (state m).cells
  can = can-failed b ticket g spot spare bytes (state x) (state m) order whole.sound.geometry whole.sound.stored goes failed.made.run.told failed.left

  prefix : IsPrefix b (state m) (state y) keeps.saves.calls.calls
  prefix = saving-prefix b shut k.saver l.saver k.firm (state m) (state y) answer unplaced keeps.saves

  shut-sound : IsSound handed (state m) d now → IsSound handed (state y) d now
  shut-sound so =
      sound-prefix handed (state m) (state y) d keeps.saves.calls.calls now then_known
      (prefix-as b d (state m) (state y) keeps.saves.calls.calls shuts.completes.step.config_is prefix) so

  shut-safe : IsSafe d l.saver l.firm (state y)
  shut-safe =
      subst (λ (firm : ℕ). IsSafe d l.saver firm (state y)) (sym keeps.firm_is)
      (safe-shut (begun b) d ticket g spot statuses.WRITE_FAULT moment done k.saver l.saver k.firm (state m) (state y) answer (order-begun b order) can apart-there unplaced keeps.saves shuts unsuccessful)

  shut-kept : IsKept handed (state y) d l
  shut-kept =
      kept-shut handed (state m) (state y) (begun b) d ticket g spot statuses.WRITE_FAULT moment done k l answer order.known.config
      (kept-begun handed (state m) b k (kept-over handed (state x) (state m) b k whole.kept failed.made.run.faults unplaced))
      (let low = low-faults handed b (state x) whole.sound.ledger in let up = failed.made.run.faults in omega (arith, low, up)) shuts
      (record { saves = keeps.saves; geometry = keeps.geometry; firm_is = keeps.firm_is }) shut-safe

  pub shut-whole : IsSound handed (state m) d now → IsWhole handed (state y) d l now
  shut-whole so = record { sound = shut-sound so; kept = shut-kept }

  firm-up : (z : Saved) → k.firm ≤ firm_with b.entries (shut ∷ []) k.firm z
  firm-up savings.Done = let size = length-append b.entries (shut ∷ []) in omega (arith, whole.kept.safe.at.within, size)
  firm-up (savings.Doubtful at) = omega arith
  firm-up (savings.Unsaved at) = omega arith

  survives : Survives d k.firm (length b.entries) (state x) (state y)
  survives =
      runs_joined (state x) (state m) (state y) (λ at image. IsSafeImage d.config d.found d.opened d.entries k.firm (length b.entries) image)
      (survives-longer (begun b) d (shut ∷ ended ∷ []) k.firm (length b.entries) (state x) (state m) shuts.completes.step (survives-page b ticket g spot spare bytes k.saver k.firm (state x) (state m) whole.sound.geometry whole.sound.stored goes order is named whole.sound.apart whole.kept.safe run))
      (survives-shut (begun b) d ticket g spot statuses.WRITE_FAULT moment done k.saver l.saver k.firm (state m) (state y) answer (order-begun b order) can apart-there unplaced keeps.saves shuts)

  programmed : KeepsPart b d (state x) (state m)
  programmed =
      programs-page b d (state x) (state m) handed k block ticket g spot spare bytes order whole goes run failed.left is named shuts.completes.step.config_is
      (setting-later (begun b) d (shut ∷ ended ∷ []) shuts.completes.step (shut-generation (begun b) d ticket g spot statuses.WRITE_FAULT moment done shuts))

  pub shut-stops : IsSound handed (state m) d now → OutlastsStops state (record { book = b; keeper = k; handed = handed; flash = x }) (record { book = d; keeper = l; handed = handed; flash = y })
  shut-stops so =
      let P : Entry → Type 0 = λ e. IsFalse (is_owed (state y).moment e) in
      outlasts-stops state (record { book = b; keeper = k; handed = handed; flash = x }) (record { book = d; keeper = l; handed = handed; flash = y }) (shut ∷ ended ∷ []) shuts.completes.step.config_is shuts.completes.step.found_is shuts.completes.step.opened_is shuts.completes.step.entries_are whole.kept.safe.at.firm_is
      (All-cons P shut (ended ∷ []) (unowed (state y).moment shut refl) (All-cons P ended [] (unowed (state y).moment ended unsuccessful) (All-nil P)))
      survives (safe-now handed (state y) d l now then_known (shut-whole so)) (subst (λ (n : ℕ). k.firm ≤ n) (sym keeps.firm_is) (firm-up answer))
      (leaves-failed handed (state x) (state y) b (low-faults handed b (state x) whole.sound.ledger) (let rose = (failed.made.fault refl).rose in let up = prefix.made.run.faults in omega (arith, rose, up)))
      (part-leaves b d (state x) (state y) shuts.completes.step.config_is shuts.completes.step.found_is shuts.completes.step.opened_is
      (part-joined b d d (state x) (state m) (state y) shuts.completes.step.config_is shuts.completes.step.found_is shuts.completes.step.opened_is failed.made.run.told programmed (part-data d d (state m) (state y) refl (setting-same (state_in d)) (data-prefix d (state m) (state y) keeps.saves.calls.calls (prefix-as b d (state m) (state y) keeps.saves.calls.calls shuts.completes.step.config_is prefix))) programmed.first)
      (sound-isolated handed (state y) d now then_known (shut-whole so).sound))

  -- what it comes to
  pub fails-to-place : 0 < b.spare → IsFlashFormed (state m) → ((es : List Entry) → IsTrue (state x).told → OnlyErasesEmpty (state x).geometry (state x).cells (state m).cells es) → moment ≡ (state m).moment →
      FailsToPlace state (record { book = b; keeper = k; handed = handed; flash = x }) (record { book = d; keeper = l; handed = handed; flash = y }) ticket g done
  fails-to-place spare formed emptied moment_is = record {
    spot = spot;
    goes = goes;
    summary = keeps.saves.given.summary;
    answer = answer;
    calls = keeps.saves.calls.calls;
    saved = keeps.saves.calls.are;
    completes = completes state _ _ (shut ∷ []) ticket.queue g.number g.command (bare statuses.WRITE_FAULT false) moment (program_at spot true ∷ keeps.saves.calls.calls) done spare (record {
      longer = shuts.completes.step;
      done_is = shuts.completes.done_is;
      handed = refl;
      matches = matches-joined (state x) (state m) (state y) (shut ∷ ended ∷ []) [] (program_at spot true ∷ []) keeps.saves.calls.calls (λ unit. refl)
          (record { made = failed.made; programs = failed.programs ∙ sym (counted_more-none (state x).programs); failed = λ _. refl; erased = λ told. erased-none (state x).geometry (state m).cells _ (λ unit. refl); emptied = emptied _ })
          (prefix-matches b (state m) (state y) keeps.saves.calls.calls [] middle-geometry refl (λ wrong. absurd (false≢true wrong)) (λ unit. refl) prefix);
      moment_is = λ wrong. absurd (false≢true (sym wrong));
      failed = refl;
      media = λ _. failed-on (state x) (state m) (state y) moment keeps.saves.calls.calls (subst (FailedAt (state x) (state m)) (sym moment_is) (failed-last (state x) (state m) [] (program_at spot true) formed failed.made refl)) keeps.saves.calls.made;
    });
    reply_is = ap (λ (z : Done). z.reply) shuts.completes.done_is;
  }
