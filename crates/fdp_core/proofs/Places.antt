-- How a group places a page, or fails to.
use Rattle.std.proofs.Common.{◌≡◌, ℕ, ◌+◌, ◌<◌, ◌≤◌, Bool, false, List, [], ◌∷◌, Option, Some, refl, ap, sym, ◌∙◌, subst, arith, inl, inr}
use Rattle.std.specs.Prelude.{Contains, IsTrue, ◌==◌}
use Rattle.std.proofs.lemmas.Bool.{false≢true}
use Rattle.std.proofs.lemmas.Bool.Decides.{nat_tests}
use Rattle.std.proofs.lemmas.List.{append-nil}
use Rattle.fdp_base.specs.declared.entry.Entry.{Entry}
use Rattle.fdp_base.specs.declared.entry.Entry.TheVariants as entries
use Rattle.fdp_base.specs.declared.entry.Spot.{Spot}
use Rattle.fdp_base.specs.declared.status.TheConstants.Status as statuses
use Rattle.fdp_base.specs.CommandKinds.{blocks_written}
use Rattle.fdp_relocation.specs.fdp_book.declared.ticket.Ticket.{Ticket}
use Rattle.fdp_relocation.specs.fdp_book.Book.{BookSeen, point_in, state_in}
use Rattle.fdp_relocation.specs.fdp_book.Steps as book
use Rattle.fdp_relocation.specs.fdp_book.Tickets.{IsNextSpot, IsTicketOf}
use Rattle.fdp_relocation.proofs.fdp_book.Histories.Follows.{end-follows}
use Rattle.fdp_calls.specs.Calls.{FailedAt, MakesCalls, program_at}
use Rattle.fdp_calls.specs.Media.{IsProgrammedTo}
use Rattle.fdp_calls.proofs.Made.{counted_more-one}
use Rattle.fdp_core.specs.declared.answer.Placed.{Placed}
use Rattle.fdp_core.specs.declared.answer.Placed.TheVariants as placed
use Rattle.fdp_core.specs.Answers.{Places, PlacesPage}
use Rattle.fdp_core.specs.Seen.{HasMoments, Seen}
use Rattle.fdp_core.proofs.Grown.{adds, host}
use Rattle.fdp_core.proofs.Sound.{begun}
use Rattle.fdp_flash.specs.declared.cell.Cell.{Cell}
use Rattle.fdp_flash.specs.FlashState.{FlashState}
use Rattle.fdp_history.specs.Orderly.{IsOrderly}
use Rattle.fdp_history.proofs.Points.{orderly-next}
use Rattle.fdp_loading.specs.fdp_isolation.Laned.{IsKnown}
use Rattle.fdp_loading.specs.fdp_ledger.declared.counts.Counts.{Counts}
use Rattle.fdp_loading.specs.fdp_ledger.Emptied.{OnlyErasesEmpty}
use Rattle.fdp_loading.specs.fdp_ledger.Ledger.{IsLedger}
use Rattle.fdp_loading.proofs.fdp_ledger.Blank.{erased-none}
use Rattle.fdp_loading.proofs.fdp_ledger.Moments.{new-moment}
use Rattle.fdp_rules.specs.Answer.{bare}
use Rattle.fdp_rules.specs.Change.{after, changed_by, is_media_error}
use Rattle.fdp_rules.specs.Next.{next}
use Rattle.fdp_rules.specs.PlainState.{Going}
use Rattle.fdp_rules.specs.Point.{Point}
use Rattle.fdp_rules.specs.Sites.{is_there}
use Rattle.fdp_rules.specs.Step.{Follows, IsNewMoment}
use Rattle.fdp_base.specs.declared.config.DriveConfig.{DriveConfig}

-- ---- a page was placed

pub places-page : {F : Type 0} (state : F → FlashState) (old new : Seen F) (ticket : Ticket) (g : Going) (spot : Spot) (last : Bool) (number : ℕ) (page : Cell) → 0 < old.book.spare → new.handed ≡ old.handed → IsNextSpot old.book ticket g spot →
    ((es : List Entry) → IsTrue (state old.flash).told → OnlyErasesEmpty (state old.flash).geometry (state old.flash).cells (state new.flash).cells es) → MakesCalls (state old.flash) (state new.flash) (program_at spot false ∷ []) → IsProgrammedTo (state old.flash) (state new.flash) number page → book.Places (begun old.book) new.book ticket g spot last → PlacesPage state old new ticket g ticket
places-page state old new ticket g spot last number page spare handed goes emptied made is placed = record {
  spot = spot;
  goes = goes;
  step = adds state old new (entries.Placed (record { ticket = ticket.position; index = g.placed; unit = spot.unit; page = spot.page }) ∷ []) (program_at spot false ∷ []) refl spare placed.step handed (record {
    made = made;
    programs = is.programs ∙ sym (counted_more-one (state old.flash).programs);
    failed = λ wrong. absurd (false≢true wrong);
    erased = λ told. erased-none (state old.flash).geometry (state new.flash).cells _ (λ unit. refl);
    emptied = emptied _;
  });
  next_is = refl;
  going = placed.going;
}

pub places-last : {F : Type 0} (state : F → FlashState) (old new : Seen F) (ticket : Ticket) (g : Going) (last : Bool) (result : Placed) → PlacesPage state old new ticket g ticket → IsTrue last → last ≡ (g.placed + 1 == blocks_written g.command) → result ≡ placed.Ready ticket → Places state old new ticket g result
places-last state old new ticket g last result page is last_is result_is =
    subst (Places state old new ticket g) (sym result_is) (page, grind (arith, nat_tests, is, last_is))

pub places-more : {F : Type 0} (state : F → FlashState) (old new : Seen F) (ticket : Ticket) (g : Going) (last : Bool) (result : Placed) → PlacesPage state old new ticket g ticket → last ≡ false → g.placed < blocks_written g.command → last ≡ (g.placed + 1 == blocks_written g.command) → result ≡ placed.More ticket → Places state old new ticket g result
places-more state old new ticket g last result page is asked last_is result_is =
    subst (Places state old new ticket g) (sym result_is) (inl (page, grind (arith, nat_tests, is, asked, last_is)))

-- ---- a program failed

-- what stays where a handle is shut
record ShutsKeep (c : DriveConfig) (p : Point) (rg ruh : ℕ) : Type 0 where
  going : (next c p (entries.Shut (record { rg = rg; ruh = ruh }))).state.going ≡ p.state.going
  there : (g : Going) → is_there (next c p (entries.Shut (record { rg = rg; ruh = ruh }))).state g ≡ is_there p.state g
  media : (next c p (entries.Shut (record { rg = rg; ruh = ruh }))).state.media ≡ p.state.media

shuts-keep : (c : DriveConfig) (p : Point) (rg ruh : ℕ) → ShutsKeep c p rg ruh
unfolding next after changed_by
shuts-keep c p rg ruh = record { going = refl; there = λ g. refl; media = refl }

-- a moment at which a call of this step failed is none of an earlier media error
pub moment-new : (handed : Counts) (b : BookSeen) (f n : FlashState) (moment : ℕ) → IsLedger handed b f → f.moment ≤ n.moment → FailedAt f n moment → HasMoments n → IsNewMoment (state_in b) moment
moment-new handed b f n moment was later failed moments =
    new-moment handed b b f n [] moment (record { config_is = refl; found_is = refl; opened_is = refl; entries_are = sym (append-nil b.entries); spare_is = refl; spent_is = refl; room_is = omega arith }) refl failed (omega (arith, later, moments)) was

-- a write may end with Write Fault behind the shut of its handle
pub shut-follows : (handed : Counts) (f n : FlashState) (b : BookSeen) (ticket : Ticket) (g : Going) (spot : Spot) (moment : ℕ) → IsKnown b → IsLedger handed b f → f.moment ≤ n.moment → IsTicketOf (state_in b) ticket g → IsNextSpot b ticket g spot → g.placed < blocks_written g.command → FailedAt f n moment →
    ((told : Bool) → Follows told b.config (point_in b) (entries.Shut (record { rg = g.rg; ruh = g.ruh }))) →
    (IsTrue (is_media_error statuses.WRITE_FAULT) → HasMoments n) → Follows n.told b.config (next b.config (point_in b) (entries.Shut (record { rg = g.rg; ruh = g.ruh }))) (host ticket.queue g.number g.command (bare statuses.WRITE_FAULT false) moment)
shut-follows handed f n b ticket g spot moment joined was later is goes asked failed follows moments =
    let shut : Entry = entries.Shut (record { rg = g.rg; ruh = g.ruh }) in
    let p : Point = next b.config (point_in b) shut in
    let keeps = shuts-keep b.config (point_in b) g.rg g.ruh in
    let orderly : IsOrderly b.config p = orderly-next n.told b.config (point_in b) shut joined.config joined.orderly (follows n.told) in
    let going : p.state.going ticket.queue ≡ Some g = ap (λ (x : ℕ → Option Going). x ticket.queue) keeps.going ∙ is.going_is in
    let there : IsTrue (is_there p.state g) = keeps.there g ∙ goes.there in
    let new : IsNewMoment p.state moment = subst (λ (xs : List ℕ). Contains xs moment → ⊥) (sym keeps.media) (moment-new handed b f n moment was later failed (moments refl)) in
    end-follows n.told b.config p ticket.queue g (bare statuses.WRITE_FAULT false) moment (orderly.state.writes ticket.queue g going) going (inr (inr (inr (inr (there, asked, new, refl)))))
