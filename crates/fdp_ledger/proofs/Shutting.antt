-- The page of a write was not programmed: its handle was shut, and the write ended.
use Rattle.std.proofs.Common.{◌≡◌, ℕ, true, false, List, [], ◌∷◌, refl, sym, subst, arith}
use Rattle.std.specs.Prelude.{IsTrue}
use Rattle.fdp_base.specs.declared.entry.Entry.TheVariants as entries
use Rattle.fdp_base.specs.declared.entry.Spot.{Spot}
use Rattle.fdp_base.specs.declared.status.Status.{Status}
use Rattle.fdp_base.specs.Placement.{geometry_of}
use Rattle.fdp_base.specs.EntryKinds.{is_shut, loses_unit}
use Rattle.fdp_book.specs.declared.ticket.Done.{Done}
use Rattle.fdp_book.specs.declared.ticket.Ticket.{Ticket}
use Rattle.fdp_book.specs.Book.{BookSeen, state_in, written_in}
use Rattle.fdp_book.specs.Shutting.{ShutsAndEnds}
use Rattle.fdp_book.specs.Tickets.{IsNextSpot}
use Rattle.fdp_calls.specs.Calls.{program_at}
use Rattle.fdp_flash.specs.FlashState.{FlashState}
use Rattle.fdp_book.specs.fdp_locations.Located.{AreUnitsOf}
use Rattle.fdp_book.specs.fdp_locations.Stored.{HoldsWritten}
use Rattle.fdp_book.specs.fdp_pages.Joined.{AreJoined}
use Rattle.fdp_rules.specs.Answer.{bare}
use Rattle.fdp_rules.specs.Change.{is_media_error}
use Rattle.fdp_rules.specs.PlainState.{Going}
use Rattle.fdp_ledger.specs.declared.counts.Counts.{Counts}
pub use Rattle.fdp_ledger.specs.Calls.{FailsToProgram}
use Rattle.fdp_ledger.specs.Start.{start_of}
use Rattle.fdp_ledger.specs.Ledger.{IsLedger}
use Rattle.fdp_ledger.specs.Told.{is_media_reply}
use Rattle.fdp_ledger.proofs.Accounted.{accounted-spoilt}
use Rattle.fdp_ledger.proofs.Called.{after-made}
use Rattle.fdp_ledger.proofs.Emptied.{failed-emptied}
use Rattle.fdp_ledger.proofs.Entries.{quiet-two}
use Rattle.fdp_ledger.proofs.Ledgers.{bound-none, bound-one, handed-low, ledger-of, more-programs, one-most, rose-since, same-programs, still-worn}
use Rattle.fdp_ledger.proofs.Worn.{still-worn-out}
use Rattle.fdp_ledger.proofs.Moments.{HavePassed, host-media, passed-told}
use Rattle.fdp_ledger.proofs.Placed.{next-blank}
use Rattle.fdp_ledger.proofs.Units.{shuts-fill}

pub ledger-shut : (handed : Counts) (b new : BookSeen) (old now : FlashState) (ticket : Ticket) (g : Going) (spot : Spot) (status : Status) (moment : ℕ) (done : Done) (spare bytes : List ℕ) → AreJoined b.pages → AreUnitsOf b.config (state_in b) b.pages → old.geometry ≡ geometry_of b.config → (IsTrue old.told → HoldsWritten old.geometry old.cells (written_in b) b.pages.units)
    → IsNextSpot b ticket g spot → ShutsAndEnds b new ticket g spot status moment done → FailsToProgram old now spot spare bytes → moment ≡ now.moment → IsLedger handed b old → IsLedger handed new now
ledger-shut handed b new old now ticket g spot status moment done spare bytes joined units geometry stored next step fails moment_is was =
    let after = after-made old now (program_at spot true ∷ []) fails.made in
    let rose = (fails.made.fault refl).rose in
    ledger-of handed b new old now (program_at spot true ∷ []) (entries.Shut (record { rg = g.rg; ruh = g.ruh }) ∷ entries.Host (record { queue = ticket.queue; number = g.number; command = g.command; reply = bare status false; moment = moment }) ∷ []) step.completes.step after (record {
      programs = more-programs handed.programs old.programs now.programs b.entries _ was.counted.programs (same-programs old.programs now.programs (entries.Shut (record { rg = g.rg; ruh = g.ruh }) ∷ entries.Host (record { queue = ticket.queue; number = g.number; command = g.command; reply = bare status false; moment = moment }) ∷ []) fails.programs refl);
      media_replies = bound-one handed was.handed_is is_media_reply b.entries _ old.faults now.faults after.faults was.counted.media_replies (let few = one-most (is_media_error status) in omega (arith, few)) rose;
      shut = bound-one handed was.handed_is is_shut b.entries _ old.faults now.faults after.faults was.counted.shut (omega arith) rose;
      lost = bound-none handed was.handed_is loses_unit b.entries _ old.faults now.faults after.faults was.counted.lost refl;
      worn = λ fresh. still-worn handed.faults old.faults now.faults b.entries _ after.faults refl (was.counted.worn fresh);
      worn_out = still-worn-out handed (start_of b) old now (program_at spot true ∷ []) after was.listed b.entries _ refl was.counted.worn_out;
      units = accounted-spoilt handed (start_of b) b.pages.units new.pages.units b.entries old now (program_at spot true ∷ []) was.handed_is was.listed after was.units _ [] spot
          (shuts-fill b.pages step.middle new.pages g.rg g.ruh spot new.pages.owners joined next.may step.shut.unit step.left.units)
          (quiet-two (start_of b) b.entries _ _ (record { filled = refl; erased = refl }) (record { filled = refl; erased = refl }))
          (λ unit. refl) refl rose
          (λ told. failed-emptied old.geometry old.cells now.cells spot spare bytes (next-blank b old ticket g spot joined units geometry stored next told) (fails.left told));
      free = λ fresh well. absurd (well (rose-since handed.faults old.faults now.faults (handed-low handed b old was) rose));
      moments = subst (λ (xs : List ℕ). HavePassed xs now.moment) (sym (host-media b new (entries.Shut (record { rg = g.rg; ruh = g.ruh }) ∷ []) ticket.queue g.number g.command (bare status false) moment step.completes.step refl))
          (passed-told (state_in b).media moment old.moment now.moment (is_media_error status) after.moment (λ error. omega (arith, moment_is)) was.moments);
    }) was
