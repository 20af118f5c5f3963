-- A write was let go.
use Rattle.std.proofs.Common.{ℕ, [], ◌∷◌, refl, arith}
use Rattle.fdp_base.specs.declared.command.Command.{Command}
use Rattle.fdp_base.specs.declared.entry.Entry.TheVariants as entries
use Rattle.fdp_book.specs.declared.ticket.Ticket.{Ticket}
use Rattle.fdp_book.specs.Book.{BookSeen, state_in}
use Rattle.fdp_book.specs.Steps.{Starts}
use Rattle.fdp_flash.specs.FlashState.{FlashState}
use Rattle.fdp_book.specs.fdp_pages.Steps.{ChangesOwners}
use Rattle.fdp_ledger.specs.declared.counts.Counts.{Counts}
use Rattle.fdp_ledger.specs.Start.{start_of}
use Rattle.fdp_ledger.specs.Ledger.{IsLedger}
use Rattle.fdp_ledger.specs.Told.{is_media_reply}
use Rattle.fdp_ledger.proofs.Answered.{owners-keep}
use Rattle.fdp_ledger.proofs.Called.{after-same}
use Rattle.fdp_ledger.proofs.Entries.{quiet-one}
use Rattle.fdp_ledger.proofs.Ledgers.{bound-none, still-ledger}
use Rattle.fdp_ledger.proofs.Moments.{passed-later, quiet-media}

pub ledger-started : (handed : Counts) (b new : BookSeen) (now : FlashState) (queue number : ℕ) (command : Command) (ticket : Ticket) → Starts b new queue number command ticket → ChangesOwners b.pages new.pages → IsLedger handed b now → IsLedger handed new now
ledger-started handed b new now queue number command ticket step owners was =
    still-ledger handed b new now now [] (entries.Started (record { queue = queue; number = number; command = command; rg = step.target.rg; ruh = step.target.ruh; pid_valid = step.target.valid }) ∷ []) step.step (after-same now) (λ unit. refl) refl (λ told. refl)
    (record { pages = refl; shut = refl; lost = refl; worn = refl; says = quiet-one (start_of b) b.entries _ (record { filled = refl; erased = refl }) })
    (owners-keep b.pages new.pages owners)
    (bound-none handed was.handed_is is_media_reply b.entries _ now.faults now.faults (omega arith) was.counted.media_replies refl)
    (passed-later (state_in b).media (state_in new).media now.moment now.moment (quiet-media b new _ step.step refl) (omega arith) was.moments)
    was
