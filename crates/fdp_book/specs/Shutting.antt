-- A handle whose next page was not programmed.
use Rattle.std.specs.Prelude.{◌≡◌, ℕ, Bool, false, [], ◌∷◌}
use Rattle.fdp_base.specs.declared.entry.Entry.TheVariants as entries
use Rattle.fdp_base.specs.declared.entry.Spot.{Spot}
use Rattle.fdp_base.specs.declared.status.Status.{Status}
use Rattle.fdp_book.specs.declared.ticket.Done.{Done}
use Rattle.fdp_book.specs.declared.ticket.Ticket.{Ticket}
use Rattle.fdp_book.specs.Book.{BookSeen, IsLonger, point_in, state_in}
use Rattle.fdp_book.specs.Steps.{Completes}
use Rattle.fdp_book.specs.Tickets.{IsNextSpot, IsTicketOf}
use Rattle.fdp_readings.specs.fdp_pages.PageTables.{PageTables}
use Rattle.fdp_readings.specs.fdp_pages.Steps.{ChangesOwners, ShutsUnit}
use Rattle.fdp_rules.specs.Answer.{bare}
use Rattle.fdp_rules.specs.PlainState.{Going}
use Rattle.fdp_rules.specs.Step.{Follows}

-- the next page of a write, which is that of this handle of a group
pub record IsNextOfHandle (b : BookSeen) (ticket : Ticket) (g : Going) (rg ruh : ℕ) (spot : Spot) : Type 0 where
  pub rg_is : rg ≡ g.rg
  pub ruh_is : ruh ≡ g.ruh
  pub next : IsNextSpot b ticket g spot

-- the unit of a handle is closed behind a page that is used for nothing, and the entry may follow; the write is going still
pub record Shuts (old new : BookSeen) (ticket : Ticket) (g : Going) (rg ruh : ℕ) (spot : Spot) : Type 0 where
  pub longer : IsLonger old new (entries.Shut (record { rg = rg; ruh = ruh }) ∷ [])
  pub follows : (told : Bool) → Follows told old.config (point_in old) (entries.Shut (record { rg = rg; ruh = ruh }))
  pub going : IsTicketOf (state_in new) ticket g
  pub unit : ShutsUnit old.pages new.pages rg ruh spot

-- the unit of a handle is closed so, and then its write ends
pub record ShutsAndEnds (old new : BookSeen) (ticket : Ticket) (g : Going) (spot : Spot) (status : Status) (moment : ℕ) (done : Done) : Type 0 where
  pub completes : Completes old new (entries.Shut (record { rg = g.rg; ruh = g.ruh }) ∷ []) ticket.queue g.number g.command (bare status false) moment done
  pub follows : (told : Bool) → Follows told old.config (point_in old) (entries.Shut (record { rg = g.rg; ruh = g.ruh }))
  pub middle : PageTables
  pub shut : ShutsUnit old.pages middle g.rg g.ruh spot
  pub left : ChangesOwners middle new.pages
