-- Tickets of going writes, and where their next pages go.
use Rattle.std.specs.Prelude.{◌≡◌, ℕ, ◌≤◌, ◌<◌, Bool, IsFalse, IsTrue, Some, None, option_map}
use Rattle.fdp_base.specs.declared.command.Write.{Write}
use Rattle.fdp_base.specs.declared.entry.Entry.TheVariants as entries
use Rattle.fdp_base.specs.declared.entry.Spot.{Spot}
use Rattle.fdp_base.specs.CommandKinds.{blocks_written, write_of}
use Rattle.fdp_base.specs.Spare.{data_spare}
use Rattle.fdp_book.specs.declared.next_page.NextPage.{NextPage}
use Rattle.fdp_book.specs.declared.next_page.NextPage.TheVariants as next
use Rattle.fdp_book.specs.declared.ticket.Ticket.{Ticket}
use Rattle.fdp_book.specs.Book.{BookSeen, point_in, state_in}
use Rattle.fdp_readings.specs.fdp_locations.Located.{next_in}
use Rattle.fdp_readings.specs.fdp_locations.Written.{next_spare}
use Rattle.fdp_readings.specs.fdp_pages.Steps.{MayPut}
use Rattle.fdp_rules.specs.PlainState.{Going, PlainState}
use Rattle.fdp_rules.specs.Sites.{is_there}
use Rattle.fdp_rules.specs.Step.{Follows}
use Rattle.fdp_units.specs.DataUnits.{is_free, is_lost}
use Rattle.fdp_units.specs.UnitTable.{IsLowestFree, IsUnit, count_in, state_at}

-- the ticket is that of the write that is going in its queue
pub record IsTicketOf (s : PlainState) (ticket : Ticket) (g : Going) : Type 0 where
  pub going_is : s.going ticket.queue ≡ Some g
  pub number_is : g.number ≡ ticket.number
  pub position_is : g.ticket ≡ ticket.position

-- a handle that has no unit takes the free unit with the lowest number, where three at least are free
pub record TakesUnit (b : BookSeen) (rg unit : ℕ) : Type 0 where
  pub lowest : IsLowestFree b.pages.units rg unit
  pub three : 3 ≤ count_in b.pages.units rg is_free

-- the next page of a going write may be placed here: it is a legal step; it is the page that its handle uses next, and that of
-- its unit, which is in use; a unit that the handle did not have is one that it may take
pub record IsNextSpot (b : BookSeen) (ticket : Ticket) (g : Going) (spot : Spot) : Type 0 where
  pub follows : (told : Bool) → Follows told b.config (point_in b) (entries.Placed (record { ticket = ticket.position; index = g.placed; unit = spot.unit; page = spot.page }))
  pub there : IsTrue (is_there (state_in b) g)
  pub may : MayPut b.pages g.rg g.ruh spot
  pub fresh : spot.page ≡ next_in b.pages.units spot.unit
  pub is_unit : IsUnit b.pages.units spot.unit
  pub kept : IsFalse (is_lost (state_at b.pages.units spot.unit))
  pub taken : ((state_in b).references g.rg g.ruh).unit ≡ None → TakesUnit b g.rg spot.unit

-- the next page of a going write has no place: its namespace is there, its handle has no unit in its group, and fewer than three
-- units of that are free
pub record WantsUnit (b : BookSeen) (g : Going) : Type 0 where
  pub there : IsTrue (is_there (state_in b) g)
  pub asked : g.placed < blocks_written g.command
  pub none : ((state_in b).references g.rg g.ruh).unit ≡ None
  pub few : count_in b.pages.units g.rg is_free < 3

-- what a going write comes to next, with its cause: its namespace is gone; it wants a unit; or this is its next page
abbrev pub ComesTo : BookSeen → Ticket → Going → NextPage → Type 0
ComesTo b ticket g next.Gone = IsFalse (is_there (state_in b) g)
ComesTo b ticket g next.WantsUnit = WantsUnit b g
ComesTo b ticket g (next.At spot index spare) = IsNextSpot b ticket g spot × (index ≡ g.placed) × (option_map (λ (w : Write). data_spare (next_spare (state_in b) g w)) (write_of g.command) ≡ Some spare)
