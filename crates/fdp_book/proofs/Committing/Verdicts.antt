-- How a write whose pages are placed may end.
use Rattle.std.proofs.Common.{◌≡◌, ℕ, Bool, false, IsTrue, IsFalse, length, Option, Some, None, sym, ◌∙◌, ap, subst, arith}
use Rattle.std.specs.Prelude.{is_some, option_map}
use Rattle.std.specs.Option.{option_map_or}
use Rattle.fdp_base.specs.declared.config.DriveConfig.{DriveConfig}
use Rattle.fdp_base.specs.declared.entry.Spot.{Spot}
use Rattle.fdp_base.specs.CommandKinds.{blocks_written, write_of}
use Rattle.fdp_flash.proofs.Lists.{slice_get_there}
use Rattle.fdp_rules.specs.PlainState.{Going, PlainState}
use Rattle.fdp_rules.specs.Room.{is_over_budget}
use Rattle.fdp_rules.specs.Sites.{is_there}
use Rattle.fdp_rules.specs.Step.{MaySucceed, exceeds_budget}
use Rattle.fdp_book.specs.declared.extent.Extent.{Extent}
use Rattle.fdp_book.specs.declared.flight.Flight.{Flight}
use Rattle.fdp_book.specs.declared.ticket.Ticket.{Ticket}
use Rattle.fdp_book.specs.Book.{BookSeen, point_in, state_in}
use Rattle.fdp_book.specs.Steps.{IsReady}
use Rattle.fdp_book.specs.Extent.{extent}
use Rattle.fdp_book.specs.Flown.{IsFlightAt}
use Rattle.fdp_book.specs.Held.{going_of}
use Rattle.fdp_book.proofs.Placing.Nexts.{one-going}
use Rattle.fdp_base.specs.declared.command.Write.{Write}

-- a going write exceeds its budget where its blocks do
exceeds-of : (c : DriveConfig) (s : PlainState) (rg : ℕ) (w : Option Write) (x : Extent) → option_map extent w ≡ Some x → option_map_or (λ (y : Write). is_over_budget c s rg y.nsid y.slba y.count) w false ≡ is_over_budget c s rg x.nsid x.slba x.count
exceeds-of c s rg None x e = absurd cc
exceeds-of c s rg (Some w) x e = let same : extent w ≡ x = cc in ap (λ (y : Extent). is_over_budget c s rg y.nsid y.slba y.count) same

pub exceeds-is : (c : DriveConfig) (s : PlainState) (f : Flight) (over : Bool) → over ≡ is_over_budget c s f.rg f.extent.nsid f.extent.slba f.extent.count → exceeds_budget c s (going_of f) ≡ over
exceeds-is c s f over is = exceeds-of c s f.rg (write_of f.room.command) f.extent (sym f.extent_is) ∙ sym is

-- a write whose namespace is there, whose blocks fit, and whose pages are placed may succeed
pub may-succeed : (b : BookSeen) (ticket : Ticket) (f : Flight) → IsFlightAt b ticket f → IsReady b ticket → IsTrue (is_there (state_in b) (going_of f)) → IsFalse (exceeds_budget b.config (state_in b) (going_of f)) → MaySucceed b.config (point_in b) (going_of f)
may-succeed b ticket f at ready there fits =
    let same : ready.going ≡ going_of f = one-going (state_in b) ticket ready.going (going_of f) ready.ticket_is at.going in
    let placed : length f.pages.items ≡ blocks_written f.room.command = subst (λ (g : Going). g.placed ≡ blocks_written g.command) same ready.placed in
    record {
      there = there;
      fits = fits;
      placed = placed;
      pages = λ index below.
          let found = slice_get_there f.pages.items index (omega (arith, below, placed)) in
          ap (λ (o : Option Spot). is_some o) (at.pages there index found.0 found.1);
      target = at.target there;
    }
