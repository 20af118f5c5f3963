-- A handle that is shut while its write is going.
use Rattle.std.proofs.Common.{◌≡◌, ℕ, List, [], ◌∷◌, ◌++◌, Option, refl, sym, ◌∙◌, ap, append_assoc, arith, subst}
use Rattle.fdp_base.specs.declared.command.Command.{Command}
use Rattle.fdp_base.specs.declared.config.DriveConfig.{DriveConfig}
use Rattle.fdp_base.specs.declared.entry.Entry.{Entry}
use Rattle.fdp_base.specs.declared.entry.Reply.{Reply}
use Rattle.fdp_base.specs.declared.entry.Spot.{Spot}
use Rattle.fdp_book.specs.declared.ticket.Done.{Done}
use Rattle.fdp_book.specs.declared.ticket.Ticket.{Ticket}
use Rattle.fdp_book.specs.Book.{BookSeen, IsLonger, point_in, state_in}
use Rattle.fdp_book.specs.Shutting.{IsNextOfHandle}
use Rattle.fdp_book.specs.Steps.{Completes, IsWaiting}
use Rattle.fdp_book.specs.Tickets.{IsTicketOf}
use Rattle.fdp_book.proofs.Held.Shut.{shut_entry}
use Rattle.fdp_readings.proofs.fdp_locations.Ended.{host}
use Rattle.fdp_rules.specs.Change.{after, changed_by}
use Rattle.fdp_rules.specs.Next.{next}
use Rattle.fdp_rules.specs.PlainState.{Going}
use Rattle.fdp_rules.specs.Point.{Point}
use Rattle.fdp_book.proofs.Longer.{point-one}

shut-going : (c : DriveConfig) (p : Point) (rg ruh : ℕ) → (next c p (shut_entry rg ruh)).state.going ≡ p.state.going
unfolding next after changed_by
shut-going c p rg ruh = refl

-- the write is going still
pub still-going : (b new : BookSeen) (ticket : Ticket) (g : Going) (rg ruh : ℕ) → IsLonger b new (shut_entry rg ruh ∷ []) → IsTicketOf (state_in b) ticket g → IsTicketOf (state_in new) ticket g
still-going b new ticket g rg ruh longer is = record {
  going_is = ap (λ (p : Point). p.state.going ticket.queue) (point-one b new (shut_entry rg ruh) longer) ∙ ap (λ (f : ℕ → Option Going). f ticket.queue) (shut-going b.config (point_in b) rg ruh) ∙ is.going_is;
  number_is = is.number_is;
  position_is = is.position_is;
}

-- the write that waits for its next page
pub record IsWaitingFor (b : BookSeen) (ticket : Ticket) (rg ruh : ℕ) (spot : Spot) : Type 0 where
  pub going : Going
  pub ticket_is : IsTicketOf (state_in b) ticket going
  pub next : IsNextOfHandle b ticket going rg ruh spot

pub waiting-for : (b now : BookSeen) (ticket : Ticket) (rg ruh : ℕ) (spot : Spot) → b ≡ now → IsWaiting now ticket → ((g : Going) → IsTicketOf (state_in now) ticket g → IsNextOfHandle now ticket g rg ruh spot) → IsWaitingFor b ticket rg ruh spot
waiting-for b now ticket rg ruh spot same waits next =
    subst (λ (x : BookSeen). IsWaitingFor x ticket rg ruh spot) (sym same) (record { going = waits.going; ticket_is = waits.ticket_is; next = next waits.going waits.ticket_is })

-- two entries, one after the other
pub longer-twice : (a b d : BookSeen) (x y : Entry) → IsLonger a b (x ∷ []) → IsLonger b d (y ∷ []) → IsLonger a d (x ∷ y ∷ [])
longer-twice a b d x y f g = record {
  config_is = g.config_is ∙ f.config_is;
  found_is = g.found_is ∙ f.found_is;
  opened_is = g.opened_is ∙ f.opened_is;
  entries_are = g.entries_are ∙ ap (λ (es : List Entry). es ++ y ∷ []) f.entries_are ∙ append_assoc a.entries (x ∷ []) (y ∷ []);
  spare_is = g.spare_is ∙ f.spare_is;
  spent_is = g.spent_is ∙ f.spent_is;
  room_is = omega (arith, f.room_is, g.room_is);
}

pub completes-shut : (b middle new : BookSeen) (x : Entry) (queue number : ℕ) (command : Command) (reply : Reply) (moment : ℕ) (done : Done) → IsLonger b middle (x ∷ []) → Completes middle new [] queue number command reply moment done → Completes b new (x ∷ []) queue number command reply moment done
completes-shut b middle new x queue number command reply moment done longer ends = record { step = longer-twice b middle new x (host queue number command reply moment) longer ends.step; done_is = ends.done_is }
