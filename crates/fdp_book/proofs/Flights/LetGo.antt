-- A flight that is made for an accepted write, and what its step is.
use Rattle.std.proofs.Common.{◌≡◌, ℕ, ◌+◌, ◌<◌, Bool, [], ◌∷◌, length, Option, Some, None, refl, sym, ◌∙◌, ap, subst, cond, eq-eqb, length-append, arith}
use Rattle.std.specs.Prelude.{option_map}
use Rattle.fdp_base.specs.declared.command.Command.{Command}
use Rattle.fdp_base.specs.declared.command.Command.TheVariants as commands
use Rattle.fdp_base.specs.declared.command.Write.{Write}
use Rattle.fdp_base.specs.declared.entry.Entry.{Entry}
use Rattle.fdp_base.specs.declared.entry.Entry.TheVariants as entries
use Rattle.fdp_rules.specs.Change.{birth_of, started}
use Rattle.fdp_base.specs.CommandKinds.{IsWellFormed, pid_of, write_of}
use Rattle.fdp_rules.specs.History.{Found}
use Rattle.fdp_rules.specs.Next.{next}
use Rattle.fdp_base.specs.Numbers.{with_at}
use Rattle.fdp_rules.specs.PlainState.{Going}
use Rattle.fdp_rules.specs.Point.{Point}
use Rattle.fdp_rules.specs.Refusal.{refusal_of}
use Rattle.fdp_rules.specs.Room.{roomiest}
use Rattle.fdp_rules.specs.Step.{Follows, IsOnTarget, IsQueue, goes_to}
use Rattle.fdp_rules.specs.Target.{target_of}
use Rattle.fdp_history.specs.Orderly.{IsOrderly}
use Rattle.fdp_commands.specs.declared.admission.Admission.{Admission}
use Rattle.fdp_commands.specs.declared.targets.Destination.{Destination}
use Rattle.fdp_commands.specs.Targets.{target_at}
use Rattle.fdp_book.specs.declared.flight.Flight.{Flight}
use Rattle.fdp_book.specs.declared.ticket.Ticket.{Ticket}
use Rattle.fdp_book.specs.Book.{BookSeen, IsLonger, point_in, position_in, state_in}
use Rattle.fdp_book.specs.Steps.{MayStart, Starts}
use Rattle.fdp_book.specs.Held.{going_of}
use Rattle.fdp_book.specs.Room.{RoomSeen}
use Rattle.fdp_book.proofs.Held.Started.{IsLetGo, started-going}
use Rattle.fdp_book.proofs.Flights.Starting.{IsDestination, position-is, started-follows}
use Rattle.fdp_book.proofs.Longer.{point-one}

-- where a flight goes
abbrev destination_of : Flight → Destination
destination_of f = record { rg = f.rg; ruh = f.ruh; valid = f.pid_valid }

-- a flight is made for a write
pub record IsMadeFor (b : BookSeen) (number : ℕ) (w : Write) (f : Flight) : Type 0 where
  pub number_is : f.number ≡ number
  pub ticket_is : f.ticket ≡ position_in b + 1
  pub birth_is : f.birth ≡ birth_of (state_in b) w.nsid
  pub roomiest_is : f.roomiest ≡ roomiest b.config (state_in b)
  pub target : target_at (destination_of f) ≡ target_of b.config (state_in b) f.roomiest w.nsid (pid_of w)
  pub group : f.rg < b.config.groups
  pub empty : f.pages.items ≡ []

made-destination : (b : BookSeen) (number : ℕ) (w : Write) (f : Flight) → IsMadeFor b number w f → IsDestination b.config (state_in b) w (destination_of f)
made-destination b number w f m = record {
  target = m.target ∙ ap (λ (rg : ℕ). target_of b.config (state_in b) rg w.nsid (pid_of w)) m.roomiest_is;
  group = m.group;
}

made-target : (b : BookSeen) (number : ℕ) (w : Write) (f : Flight) → IsMadeFor b number w f → Some (goes_to b.config (state_in b) (roomiest b.config (state_in b)) w) ≡ Some (target_at (destination_of f))
made-target b number w f m = ap Some (sym (made-destination b number w f m).target)

let-go-write : (b : BookSeen) (queue number : ℕ) (w : Write) (f : Flight) → IsOrderly b.config (point_in b) → IsQueue b.config queue → IsWellFormed b.config (commands.Write w) → refusal_of b.config (point_in b) (commands.Write w) ≡ None → f.room.command ≡ commands.Write w → IsMadeFor b number w f → IsLetGo b.config (point_in b) queue number (commands.Write w) f
let-go-write b queue number w f h queue_is formed accepted command_is m =
    let ticket : f.ticket ≡ (state_in b).position + 1 = m.ticket_is ∙ ap (λ (n : ℕ). n + 1) (sym (position-is b.config b.found b.entries h)) in
    let birth : f.birth ≡ birth_of (state_in b) w.nsid = m.birth_is in
    let placed : length f.pages.items ≡ 0 = ap length m.empty in
    let number_is : f.number ≡ number = m.number_is in
    let roomiest_is : f.roomiest ≡ roomiest b.config (state_in b) = m.roomiest_is in
    let going : going_of f ≡ started b.config (state_in b) number (commands.Write w) f.rg f.ruh f.pid_valid = cc in
    record {
      follows = started-follows b.config (point_in b) queue w (destination_of f) h queue_is formed accepted (made-destination b number w f m);
      going = going;
      target = subst (λ (g : Going). IsOnTarget b.config (state_in b) g) (sym going) (made-target b number w f m);
      empty = m.empty;
    }

pub let-go : (b : BookSeen) (queue number : ℕ) (command : Command) (a : Admission) (f : Flight) → IsOrderly b.config (point_in b) → (may : MayStart b queue command a f.room) → IsMadeFor b number may.admitted.write f → IsLetGo b.config (point_in b) queue number command f
let-go b queue number command a f h may m =
    let w : Write = may.admitted.write in
    let is : command ≡ commands.Write w = may.admitted.command_is in
    subst (λ (k : Command). IsLetGo b.config (point_in b) queue number k f) (sym is)
    (let-go-write b queue number w f h may.queue_is (subst (λ (k : Command). IsWellFormed b.config k) is may.formed) may.admitted.admits.accepted (ap (λ (r : RoomSeen). r.command) may.room_is ∙ is) m)

here : (table : ℕ → Option Going) (queue : ℕ) (g : Option Going) → with_at table queue g queue ≡ g
here table queue g = ap (λ (b : Bool). cond b g (table queue)) (eq-eqb queue queue refl)

-- the step of a flight that was let go
pub starts : (old new : BookSeen) (queue number : ℕ) (command : Command) (w : Write) (f : Flight) (ticket : Ticket) → IsOrderly old.config (point_in old) → IsLetGo old.config (point_in old) queue number command f → command ≡ commands.Write w → IsMadeFor old number w f → IsLonger old new (entries.Started (record { queue = queue; number = number; command = command; rg = f.rg; ruh = f.ruh; pid_valid = f.pid_valid }) ∷ []) → ticket ≡ record { queue = queue; number = number; position = f.ticket } → Starts old new queue number command ticket
unfolding Follows
starts old new queue number command w f ticket h l is m longer ticket_is =
    let e : Entry = entries.Started (record { queue = queue; number = number; command = command; rg = f.rg; ruh = f.ruh; pid_valid = f.pid_valid }) in
    let length_is : length new.entries ≡ length old.entries + 1 = ap length longer.entries_are ∙ length-append old.entries (e ∷ []) in
    let count : position_in new ≡ position_in old + 1 = omega (arith, length_is, ap (λ (x : Found). x.totals.position) longer.found_is) in
    let now : point_in new ≡ next old.config (point_in old) e = point-one old new e longer in
    record {
      target = target_at (destination_of f);
      target_is = ap (λ (k : Command). option_map (goes_to old.config (state_in old) (roomiest old.config (state_in old))) (write_of k)) is ∙ made-target old number w f m;
      step = longer;
      follows = λ told. l.follows;
      ticket_is = ticket_is ∙ ap (λ (p : ℕ). record { queue = queue; number = number; position = p }) (m.ticket_is ∙ sym count);
      going = record {
        going_is =
            ap (λ (t : Ticket). (state_in new).going t.queue) ticket_is
            ∙ ap (λ (p : Point). p.state.going queue) now
            ∙ ap (λ (g : ℕ → Option Going). g queue) (started-going old.config (point_in old) queue number command f.rg f.ruh f.pid_valid)
            ∙ here (state_in old).going queue _;
        number_is = sym (ap (λ (t : Ticket). t.number) ticket_is);
        position_is = ap (λ (n : ℕ). n + 1) (position-is old.config old.found old.entries h) ∙ sym m.ticket_is ∙ sym (ap (λ (t : Ticket). t.position) ticket_is);
      };
    }
