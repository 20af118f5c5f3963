-- A command that ends: what the tables stand for behind it, and the step that completes it.
use Rattle.std.proofs.Common.{◌≡◌, ℕ, ◌+◌, ◌≤◌, Bool, true, false, List, [], ◌∷◌, ◌++◌, length, Option, Some, None, refl, sym, ◌∙◌, ap, subst, arith}
use Rattle.std.specs.Prelude.{IfSome, IsFalse, MatchBool, option_map}
use Rattle.fdp_base.specs.declared.command.Command.{Command}
use Rattle.fdp_base.specs.declared.command.Write.{Write}
use Rattle.fdp_base.specs.declared.config.DriveConfig.{DriveConfig}
use Rattle.fdp_base.specs.declared.entry.Entry.{Entry}
use Rattle.fdp_base.specs.declared.entry.Reply.{Reply}
use Rattle.fdp_base.specs.declared.entry.Spot.{Spot}
use Rattle.fdp_base.specs.declared.status.Status.{Status}
use Rattle.fdp_base.specs.CommandKinds.{is_write, write_of}
use Rattle.fdp_book.specs.Book.{BookSeen, IsLonger, point_in, state_in, first_in}
use Rattle.fdp_book.specs.declared.extent.Extent.{Extent}
use Rattle.fdp_book.specs.declared.flight.Flight.{Flight}
use Rattle.fdp_book.specs.declared.room.Replies.{Replies}
use Rattle.fdp_book.specs.declared.tables.Tables.{Tables}
use Rattle.fdp_book.specs.declared.ticket.Done.{Done}
use Rattle.fdp_book.specs.declared.ticket.Ticket.{Ticket}
use Rattle.fdp_book.specs.Extent.{extent}
use Rattle.fdp_book.specs.Forgetting.{EndsIn, Forgets}
use Rattle.fdp_book.specs.Held.{IsHeld, flight_in, going_of}
use Rattle.fdp_book.specs.Logged.{Logged}
use Rattle.fdp_book.specs.Outlined.{Counts}
use Rattle.fdp_book.specs.Room.{IsTwice}
use Rattle.fdp_book.specs.Steps.{Completes, IsFlying, IsReady}
use Rattle.fdp_book.specs.Tickets.{IsTicketOf}
use Rattle.fdp_book.proofs.Committing.Points.{blocks-count}
use Rattle.fdp_book.proofs.Held.Ended.{held-answered, held-ended}
use Rattle.fdp_book.proofs.Placing.Nexts.{one-going}
use Rattle.fdp_history.specs.OrderlyState.{IsOrderlyGoing}
use Rattle.fdp_readings.proofs.fdp_locations.Ended.{host}
use Rattle.fdp_readings.specs.fdp_locations.Written.{Written}
use Rattle.fdp_map.specs.MapTable.{size_in}
use Rattle.fdp_rules.specs.Answer.{bare}
use Rattle.fdp_rules.specs.History.{Found}
use Rattle.fdp_rules.specs.PlainState.{Going}
use Rattle.fdp_rules.specs.Room.{size_of}
use Rattle.fdp_rules.specs.Step.{IsQueue, MaySucceed}
use Rattle.fdp_snapshot.specs.declared.state.Summary.{Summary}

-- ---- a command whose change is not made

by-kind : (c : DriveConfig) (found : Found) (first : Spot → Option Written) (es : List Entry) (t now : Tables) (outline : Summary) (queue number : ℕ) (command : Command) (reply : Reply) (moment : ℕ) →
    IsHeld c found first es t → IsQueue c queue → IsFalse reply.applied → (b : Bool) → is_write command ≡ b → MatchBool b (Forgets t now queue (flight_in t.flights.items queue)) (now ≡ t) → Counts 0 0 t.outline outline →
    IsHeld c found first (es ++ host queue number command reply moment ∷ []) (record now { outline = outline })
by-kind c found first es t now outline queue number command reply moment h queue_is unmade true write ends counts =
    held-ended c found first es t now outline queue number command reply moment (flight_in t.flights.items queue) h queue_is write unmade ends counts
by-kind c found first es t now outline queue number command reply moment h queue_is unmade false other same counts =
    subst (λ (x : Tables). IsHeld c found first (es ++ host queue number command reply moment ∷ []) (record x { outline = outline })) (sym same)
    (held-answered c found first es t outline queue number command reply moment h other unmade counts)

pub held-completed : (c : DriveConfig) (found : Found) (first : Spot → Option Written) (es : List Entry) (t now : Tables) (outline : Summary) (queue number : ℕ) (command : Command) (reply : Reply) (moment : ℕ) →
    IsHeld c found first es t → IsQueue c queue → IsFalse reply.applied → EndsIn t now queue command → Counts 0 0 t.outline outline → IsHeld c found first (es ++ host queue number command reply moment ∷ []) (record now { outline = outline })
held-completed c found first es t now outline queue number command reply moment h queue_is unmade ends counts =
    by-kind c found first es t now outline queue number command reply moment h queue_is unmade (is_write command) refl ends counts

-- ---- the flight of a ticket

-- the queue of a write that is going
pub flying-queue : (b now : BookSeen) (t : Tables) (queue : ℕ) (ticket : Ticket) → IsHeld b.config b.found (first_in b) b.entries t → b ≡ now → queue ≡ ticket.queue → IsFlying now ticket → IsQueue b.config queue
flying-queue b now t queue ticket h same queue_is flying =
    let going = subst (λ (y : BookSeen). IsFlying y ticket) (sym same) flying in
    subst (IsQueue b.config) (sym queue_is) (h.orderly.state.writes ticket.queue going.going going.ticket_is.going_is).queue_is

pub record IsEnding (b : BookSeen) (queue : ℕ) (ticket : Ticket) (f : Flight) : Type 0 where
  pub orderly : IsOrderlyGoing b.config (state_in b) queue (going_of f)
  pub own : IsTicketOf (state_in b) ticket (going_of f)

pub ending : (b now : BookSeen) (t : Tables) (queue : ℕ) (ticket : Ticket) (f : Flight) → IsHeld b.config b.found (first_in b) b.entries t → b ≡ now → queue ≡ ticket.queue → flight_in t.flights.items queue ≡ Some f → IsFlying now ticket → IsEnding b queue ticket f
ending b now t queue ticket f h same queue_is there flying =
    let flies = subst (λ (y : BookSeen). IsFlying y ticket) (sym same) flying in
    let going : (state_in b).going queue ≡ Some (going_of f) = h.flights_are.going queue ∙ ap (option_map going_of) there in
    let both : Some flies.going ≡ Some (going_of f) = sym flies.ticket_is.going_is ∙ sym (ap (state_in b).going queue_is) ∙ going in
    let one : flies.going ≡ going_of f = cc in
    record {
      orderly = h.orderly.state.writes queue (going_of f) going;
      own = subst (IsTicketOf (state_in b) ticket) one flies.ticket_is;
    }

-- the entry of the end of a flight
pub ended-entry : (queue number moment : ℕ) (f : Flight) (command : Command) (r : Replies) (reply : Reply) → command ≡ f.room.command → IsTwice reply r → host queue number command r.history moment ≡ host queue number f.room.command reply moment
ended-entry queue number moment f command r reply command_is twice =
    ap (λ (k : Command). host queue number k r.history moment) command_is ∙ ap (λ (y : Reply). host queue number f.room.command y moment) twice.history_is

-- what the tables stand for after the end of a flight whose change is not made
pub held-ending : (b now : BookSeen) (t left : Tables) (outline : Summary) (queue : ℕ) (ticket : Ticket) (f : Flight) (status : Status) (moment : ℕ) (old : Option Flight) →
    IsHeld b.config b.found (first_in b) b.entries t → b ≡ now → queue ≡ ticket.queue → flight_in t.flights.items queue ≡ Some f → IsFlying now ticket → Forgets t left queue old → Counts 0 0 t.outline outline →
    IsHeld b.config b.found (first_in b) (b.entries ++ host queue f.number f.room.command (bare status false) moment ∷ []) (record left { outline = outline })
held-ending b now t left outline queue ticket f status moment old h same queue_is there flying forgets counts =
    let k = ending b now t queue ticket f h same queue_is there flying in
    held-ended b.config b.found (first_in b) b.entries t left outline queue f.number f.room.command (bare status false) moment old h k.orderly.queue_is k.orderly.write refl forgets counts

-- ---- a write that succeeds

pub record IsCommitting (b : BookSeen) (t : Tables) (queue : ℕ) (ticket : Ticket) (f : Flight) : Type 0 where
  pub flight : IsEnding b queue ticket f
  pub w : Write
  pub write : write_of f.room.command ≡ Some w
  pub extent_is : extent w ≡ f.extent
  pub may : MaySucceed b.config (point_in b) (going_of f)
  pub count : length f.pages.items ≡ w.count
  pub range : w.slba + w.count ≤ size_in t.map w.nsid

some-of : (P : Write → Type 0) (o : Option Write) (w : Write) → o ≡ Some w → IfSome o P → P w
some-of P None w e h = absurd cc
some-of P (Some y) w e h = let same : y ≡ w = cc in subst P same h

the-write : (o : Option Write) (x : Extent) → Some x ≡ option_map extent o → (w : Write) × (o ≡ Some w) × (extent w ≡ x)
the-write None x is = absurd cc
the-write (Some w) x is = let one : extent w ≡ x = cc in (w, refl, one)

pub committing : (b now : BookSeen) (t : Tables) (queue : ℕ) (ticket : Ticket) (f : Flight) → IsHeld b.config b.found (first_in b) b.entries t → b ≡ now → queue ≡ ticket.queue → flight_in t.flights.items queue ≡ Some f → ((g : Going) → IsTicketOf (state_in now) ticket g → MaySucceed now.config (point_in now) g) → IsReady now ticket → IsCommitting b t queue ticket f
committing b now t queue ticket f h same queue_is there may_now ready =
    let may : (g : Going) → IsTicketOf (state_in b) ticket g → MaySucceed b.config (point_in b) g = subst (λ (y : BookSeen). (g : Going) → IsTicketOf (state_in y) ticket g → MaySucceed y.config (point_in y) g) (sym same) may_now in
    let k = ending b now t queue ticket f h same queue_is there (record { going = ready.going; ticket_is = ready.ticket_is }) in
    let succeeds = may (going_of f) k.own in
    let write = the-write (write_of f.room.command) f.extent f.extent_is in
    let range : write.0.slba + write.0.count ≤ size_of (state_in b) write.0.nsid = some-of (λ w. w.slba + w.count ≤ size_of (state_in b) w.nsid) (write_of f.room.command) write.0 write.1 (k.orderly.range succeeds.there) in
    record {
      flight = k;
      w = write.0;
      write = write.1;
      extent_is = write.2;
      may = succeeds;
      count = succeeds.placed ∙ blocks-count f.room.command write.0 write.1;
      range = omega (arith, range, h.map_is.sizes write.0.nsid);
    }

-- ---- the step that completes a write

-- a command is completed, with the answer to the entry that was logged
pub completed : (b new : BookSeen) (queue number moment : ℕ) (ticket : Ticket) (f : Flight) (command : Command) (r : Replies) (reply : Reply) (done : Done) (l : Logged) →
    IsLonger b new (host queue number command r.history moment ∷ []) → queue ≡ ticket.queue → command ≡ f.room.command → IsTwice reply r →
    done ≡ record { position = l.before + length l.entries; moment = moment; reply = r.answer } → l.before ≡ new.found.totals.position → new.entries ≡ l.entries →
    Completes b new [] ticket.queue number f.room.command reply moment done
completed b new queue number moment ticket f command r reply done l longer queue_is command_is twice done_is before entries_are = record {
  step = subst (λ (e : Entry). IsLonger b new (e ∷ [])) (ap (λ (q : ℕ). host q number command r.history moment) queue_is ∙ ended-entry ticket.queue number moment f command r reply command_is twice) longer;
  done_is = done_is ∙ ap (λ (y : Reply). record { position = l.before + length l.entries; moment = moment; reply = y }) twice.answer_is
      ∙ ap (λ (es : List Entry). record { position = l.before + length es; moment = moment; reply = reply }) (sym entries_are)
      ∙ ap (λ (n : ℕ). record { position = n + length new.entries; moment = moment; reply = reply }) before;
}

-- and another command
pub completes-told : (b new : BookSeen) (queue number moment : ℕ) (command : Command) (r : Replies) (reply : Reply) (done : Done) (l : Logged) →
    IsLonger b new (host queue number command r.history moment ∷ []) → IsTwice reply r → done ≡ record { position = l.before + length l.entries; moment = moment; reply = r.answer } → l.before ≡ new.found.totals.position → new.entries ≡ l.entries →
    Completes b new [] queue number command reply moment done
completes-told b new queue number moment command r reply done l longer twice done_is before entries_are = record {
  step = subst (λ (y : Reply). IsLonger b new (host queue number command y moment ∷ [])) twice.history_is longer;
  done_is = done_is ∙ ap (λ (y : Reply). record { position = l.before + length l.entries; moment = moment; reply = y }) twice.answer_is
      ∙ ap (λ (es : List Entry). record { position = l.before + length es; moment = moment; reply = reply }) (sym entries_are)
      ∙ ap (λ (n : ℕ). record { position = n + length new.entries; moment = moment; reply = reply }) before;
}

pub completes-by : (b new : BookSeen) (before : List Entry) (ticket : Ticket) (f : Flight) (g : Going) (reply : Reply) (moment : ℕ) (done : Done) → IsTicketOf (state_in b) ticket (going_of f) → IsTicketOf (state_in b) ticket g → Completes b new before ticket.queue f.number f.room.command reply moment done → Completes b new before ticket.queue g.number g.command reply moment done
completes-by b new before ticket f g reply moment done own is ends =
    subst (λ (k : Going). Completes b new before ticket.queue k.number k.command reply moment done) (one-going (state_in b) ticket (going_of f) g own is) ends
