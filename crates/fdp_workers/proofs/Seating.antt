-- What a turn makes of its seat.
use Rattle.std.proofs.Common.{◌≡◌, ◌≢◌, ◌⊎◌, inl, ⊎_elim, ℕ, ◌+◌, ◌<◌, ◌≤◌, true, List, [], ◌++◌, length, drop, None, Some, refl, sym, ◌∙◌, ap, subst, arith}
use Rattle.std.specs.Prelude.{map}
use mathlib.Core.List.{IsPrefix, append-nil}
use Rattle.fdp_base.specs.declared.command.Command.{Command}
use Rattle.fdp_base.specs.declared.entry.Entry.{Entry}
use Rattle.fdp_base.specs.declared.recorded.Mark.{Mark}
use Rattle.fdp_base.specs.CommandKinds.{blocks_written, is_write}
use Rattle.fdp_base.specs.Records.{carrying, CarriesOnly}
use Rattle.std.proofs.Math.Seq.{drop-append_seam}
use Rattle.fdp_base.proofs.Records.{carrying-none, prefix_length, prefix_trans}
use Rattle.fdp_core.specs.fdp_book.declared.ticket.Done.{Done}
use Rattle.fdp_core.specs.fdp_book.declared.ticket.Ticket.{Ticket}
use Rattle.fdp_core.specs.fdp_book.Tickets.{IsTicketOf}
use Rattle.fdp_gauge.specs.declared.gauge.Gauge.{Gauge}
use Rattle.fdp_gauge.specs.declared.gauge.Pass.{Pass}
use Rattle.fdp_gauge.specs.Passes as passes
use Rattle.fdp_lock.specs.declared.lock.GroupLock.{GroupLock}
use Rattle.fdp_lock.specs.declared.seat.Seat.{Seat}
use Rattle.fdp_lock.specs.Seats.{turns_of, number_of, seen_of, made_of, lock_origin, HoldsNoTurn, IsSeatOf, GoesOn, KeepsPlace}
use Rattle.fdp_rules.specs.PlainState.{Going}
use Rattle.fdp_workers.specs.Hosting.{AddsNothing, EndsAt, Expects, IsAt, IsFlyingAt, IsPaced, IsSpent, IsTicketIn, KeepsPost, StartsAt, StopsAt, WaitsAt, run_of}
use Rattle.fdp_workers.specs.Queues.{Has, NoOtherGoes, Progress, ended, flying}
use Rattle.fdp_workers.specs.Run.{IsHistory, Run, state_by}
use Rattle.fdp_workers.specs.Turns.{AddsNone, Completes, MakesRoom, PlacesPage, Starts}
use Rattle.fdp_workers.proofs.Turning.{GoesOnBy, by-none, by-own, completes-has, expects-has, made-all, none-has, own-longer, places-has, starts-has}
use Rattle.fdp_base.specs.declared.limits.TheConstants.{MOST_STEPS}

-- the write of a ticket is going where the queue has it
pub ticket-of : (run : Run) (queue : ℕ) (p : Progress) (x : Going) (count : ℕ) (ticket : Ticket) (es : List Entry) → IsTicketIn queue ticket x → Has run queue (flying p x count) es → IsTicketOf (state_by run es) ticket (record x { placed = count })
ticket-of run queue p x count ticket es is h = record {
  going_is = ap (λ (q : ℕ). (state_by run es).going q) is.queue_is ∙ h.going;
  number_is = is.number_is;
  position_is = is.position_is;
}

-- a queue's number is none of 0
pub nonzero : (n high : ℕ) → (1 ≤ n) × (n ≤ high) → n ≢ 0
nonzero n high within zero = omega (arith, within.0, zero)

-- what is added under the number of the seat may be left
pub leaves-own : {I : Type 0} (mark : I → Mark) (queue number : ℕ) (seen given before after new : List I) → queue ≡ number → seen ≡ given → before ≡ given → new ≡ after → GoesOnBy mark queue before after → CarriesOnly mark number (drop (length seen) new)
leaves-own {I} mark queue number seen given before after new own is before_is new_is by =
    subst (λ (xs : List I). CarriesOnly mark number (drop (length xs) new)) (before_is ∙ sym is)
    (subst (λ (xs : List I). CarriesOnly mark number (drop (length before) xs)) (sym new_is)
    (subst (λ (q : ℕ). CarriesOnly mark q (drop (length before) after)) own by.own))

pub leaves-on : {I : Type 0} (mark : I → Mark) (queue : ℕ) (seen given before after new : List I) → seen ≡ given → before ≡ given → new ≡ after → GoesOnBy mark queue before after → IsPrefix seen new
leaves-on {I} mark queue seen given before after new is before_is new_is by =
    subst (λ (xs : List I). IsPrefix xs new) (before_is ∙ sym is) (subst (IsPrefix before) (sym new_is) by.goes_on)

-- a step for a write that goes on adds items of its queue or of none
pub by-more : {I : Type 0} (entry : I → Entry) (mark : I → Mark) (old new : List I) (ticket : Ticket) (P : Type 0) → (PlacesPage entry mark old new ticket × P) ⊎ MakesRoom mark old new → GoesOnBy mark ticket.queue old new
by-more entry mark old new ticket P either = ⊎_elim (λ placed. by-own mark ticket.queue entry old new _ placed.0.adds) (λ room. by-none mark ticket.queue old new room.adds) either

-- a value with the origin and the record of another has its history
pub history-same : {S O I : Type 0} (origin : S → O) (entries : S → List I) (run : O → Run) (entry : I → Entry) (mark : I → Mark) (x z : S) → origin z ≡ origin x → entries z ≡ entries x → IsHistory (run (origin x)) entry mark (entries x) →
    IsHistory (run (origin z)) entry mark (entries z)
history-same origin entries run entry mark x z same_origin same_entries h =
    subst (λ o. IsHistory (run o) entry mark (entries z)) (sym same_origin) (subst (IsHistory (run (origin x)) entry mark) (sym same_entries) h)

module _ {S O I : Type 0} {g : _} (origin : S → O) (entries : S → List I) (run : O → Run) (entry : I → Entry) (mark : I → Mark) (lock : GroupLock S O I) where
  -- A seat before its turn, in it, and after it; the value that it was given, the one before the step, and those after the step and at the end
  -- of the turn.
  pub record Turned (s0 s1 s2 : Seat S O I g) (x y w z : S) : Type 0 where
    pub of_lock : IsSeatOf origin lock s0
    pub number : number_of s0 ≢ 0
    pub paced : IsPaced s0
    pub finds : GoesOn origin entries mark s0 x
    pub seen_entered : seen_of s1 ≡ entries x
    pub made_entered : made_of s1 ≡ made_of s0
    pub turns_entered : turns_of s1 ≡ turns_of s0 + 1
    pub place_entered : KeepsPlace s0 s1
    pub given : IsHistory (run (origin x)) entry mark (entries x)
    pub origin_before : origin y ≡ origin x
    pub entries_before : entries y ≡ entries x
    pub origin_after : origin z ≡ origin y
    pub entries_after : entries z ≡ entries w
    pub left : IsHistory (run (origin z)) entry mark (entries z)
    pub seen : seen_of s2 ≡ entries z
    pub made : made_of s2 ≡ made_of s1 ++ carrying mark (number_of s1) (drop (length (seen_of s1)) (entries z))
    pub no_turn : HoldsNoTurn s2
    pub turns : turns_of s2 ≡ turns_of s1
    pub place : KeepsPlace s1 s2

  pub origin-same : (s0 : Seat S O I g) (x : S) → IsSeatOf origin lock s0 → GoesOn origin entries mark s0 x → origin x ≡ lock_origin origin lock
  origin-same s0 x of_lock finds =
      let both : Some (origin x) ≡ Some (lock_origin origin lock) = sym finds.origin_is ∙ of_lock.1 in
      cc

  -- what a seat expects holds of the record that it is given
  pub given-has : (P : List Entry → Type 0) (s0 : Seat S O I g) (x : S) → IsSeatOf origin lock s0 → number_of s0 ≢ 0 → GoesOn origin entries mark s0 x → IsHistory (run (origin x)) entry mark (entries x) →
      Expects (run_of origin run lock) entry mark P s0 → P (map entry (entries x))
  given-has P s0 x of_lock number finds history expects =
      expects (entries x) finds.seen (finds.made number)
      (subst (λ (o : O). IsHistory (run o) entry mark (entries x)) (origin-same s0 x of_lock finds) history)

  -- in the turn the write of the ticket is going, with as many pages placed
  pub flying-given : (s0 : Seat S O I g) (x y : S) (p : Progress) (ticket : Ticket) (v : Going) (count : ℕ) → IsFlyingAt origin run entry mark lock p ticket v count s0 → number_of s0 ≢ 0 → GoesOn origin entries mark s0 x → IsHistory (run (origin x)) entry mark (entries x) →
      origin y ≡ origin x → entries y ≡ entries x → IsTicketOf (state_by (run (origin y)) (map entry (entries y))) ticket (record v { placed = count })
  flying-given s0 x y p ticket v count f number finds history same_origin same_entries =
      let of_lock = f.at.of_lock in
      let h = given-has (Has (run_of origin run lock) (number_of s0) (flying p v count)) s0 x of_lock number finds history f.at.has in
      let there = ticket-of (run_of origin run lock) (number_of s0) p v count ticket (map entry (entries x)) f.ticket_is h in
      subst (λ (o : O). IsTicketOf (state_by (run o) (map entry (entries y))) ticket (record v { placed = count })) (sym (same_origin ∙ origin-same s0 x of_lock finds))
      (subst (λ (xs : List I). IsTicketOf (state_by (run_of origin run lock) (map entry xs)) ticket (record v { placed = count })) (sym same_entries) there)

  -- the drive had made all its steps
  pub spent-same : (spent : S → ℕ) (s0 s2 : Seat S O I g) (x y : S) → IsSeatOf origin lock s0 → GoesOn origin entries mark s0 x → origin y ≡ origin x → entries y ≡ seen_of s2 → spent y ≡ MOST_STEPS → IsSpent origin entries spent lock s2
  spent-same spent s0 s2 x y of_lock finds same_origin seen all = record {
    value = y;
    origin_is = same_origin ∙ origin-same s0 x of_lock finds;
    entries_are = seen;
    spent_is = all;
  }

  module _ (s0 s1 s2 : Seat S O I g) (x y w z : S) (t : Turned s0 s1 s2 x y w z) where
    number-same : number_of s2 ≡ number_of s0
    number-same = t.place.number ∙ t.place_entered.number

    pub turned-has : (p : Progress) → IsAt origin run entry mark lock p s0 → Has (run_of origin run lock) (number_of s0) p (map entry (entries x))
    turned-has p at = given-has (Has (run_of origin run lock) (number_of s0) p) s0 x t.of_lock t.number t.finds t.given at.has

    left-history : IsHistory (run_of origin run lock) entry mark (entries z)
    left-history = subst (λ (o : O). IsHistory (run o) entry mark (entries z)) (t.origin_after ∙ t.origin_before ∙ origin-same s0 x t.of_lock t.finds) t.left

    -- what the step did, of the values at both ends of the turn
    step-of : (C : Run → List I → List I → ℕ → Type 0) (queue : ℕ) → queue ≡ number_of s0 → C (run (origin y)) (entries y) (entries w) queue → C (run_of origin run lock) (entries x) (entries z) (number_of s0)
    step-of C queue own step =
        subst (λ (o : O). C (run o) (entries x) (entries z) (number_of s0)) (t.origin_before ∙ origin-same s0 x t.of_lock t.finds)
        (subst (λ (xs : List I). C (run (origin y)) xs (entries z) (number_of s0)) t.entries_before
        (subst (λ (xs : List I). C (run (origin y)) (entries y) xs (number_of s0)) (sym t.entries_after)
        (subst (λ (q : ℕ). C (run (origin y)) (entries y) (entries w) q) own step)))

    made-is : IsPrefix (entries x) (entries z) → made_of s2 ≡ carrying mark (number_of s0) (entries z)
    made-is goes_on =
        let own : carrying mark (number_of s0) (entries x) ≡ made_of s1 = t.finds.made t.number ∙ sym t.made_entered in
        t.made
        ∙ ap (λ (q : ℕ). made_of s1 ++ carrying mark q (drop (length (seen_of s1)) (entries z))) t.place_entered.number
        ∙ ap (λ (xs : List I). made_of s1 ++ carrying mark (number_of s0) (drop (length xs) (entries z))) t.seen_entered
        ∙ made-all (run_of origin run lock) entry mark (number_of s0) (entries x) (made_of s1) (entries z) own goes_on

    -- the seat then knows what its queue has in the record
    turned-at : (p : Progress) → IsPrefix (entries x) (entries z) → Has (run_of origin run lock) (number_of s0) p (map entry (entries z)) → IsAt origin run entry mark lock p s2
    turned-at p goes_on h =
        let r : Run = run_of origin run lock in
        let own : made_of s2 ≡ carrying mark (number_of s2) (seen_of s2) = made-is goes_on ∙ ap (λ (q : ℕ). carrying mark q (entries z)) (sym number-same) ∙ ap (carrying mark (number_of s2)) (sym t.seen) in
        let there : Has r (number_of s2) p (map entry (seen_of s2)) = subst (λ (xs : List I). Has r (number_of s2) p (map entry xs)) (sym t.seen) (subst (λ (q : ℕ). Has r q p (map entry (entries z))) (sym number-same) h) in
        record {
          of_lock = (t.place.lock ∙ t.place_entered.lock ∙ t.of_lock.0, t.place.origin_is ∙ t.place_entered.origin_is ∙ t.of_lock.1);
          no_turn = t.no_turn;
          has = expects-has r entry mark (number_of s2) p (seen_of s2) (made_of s2) own there;
        }

    turned-paced : length (entries x) < length (entries z) → IsPaced s2
    turned-paced more =
        let shorter = prefix_length (seen_of s0) (entries x) t.finds.seen in
        let size = ap (λ (xs : List I). length xs) t.seen in
        let few = t.left.few in
        record {
          paced = omega (arith, t.paced.paced, shorter, more, size, t.turns, t.turns_entered);
          few = omega (arith, t.paced.paced, shorter, more, few, t.turns, t.turns_entered);
        }

    -- no step was made
    pub turned-stops : (p left : Progress) (number : ℕ) (command : Command) → left.commands ≡ p.commands → left.receipts ≡ p.receipts → NoOtherGoes number command left.going → entries w ≡ entries y → IsAt origin run entry mark lock left s0 →
        StopsAt origin run entry mark lock p number command s2
    turned-stops p left number command commands receipts only nothing at =
        let shorter = prefix_length (seen_of s0) (entries x) t.finds.seen in
        let same : entries z ≡ entries x = t.entries_after ∙ nothing ∙ t.entries_before in
        let size = ap (λ (xs : List I). length xs) (t.seen ∙ same) in
        let none : IsPrefix (entries x) (entries z) = subst (IsPrefix (entries x)) (sym same) (prefix-self (entries x)) in
        record {
          left = left;
          commands_are = commands;
          receipts_are = receipts;
          going = only;
          at = turned-at left none (subst (λ (xs : List I). Has (run_of origin run lock) (number_of s0) left (map entry xs)) (sym same) (turned-has left at));
          turns = omega (arith, t.paced.paced, shorter, size, t.turns, t.turns_entered);
        } where
          prefix-self : (xs : List I) → IsPrefix xs xs
          prefix-self xs = ([], append-nil xs)

    -- the step completed a command
    pub turned-ends : (p : Progress) (queue number : ℕ) (command : Command) (done : Done) (pass : Pass) → queue ≡ number_of s0 → (is_write command ≡ true) ⊎ (p.going ≡ None) → NoOtherGoes number command p.going → IsAt origin run entry mark lock p s0 →
        Completes (run (origin y)) entry mark (entries y) (entries w) queue number command done → IsPrefix (map mark (entries z)) (passes.seen_of pass) → EndsAt origin run entry mark lock p number command s2 pass done
    turned-ends p queue number command done pass own either only at step shown =
        let c : Completes (run_of origin run lock) entry mark (entries x) (entries z) (number_of s0) number command done = step-of (λ r old new q. Completes r entry mark old new q number command done) queue own step in
        let h = completes-has (run_of origin run lock) entry mark (number_of s0) p (entries x) (entries z) number command done c left-history t.number either only (turned-has p at) in
        let by = by-own mark (number_of s0) entry (entries x) (entries z) _ c.adds in
        record {
          at = turned-at (ended p number command done.position) by.goes_on h;
          paced = turned-paced (own-longer entry mark (number_of s0) (entries x) (entries z) _ c.adds);
          shown = subst (λ (xs : List I). IsPrefix (map mark xs) (passes.seen_of pass)) (sym t.seen) shown;
        }

    -- the step started a write
    pub turned-starts : (p : Progress) (queue number : ℕ) (command : Command) (ticket : Ticket) → queue ≡ number_of s0 → p.going ≡ None → IsAt origin run entry mark lock p s0 →
        Starts (run (origin y)) entry mark (entries y) (entries w) queue number command ticket → StartsAt origin run entry mark lock p number command s2 ticket
    turned-starts p queue number command ticket own idle at step =
        let c : Starts (run_of origin run lock) entry mark (entries x) (entries z) (number_of s0) number command ticket = step-of (λ r old new q. Starts r entry mark old new q number command ticket) queue own step in
        let s = starts-has (run_of origin run lock) entry mark (number_of s0) p (entries x) (entries z) number command ticket c left-history t.number idle (turned-has p at) in
        let by = by-own mark (number_of s0) entry (entries x) (entries z) _ c.adds in
        record {
          going = s.going;
          number_is = s.number_is;
          command_is = s.command_is;
          flies = record {
            ticket_is = subst (λ (q : ℕ). IsTicketIn q ticket s.going) (sym number-same) s.ticket_is;
            at = turned-at (flying p s.going 0) by.goes_on s.has;
            paced = turned-paced (own-longer entry mark (number_of s0) (entries x) (entries z) _ c.adds);
          };
        }

    -- the step placed a page of a write
    pub turned-places : (p : Progress) (ticket : Ticket) (v : Going) (count : ℕ) → IsFlyingAt origin run entry mark lock p ticket v count s0 →
        PlacesPage entry mark (entries y) (entries w) ticket → IsFlyingAt origin run entry mark lock p ticket v (count + 1) s2
    turned-places p ticket v count f step =
        let c : PlacesPage entry mark (entries x) (entries z) ticket = step-of (λ r old new q. PlacesPage entry mark old new ticket) (number_of s0) refl step in
        let own : ticket.queue ≡ number_of s0 = f.ticket_is.queue_is in
        let h = places-has (run_of origin run lock) entry mark (number_of s0) p (entries x) (entries z) ticket v count own f.ticket_is.position_is c left-history t.number (turned-has (flying p v count) f.at) in
        let by = by-own mark ticket.queue entry (entries x) (entries z) _ c.adds in
        record {
          ticket_is = subst (λ (q : ℕ). IsTicketIn q ticket v) (sym number-same) f.ticket_is;
          at = turned-at (flying p v (count + 1)) by.goes_on h;
          paced = turned-paced (own-longer entry mark ticket.queue (entries x) (entries z) _ c.adds);
        }

    -- the step made room for a write
    pub turned-makes : (p : Progress) (ticket : Ticket) (v : Going) (count : ℕ) → IsFlyingAt origin run entry mark lock p ticket v count s0 →
        AddsNone mark (entries y) (entries w) → length (entries y) < length (entries w) → IsFlyingAt origin run entry mark lock p ticket v count s2
    turned-makes p ticket v count f step more =
        let c : AddsNone mark (entries x) (entries z) = step-of (λ r old new q. AddsNone mark old new) (number_of s0) refl step in
        let longer : length (entries x) < length (entries z) = step-of (λ r old new q. length old < length new) (number_of s0) refl more in
        let h = none-has (run_of origin run lock) entry mark (number_of s0) (flying p v count) (entries x) (entries z) c left-history t.number (turned-has (flying p v count) f.at) in
        let by = by-none mark (number_of s0) (entries x) (entries z) c in
        record {
          ticket_is = subst (λ (q : ℕ). IsTicketIn q ticket v) (sym number-same) f.ticket_is;
          at = turned-at (flying p v count) by.goes_on h;
          paced = turned-paced longer;
        }

    -- the step ended a write
    pub turned-lands : (p : Progress) (ticket : Ticket) (v : Going) (count : ℕ) (done : Done) (pass : Pass) → IsFlyingAt origin run entry mark lock p ticket v count s0 →
        Completes (run (origin y)) entry mark (entries y) (entries w) ticket.queue v.number v.command done → IsPrefix (map mark (entries z)) (passes.seen_of pass) → EndsAt origin run entry mark lock p v.number v.command s2 pass done
    turned-lands p ticket v count done pass f step shown =
        let e = turned-ends (flying p v count) ticket.queue v.number v.command done pass f.ticket_is.queue_is (inl f.ticket_is.write) (refl, refl) f.at step shown in
        record { at = e.at; paced = e.paced; shown = e.shown }

    -- pages are still to be placed
    pub turned-waits : (p : Progress) (ticket next : Ticket) (v : Going) → (f : WaitsAt origin run entry mark lock p ticket v s0) → next ≡ ticket →
        (PlacesPage entry mark (entries y) (entries w) ticket × (f.count + 1 < blocks_written v.command)) ⊎ MakesRoom mark (entries y) (entries w) → WaitsAt origin run entry mark lock p next v s2
    turned-waits p ticket next v f same either =
        subst (λ (n : Ticket). WaitsAt origin run entry mark lock p n v s2) (sym same)
        (⊎_elim
        (λ placed. record { count = f.count + 1; asked = placed.1; flies = turned-places p ticket v f.count f.flies placed.0 })
        (λ room. record { count = f.count; asked = f.asked; flies = turned-makes p ticket v f.count f.flies room.adds room.some })
        either)

    -- all pages are placed
    pub turned-ready : (p : Progress) (ticket next : Ticket) (v : Going) (count : ℕ) → IsFlyingAt origin run entry mark lock p ticket v count s0 → next ≡ ticket → PlacesPage entry mark (entries y) (entries w) ticket → count + 1 ≡ blocks_written v.command →
        IsFlyingAt origin run entry mark lock p next v (blocks_written v.command) s2
    turned-ready p ticket next v count f same placed all =
        subst (λ (n : Ticket). IsFlyingAt origin run entry mark lock p n v (blocks_written v.command) s2) (sym same)
        (subst (λ (k : ℕ). IsFlyingAt origin run entry mark lock p ticket v k s2) all (turned-places p ticket v count f placed))

-- what stays of a worker in a turn
pub post-kept : {S O I : Type 0} {g : _} (gauge : Gauge) (s0 s1 s2 : Seat S O I g) (given new : List I) (before after : Pass) → KeepsPlace s0 s1 → KeepsPlace s1 s2 → IsPrefix (seen_of s0) given → seen_of s1 ≡ given → IsPrefix (seen_of s1) new → seen_of s2 ≡ new →
    passes.IsPassOf gauge after → IsPrefix (passes.seen_of before) (passes.seen_of after) → KeepsPost gauge s0 s2 before after
post-kept {S} {O} {I} gauge s0 s1 s2 given new before after entered left found is goes_on seen pass shown = record {
  place = record {
    lock = left.lock ∙ entered.lock;
    origin_is = left.origin_is ∙ entered.origin_is;
    number = left.number ∙ entered.number;
    parts = left.parts ∙ entered.parts;
    given = left.given ∙ entered.given;
  };
  pass_is = pass;
  seen = subst (IsPrefix (seen_of s0)) (sym seen) (prefix_trans (seen_of s0) given new found (subst (λ (xs : List I). IsPrefix xs new) is goes_on));
  shown = shown;
}

-- a turn that adds items without a number
pub adds-nothing : {S O I : Type 0} {g : _} (mark : I → Mark) (s0 s1 s2 : Seat S O I g) (given before new : List I) → KeepsPlace s0 s1 → KeepsPlace s1 s2 → IsPrefix (seen_of s0) given → seen_of s1 ≡ given → before ≡ given → AddsNone mark before new → seen_of s2 ≡ new → made_of s1 ≡ made_of s0 →
    made_of s2 ≡ made_of s1 ++ carrying mark (number_of s1) (drop (length (seen_of s1)) new) → AddsNothing s0 s2
adds-nothing {S} {O} {I} {g} mark s0 s1 s2 given before new entered left found is same adds seen kept made =
    let goes_on : IsPrefix given new = subst (λ (xs : List I). IsPrefix xs new) same (adds.added, sym adds.new_is) in
    let added : drop (length (seen_of s1)) new ≡ adds.added = ap (λ (xs : List I). drop (length xs) new) (is ∙ sym same) ∙ ap (drop (length before)) adds.new_is ∙ drop-append_seam before adds.added in
    record {
      place = record {
        lock = left.lock ∙ entered.lock;
        origin_is = left.origin_is ∙ entered.origin_is;
        number = left.number ∙ entered.number;
        parts = left.parts ∙ entered.parts;
        given = left.given ∙ entered.given;
      };
      seen = subst (IsPrefix (seen_of s0)) (sym seen) (prefix_trans (seen_of s0) given new found goes_on);
      made = λ nonzero.
          let other : number_of s1 ≢ 0 = λ zero. nonzero (sym entered.number ∙ zero) in
          let none : carrying mark (number_of s1) (drop (length (seen_of s1)) new) ≡ [] = ap (carrying mark (number_of s1)) added ∙ carrying-none mark (number_of s1) adds.added adds.none other in
          made ∙ ap (λ (xs : List I). made_of s1 ++ xs) none ∙ append-nil (made_of s1) ∙ kept;
    }

pub nothing-more : {S O I : Type 0} {g : _} (s0 s1 s2 : Seat S O I g) → AddsNothing s0 s1 → AddsNothing s1 s2 → AddsNothing s0 s2
nothing-more s0 s1 s2 a b = record {
  place = record {
    lock = b.place.lock ∙ a.place.lock;
    origin_is = b.place.origin_is ∙ a.place.origin_is;
    number = b.place.number ∙ a.place.number;
    parts = b.place.parts ∙ a.place.parts;
    given = b.place.given ∙ a.place.given;
  };
  seen = prefix_trans (seen_of s0) (seen_of s1) (seen_of s2) a.seen b.seen;
  made = λ nonzero. b.made (λ zero. nonzero (sym a.place.number ∙ zero)) ∙ a.made nonzero;
}

pub nothing-first : {S O I : Type 0} {g : _} (s : Seat S O I g) → AddsNothing s s
nothing-first s = record { place = record { lock = refl; origin_is = refl; number = refl; parts = refl; given = refl }; seen = ([], append-nil (seen_of s)); made = λ nonzero. refl }
