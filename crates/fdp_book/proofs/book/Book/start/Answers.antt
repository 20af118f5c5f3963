use Rattle.std.proofs.Common.{◌≡◌, ℕ, ◌+◌, ◌<◌, [], ◌∷◌, ◌++◌, length, List, Option, Some, None, slice_set, refl, sym, ◌∙◌, ap, subst}
use Rattle.std.specs.Prelude.{option_map, unwrap_or}
use Rattle.std.specs.Option.{option_map_or}
use Rattle.fdp_base.specs.declared.entry.Entry.{Entry}
use Rattle.fdp_base.specs.declared.entry.Entry.TheVariants as entries
use Rattle.fdp_base.specs.declared.command.Command.{Command}
use Rattle.fdp_base.specs.declared.command.Command.TheVariants as commands
use Rattle.fdp_base.specs.declared.command.Write.{Write}
use Rattle.fdp_base.specs.CommandKinds.{pid_of, write_of}
use Rattle.fdp_rules.specs.Change.{birth_of}
use Rattle.fdp_rules.specs.PlainState.{Going, Namespace}
use Rattle.fdp_rules.specs.Target.{target_of}
use Rattle.fdp_book.specs.declared.extent.Extent.{Extent}
use Rattle.fdp_book.specs.Extent.{extent}
use Rattle.fdp_book.specs.Room.{RoomSeen}
use Rattle.fdp_book.specs.Steps.{MayStart}
use Rattle.fdp_book.specs.declared.flight.Flight.{Flight}
use Rattle.fdp_book.specs.Book.{BookSeen, IsLonger, point_in, position_in, state_in, first_in}
use Rattle.fdp_book.specs.Held.{IsHeld, book_of}
use Rattle.fdp_book.proofs.Held.Started.{IsLetGo, held_started}
use Rattle.fdp_book.proofs.Flights.LetGo.{IsMadeFor, let-go, starts}
use Rattle.fdp_book.specs.declared.tables.Tables.{Tables}
use Rattle.fdp_book.specs.Held.{flight_in}
use Rattle.fdp_book.proofs.Forgetting.{may-forget, set-twice}
use Rattle.fdp_rules.specs.Step.{IsQueue}
use Rattle.std.specs.Vec.{with_item}
use Rattle.fdp_book.specs.Outlined.{Counts}
use Rattle.fdp_book.specs.Saving.{AreSmall}
use Rattle.fdp_book.proofs.Numbers.{generation-counted, numbers-logged, small-totals}
use Rattle.fdp_book.proofs.Outlining.{namespaces-said}
use Rattle.fdp_book.proofs.book.Book.start.Goals as goal
use Rattle.fdp_readings.specs.fdp_locations.Held.{pages_held}

birth-read : (o p : Option Namespace) → o ≡ p → unwrap_or (option_map (λ (x : Namespace). x.birth) p) 0 ≡ option_map_or (λ (x : Namespace). x.birth) o 0
birth-read None None e = refl
birth-read (Some x) (Some y) e = let same : x ≡ y = cc in ap (λ (n : Namespace). n.birth) (sym same)
birth-read None (Some y) e = absurd cc
birth-read (Some x) None e = absurd cc

-- the flight that is made
abbrev flight : goal.After-push → Flight
flight c = c.new_flight-flight.result

abbrev started-entry : goal.After-push → Entry
started-entry c = entries.Started (record { queue = c.args.queue; number = c.args.number; command = c.args.command; rg = c.args.admission.target.rg; ruh = c.args.admission.target.ruh; pid_valid = c.args.admission.target.valid })

held : (c : goal.After-push) → IsHeld c.args.self.now.config c.args.self.now.found (first_in c.args.self.now) c.args.self.now.entries c.self.inside.tables
held c = subst (λ (b : BookSeen). IsHeld b.config b.found (first_in b) b.entries c.self.inside.tables) c.self.view_is c.self.invariant.held

abbrev the-write : goal.After-push → Write
the-write c = c.requires.may.admitted.write

extent-known : (k : Command) (w : Write) (x : Extent) → k ≡ commands.Write w → Some x ≡ option_map extent (write_of k) → extent w ≡ x
extent-known k w x e is =
    let both : Some x ≡ Some (extent w) = is ∙ ap (λ (y : Command). option_map extent (write_of y)) e in
    cc

-- the blocks of the flight are those of the write
nsid-is : (c : goal.After-push) → c.unwrap-extent.result.nsid ≡ (the-write c).nsid
nsid-is c =
    let command_is : c.args.room.command ≡ commands.Write (the-write c) = ap (λ (r : RoomSeen). r.command) c.requires.may.room_is ∙ c.requires.may.admitted.command_is in
    let is : Some c.unwrap-extent.result ≡ option_map extent (write_of c.args.room.command) = sym c.unwrap-extent.ensures ∙ c.extent_of.ensures ∙ ap (λ (k : Command). option_map extent (write_of k)) c.command.ensures in
    ap (λ (x : Extent). x.nsid) (sym (extent-known c.args.room.command (the-write c) c.unwrap-extent.result command_is is))

made : (c : goal.After-push) → IsMadeFor c.args.self.now c.args.number (the-write c) (flight c)
made c =
    let going = c.new_flight-flight.ensures.going in
    let roomiest_is : (flight c).roomiest ≡ c.args.admission.roomiest = ap (λ (g : Going). g.roomiest) going in
    record {
      number_is = ap (λ (g : Going). g.number) going;
      ticket_is = ap (λ (g : Going). g.ticket) going ∙ ap (λ (n : ℕ). n + 1) (c.position-position.ensures.position ∙ ap (λ (n : ℕ). n + length c.self.inside.log.entries) c.self.invariant.before_is ∙ ap position_in c.self.view_is);
      birth_is = ap (λ (g : Going). g.birth) going ∙ c.unwrap_or-birth.ensures ∙ ap (λ (o : Option ℕ). unwrap_or o 0) c.birth.ensures ∙ birth-read _ _ (namespaces-said c.args.self.now.config (point_in c.args.self.now) c.self.inside.tables.outline (held c).outline_is c.unwrap-extent.result.nsid) ∙ ap (birth_of (state_in c.args.self.now)) (nsid-is c);
      roomiest_is = roomiest_is ∙ c.requires.may.admitted.admits.roomiest_is;
      target =
          ap (λ (g : Going). record { rg = g.rg; ruh = g.ruh; valid = g.pid_valid }) going
          ∙ c.requires.may.admitted.admits.target_is
          ∙ ap (λ (rg : ℕ). target_of c.args.self.now.config (state_in c.args.self.now) rg (the-write c).nsid (pid_of (the-write c))) (sym roomiest_is);
      group = subst (λ (g : Going). g.rg < c.args.self.now.config.groups) (sym going) c.requires.may.admitted.admits.group;
      empty = c.new_flight-flight.ensures.empty;
    }

may : (c : goal.After-push) → MayStart c.args.self.now c.args.queue c.args.command c.args.admission (flight c).room
may c = subst (MayStart c.args.self.now c.args.queue c.args.command c.args.admission) (sym c.new_flight-flight.ensures.room) c.requires.may

go : (c : goal.After-push) → IsLetGo c.args.self.now.config (point_in c.args.self.now) c.args.queue c.args.number c.args.command (flight c)
unfolding may
go c = let-go c.args.self.now c.args.queue c.args.number c.args.command c.args.admission (flight c) (held c).orderly (may c) (made c)

-- the entry tells where the flight goes
entry-is : (c : goal.After-push) → started-entry c ≡ entries.Started (record { queue = c.args.queue; number = c.args.number; command = c.args.command; rg = (flight c).rg; ruh = (flight c).ruh; pid_valid = (flight c).pid_valid })
entry-is c = ap (λ (g : Going). entries.Started (record { queue = c.args.queue; number = c.args.number; command = c.args.command; rg = g.rg; ruh = g.ruh; pid_valid = g.pid_valid })) (sym c.new_flight-flight.ensures.going)

pub drop_flight-requires : goal.drop_flight-requires
drop_flight-requires c =
    let old = c.self.inside in
    may-forget old.config old.origin.found (pages_held old.config old.origin.cells) old.log.entries old.tables c.args.queue c.self.invariant.held (subst (λ (b : BookSeen). IsQueue b.config c.args.queue) (sym c.self.view_is) c.requires.may.queue_is)

pub count-requires-clause-small : goal.count-requires-clause-small
count-requires-clause-small c =
    let old = c.self.inside in
    subst (λ (t : Tables). AreSmall t.outline.totals) (sym c.drop_flight.ensures.rest) (small-totals old.config old.origin old.log old.tables c.position-position.result c.self.invariant c.position-position.ensures.position c.position-position.ensures.small c.position-position.ensures.few)

pub invariant_of-self : goal.invariant_of-self
invariant_of-self c =
    let old = c.self.inside in
    let go_old : IsLetGo old.config (point_in (book_of old.config old.origin old.log old.tables)) c.args.queue c.args.number c.args.command (flight c) =
    subst (λ (b : BookSeen). IsLetGo b.config (point_in b) c.args.queue c.args.number c.args.command (flight c)) (sym c.self.view_is) (go c) in
    let mid : Tables = c.drop_flight.new.tables in
    let now : Tables = record mid { outline = c.count.new.outline; flights = with_item mid.flights c.from.result (Some (flight c)) } in
    let forgets = c.drop_flight.ensures in
    record {
      held = held_started old.config old.origin.found (pages_held old.config old.origin.cells) old.log.entries c.push.new.self.entries old.tables mid now c.args.queue c.args.number c.args.command (flight c)
          c.self.invariant.held go_old
          (record {
            old = flight_in old.tables.flights.items c.args.queue;
            forgets = forgets;
            flights_are = ap (λ (q : ℕ). slice_set mid.flights.items q (Some (flight c))) c.from.ensures ∙ ap (λ (xs : List (Option Flight)). slice_set xs c.args.queue (Some (flight c))) forgets.flights_are ∙ set-twice old.tables.flights.items c.args.queue None (Some (flight c));
            counts = subst (λ (t : Tables). Counts 0 0 t.outline c.count.new.outline) forgets.rest c.count.ensures;
            map = ap (λ (t : Tables). t.map) forgets.rest;
            pages = refl;
          })
          (c.push.ensures.entries_are ∙ ap (λ (e : Entry). old.log.entries ++ e ∷ []) (entry-is c));
      before_is = c.push.ensures.before_is ∙ c.self.invariant.before_is;
      names_are = c.push.ensures.names_are ∙ c.self.invariant.names_are;
      numbers = numbers-logged old.tables.outline.generation now.outline.generation old.log c.push.new.self _ (generation-counted 0 0 mid.outline now.outline c.count.ensures ∙ ap (λ (t : Tables). t.outline.generation) forgets.rest) c.push.ensures c.self.invariant.numbers;
    }

pub returns-clause-step : goal.returns-clause-step
returns-clause-step c =
    let old = c.self.inside in
    let mid : Tables = c.drop_flight.new.tables in
    let now : Tables = record mid { outline = c.count.new.outline; flights = with_item mid.flights c.from.result (Some (flight c)) } in
    let new : BookSeen = book_of old.config old.origin c.push.new.self now in
    let longer : IsLonger c.args.self.now new (started-entry c ∷ []) =
    subst (λ (b : BookSeen). IsLonger b new (started-entry c ∷ [])) c.self.view_is
    (record { config_is = refl; found_is = refl; opened_is = refl; entries_are = c.push.ensures.entries_are; spare_is = c.push.ensures.spare_is; spent_is = c.push.ensures.spent_is; room_is = c.push.ensures.room_is }) in
    let ticket_is = ap (λ (g : Going). record { queue = c.args.queue; number = c.args.number; position = g.ticket }) (sym c.new_flight-flight.ensures.going) in
    starts c.args.self.now new c.args.queue c.args.number c.args.command (the-write c) (flight c) (record { queue = c.args.queue; number = c.args.number; position = c.position-position.result + 1 }) (held c).orderly (go c) c.requires.may.admitted.command_is (made c)
    (subst (λ (e : Entry). IsLonger c.args.self.now new (e ∷ [])) (entry-is c) longer) ticket_is
