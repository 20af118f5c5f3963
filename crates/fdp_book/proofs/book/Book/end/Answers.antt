use Rattle.std.proofs.Common.{◌≡◌, ◌∙◌, ap, false, refl, subst, sym, List, Some, [], ◌∷◌, ◌++◌}
use Rattle.fdp_base.specs.declared.entry.Entry.{Entry}
use Rattle.fdp_rules.specs.Answer.{bare}
use Rattle.fdp_book.specs.Book.{BookSeen, IsLonger, state_in}
use Rattle.fdp_book.specs.declared.flight.Flight.{Flight}
use Rattle.fdp_book.specs.declared.tables.Tables.{Tables}
use Rattle.fdp_book.specs.Held.{IsHeld, book_of, flight_in}
use Rattle.fdp_book.specs.Steps.{Completes}
use Rattle.fdp_book.specs.Tickets.{IsTicketOf}
use Rattle.fdp_book.proofs.Ending.{completed, completes-by, ended-entry, ending, flying-queue, held-ending}
use Rattle.fdp_book.proofs.Forgetting.{may-forget}
use Rattle.fdp_readings.proofs.fdp_locations.Ended.{host}
use Rattle.fdp_book.specs.Outlined.{Counts}
use Rattle.fdp_book.specs.Saving.{AreSmall}
use Rattle.fdp_book.proofs.Numbers.{generation-counted, numbers-logged, small-totals}
use Rattle.fdp_book.proofs.book.Book.end.Goals as goal
use Rattle.fdp_readings.specs.fdp_locations.Held.{pages_held}

pub forget-requires : goal.forget-requires
forget-requires c =
    let old = c.self.inside in
    let b : BookSeen = book_of old.config old.origin old.log old.tables in
    may-forget old.config old.origin.found (pages_held old.config old.origin.cells) old.log.entries old.tables c.give_up-queue.result c.self.invariant.held
    (flying-queue b c.args.self.now old.tables c.give_up-queue.result c.args.ticket c.self.invariant.held c.self.view_is c.give_up-queue.ensures c.requires.going)

pub count-requires-clause-small : goal.count-requires-clause-small
count-requires-clause-small c =
    let old = c.self.inside in
    subst (λ (t : Tables). AreSmall t.outline.totals) (sym c.forget.ensures.rest) (small-totals old.config old.origin old.log old.tables c.position.result c.self.invariant c.position.ensures.position c.position.ensures.small c.position.ensures.few)

abbrev flight : goal.After-push_host → Flight
flight c = c.unwrap-flight.result

there : (c : goal.After-push_host) → flight_in c.self.inside.tables.flights.items c.give_up-queue.result ≡ Some (flight c)
there c = sym c.forget.ensures.flight_is ∙ c.unwrap-flight.ensures

longer : (c : goal.After-push_host) → c.push_host.new.log.entries ≡ c.self.inside.log.entries ++ host c.give_up-queue.result (flight c).number (flight c).room.command (bare c.args.status false) c.args.moment ∷ []
longer c = c.push_host.ensures.log.entries_are
    ∙ ap (λ (e : Entry). c.self.inside.log.entries ++ e ∷ []) (ended-entry c.give_up-queue.result (flight c).number c.args.moment (flight c) c.end-command.result.0 c.end-command.result.1 (bare c.args.status false) c.end-command.ensures.command c.end-command.ensures.reply)

pub invariant_of-self : goal.invariant_of-self
invariant_of-self c =
    let old = c.self.inside in
    let b : BookSeen = book_of old.config old.origin old.log old.tables in
    let now : Tables = record c.forget.new.tables { outline = c.count.new.outline } in
    record {
      held = subst (λ (es : List Entry). IsHeld old.config old.origin.found (pages_held old.config old.origin.cells) es now) (sym (longer c))
          (held-ending b c.args.self.now old.tables c.forget.new.tables c.count.new.outline c.give_up-queue.result c.args.ticket (flight c) c.args.status c.args.moment c.forget.result
          c.self.invariant.held c.self.view_is c.give_up-queue.ensures (there c) c.requires.going c.forget.ensures (subst (λ (t : Tables). Counts 0 0 t.outline c.count.new.outline) c.forget.ensures.rest c.count.ensures));
      before_is = c.push_host.ensures.log.before_is ∙ c.self.invariant.before_is;
      names_are = c.push_host.ensures.log.names_are ∙ c.self.invariant.names_are;
      numbers = numbers-logged old.tables.outline.generation now.outline.generation old.log c.push_host.new.log _ (generation-counted 0 0 c.forget.new.tables.outline now.outline c.count.ensures ∙ ap (λ (t : Tables). t.outline.generation) c.forget.ensures.rest) c.push_host.ensures.log c.self.invariant.numbers;
    }

pub returns-clause-step : goal.returns-clause-step
returns-clause-step c g is =
    let old = c.self.inside in
    let b : BookSeen = book_of old.config old.origin old.log old.tables in
    let new : BookSeen = book_of old.config old.origin c.push_host.new.log (record c.forget.new.tables { outline = c.count.new.outline }) in
    let k = ending b c.args.self.now old.tables c.give_up-queue.result c.args.ticket (flight c) c.self.invariant.held c.self.view_is c.give_up-queue.ensures (there c) c.requires.going in
    let step : IsLonger b new (host c.give_up-queue.result (flight c).number c.end-command.result.0 c.end-command.result.1.history c.args.moment ∷ []) =
    record { config_is = refl; found_is = refl; opened_is = refl; entries_are = c.push_host.ensures.log.entries_are; spare_is = c.push_host.ensures.log.spare_is; spent_is = c.push_host.ensures.log.spent_is; room_is = c.push_host.ensures.log.room_is } in
    subst (λ (y : BookSeen). Completes y new [] c.args.ticket.queue g.number g.command (bare c.args.status false) c.args.moment c.push_host.result) c.self.view_is
    (completes-by b new [] c.args.ticket (flight c) g (bare c.args.status false) c.args.moment c.push_host.result k.own (subst (λ (y : BookSeen). IsTicketOf (state_in y) c.args.ticket g) (sym c.self.view_is) is)
    (completed b new c.give_up-queue.result (flight c).number c.args.moment c.args.ticket (flight c) c.end-command.result.0 c.end-command.result.1 (bare c.args.status false) c.push_host.result c.push_host.new.log
    step c.give_up-queue.ensures c.end-command.ensures.command c.end-command.ensures.reply c.push_host.ensures.done (c.push_host.ensures.log.before_is ∙ c.self.invariant.before_is) refl))
