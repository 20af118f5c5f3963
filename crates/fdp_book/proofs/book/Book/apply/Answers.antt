use Rattle.std.proofs.Common.{◌≡◌, ◌∙◌, true, ℕ, ◌+◌, ◌*◌, ◌≤◌, List, [], ◌∷◌, ◌++◌, Option, None, ap, arith, refl, replicate, subst, sym}
use Rattle.std.specs.Prelude.{IsTrue, if◌then◌else◌}
use Rattle.fdp_base.specs.declared.command.Command.{Command}
use Rattle.fdp_base.specs.declared.entry.Entry.{Entry}
use Rattle.fdp_base.specs.declared.entry.Spot.{Spot}
use Rattle.fdp_base.specs.declared.status.Status.{Status}
use Rattle.fdp_base.specs.declared.entry.Reply.{Reply}
use Rattle.fdp_base.specs.declared.status.TheConstants.Status as statuses
use Rattle.fdp_book.specs.Applying.{success_entry}
use Rattle.fdp_book.specs.Book.{BookSeen, IsLonger, point_in, state_in}
use Rattle.fdp_book.specs.Changes.{IsChangeOfEntry}
use Rattle.fdp_book.specs.Commanded.{AppliesTo, MayTakeEffect, applied_reply}
use Rattle.fdp_book.specs.Held.{IsHeld, book_of}
use Rattle.fdp_book.specs.Outlined.{CanMake, IsOutlineBehind, Makes}
use Rattle.fdp_book.specs.Saving.{AreSmall}
use Rattle.fdp_book.specs.Room.{IsTwice, RoomSeen, places_made, told_reply}
use Rattle.fdp_book.specs.Steps.{Completes}
use Rattle.fdp_book.specs.declared.room.Replies.{Replies}
use Rattle.fdp_book.specs.declared.tables.Tables.{Tables}
use Rattle.fdp_book.proofs.Applying.{behind-now, generation-risen, may-change}
use Rattle.fdp_book.proofs.Ending.{completes-told}
use Rattle.fdp_book.proofs.Held.Applied.{unwritten}
use Rattle.fdp_book.proofs.Held.Faulted.{held-told}
use Rattle.fdp_book.proofs.Held.Next.{can-make, made-behind}
use Rattle.fdp_book.proofs.Numbers.{numbers-risen, small-totals}
use Rattle.fdp_readings.proofs.fdp_locations.Ended.{host}
use Rattle.fdp_readings.specs.fdp_locations.Held.{pages_held}
use Rattle.fdp_readings.specs.fdp_locations.Written.{Written}
use Rattle.fdp_readings.specs.Changes.{completed}
use Rattle.fdp_records.specs.Borrowed.{change_of}
use Rattle.fdp_records.specs.declared.change.Change.{Change}
use Rattle.fdp_rules.specs.Answer.{dword0_of}
use Rattle.fdp_rules.specs.Change.{is_status}
use Rattle.fdp_snapshot.specs.declared.state.Summary.{Summary}
use Rattle.fdp_book.proofs.book.Book.apply.Goals as goal
use Rattle.fdp_book.specs.declared.log.TheConstants.{MOST_STEP_ENTRIES}

pub make_change-requires-clause-may : goal.make_change-requires-clause-may
make_change-requires-clause-may c =
    let i = c.self.inside in
    may-change i.config i.origin i.log i.tables c.args.queue c.args.command c.self.invariant (subst (λ (b : BookSeen). MayTakeEffect b c.args.queue c.args.command) (sym c.self.view_is) c.requires.may)

pub make_change-requires-clause-places : goal.make_change-requires-clause-places
make_change-requires-clause-places c =
    let none : ℕ → List (Option ℕ) = λ n. replicate n None in
    c.into_places-places.ensures.places
    ∙ ap (λ (r : RoomSeen). none (places_made r.command r.pages)) c.requires.memory
    ∙ ap (λ (b : BookSeen). none (places_made c.args.command (b.config.groups * b.config.units * b.config.unit_pages))) (sym c.self.view_is)

-- the answer
twice : (b now : BookSeen) (command : Command) (status : Status) (dword0 : ℕ) (r : Replies) → b ≡ now → dword0 ≡ (if is_status status statuses.SUCCESS then dword0_of (state_in now) command else 0) → IsTwice (told_reply status dword0 true) r → IsTwice (applied_reply (state_in b) command status) r
twice b now command status dword0 r same is h =
    let mine : dword0 ≡ (if is_status status statuses.SUCCESS then dword0_of (state_in b) command else 0) = is ∙ ap (λ (x : BookSeen). if is_status status statuses.SUCCESS then dword0_of (state_in x) command else 0) (sym same) in
    subst (λ (n : ℕ). IsTwice (told_reply status n true) r) mine h

-- ---- the change, in the outline

-- it is that of the entry of its success
of-entry : (b now : BookSeen) (queue number : ℕ) (command : Command) (moment : ℕ) (change : Change) → b ≡ now → ((q n : ℕ) (reply : Reply) (m : ℕ) → IsTrue reply.applied → IsChangeOfEntry now.config (point_in now) (completed q n command reply m) change []) →
    IsChangeOfEntry b.config (point_in b) (success_entry b.config b.found b.entries queue number command moment) change []
of-entry b now queue number command moment change same told =
    let reply : Reply = applied_reply (state_in b) command statuses.SUCCESS in
    subst (λ (x : BookSeen). IsChangeOfEntry x.config (point_in x) (completed queue number command reply moment) change []) (sym same) (told queue number reply moment refl)

pub make-requires-clause-can : goal.make-requires-clause-can
make-requires-clause-can c =
    let i = c.self.inside in
    let b : BookSeen = book_of i.config i.origin i.log i.tables in
    let change : Change = change_of c.change_of_command-change.result in
    subst (λ (s : Summary). CanMake i.config change [] s) (sym c.make_change.ensures.outline)
    (can-make i.config i.log.entries (point_in b) _ i.tables (success_entry i.config i.origin.found i.log.entries c.args.queue c.args.number c.args.command c.args.moment) change [] c.self.invariant.held
    (of-entry b c.args.self.now c.args.queue c.args.number c.args.command c.args.moment change c.self.view_is c.change_of_command-change.ensures.entry))

pub make-requires-clause-small : goal.make-requires-clause-small
make-requires-clause-small c =
    let i = c.self.inside in
    subst (λ (s : Summary). AreSmall s.totals) (sym c.make_change.ensures.outline)
    (small-totals i.config i.origin i.log i.tables c.position.result c.self.invariant c.position.ensures.position c.position.ensures.small c.position.ensures.few)

behind : (c : goal.After-push_host) → IsOutlineBehind c.self.inside.config c.self.inside.origin.found c.self.inside.log.entries (success_entry c.self.inside.config c.self.inside.origin.found c.self.inside.log.entries c.args.queue c.args.number c.args.command c.args.moment) c.make.new.outline
behind c =
    let i = c.self.inside in
    let b : BookSeen = book_of i.config i.origin i.log i.tables in
    let change : Change = change_of c.change_of_command-change.result in
    made-behind i.config i.origin.found (pages_held i.config i.origin.cells) i.log.entries i.tables (success_entry i.config i.origin.found i.log.entries c.args.queue c.args.number c.args.command c.args.moment) change [] c.make.new.outline c.self.invariant.held
    (omega (arith, unwritten c.args.command c.requires.may.other))
    (of-entry b c.args.self.now c.args.queue c.args.number c.args.command c.args.moment change c.self.view_is c.change_of_command-change.ensures.entry)
    (subst (λ (s : Summary). Makes i.config change [] s c.make.new.outline) c.make_change.ensures.outline c.make.ensures)

pub invariant_of-self : goal.invariant_of-self
invariant_of-self c =
    let i = c.self.inside in
    let b : BookSeen = book_of i.config i.origin i.log i.tables in
    let first : Spot → Option Written = pages_held i.config i.origin.cells in
    let now : Tables = record c.make_change.new.tables { outline = c.make.new.outline } in
    let may : MayTakeEffect b c.args.queue c.args.command = subst (λ (x : BookSeen). MayTakeEffect x c.args.queue c.args.command) (sym c.self.view_is) c.requires.may in
    let room : i.log.room ≡ MOST_STEP_ENTRIES = ap (λ (x : BookSeen). x.room) c.self.view_is ∙ c.requires.room in
    let reply : Reply = applied_reply (state_in b) c.args.command c.args.status in
    let both = twice b c.args.self.now c.args.command c.args.status c.dword0_of-dword0.result c.into_places-places.result.1 c.self.view_is c.dword0_of-dword0.ensures c.into_places-places.ensures.reply in
    let success : IsHeld i.config i.origin.found first (i.log.entries ++ success_entry i.config i.origin.found i.log.entries c.args.queue c.args.number c.args.command c.args.moment ∷ []) now =
    c.make_change.ensures.behind i.origin.found first i.log.entries c.args.queue c.args.number c.args.moment c.make.new.outline
    (behind-now i.config i.origin i.log i.tables c.args.queue c.args.command c.self.invariant may) may.queue_is (behind c) in
    let held : IsHeld i.config i.origin.found first (i.log.entries ++ host c.args.queue c.args.number c.args.command reply c.args.moment ∷ []) now =
    held-told i.config i.origin.found first i.log.entries c.args.queue c.args.number c.args.command c.args.moment (dword0_of (state_in b) c.args.command) i.tables now c.args.status c.requires.status c.self.invariant.held success in
    let entries_are : c.push_host.new.log.entries ≡ i.log.entries ++ host c.args.queue c.args.number c.args.command reply c.args.moment ∷ [] =
    c.push_host.ensures.log.entries_are ∙ ap (λ (y : Reply). i.log.entries ++ host c.args.queue c.args.number c.args.command y c.args.moment ∷ []) both.history_is in
    let risen : now.outline.generation ≤ i.tables.outline.generation + 1 = generation-risen i.config i.origin i.log i.tables c.make.new.outline c.args.queue c.args.number c.args.command c.args.moment c.self.invariant may.saved may.other (behind c) in
    record {
      held = subst (λ (es : List Entry). IsHeld i.config i.origin.found first es now) (sym entries_are) held;
      before_is = c.push_host.ensures.log.before_is ∙ c.self.invariant.before_is;
      names_are = c.push_host.ensures.log.names_are ∙ c.self.invariant.names_are;
      numbers = numbers-risen i.tables.outline.generation now.outline.generation i.log c.push_host.new.log _ risen room c.push_host.ensures.log c.self.invariant.numbers;
    }

pub returns-clause-step : goal.returns-clause-step
returns-clause-step c =
    let i = c.self.inside in
    let b : BookSeen = book_of i.config i.origin i.log i.tables in
    let new : BookSeen = book_of i.config i.origin c.push_host.new.log (record c.make_change.new.tables { outline = c.make.new.outline }) in
    let both = twice b c.args.self.now c.args.command c.args.status c.dword0_of-dword0.result c.into_places-places.result.1 c.self.view_is c.dword0_of-dword0.ensures c.into_places-places.ensures.reply in
    let longer : IsLonger b new (host c.args.queue c.args.number c.args.command c.into_places-places.result.1.history c.args.moment ∷ []) =
    record { config_is = refl; found_is = refl; opened_is = refl; entries_are = c.push_host.ensures.log.entries_are; spare_is = c.push_host.ensures.log.spare_is; spent_is = c.push_host.ensures.log.spent_is; room_is = c.push_host.ensures.log.room_is } in
    subst (λ (x : BookSeen). Completes x new [] c.args.queue c.args.number c.args.command (applied_reply (state_in x) c.args.command c.args.status) c.args.moment c.push_host.result) c.self.view_is
    (completes-told b new c.args.queue c.args.number c.args.moment c.args.command c.into_places-places.result.1 (applied_reply (state_in b) c.args.command c.args.status) c.push_host.result c.push_host.new.log longer both c.push_host.ensures.done (c.push_host.ensures.log.before_is ∙ c.self.invariant.before_is) refl)

pub returns-clause-pages : goal.returns-clause-pages
returns-clause-pages c =
    subst (λ (b : BookSeen). AppliesTo b.config c.args.command b.pages c.make_change.new.tables.pages) c.self.view_is c.make_change.ensures.pages
