-- What each call of a drive adds, by its answer.
use Rattle.std.proofs.Common.{◌≡◌, inl, inr, ℕ, ◌+◌, List, [], ◌∷◌, ◌++◌, length, refl, ap, sym, ◌∙◌, subst, Some, None, true, arith, Option}
use Rattle.std.specs.Prelude.{All, option_map}
use Rattle.std.specs.Option.{is_some}
use Rattle.std.proofs.lemmas.List.{append-nil, length-append}
use Rattle.std.proofs.lemmas.List.Elements.{All-nil, All-cons}
use Rattle.atomic_table.specs.Seated.{TableId}
use Rattle.fdp_base.specs.declared.command.Command.{Command}
use Rattle.fdp_base.specs.declared.entry.Entry.{Entry}
use Rattle.fdp_base.specs.declared.entry.Entry.TheVariants as entries
use Rattle.fdp_base.specs.CommandKinds.{write_of}
use Rattle.fdp_workers.specs.fdp_book.declared.ticket.Done.{Done}
use Rattle.fdp_workers.specs.fdp_book.declared.ticket.Ticket.{Ticket}
use Rattle.fdp_workers.specs.fdp_book.Book.{state_in}
use Rattle.fdp_workers.specs.fdp_book.Relocating.{told_by}
use Rattle.fdp_workers.specs.fdp_book.Tickets.{IsTicketOf}
use Rattle.fdp_workers.specs.fdp_collector.declared.step.Lost.{Lost}
use Rattle.fdp_workers.specs.fdp_collector.declared.step.Lost.TheVariants as lost
use Rattle.fdp_workers.specs.fdp_collector.declared.step.Step.TheVariants as steps
use Rattle.fdp_workers.specs.fdp_core.declared.answer.Begun.{Begun}
use Rattle.fdp_workers.specs.fdp_core.declared.answer.Begun.TheVariants as begun
use Rattle.fdp_workers.specs.fdp_core.declared.answer.Placed.{Placed}
use Rattle.fdp_workers.specs.fdp_core.declared.answer.Placed.TheVariants as placed
use Rattle.fdp_workers.specs.fdp_core.Answers.{Begins, Collects, CollectsStep, Commits, EndsInPlacing, MakesRoom, Places, PlacesPage, Starts}
use Rattle.fdp_workers.specs.fdp_core.Seen.{Seen}
use Rattle.fdp_workers.specs.fdp_core.Steps.{Completes}
use Rattle.fdp_flash.specs.FlashState.{Call, FlashState}
use Rattle.fdp_workers.specs.fdp_relocation.declared.advance.Advance.{Advance}
use Rattle.fdp_workers.specs.fdp_relocation.declared.advance.Advance.TheVariants as advance
use Rattle.fdp_rules.specs.History.{Found, state_of}
use Rattle.fdp_rules.specs.PlainState.{Going}
use Rattle.fdp_rules.specs.Room.{roomiest}
use Rattle.fdp_rules.specs.Seats.{queue_of_ticket}
use Rattle.fdp_rules.specs.Step.{goes_to}
use Rattle.fdp_workers.specs.Turns as turns
use Rattle.fdp_workers.proofs.Seated.{ticket-queue}
use Rattle.fdp_board.specs.Board.{items_of}
use Rattle.fdp_workers.specs.Marks.{entry_in, mark_in}
use Rattle.fdp_board.proofs.Charging.{host-charged, none-charged, uncharged}
use Rattle.fdp_board.proofs.Outlasting.{AreLate, host-late, silent-late}
use Rattle.fdp_board.proofs.Items.{IsQuiet, all-quiet, later-joined, later-one, length-marked, none-completes, quiet-later, quiet-none}
use Rattle.fdp_board.proofs.Stepping.{Goes, adds-none, adds-own, goes}

-- ---- entries that are no worker's

one-quiet : (e : Entry) → IsQuiet e → All IsQuiet (e ∷ [])
one-quiet e q = All-cons IsQuiet e [] q (All-nil IsQuiet)

quiet-late : (m : ℕ) (es : List Entry) → All IsQuiet es → AreLate m es
quiet-late m es all = silent-late m es (λ queue. none-completes queue es (quiet-none es all))

lost-quiet : (rg : ℕ) (l : Lost) → All IsQuiet (told_by rg (steps.Fault l))
lost-quiet rg lost.None = All-nil IsQuiet
lost-quiet rg (lost.Aside unit) = one-quiet _ (record { none = record { host = refl; started = refl; placed = refl }; later = λ e. absurd cc })
lost-quiet rg (lost.Retired unit) = one-quiet _ (record { none = record { host = refl; started = refl; placed = refl }; later = λ e. absurd cc })

shut-quiet : (rg ruh : ℕ) → All IsQuiet (entries.Shut (record { rg = rg; ruh = ruh }) ∷ [])
shut-quiet rg ruh = one-quiet _ (record { none = record { host = refl; started = refl; placed = refl }; later = λ e. absurd cc })

-- ---- relocation

step-quiet : {F : Type 0} (state : F → FlashState) (old new : Seen F) (rg : ℕ) (x : Advance) (s : CollectsStep state old new rg x) → All IsQuiet s.es
step-quiet state old new rg advance.Nothing s = subst (All IsQuiet) (sym s.came.entries_are) (All-nil IsQuiet)
step-quiet state old new rg advance.Copied s = subst (All IsQuiet) (sym s.came.entries_are) (one-quiet _ (record { none = record { host = refl; started = refl; placed = refl }; later = λ e. absurd cc }))
step-quiet state old new rg advance.Moved s = subst (All IsQuiet) (sym s.came.entries_are) (one-quiet _ (record { none = record { host = refl; started = refl; placed = refl }; later = λ e. absurd cc }))
step-quiet state old new rg advance.Erased s = subst (All IsQuiet) (sym s.came.entries_are) (one-quiet _ (record { none = record { host = refl; started = refl; placed = refl }; later = λ e. absurd cc }))
step-quiet state old new rg advance.Starved s = subst (All IsQuiet) (sym s.came.entries_are) (one-quiet _ (record { none = record { host = refl; started = refl; placed = refl }; later = λ e. absurd cc }))
step-quiet state old new rg advance.Fault s = elim s.came [
  | inl fails ↦ subst (All IsQuiet) (sym fails.entries_are) (lost-quiet rg fails.lost)
  | inr (inl before) ↦ subst (All IsQuiet) (sym before.entries_are) (All-nil IsQuiet)
  | inr (inr moves) ↦ subst (All IsQuiet) (sym moves.moves.entries_are) (one-quiet _ (record { none = record { host = refl; started = refl; placed = refl }; later = λ e. absurd cc }))
]

collects-step : {F : Type 0} (state : F → FlashState) (old new : Seen F) (rg : ℕ) (x : Advance) → Collects state old new rg x → CollectsStep state old new rg x
collects-step state old new rg advance.Nothing h = h.0
collects-step state old new rg advance.Copied h = h
collects-step state old new rg advance.Moved h = h
collects-step state old new rg advance.Erased h = h
collects-step state old new rg advance.Starved h = h.0
collects-step state old new rg advance.Fault h = h

pub record Quietly {F : Type 0} (state : F → FlashState) (old new : Seen F) : Type 0 where
  pub es : List Entry
  pub goes_is : Goes state old new es
  pub quiet : All IsQuiet es

pub collects : {F : Type 0} (state : F → FlashState) (old new : Seen F) (rg : ℕ) (x : Advance) → Collects state old new rg x → Quietly state old new
collects state old new rg x h =
    let s = collects-step state old new rg x h in
    let quiet = step-quiet state old new rg x s in
    record { es = s.es; goes_is = goes state old new s.es s.calls s.step (quiet-later s.es quiet) (quiet-late (state old.flash).moment s.es quiet) (none-charged (state old.flash).moment (state new.flash) s.es (quiet-none s.es quiet)); quiet = quiet }

-- ---- the end of a command

-- a step completed a command, behind entries that are no worker's
pub record Ended {F : Type 0} (state : F → FlashState) (old new : Seen F) (queue number : ℕ) (command : Command) (done : Done) : Type 0 where
  pub before : List Entry
  pub calls : List Call
  pub completes : Completes state old new before queue number command calls done
  pub quiet : All IsQuiet before

pub ended-goes : {F : Type 0} (state : F → FlashState) (old new : Seen F) (queue number : ℕ) (command : Command) (done : Done) (e : Ended state old new queue number command done)
    → Goes state old new (e.before ++ entries.Host (record { queue = queue; number = number; command = command; reply = done.reply; moment = done.moment }) ∷ [])
ended-goes state old new queue number command done e =
    goes state old new _ e.calls e.completes.step (later-joined e.before _ (quiet-later e.before e.quiet) (later-one _ (λ same. absurd cc)))
    (host-late state old new e.before queue number command e.calls done e.completes (quiet-late (state old.flash).moment e.before e.quiet))
    (host-charged state old new e.before queue number command e.calls done e.completes (quiet-none e.before e.quiet))

pub ended-completes : {F : Type 0} (state : F → FlashState) (old new : Seen F) (gauge : TableId) (queue number : ℕ) (command : Command) (done : Done) → Ended state old new queue number command done
    → turns.Completes (record { config = old.book.config; found = old.book.found; gauge = gauge }) entry_in mark_in (items_of old) (items_of new) queue number command done
ended-completes state old new gauge queue number command done e =
    let g = ended-goes state old new queue number command done e in
    record {
      adds = adds-own state old new e.before _ queue g e.quiet refl;
      position_is = e.completes.position_is ∙ ap (λ (f : Found). f.totals.position + length new.book.entries) g.found_is
          ∙ ap (λ (n : ℕ). old.book.found.totals.position + n) (sym (length-marked new.book.found [] new.book.entries));
    }

-- ---- the first step of a command

some-mapped : {X Y : Type 0} (f : X → Y) (o : Option X) (y : Y) → option_map f o ≡ Some y → is_some o ≡ true
some-mapped f None y e = absurd cc
some-mapped f (Some x) y e = refl

start-goes : {F : Type 0} (state : F → FlashState) (old new : Seen F) (queue number : ℕ) (command : Command) (ticket : Ticket) (h : Starts state old new queue number command ticket)
    → Goes state old new (entries.Started (record { queue = queue; number = number; command = command; rg = h.target.rg; ruh = h.target.ruh; pid_valid = h.target.valid }) ∷ [])
start-goes state old new queue number command ticket h =
    let e : Entry = entries.Started (record { queue = queue; number = number; command = command; rg = h.target.rg; ruh = h.target.ruh; pid_valid = h.target.valid }) in
    goes state old new (e ∷ []) [] h.step (later-one e (λ same. absurd cc)) (silent-late (state old.flash).moment (e ∷ []) (λ q. refl)) (uncharged (state old.flash).moment (state new.flash) e refl)

-- what the first step adds
pub begins-goes : {F : Type 0} (state : F → FlashState) (old new : Seen F) (queue number : ℕ) (command : Command) (b : Begun) → Begins state old new queue number command b → (es : List Entry) × Goes state old new es
begins-goes state old new queue number command (begun.Ended done) h =
    let e : Ended state old new queue number command done = record { before = []; calls = h.calls; completes = h.completes; quiet = All-nil IsQuiet } in
    (_, ended-goes state old new queue number command done e)
begins-goes state old new queue number command (begun.Going ticket) h = (_, start-goes state old new queue number command ticket h)

pub begins-told : {F : Type 0} (state : F → FlashState) (old new : Seen F) (gauge : TableId) (queue number : ℕ) (command : Command) (b : Begun) → Begins state old new queue number command b
    → turns.Begins (record { config = old.book.config; found = old.book.found; gauge = gauge }) entry_in mark_in (items_of old) (items_of new) queue number command b
begins-told state old new gauge queue number command (begun.Ended done) h =
    ended-completes state old new gauge queue number command done (record { before = []; calls = h.calls; completes = h.completes; quiet = All-nil IsQuiet })
begins-told state old new gauge queue number command (begun.Going ticket) h =
    let g = start-goes state old new queue number command ticket h in
    record {
      write = some-mapped (goes_to old.book.config (state_in old.book) (roomiest old.book.config (state_in old.book))) (write_of command) h.target h.target_is;
      rg = h.target.rg;
      ruh = h.target.ruh;
      pid_valid = h.target.valid;
      adds = adds-own state old new [] (entries.Started (record { queue = queue; number = number; command = command; rg = h.target.rg; ruh = h.target.ruh; pid_valid = h.target.valid })) queue g (All-nil IsQuiet) refl;
      ticket_is = h.ticket_is ∙ ap (λ (n : ℕ). record { queue = queue; number = number; position = n })
          (ap (λ (f : Found). f.totals.position + length new.book.entries) g.found_is ∙ ap (λ (n : ℕ). old.book.found.totals.position + n) (sym (length-marked new.book.found [] new.book.entries)));
    }

-- ---- a step for a going write

-- it is relocation, a page, or the end of the write
pub placing-ended : {F : Type 0} (state : F → FlashState) (old new : Seen F) (ticket : Ticket) (g : Going) (done : Done) → EndsInPlacing state old new ticket g done → Ended state old new ticket.queue g.number g.command done
placing-ended state old new ticket g done (inl (gone, alone)) = record { before = []; calls = []; completes = alone.completes; quiet = All-nil IsQuiet }
placing-ended state old new ticket g done (inr (inl crowded)) = record { before = []; calls = []; completes = crowded.completes; quiet = All-nil IsQuiet }
placing-ended state old new ticket g done (inr (inr (inl starved))) = record { before = _; calls = starved.calls; completes = starved.completes; quiet = all-quiet old.book.config g.rg _ starved.inside }
placing-ended state old new ticket g done (inr (inr (inr (inl passed)))) = record { before = passed.before; calls = passed.calls; completes = passed.completes; quiet = all-quiet old.book.config g.rg passed.before passed.inside }
placing-ended state old new ticket g done (inr (inr (inr (inr fails)))) = record { before = _; calls = _; completes = fails.completes; quiet = shut-quiet g.rg g.ruh }

page-goes : {F : Type 0} (state : F → FlashState) (old new : Seen F) (ticket : Ticket) (g : Going) (next : Ticket) (h : PlacesPage state old new ticket g next)
    → Goes state old new (entries.Placed (record { ticket = ticket.position; index = g.placed; unit = h.spot.unit; page = h.spot.page }) ∷ [])
page-goes state old new ticket g next h =
    let e : Entry = entries.Placed (record { ticket = ticket.position; index = g.placed; unit = h.spot.unit; page = h.spot.page }) in
    goes state old new (e ∷ []) _ h.step (later-one e (λ same. absurd cc)) (silent-late (state old.flash).moment (e ∷ []) (λ q. refl)) (uncharged (state old.flash).moment (state new.flash) e refl)

room-goes : {F : Type 0} (state : F → FlashState) (old new : Seen F) (ticket : Ticket) (g : Going) (next : Ticket) (h : MakesRoom state old new ticket g next) → Quietly state old new
room-goes state old new ticket g next h =
    let es : List Entry = h.before ++ entries.Erased (record { unit = h.unit }) ∷ [] in
    let quiet = all-quiet old.book.config g.rg es h.inside in
    record { es = es; goes_is = goes state old new es h.calls h.step (quiet-later es quiet) (quiet-late (state old.flash).moment es quiet) (none-charged (state old.flash).moment (state new.flash) es (quiet-none es quiet)); quiet = quiet }

pub places-goes : {F : Type 0} (state : F → FlashState) (old new : Seen F) (ticket : Ticket) (g : Going) (p : Placed) → Places state old new ticket g p → (es : List Entry) × Goes state old new es
places-goes state old new ticket g (placed.More next) (inl page) = (_, page-goes state old new ticket g next page.0)
places-goes state old new ticket g (placed.More next) (inr room) = let q = room-goes state old new ticket g next room in (q.es, q.goes_is)
places-goes state old new ticket g (placed.Ready next) h = (_, page-goes state old new ticket g next h.0)
places-goes state old new ticket g (placed.Ended done) h = (_, ended-goes state old new ticket.queue g.number g.command done (placing-ended state old new ticket g done h))

pub commits-ended : {F : Type 0} (state : F → FlashState) (old new : Seen F) (ticket : Ticket) (g : Going) (done : Done) → Commits state old new ticket g done → Ended state old new ticket.queue g.number g.command done
commits-ended state old new ticket g done (inl (gone, alone)) = record { before = []; calls = []; completes = alone.completes; quiet = All-nil IsQuiet }
commits-ended state old new ticket g done (inr (inl (there, over, alone))) = record { before = []; calls = []; completes = alone.completes; quiet = All-nil IsQuiet }
commits-ended state old new ticket g done (inr (inr (may, inl saved))) = record { before = []; calls = saved.calls; completes = saved.completes; quiet = All-nil IsQuiet }
commits-ended state old new ticket g done (inr (inr (may, inr (inl (moment, saved))))) = record { before = []; calls = saved.calls; completes = saved.completes; quiet = All-nil IsQuiet }
commits-ended state old new ticket g done (inr (inr (may, inr (inr (moment, saved))))) = record { before = []; calls = saved.calls; completes = saved.completes; quiet = All-nil IsQuiet }

-- ---- what that adds to the record

-- the page carries the queue of its write
page-told : {F : Type 0} (state : F → FlashState) (old new : Seen F) (ticket : Ticket) (g : Going) (next : Ticket) → IsTicketOf (state_of old.book.config old.book.found old.book.entries) ticket g → PlacesPage state old new ticket g next
    → turns.PlacesPage entry_in mark_in (items_of old) (items_of new) ticket
page-told state old new ticket g next is h = record {
  index = g.placed;
  unit = h.spot.unit;
  page = h.spot.page;
  adds = adds-own state old new [] (entries.Placed (record { ticket = ticket.position; index = g.placed; unit = h.spot.unit; page = h.spot.page })) ticket.queue (page-goes state old new ticket g next h) (All-nil IsQuiet)
      (ap (λ (es : List Entry). queue_of_ticket old.book.found es ticket.position) (append-nil old.book.entries)
      ∙ ap (queue_of_ticket old.book.found old.book.entries) (sym is.position_is) ∙ ticket-queue old.book.config old.book.found old.book.entries ticket.queue g is.going_is);
}

room-told : {F : Type 0} (state : F → FlashState) (old new : Seen F) (ticket : Ticket) (g : Going) (next : Ticket) (h : MakesRoom state old new ticket g next) → turns.MakesRoom mark_in (items_of old) (items_of new)
room-told state old new ticket g next h =
    let q = room-goes state old new ticket g next h in
    let more : length new.book.entries ≡ length old.book.entries + (length h.before + 1) =
    ap (λ (es : List Entry). length es) h.step.book.entries_are ∙ length-append old.book.entries _ ∙ ap (λ (n : ℕ). length old.book.entries + n) (length-append h.before (entries.Erased (record { unit = h.unit }) ∷ [])) in
    record {
      adds = adds-none state old new q.es q.goes_is q.quiet;
      some = omega (arith, more, length-marked old.book.found [] old.book.entries, length-marked new.book.found [] new.book.entries);
    }

pub places-told : {F : Type 0} (state : F → FlashState) (old new : Seen F) (gauge : TableId) (ticket : Ticket) (g : Going) (p : Placed) → IsTicketOf (state_of old.book.config old.book.found old.book.entries) ticket g → Places state old new ticket g p
    → turns.Places (record { config = old.book.config; found = old.book.found; gauge = gauge }) entry_in mark_in (items_of old) (items_of new) ticket g p
places-told state old new gauge ticket g (placed.More next) is (inl page) = (page.0.next_is, inl (page-told state old new ticket g next is page.0, page.1))
places-told state old new gauge ticket g (placed.More next) is (inr room) = (room.next_is, inr (room-told state old new ticket g next room))
places-told state old new gauge ticket g (placed.Ready next) is h = (h.0.next_is, page-told state old new ticket g next is h.0, h.1)
places-told state old new gauge ticket g (placed.Ended done) is h = ended-completes state old new gauge ticket.queue g.number g.command done (placing-ended state old new ticket g done h)
