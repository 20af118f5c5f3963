-- How a group makes room for a write that wants a unit, or ends it.
use Rattle.std.proofs.Common.{◌≡◌, ℕ, suc, ◌+◌, ◌-◌, ◌*◌, ◌≤◌, ◌<◌, Bool, true, false, ◌||◌, List, [], ◌∷◌, ◌++◌, Option, Some, refl, sym, ◌∙◌, ap, subst, arith, inl, inr, append_assoc, eq-eqb, lt-ltb}
use Rattle.std.specs.Prelude.{IsTrue, count_by, if◌then◌else◌, not, ◌&&◌, ◌==◌}
use Rattle.std.specs.List.{list_any}
use Rattle.std.specs.Option.{option_map_or}
use Rattle.std.proofs.lemmas.Bool.{false≢true}
use Rattle.std.proofs.lemmas.List.{append-nil}
use Rattle.std.proofs.lemmas.List.Folds.{list_any-append}
use Rattle.std.proofs.lemmas.List.Sums.{sum_by-append, sum_by-cons}
use Rattle.fdp_base.specs.declared.command.Command.{Command}
use Rattle.fdp_base.specs.declared.command.Write.{Write}
use Rattle.fdp_base.specs.declared.config.DriveConfig.{DriveConfig}
use Rattle.fdp_base.specs.declared.entry.Entry.{Entry}
use Rattle.fdp_base.specs.declared.entry.Entry.TheVariants as entries
use Rattle.fdp_base.specs.declared.entry.Reply.{Reply}
use Rattle.fdp_base.specs.declared.status.Status.{Status}
use Rattle.fdp_base.specs.declared.status.TheConstants.Status as statuses
use Rattle.fdp_base.specs.CommandKinds.{blocks_written, write_of}
use Rattle.fdp_base.specs.Numbers.{count_below, is_among}
use Rattle.fdp_base.specs.Placement.{budget_of}
use Rattle.fdp_base.specs.EntryKinds.{empties}
use Rattle.fdp_relocation.specs.fdp_book.declared.ticket.Done.{Done}
use Rattle.fdp_relocation.specs.fdp_book.declared.ticket.Ticket.{Ticket}
use Rattle.fdp_relocation.specs.fdp_book.Book.{BookSeen, IsLonger, point_in, state_in}
use Rattle.fdp_relocation.specs.fdp_book.Tickets.{IsTicketOf, WantsUnit}
use Rattle.fdp_calls.specs.Calls.{FailedAt, MakesCalls, counted_more, has_failed}
use Rattle.fdp_calls.proofs.Made.{failed-last}
use Rattle.fdp_relocation.specs.fdp_collector.Step.{IsUncalled}
use Rattle.fdp_core.specs.Answers.{EndsCrowded, EndsInPass, EndsStarved, MakesRoom}
use Rattle.fdp_core.specs.Ending.{Ends, MayEnd}
use Rattle.fdp_core.specs.Passes.{FailsInPass, MakesNone, MakesPass, Relocates, Starves}
use Rattle.fdp_core.specs.Seen.{Seen}
use Rattle.fdp_core.specs.Steps.{Completes, Matches}
use Rattle.fdp_core.proofs.Grown.{adds, completes, host, steps-behind}
use Rattle.fdp_core.proofs.Passing.{longer-joined, worn-told}
use Rattle.fdp_core.proofs.Placing.{as-write}
use Rattle.fdp_core.proofs.Sound.{begun}
use Rattle.fdp_flash.specs.FlashState.{Call, FlashState, IsWellFormed as IsFlashFormed}
use Rattle.fdp_history.specs.Orderly.{IsOrderly}
use Rattle.fdp_loading.specs.fdp_ledger.declared.counts.Counts.{Counts}
use Rattle.fdp_loading.specs.fdp_ledger.Ledger.{IsLedger}
use Rattle.fdp_loading.proofs.fdp_ledger.Emptied.{emptied-joined, emptied-none, same-emptied}
use Rattle.fdp_loading.specs.fdp_ledger.WornOut.{IsWornOut}
use Rattle.fdp_loading.specs.fdp_ledger.Told.{is_media_reply, tells_failure}
use Rattle.fdp_loading.proofs.fdp_ledger.Moments.{may-tell, new-moment}
use Rattle.fdp_relocation.specs.Entries.{AreRelocationIn}
use Rattle.fdp_relocation.proofs.Keeping.{keeps-there, keeps-ticket, quiet-entry}
use Rattle.fdp_rules.specs.Answer.{bare}
use Rattle.fdp_rules.specs.Change.{after, changed_by, is_media_error}
use Rattle.fdp_rules.specs.History.{Found, state_of}
use Rattle.fdp_rules.specs.PlainState.{Going, PlainState}
use Rattle.fdp_rules.specs.Room.{budget, handles_in_force, is_over_budget, lost_in, stored_where}
use Rattle.fdp_rules.specs.Sites.{is_there}
use Rattle.fdp_rules.specs.Step.{exceeds_budget}
use Rattle.fdp_rules.specs.Totals.{media_blocks, media_blocks_of}
use Rattle.fdp_rules.proofs.Pushes.{state_of-push}
use Rattle.fdp_relocation.specs.fdp_trails.Crowded.{IsCrowded}
use Rattle.fdp_relocation.proofs.fdp_trails.Crowding.{crowded-exceeds}
use Rattle.fdp_relocation.proofs.fdp_book.Longer.{state-as, state-self}
use Rattle.fdp_relocation.specs.fdp_saving.Calls.{FailAtEnd}
use Rattle.fdp_base.specs.declared.entry.Host.{Host}

-- ---- a worn group has no budget

worn-budget : (c : DriveConfig) (s : PlainState) (rg : ℕ) → s.is_worn rg ≡ true → budget c s rg ≡ 0
worn-budget c s rg worn =
    let lost : lost_in c s rg ≡ c.units = ap (λ (k : Bool). if k then c.units else count_below c.units (λ i. s.is_lost (rg * c.units + i))) worn in
    let none : c.units - c.units - 2 * handles_in_force c s - 3 ≡ 0 = omega arith in
    let nothing : c.unit_pages * 0 - c.queues * c.blocks_per_command ≡ 0 = omega arith in
    ap (budget_of c (handles_in_force c s)) lost ∙ ap (λ (n : ℕ). c.unit_pages * n - c.queues * c.blocks_per_command) none ∙ nothing

worn-over : (c : DriveConfig) (s : PlainState) (rg nsid slba count : ℕ) → s.is_worn rg ≡ true → 1 ≤ count → IsTrue (is_over_budget c s rg nsid slba count)
worn-over c s rg nsid slba count worn some =
    let none = worn-budget c s rg worn in
    lt-ltb (budget c s rg) (stored_where s rg (λ n lba. not (n == nsid && is_among slba count lba)) + count) (omega (arith, none, some))

worn-exceeds : (c : DriveConfig) (s : PlainState) (g : Going) (w : Write) → s.is_worn g.rg ≡ true → write_of g.command ≡ Some w → 1 ≤ w.count → IsTrue (exceeds_budget c s g)
worn-exceeds c s g w worn is some =
    subst (λ (o : Option Write). option_map_or (λ (x : Write). is_over_budget c s g.rg x.nsid x.slba x.count) o false ≡ true) (sym is) (worn-over c s g.rg w.nsid w.slba w.count worn some)

worn-after : (c : DriveConfig) (s : PlainState) (rg : ℕ) → (after c s (entries.Worn (record { rg = rg }))).is_worn rg ≡ true
unfolding after changed_by
worn-after c s rg = ap (λ (k : Bool). if k then true else s.is_worn rg) (eq-eqb rg rg refl)

-- behind these entries the group is worn
worn-behind : (c : DriveConfig) (found : Found) (es before : List Entry) (rg : ℕ) → (state_of c found (es ++ before ++ entries.Worn (record { rg = rg }) ∷ [])).is_worn rg ≡ true
worn-behind c found es before rg =
    ap (λ (s : PlainState). s.is_worn rg) (state_of-push c found (es ++ before) (entries.Worn (record { rg = rg })))
    ∙ worn-after c (state_of c found (es ++ before)) rg

-- a write puts a block at least
has-block : (c : DriveConfig) (b : BookSeen) (ticket : Ticket) (g : Going) → IsOrderly b.config (point_in b) → IsTicketOf (state_in b) ticket g → (w : Write) × (write_of g.command ≡ Some w) × (1 ≤ w.count)
has-block c b ticket g orderly is =
    let o = orderly.state.writes ticket.queue g is.going_is in
    let w = as-write g.command o.write in
    (w.0, w.1, subst (λ (n : ℕ). 1 ≤ n) (ap (λ (x : Option Write). option_map_or (λ (y : Write). y.count) x 0) w.1) (count-of g.command o.count.0))
  where
    count-of : (command : Command) → 1 ≤ blocks_written command → 1 ≤ option_map_or (λ (y : Write). y.count) (write_of command) 0
    count-of command some = some

-- ---- entries of relocation tell of no media error

none-media : (c : DriveConfig) (rg : ℕ) (es : List Entry) → AreRelocationIn c rg es → count_by is_media_reply es ≡ 0
none-media c rg [] inside = refl
none-media c rg (e ∷ es) inside =
    let none = (quiet-entry c rg e (inside 0 e (omega arith))).0.host in
    let one : ◌≡◌ {A = ℕ} (if is_media_reply e then 1 else 0) 0 = ap (λ (o : Option Host). if option_map_or (λ (h : Host). is_media_error h.reply.status) o false then 1 else 0) none in
    let rest = none-media c rg es (λ k d low. inside (suc k) d (omega (arith, low))) in
    omega (arith, sum_by-cons (λ (x : Entry). if is_media_reply x then 1 else 0) e es, one, rest)

-- ---- a write that ends behind steps of relocation

-- the step from its begin on
abbrev pub begun_seen : {F : Type 0} → Seen F → Seen F
begun_seen s = record { book = begun s.book; keeper = s.keeper; handed = s.handed; flash = s.flash }

matches-host : (f n : FlashState) (es : List Entry) (calls : List Call) (queue number moment : ℕ) (command : Command) (reply : Reply) → Matches f n es calls → list_any has_failed calls ≡ is_media_error reply.status → Matches f n (es ++ host queue number command reply moment ∷ []) calls
matches-host f n es calls queue number moment command reply h same = record {
  made = h.made;
  programs = h.programs ∙ ap (counted_more f.programs) pages;
  failed = λ some. either (list_any tells_failure es) h.failed (sym (list_any-append tells_failure es (host queue number command reply moment ∷ [])) ∙ some);
  erased = λ told. record { blank = λ unit some. (h.erased told).blank unit (first (list_any (empties unit) es) (sym (list_any-append (empties unit) es (host queue number command reply moment ∷ [])) ∙ some)) };
  emptied = λ told. emptied-joined f.geometry f.cells n.cells n.cells es (host queue number command reply moment ∷ []) (h.emptied told)
      (emptied-none f.geometry n.cells n.cells (host queue number command reply moment ∷ []) (same-emptied f.geometry n.cells n.cells refl));
}
  where
    pages : media_blocks es ≡ media_blocks (es ++ host queue number command reply moment ∷ [])
    pages = let e = sum_by-append media_blocks_of es (host queue number command reply moment ∷ []) in omega (arith, e)

    first : (x : Bool) → (x || false) ≡ true → x ≡ true
    first true e = refl
    first false e = absurd (false≢true e)

    of-error : (y : Bool) → ((y || false || false) || false) ≡ true → y ≡ true
    of-error true e = refl
    of-error false e = absurd (false≢true e)

    either : (x : Bool) → (IsTrue x → IsTrue (list_any has_failed calls)) → (x || ((is_media_error reply.status || false || false) || false)) ≡ true → list_any has_failed calls ≡ true
    either true first e = first refl
    either false first e = same ∙ of-error (is_media_error reply.status) e

-- a command is completed behind them
behind : {F : Type 0} (state : F → FlashState) (old mid new : Seen F) (rg : ℕ) (es : List Entry) (calls : List Call) (ticket : Ticket) (g : Going) (status : Status) (done : Done) → 0 < old.book.spare → Relocates state (begun_seen old) mid rg es calls → Ends state mid new ticket g status done →
    list_any has_failed calls ≡ is_media_error status → (IsTrue (is_media_error status) → FailedAt (state old.flash) (state mid.flash) (state mid.flash).moment) → Completes state old new es ticket.queue g.number g.command calls done
behind {F} state old mid new rg es calls ticket g status done spare r ended failed media =
    completes state old new es ticket.queue g.number g.command (bare status false) (state mid.flash).moment calls done spare (record {
      longer = longer-joined (begun old.book) mid.book new.book es (host ticket.queue g.number g.command (bare status false) (state mid.flash).moment ∷ []) r.extends.book ended.completes.step;
      done_is = ended.completes.done_is;
      handed = ended.handed_is ∙ r.extends.handed_is;
      matches = subst (λ (x : F). Matches (state old.flash) (state x) (es ++ host ticket.queue g.number g.command (bare status false) (state mid.flash).moment ∷ []) calls) (sym ended.uncalled)
          (matches-host (state old.flash) (state mid.flash) es calls ticket.queue g.number (state mid.flash).moment g.command (bare status false) r.extends.matches failed);
      moment_is = λ _. sym (ap (λ (x : F). (state x).moment) ended.uncalled);
      failed = failed;
      media = λ error. subst (λ (x : F). FailedAt (state old.flash) (state x) (state mid.flash).moment) (sym ended.uncalled) (media error);
    })

-- ---- how it goes on, or ends

-- the write is going still, and its namespace there where it was
going-on : {F : Type 0} (state : F → FlashState) (old mid : Seen F) (rg : ℕ) (es : List Entry) (calls : List Call) (ticket : Ticket) (g : Going) → Relocates state (begun_seen old) mid rg es calls → IsTicketOf (state_in old.book) ticket g → IsTicketOf (state_in mid.book) ticket g
going-on state old mid rg es calls ticket g r is = keeps-ticket (state_in old.book) (state_in mid.book) ticket g r.kept is

there-on : {F : Type 0} (state : F → FlashState) (old mid : Seen F) (rg : ℕ) (es : List Entry) (calls : List Call) (g : Going) → Relocates state (begun_seen old) mid rg es calls → IsTrue (is_there (state_in old.book) g) → IsTrue (is_there (state_in mid.book) g)
there-on state old mid rg es calls g r there = keeps-there (state_in old.book) (state_in mid.book) g r.kept ∙ there

pub makes-room : {F : Type 0} (state : F → FlashState) (old new : Seen F) (ticket : Ticket) (g : Going) → 0 < old.book.spare → WantsUnit old.book g → IsTicketOf (state_in old.book) ticket g → MakesPass state (begun_seen old) new g.rg → MakesRoom state old new ticket g ticket
makes-room state old new ticket g spare wants is pass = record {
  wants = wants;
  before = pass.before;
  unit = pass.unit;
  calls = pass.calls;
  step = adds state old new (pass.before ++ entries.Erased (record { unit = pass.unit }) ∷ []) pass.calls (steps-behind pass.before (entries.Erased (record { unit = pass.unit }))) spare pass.relocates.extends.book pass.relocates.extends.handed_is pass.relocates.extends.matches;
  inside = pass.relocates.inside;
  well = pass.well;
  toil = pass.toil;
  next_is = refl;
  going = going-on state old new g.rg _ pass.calls ticket g pass.relocates is;
}

-- no pass is possible

crowded-over : (b : BookSeen) (ticket : Ticket) (g : Going) → IsOrderly b.config (point_in b) → IsTicketOf (state_in b) ticket g → IsCrowded b.pages.units b.config (state_in b) g.rg → IsTrue (exceeds_budget b.config (state_in b) g)
crowded-over b ticket g orderly is crowded =
    let w = has-block b.config b ticket g orderly is in
    crowded-exceeds b.pages.units b.config (state_in b) g w.0 crowded w.1 w.2

same-state : (b d : BookSeen) → IsLonger b d [] → state_in d ≡ state_in b
same-state b d longer = state-as b d [] longer ∙ ap (state_of b.config b.found) (append-nil b.entries) ∙ sym (state-self b)

pub crowded-may : {F : Type 0} (state : F → FlashState) (old mid : Seen F) (ticket : Ticket) (g : Going) → WantsUnit old.book g → IsOrderly old.book.config (point_in old.book) → IsTicketOf (state_in old.book) ticket g → IsCrowded old.book.pages.units old.book.config (state_in old.book) g.rg → MakesNone state (begun_seen old) mid g.rg → MayEnd state mid g statuses.CAPACITY_EXCEEDED
crowded-may state old mid ticket g wants orderly is crowded none =
    let longer = none.relocates.extends.book in
    let over : IsTrue (exceeds_budget mid.book.config (state_in mid.book) g) =
    subst (λ (c : DriveConfig). IsTrue (exceeds_budget c (state_in mid.book) g)) (sym longer.config_is)
    (subst (λ (s : PlainState). IsTrue (exceeds_budget old.book.config s g)) (sym (same-state (begun old.book) mid.book longer)) (crowded-over old.book ticket g orderly is crowded)) in
    record {
      legal = λ _. inr (inl (there-on state old mid g.rg [] [] g none.relocates wants.there, over, refl));
      fault = λ wrong. absurd (false≢true wrong);
    }

pub ends-crowded : {F : Type 0} (state : F → FlashState) (old mid new : Seen F) (ticket : Ticket) (g : Going) (done : Done) → 0 < old.book.spare → WantsUnit old.book g → IsOrderly old.book.config (point_in old.book) → IsTicketOf (state_in old.book) ticket g → IsCrowded old.book.pages.units old.book.config (state_in old.book) g.rg →
    MakesNone state (begun_seen old) mid g.rg → Ends state mid new ticket g statuses.CAPACITY_EXCEEDED done → EndsCrowded state old new ticket g done
ends-crowded {F} state old mid new ticket g done spare wants orderly is crowded none ended = record {
  wants = wants;
  none = record { none = none.none.none; gains = none.none.gains };
  over = crowded-over old.book ticket g orderly is crowded;
  completes = behind state old mid new g.rg [] [] ticket g statuses.CAPACITY_EXCEEDED done spare none.relocates ended refl (λ wrong. absurd (false≢true wrong));
  reply_is = ap (λ (d : Done). d.reply) ended.completes.done_is;
  flash = subst (λ (x : F). IsUncalled (state old.flash) (state x)) (sym ended.uncalled) none.flash;
}

-- no unit is free

worn-now : {F : Type 0} (state : F → FlashState) (old mid : Seen F) (g : Going) (h : Starves state (begun_seen old) mid g.rg) → (state_in mid.book).is_worn g.rg ≡ true
worn-now state old mid g h =
    ap (λ (s : PlainState). s.is_worn g.rg) (state-as (begun old.book) mid.book (h.before ++ entries.Worn (record { rg = g.rg }) ∷ []) h.relocates.extends.book)
    ∙ ap (λ (xs : List Entry). (state_of old.book.config old.book.found xs).is_worn g.rg) (sym (append_assoc old.book.entries h.before (entries.Worn (record { rg = g.rg }) ∷ [])))
    ∙ worn-behind old.book.config old.book.found old.book.entries h.before g.rg

pub starved-may : {F : Type 0} (state : F → FlashState) (old mid : Seen F) (ticket : Ticket) (g : Going) → WantsUnit old.book g → IsOrderly old.book.config (point_in old.book) → IsTicketOf (state_in old.book) ticket g → Starves state (begun_seen old) mid g.rg → MayEnd state mid g statuses.CAPACITY_EXCEEDED
starved-may state old mid ticket g wants orderly is h =
    let w = has-block old.book.config old.book ticket g orderly is in
    record {
      legal = λ _. inr (inl (there-on state old mid g.rg _ h.calls g h.relocates wants.there, worn-exceeds mid.book.config (state_in mid.book) g w.0 (worn-now state old mid g h) w.1 w.2, refl));
      fault = λ wrong. absurd (false≢true wrong);
    }

pub ends-starved : {F : Type 0} (state : F → FlashState) (old mid new : Seen F) (ticket : Ticket) (g : Going) (done : Done) → 0 < old.book.spare → WantsUnit old.book g → IsOrderly old.book.config (point_in old.book) → IsTicketOf (state_in old.book) ticket g →
    Starves state (begun_seen old) mid g.rg → Ends state mid new ticket g statuses.CAPACITY_EXCEEDED done → EndsStarved state old new ticket g done
ends-starved {F} state old mid new ticket g done spare wants orderly is h ended =
    let w = has-block old.book.config old.book ticket g orderly is in
    record {
      wants = wants;
      before = h.before;
      calls = h.calls;
      inside = h.relocates.inside;
      worn = subst (λ (k : Counts). IsWornOut k (state new.flash) (state_of old.book.config old.book.found (old.book.entries ++ h.before ++ entries.Worn (record { rg = g.rg }) ∷ [])).is_lost g.rg) h.relocates.extends.handed_is
          (subst (λ (x : F). IsWornOut mid.handed (state x) (state_of old.book.config old.book.found (old.book.entries ++ h.before ++ entries.Worn (record { rg = g.rg }) ∷ [])).is_lost g.rg) (sym ended.uncalled)
          (subst (λ (xs : List Entry). IsWornOut mid.handed (state mid.flash) (state_of old.book.config old.book.found xs).is_lost g.rg) (sym (append_assoc old.book.entries h.before (entries.Worn (record { rg = g.rg }) ∷ [])))
          (worn-told mid.handed (state mid.flash) (begun old.book) mid.book (h.before ++ entries.Worn (record { rg = g.rg }) ∷ []) g.rg h.relocates.extends.book h.worn)));
      over = worn-exceeds old.book.config (state_of old.book.config old.book.found (old.book.entries ++ h.before ++ entries.Worn (record { rg = g.rg }) ∷ [])) g w.0 (worn-behind old.book.config old.book.found old.book.entries h.before g.rg) w.1 w.2;
      completes = behind state old mid new g.rg (h.before ++ entries.Worn (record { rg = g.rg }) ∷ []) h.calls ticket g statuses.CAPACITY_EXCEEDED done spare h.relocates ended h.well (λ wrong. absurd (false≢true wrong));
      well = h.well;
      reply_is = ap (λ (d : Done). d.reply) ended.completes.done_is;
    }

-- a call failed

some-failed : (calls : List Call) → FailAtEnd calls → list_any has_failed calls ≡ true
some-failed calls h = ap (list_any has_failed) h.calls_are ∙ list_any-append has_failed h.before (h.last ∷ []) ∙ ap (λ (k : Bool). k || (h.last.failed || false)) h.well ∙ ap (λ (k : Bool). k || false) h.failed

failed-now : (f n : FlashState) (es : List Entry) (calls : List Call) → IsFlashFormed n → Matches f n es calls → FailAtEnd calls → FailedAt f n n.moment
failed-now f n es calls formed h fails = failed-last f n fails.before fails.last formed (subst (MakesCalls f n) fails.calls_are h.made) fails.failed

pub failed-may : {F : Type 0} (state : F → FlashState) (old mid : Seen F) (ticket : Ticket) (g : Going) → WantsUnit old.book g → IsFlashFormed (state mid.flash) → IsLedger old.handed (begun old.book) (state old.flash) → (h : FailsInPass state (begun_seen old) mid g.rg) → MayEnd state mid g statuses.WRITE_FAULT
failed-may state old mid ticket g wants formed ledger h =
    let f = state old.flash in
    let n = state mid.flash in
    let matches = h.relocates.extends.matches in
    let failed = failed-now f n h.es h.calls formed matches h.fails in
    let none = none-media old.book.config g.rg h.es h.relocates.inside in
    let faulted = matches.made.fault (some-failed h.calls h.fails) in
    record {
      legal = λ moments. inr (inr (inr (inr (
        there-on state old mid g.rg h.es h.calls g h.relocates wants.there,
        wants.asked,
        new-moment old.handed (begun old.book) mid.book f n h.es n.moment h.relocates.extends.book none failed (let later = matches.made.run.later in let few = moments refl in omega (arith, later, few)) ledger,
        refl,
      ))));
      fault = λ _. subst (λ (k : Counts). counted_more k.faults (count_by is_media_reply mid.book.entries + 1) ≤ n.faults) (sym h.relocates.extends.handed_is)
          (may-tell old.handed (begun old.book) mid.book f n h.es n.moment h.relocates.extends.book none matches.made.run.faults faulted.rose failed ledger).fault;
    }

pub ends-in-pass : {F : Type 0} (state : F → FlashState) (old mid new : Seen F) (ticket : Ticket) (g : Going) (done : Done) → 0 < old.book.spare → WantsUnit old.book g → IsFlashFormed (state mid.flash) →
    FailsInPass state (begun_seen old) mid g.rg → Ends state mid new ticket g statuses.WRITE_FAULT done → EndsInPass state old new ticket g done
ends-in-pass state old mid new ticket g done spare wants formed h ended = record {
  wants = wants;
  before = h.es;
  calls = h.calls;
  inside = h.relocates.inside;
  completes = behind state old mid new g.rg h.es h.calls ticket g statuses.WRITE_FAULT done spare h.relocates ended (some-failed h.calls h.fails) (λ _. failed-now (state old.flash) (state mid.flash) h.es h.calls formed h.relocates.extends.matches h.fails);
  fails = h.fails;
  reply_is = ap (λ (d : Done). d.reply) ended.completes.done_is;
}
