-- A step of a drive, on its board.
use Rattle.std.proofs.Common.{◌≡◌, ℕ, ◌+◌, ◌<◌, ◌≤◌, Bool, List, [], ◌∷◌, ◌++◌, refl, ap, sym, ◌∙◌, subst, arith, append_assoc, inl, inr, ⊎_elim, length, length-append}
use Rattle.std.specs.Prelude.{All, IsFalse, IsTrue, map}
use mathlib.Core.List.{IsPrefix}
use Rattle.std.proofs.lemmas.Bool.{cases_lt}
use Rattle.fdp_base.specs.declared.config.DriveConfig.{DriveConfig}
use Rattle.fdp_base.specs.declared.config.Geometry.{Geometry}
use Rattle.fdp_base.specs.declared.entry.Entry.{Entry}
use Rattle.fdp_base.specs.declared.entry.Totals.{Totals}
use Rattle.fdp_base.specs.declared.recorded.Mark.{Mark}
use Rattle.fdp_base.specs.Placement.{geometry_of}
use Rattle.fdp_base.proofs.Records.{prefix_trans}
use Rattle.fdp_workers.specs.fdp_book.Book.{BookSeen, state_in}
use Rattle.fdp_workers.specs.fdp_book.declared.ticket.Ticket.{Ticket}
use Rattle.fdp_workers.specs.fdp_book.Tickets.{IsTicketOf}
use Rattle.fdp_workers.specs.fdp_core.Seen.{Seen}
use Rattle.fdp_workers.specs.fdp_core.Steps.{Adds, steps_of}
use Rattle.fdp_workers.specs.fdp_core.Stops.{OutlastsStops}
use Rattle.fdp_flash.specs.declared.cell.Cell.{Cell}
use Rattle.fdp_flash.specs.FlashState.{Call, FlashState}
use Rattle.fdp_image.specs.Kept.{StandsForKept}
use Rattle.fdp_workers.specs.fdp_isolation.Begun.{OpenedApart}
use Rattle.fdp_workers.specs.fdp_roominess.Run.{BeganRoomy, IsRoomyImage}
use Rattle.fdp_workers.specs.fdp_survival.Apart.{StandsApart}
use Rattle.fdp_workers.proofs.fdp_survival.Apart.{own-apart}
use Rattle.fdp_workers.proofs.fdp_survival.Images.{grown-apart, less-apart}
use Rattle.fdp_workers.specs.fdp_ledger.declared.counts.Counts.{Counts}
use Rattle.fdp_workers.specs.fdp_ledger.Emptied.{OnlyErasesEmpty}
use Rattle.fdp_workers.proofs.fdp_loading.fdp_ledger.Emptied.{emptied-joined}
use Rattle.fdp_rules.specs.History.{Found, point_of, state_of}
use Rattle.fdp_rules.specs.PlainState.{Going, PlainState}
use Rattle.fdp_rules.specs.Seats.{mark_of, marks_after, marks_of, seat_of_entry}
use Rattle.fdp_workers.specs.Run.{OpensFirst}
use Rattle.fdp_workers.specs.Turns.{AddsNone, AddsOwn}
use Rattle.fdp_board.specs.Board.{AreCharged, AreSumsOf, Began, EmptiedAreTold, IsBoard, IsKeptImage, IsRoomySince, IsSafeSince, IsUnfailing, StepsAreTold, began_with, items_of}
use Rattle.fdp_workers.specs.Marks.{entry_in, mark_in, marked_after}
use Rattle.fdp_board.proofs.Charging.{charged-after}
use Rattle.fdp_board.proofs.Outlasting.{AreLate, each_later, kept-grown, kept-less}
use Rattle.fdp_board.proofs.Items.{AreLater, IsQuiet, entries-marked, marked-joined, marks-joined, none-carry, opens-joined, quiet-none}
use Rattle.atomic_table.specs.Seated.{TableId}

-- ---- what the record tells of the state

pub state-there : (b : BookSeen) → state_in b ≡ state_of b.config b.found b.entries
unfolding point_of
state-there b = refl

pub state-told : {F : Type 0} (s : Seen F) → state_of s.book.config s.book.found (map entry_in (items_of s)) ≡ state_in s.book
state-told s = ap (state_of s.book.config s.book.found) (entries-marked s.book.found [] s.book.entries) ∙ sym (state-there s.book)

pub ticket-there : {F : Type 0} (s : Seen F) (ticket : Ticket) (g : Going) → IsTicketOf (state_of s.book.config s.book.found (map entry_in (items_of s))) ticket g → IsTicketOf (state_in s.book) ticket g
ticket-there s ticket g is = subst (λ (x : PlainState). IsTicketOf x ticket g) (state-told s) is

-- ---- what a step leaves

-- what a step adds: these entries, and the step where there are some; none of which tells of an opening or completes a change before it, and whose media errors tell of calls of the step
pub record Goes {F : Type 0} (state : F → FlashState) (old new : Seen F) (es : List Entry) : Type 0 where
  pub config_is : new.book.config ≡ old.book.config
  pub found_is : new.book.found ≡ old.book.found
  pub opened_is : new.book.opened ≡ old.book.opened
  pub handed_is : new.handed ≡ old.handed
  pub entries_are : new.book.entries ≡ old.book.entries ++ es
  pub spent_is : new.book.spent ≡ old.book.spent + steps_of es
  pub later : AreLater es
  pub late : AreLate (state old.flash).moment es
  pub charged : AreCharged (state old.flash).moment (state new.flash) es
  pub emptied : IsTrue (state old.flash).told → OnlyErasesEmpty (state old.flash).geometry (state old.flash).cells (state new.flash).cells es

pub goes : {F : Type 0} (state : F → FlashState) (old new : Seen F) (es : List Entry) (calls : List Call) → Adds state old new es calls → AreLater es → AreLate (state old.flash).moment es → AreCharged (state old.flash).moment (state new.flash) es → Goes state old new es
goes state old new es calls a later late charged = record {
  config_is = a.book.config_is;
  found_is = a.book.found_is;
  opened_is = a.book.opened_is;
  handed_is = a.handed_is;
  entries_are = a.book.entries_are;
  spent_is = a.book.spent_is;
  later = later;
  late = late;
  charged = charged;
  emptied = a.matches.emptied;
}

-- an image by the fields of the book before a step is one by those of the book behind it
book-after : {F : Type 0} (state : F → FlashState) (old new : Seen F) (es : List Entry) (m : ℕ) (image : List Cell) → Goes state old new es → StandsForKept old.book.config old.book.found new.book.entries 0 m image
    → (OpenedApart old.book.config old.book.found old.book.opened → StandsApart old.book.config old.book.found new.book.entries 0 image) → IsKeptImage new.book.config new.book.found new.book.opened new.book.entries m image
book-after state old new es m image g stands apart =
    let stands_then =
    subst (λ (c : DriveConfig). StandsForKept c new.book.found new.book.entries 0 m image) (sym g.config_is)
    (subst (λ (f : Found). StandsForKept old.book.config f new.book.entries 0 m image) (sym g.found_is) stands) in
    let apart_then =
    subst (λ (c : DriveConfig). OpenedApart c new.book.found new.book.opened → StandsApart c new.book.found new.book.entries 0 image) (sym g.config_is)
    (subst (λ (f : Found). OpenedApart old.book.config f new.book.opened → StandsApart old.book.config f new.book.entries 0 image) (sym g.found_is)
    (subst (λ (cells : List Cell). OpenedApart old.book.config old.book.found cells → StandsApart old.book.config old.book.found new.book.entries 0 image) (sym g.opened_is) apart)) in
    record {
      stands = stands_then;
      apart = apart_then;
      own = λ opened. own-apart new.book.config new.book.found image stands_then.beginning.kept stands_then.beginning.stands (apart_then opened).read;
    }

-- an image of the history before a step is one of the history behind it
image-after : {F : Type 0} (state : F → FlashState) (old new : Seen F) (es : List Entry) (m : ℕ) (image : List Cell) → Goes state old new es → AreLate m es → IsKeptImage old.book.config old.book.found old.book.opened old.book.entries m image → IsKeptImage new.book.config new.book.found new.book.opened new.book.entries m image
image-after state old new es m image g late was = book-after state old new es m image g
    (subst (λ (xs : List Entry). StandsForKept old.book.config old.book.found xs 0 m image) (sym g.entries_are) (kept-grown old.book.config old.book.found old.book.entries es 0 m image late was.stands))
    (λ opened. subst (λ (xs : List Entry). StandsApart old.book.config old.book.found xs 0 image) (sym g.entries_are) (grown-apart old.book.config old.book.found old.book.entries es 0 image (was.apart opened)))

-- each image since the flash was handed in is kept behind the step
safe-after : {F : Type 0} (state : F → FlashState) (old new : Seen F) (es : List Entry) → Goes state old new es → OutlastsStops state old new → IsSafeSince old.handed.moment (state old.flash) old.book → IsSafeSince old.handed.moment (state new.flash) new.book
safe-after state old new es g stops safe told m image above most there =
    let run = stops.stops.images in
    let told_before : IsTrue (state old.flash).told = sym run.told ∙ told in
    let before : m ≤ (state old.flash).moment → IsKeptImage new.book.config new.book.found new.book.opened new.book.entries m image =
    λ early. image-after state old new es m image g (each_later m (state old.flash).moment es early g.late) (safe told_before m image above early (run.earlier m image early there)) in
    let behind : (state old.flash).moment < m → IsKeptImage new.book.config new.book.found new.book.opened new.book.entries m image =
    λ late. book-after state old new es m image g
    (kept-less old.book.config old.book.found new.book.entries old.keeper.firm 0 m image (omega arith) (run.images told_before m image late most there))
    (λ opened. less-apart old.book.config old.book.found new.book.entries (length old.book.entries) 0 image (omega arith) ((stops.apart opened).images.images told_before m image late most there)) in
    elim (cases_lt (state old.flash).moment m) [
      | inl late ↦ behind late
      | inr early ↦ before early
    ]

-- what began with room behind a step did so before it
began-before : {F : Type 0} (state : F → FlashState) (old new : Seen F) (es : List Entry) → Goes state old new es → (state new.flash).told ≡ (state old.flash).told → BeganRoomy (state new.flash).told new.book → BeganRoomy (state old.flash).told old.book
began-before state old new es g tells began = ⊎_elim
    (λ (fresh : IsFalse new.book.found.is_image). inl (ap (λ (f : Found). f.is_image) (sym g.found_is) ∙ fresh))
    (λ (image : IsTrue (state new.flash).told × IsRoomyImage new.book.config new.book.opened).
    inr (subst IsTrue tells image.0, subst (λ (c : DriveConfig). IsRoomyImage c old.book.opened) g.config_is (subst (IsRoomyImage new.book.config) g.opened_is image.1)))
    began

-- and roomy, where the run began with room and no call failed
roomy-after : {F : Type 0} (state : F → FlashState) (old new : Seen F) (es : List Entry) → Goes state old new es → OutlastsStops state old new → IsRoomySince old.handed (state old.flash) old.book → IsRoomySince old.handed (state new.flash) new.book
roomy-after state old new es g stops roomy told began well m image above most there =
    let run = stops.stops.images in
    let told_before : IsTrue (state old.flash).told = sym run.told ∙ told in
    let began_before = began-before state old new es g run.told began in
    subst (λ (c : DriveConfig). IsRoomyImage c image) (sym g.config_is) (elim (cases_lt (state old.flash).moment m) [
      | inl late ↦ (stops.roomy began_before well).images told_before m image late most there
      | inr early ↦ roomy told_before began_before (λ rose. well (omega (arith, rose, run.faults))) m image above early (run.earlier m image early there)
    ])

-- each step has added an entry
steps-few : (es : List Entry) → steps_of es ≤ length es
steps-few [] = omega arith
steps-few (e ∷ es) = omega arith

steps-after : {F : Type 0} (state : F → FlashState) (old new : Seen F) (es : List Entry) → Goes state old new es → StepsAreTold old.book → StepsAreTold new.book
steps-after state old new es g told =
    let few = steps-few es in
    let size : length new.book.entries ≡ length old.book.entries + length es = ap length g.entries_are ∙ length-append old.book.entries es in
    omega (arith, told, few, size, g.spent_is)

-- and each unit that was emptied has its entry
emptied-after : {F : Type 0} (state : F → FlashState) (old new : Seen F) (es : List Entry) → Goes state old new es → OutlastsStops state old new → EmptiedAreTold (state old.flash) old.book → EmptiedAreTold (state new.flash) new.book
emptied-after state old new es g stops was = record {
  cut = stops.stops.images.geometry ∙ was.cut ∙ ap geometry_of (sym g.config_is);
  only = λ told is_image.
      let told_before : IsTrue (state old.flash).told = sym stops.stops.images.told ∙ told in
      let image_before : IsTrue old.book.found.is_image = ap (λ (f : Found). f.is_image) (sym g.found_is) ∙ is_image in
      let step : OnlyErasesEmpty (geometry_of old.book.config) (state old.flash).cells (state new.flash).cells es = subst (λ (k : Geometry). OnlyErasesEmpty k (state old.flash).cells (state new.flash).cells es) was.cut (g.emptied told_before) in
      let all = emptied-joined (geometry_of old.book.config) old.book.opened (state old.flash).cells (state new.flash).cells old.book.entries es (was.only told_before image_before) step in
      subst (λ (c : DriveConfig). OnlyErasesEmpty (geometry_of c) new.book.opened (state new.flash).cells new.book.entries) (sym g.config_is)
      (subst (λ (cells : List Cell). OnlyErasesEmpty (geometry_of old.book.config) cells (state new.flash).cells new.book.entries) (sym g.opened_is)
      (subst (OnlyErasesEmpty (geometry_of old.book.config) old.book.opened (state new.flash).cells) (sym g.entries_are) all));
}

pub board-after : {F : Type 0} (state : F → FlashState) (old new : Seen F) (before : Totals) (told : List Mark) (es : List Entry) → Goes state old new es → OutlastsStops state old new → IsBoard state old before told → IsBoard state new before told
board-after state old new before told es g stops b = record {
  opens = subst (OpensFirst []) (sym g.entries_are) (opens-joined [] old.book.entries es b.opens g.later);
  shown = subst (λ (f : Found). IsPrefix told (marks_of f new.book.entries)) (sym g.found_is)
      (subst (λ (xs : List Entry). IsPrefix told (marks_of old.book.found xs)) (sym g.entries_are)
      (prefix_trans told (marks_of old.book.found old.book.entries) (marks_of old.book.found (old.book.entries ++ es)) b.shown
      (marks_after old.book.found old.book.entries es, sym (marks-joined old.book.found [] old.book.entries es))));
  sums = subst (λ (f : Found). AreSumsOf f before) (sym g.found_is) b.sums;
  steps = steps-after state old new es g b.steps;
  safe = subst (λ (h : Counts). IsSafeSince h.moment (state new.flash) new.book) (sym g.handed_is) (safe-after state old new es g stops b.safe);
  roomy = subst (λ (h : Counts). IsRoomySince h (state new.flash) new.book) (sym g.handed_is) (roomy-after state old new es g stops b.roomy);
  later = subst (λ (h : Counts). h.moment ≤ (state new.flash).moment) (sym g.handed_is) (omega (arith, b.later, stops.stops.images.later));
  charged = subst (λ (h : Counts). AreCharged h.moment (state new.flash) new.book.entries) (sym g.handed_is)
      (subst (AreCharged old.handed.moment (state new.flash)) (sym g.entries_are)
      (charged-after old.handed.moment (state old.flash) (state new.flash) _ old.book.entries es b.later stops.stops.images b.charged g.charged));
  unfailing = subst (λ (h : Counts). IsUnfailing h (state new.flash)) (sym g.handed_is)
      (λ reliable.
      let was = subst (λ (x : Bool). IsTrue x) stops.stops.images.reliable reliable in
      stops.stops.images.no_fault was ∙ b.unfailing was);
  emptied = emptied-after state old new es g stops b.emptied;
}

-- nothing changes of what the drive began with
pub began-after : {F : Type 0} (state : F → FlashState) (old new : Seen F) (gauge : TableId) (told : List Mark) (es : List Entry) → Goes state old new es → OutlastsStops state old new
    → began_with state (record { group = new; gauge = gauge; told = told }) ≡ began_with state (record { group = old; gauge = gauge; told = told })
began-after state old new gauge told es g stops =
    let run = stops.stops.images in
    let make : DriveConfig → Found → List Cell → Counts → Bool → Bool → Bool → Began = λ c f cells h t i r. record { run = record { config = c; found = f; gauge = gauge }; opened = cells; handed = h; told = t; tells_images = i; reliable = r } in
    ap (λ c. make c new.book.found new.book.opened new.handed (state new.flash).told (state new.flash).tells_images (state new.flash).reliable) g.config_is
    ∙ ap (λ f. make old.book.config f new.book.opened new.handed (state new.flash).told (state new.flash).tells_images (state new.flash).reliable) g.found_is
    ∙ ap (λ cells. make old.book.config old.book.found cells new.handed (state new.flash).told (state new.flash).tells_images (state new.flash).reliable) g.opened_is
    ∙ ap (λ h. make old.book.config old.book.found old.book.opened h (state new.flash).told (state new.flash).tells_images (state new.flash).reliable) g.handed_is
    ∙ ap (λ t. make old.book.config old.book.found old.book.opened old.handed t (state new.flash).tells_images (state new.flash).reliable) run.told
    ∙ ap (λ i. make old.book.config old.book.found old.book.opened old.handed (state old.flash).told i (state new.flash).reliable) run.tells_images
    ∙ ap (λ r. make old.book.config old.book.found old.book.opened old.handed (state old.flash).told (state old.flash).tells_images r) run.reliable

-- ---- what it adds to the record

items-after : {F : Type 0} (state : F → FlashState) (old new : Seen F) (es : List Entry) → Goes state old new es → items_of new ≡ items_of old ++ marked_after old.book.found old.book.entries es
items-after state old new es g =
    ap (λ (f : Found). marked_after f [] new.book.entries) g.found_is ∙ ap (marked_after old.book.found []) g.entries_are ∙ marked-joined old.book.found [] old.book.entries es

pub adds-none : {F : Type 0} (state : F → FlashState) (old new : Seen F) (es : List Entry) → Goes state old new es → All IsQuiet es → AddsNone mark_in (items_of old) (items_of new)
adds-none state old new es g quiet = record {
  added = marked_after old.book.found old.book.entries es;
  new_is = items-after state old new es g;
  none = none-carry old.book.found old.book.entries es (quiet-none es quiet);
}

pub adds-own : {F : Type 0} (state : F → FlashState) (old new : Seen F) (before : List Entry) (e : Entry) (number : ℕ) → Goes state old new (before ++ e ∷ []) → All IsQuiet before → seat_of_entry old.book.found (old.book.entries ++ before) e ≡ number
    → AddsOwn entry_in mark_in number (items_of old) (items_of new) e
unfolding marked_after
adds-own state old new before e number g quiet seat =
    let f = old.book.found in
    let own : Entry × Mark = (e, mark_of f (old.book.entries ++ before) e) in
    record {
      before = marked_after f old.book.entries before;
      own = own;
      new_is = items-after state old new (before ++ e ∷ []) g ∙ ap (λ (xs : List (Entry × Mark)). items_of old ++ xs) (marked-joined f old.book.entries before (e ∷ []))
          ∙ sym (append_assoc (items_of old) (marked_after f old.book.entries before) (own ∷ []));
      none = none-carry f old.book.entries before (quiet-none before quiet);
      number_is = seat;
      entry_is = refl;
    }
