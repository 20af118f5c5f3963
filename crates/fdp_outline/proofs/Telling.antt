-- The outline behind a saved change that makes events and no more.
use Rattle.std.proofs.Common.{◌≡◌, ℕ, ◌+◌, ◌-◌, ◌++◌, Bool, true, false, not, filter, List, [], ◌∷◌, Option, Some, None, length, refl, ap, sym, ◌∙◌, subst, arith, flat_map}
use Rattle.std.specs.Prelude.{if◌then◌else◌, option_map, slice_index}
use Rattle.std.specs.List.{enumerate_from}
use Rattle.std.specs.Option.{option_map_or}
use Rattle.fdp_base.specs.declared.command.Command.TheVariants as commands
use Rattle.fdp_base.specs.declared.config.DriveConfig.{DriveConfig}
use Rattle.fdp_base.specs.declared.entry.BlockName.{BlockName}
use Rattle.fdp_base.specs.declared.entry.Totals.{Totals}
use Rattle.fdp_base.specs.declared.event.Event.{Event}
use Rattle.fdp_base.specs.declared.event.EventKind.TheVariants as kinds
use Rattle.fdp_base.specs.Numbers.{numbers_below}
use Rattle.fdp_base.specs.Placement.{handle_count}
use Rattle.fdp_image.specs.Applied.{applied}
use Rattle.fdp_image.specs.Bits.{has_bit}
use Rattle.fdp_image.specs.ChangeEvents.{closed_event, events_of_change, kept_of_change, moved_of_handle}
use Rattle.fdp_image.specs.Changed.{changed, pages_after}
use Rattle.fdp_image.specs.Checkpoint.{in_place, namespace_of}
use Rattle.fdp_image.specs.Outline.{outline_before, state_with}
use Rattle.fdp_image.specs.Reading.{Reading, group_of_page}
use Rattle.fdp_records.specs.declared.change.Change.{Change}
use Rattle.fdp_records.specs.declared.change.Change.TheVariants as changes
use Rattle.fdp_records.specs.declared.change.UnitPages.{UnitPages}
use Rattle.fdp_rules.specs.Events.{all_valid, handle_event, invalid_identifier, is_host_event, latest, not_fully_written, reallocated}
use Rattle.fdp_rules.specs.PlainState.{Going, Namespace, PlainState}
use Rattle.fdp_rules.specs.Room.{handles_of}
use Rattle.fdp_rules.specs.Sites.{group_of}
use Rattle.fdp_rules.specs.Target.{Target, named_by}
use Rattle.fdp_snapshot.specs.declared.space.Space.{Space}
use Rattle.fdp_snapshot.specs.declared.state.Summary.{Summary}
use Rattle.fdp_snapshot.specs.Fixed.{IsSummary}
use Rattle.fdp_outline.specs.declared.moved_block.MovedBlock.{MovedBlock}
use Rattle.fdp_outline.specs.Events.{AddsEvents, ListsMoved, names_of_handle, with_events, with_kept}
use Rattle.fdp_outline.specs.Handles.{handles_at, named_in}
use Rattle.fdp_outline.specs.Outline.{IsOutlineOf}
use Rattle.fdp_outline.proofs.Applying.{handles-said, namespaces-said}
use Rattle.fdp_outline.proofs.Keeping.{events-more, none-more}
use Rattle.fdp_outline.proofs.Saying.{outline-more}

-- a change that sets nothing, with the events that it makes
pub outline-told : (c : DriveConfig) (r : Reading) (s now : Summary) (change : Change) (totals : Totals) (position : ℕ) → totals.position ≡ position → changed c r totals.position change ≡ r
    → now ≡ with_events s (events_of_change c r (outline_before c r position) change) → IsOutlineOf c r s → IsOutlineOf c (applied c r (change, totals)) now
unfolding applied kept_of_change
outline-told c r s now change totals position at same is h =
    let es : List Event = events_of_change c r (outline_before c r totals.position) change in
    let adds : AddsEvents r es (applied c r (change, totals)) = record {
      same = ap (λ (x : Reading). record x {
        totals = totals;
        pages = pages_after c r change;
        host_events = latest (r.host_events ++ filter is_host_event (filter (λ (y : Event). r.reports y.ruh y.kind) es));
        controller_events = latest (r.controller_events ++ filter (λ e. not (is_host_event e)) (filter (λ (y : Event). r.reports y.ruh y.kind) es));
      }) same;
    } in
    let made : now ≡ with_events s es = is ∙ ap (λ (p : ℕ). with_events s (events_of_change c r (outline_before c r p) change)) (sym at) in
    subst (λ (x : Summary). IsOutlineOf c (applied c r (change, totals)) x) (sym made) (outline-more c r (applied c r (change, totals)) es s h adds)

-- the handles of a namespace are those of the state just before an entry
pub handles-before : (c : DriveConfig) (r : Reading) (s : Summary) (position nsid : ℕ) → IsOutlineOf c r s → handles_of (outline_before c r position) nsid ≡ handles_at s nsid
unfolding state_with
handles-before c r s position nsid h =
    ap (λ (o : Option Namespace). option_map_or (λ (x : Namespace). x.handles) o []) (sym (namespaces-said c r s nsid h)) ∙ of-place (in_place s.spaces nsid) where
      of-place : (o : Option Space) → option_map_or (λ (x : Namespace). x.handles) (option_map namespace_of o) [] ≡ option_map_or (λ (x : Space). x.handles) o []
      of-place None = refl
      of-place (Some x) = refl

-- ---- a write

-- with a valid identifier, or none
pub outline-written : (c : DriveConfig) (r : Reading) (s : Summary) (totals : Totals) (position nsid slba pid : ℕ) (pages : List ℕ) → IsSummary s → totals.position ≡ position
    → IsOutlineOf c r s → IsOutlineOf c (applied c r (changes.Write nsid slba pid false pages, totals)) s
unfolding events_of_change
outline-written c r s totals position nsid slba pid pages fits at h = outline-told c r s s (changes.Write nsid slba pid false pages) totals position at refl (none-more s fits) h

-- a write that was placed in a group by a handle
abbrev pub going_in : ℕ → ℕ → Going
going_in rg ruh = record {
  number = 0;
  command = commands.Flush (record { nsid = 0 });
  ticket = 0;
  birth = 0;
  rg = rg;
  ruh = ruh;
  pid_valid = false;
  roomiest = 0;
  placed = 0;
}

abbrev invalid_in : ℕ → ℕ → ℕ → ℕ → ℕ → Event
invalid_in nsid pid position rg ruh = record { kind = kinds.InvalidPlacementIdentifier; flags = all_valid; pid = pid; position = position; nsid = nsid; moved = 0; lba = 0; rg = rg; ruh = ruh }

pub outline-invalid : (c : DriveConfig) (r : Reading) (s now : Summary) (totals : Totals) (position nsid slba pid rg ruh : ℕ) (pages : List ℕ) → totals.position ≡ position
    → rg ≡ group_of_page c (slice_index pages 0) → ruh ≡ slice_index (handles_at s nsid) 0
    → now ≡ with_events s (invalid_identifier (outline_before c r position) nsid pid (going_in rg ruh) ∷ [])
    → IsOutlineOf c r s → IsOutlineOf c (applied c r (changes.Write nsid slba pid true pages, totals)) now
unfolding events_of_change
outline-invalid c r s now totals position nsid slba pid rg ruh pages at group handle is h =
    let first : ruh ≡ slice_index (handles_of (outline_before c r position) nsid) 0 = handle ∙ ap (λ (xs : List ℕ). slice_index xs 0) (sym (handles-before c r s position nsid h)) in
    outline-told c r s now (changes.Write nsid slba pid true pages) totals position at refl
    (is
    ∙ ap (λ (k : ℕ). with_events s (invalid_in nsid pid (position - 1 + 1) k ruh ∷ [])) group
    ∙ ap (λ (k : ℕ). with_events s (invalid_in nsid pid (position - 1 + 1) (group_of_page c (slice_index pages 0)) k ∷ [])) first)
    h

-- ---- an update

module _ (c : DriveConfig) (s : PlainState) (nsid closed place pid : ℕ) where
  pub closed_not : has_bit closed place ≡ false → closed_event c s nsid closed (place, pid) ≡ []
  closed_not off = ap (λ (b : Bool). if b then option_map_or (λ (t : Target). not_fully_written s nsid pid t ∷ []) (named_by c s nsid pid) [] else []) off

  pub closed_none : (handles : List ℕ) → handles_of s nsid ≡ handles → has_bit closed place ≡ true → named_in c handles pid ≡ None → closed_event c s nsid closed (place, pid) ≡ []
  closed_none handles are on none =
      ap (λ (b : Bool). if b then option_map_or (λ (t : Target). not_fully_written s nsid pid t ∷ []) (named_by c s nsid pid) [] else []) on
      ∙ ap (λ (o : Option Target). option_map_or (λ (t : Target). not_fully_written s nsid pid t ∷ []) o []) (ap (λ (xs : List ℕ). named_in c xs pid) are ∙ none)

  pub closed_some : (handles : List ℕ) (t : Target) → handles_of s nsid ≡ handles → has_bit closed place ≡ true → named_in c handles pid ≡ Some t
      → closed_event c s nsid closed (place, pid) ≡ not_fully_written s nsid pid t ∷ []
  closed_some handles t are on some =
      ap (λ (b : Bool). if b then option_map_or (λ (u : Target). not_fully_written s nsid pid u ∷ []) (named_by c s nsid pid) [] else []) on
      ∙ ap (λ (o : Option Target). option_map_or (λ (u : Target). not_fully_written s nsid pid u ∷ []) o []) (ap (λ (xs : List ℕ). named_in c xs pid) are ∙ some)

-- events do not change the handles of a namespace
pub handles-stay : (s : Summary) (es : List Event) (nsid : ℕ) → handles_at (with_events s es) nsid ≡ handles_at s nsid
unfolding with_kept
handles-stay s es nsid = refl

-- ---- a move

pub outline-moved : (c : DriveConfig) (r : Reading) (s now : Summary) (totals : Totals) (position : ℕ) (victim first : UnitPages) (second : Option UnitPages) (handles : List ℕ) (blocks : List MovedBlock)
    → totals.position ≡ position → ListsMoved c r (changes.Moved victim first second handles) blocks
    → now ≡ with_events s (flat_map (λ ruh. reallocated (outline_before c r position) (group_of c victim.unit) ruh (names_of_handle blocks ruh)) (numbers_below (handle_count c s.enabled s.index)))
    → IsOutlineOf c r s → IsOutlineOf c (applied c r (changes.Moved victim first second handles, totals)) now
unfolding events_of_change state_with
outline-moved c r s now totals position victim first second handles blocks at lists is h =
    let before : PlainState = outline_before c r position in
    let each : ((ruh : ℕ) → List BlockName) → ℕ → Summary =
    λ f count. with_events s (flat_map (λ ruh. reallocated before (group_of c victim.unit) ruh (f ruh)) (numbers_below count)) in
    outline-told c r s now (changes.Moved victim first second handles) totals position at refl
    (is
    ∙ ap (λ (f : (ruh : ℕ) → List BlockName). each f (handle_count c s.enabled s.index)) (λ i. λ ruh. lists ruh i)
    ∙ ap (λ (count : ℕ). each (moved_of_handle c r victim handles) count) (sym (handles-said c r s h)))
    h

-- ---- a handle that is left without a unit

pub outline-shut : (c : DriveConfig) (r : Reading) (s now : Summary) (totals : Totals) (position rg ruh : ℕ) → totals.position ≡ position
    → now ≡ with_events s (handle_event (outline_before c r position) kinds.ImplicitlyModified rg ruh ∷ [])
    → IsOutlineOf c r s → IsOutlineOf c (applied c r (changes.Shut rg ruh, totals)) now
unfolding events_of_change
outline-shut c r s now totals position rg ruh at is h = outline-told c r s now (changes.Shut rg ruh) totals position at refl is h

-- ---- identifiers, one after another

pub closed-more : (c : DriveConfig) (x : PlainState) (nsid closed place pid : ℕ) (rest all : List ℕ) (old one now : Summary) → all ≡ pid ∷ rest → one ≡ with_events old (closed_event c x nsid closed (place, pid))
    → now ≡ with_events one (flat_map (closed_event c x nsid closed) (enumerate_from (place + 1) rest)) → now ≡ with_events old (flat_map (closed_event c x nsid closed) (enumerate_from place all))
closed-more c x nsid closed place pid rest all old one now is first more =
    more
    ∙ ap (λ (s : Summary). with_events s (flat_map (closed_event c x nsid closed) (enumerate_from (place + 1) rest))) first
    ∙ events-more old (closed_event c x nsid closed (place, pid)) (flat_map (closed_event c x nsid closed) (enumerate_from (place + 1) rest))
    ∙ ap (λ (xs : List ℕ). with_events old (flat_map (closed_event c x nsid closed) (enumerate_from place xs))) (sym is)

pub closed-end : (c : DriveConfig) (x : PlainState) (nsid closed place : ℕ) (all : List ℕ) (old : Summary) → IsSummary old → length all ≡ 0 → old ≡ with_events old (flat_map (closed_event c x nsid closed) (enumerate_from place all))
closed-end c x nsid closed place [] old fits none = none-more old fits
closed-end c x nsid closed place (pid ∷ pids) old fits none = absurd (omega (arith, none))
