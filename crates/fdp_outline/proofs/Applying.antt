-- The outline behind a saved change that makes no event.
use Rattle.std.proofs.Common.{◌≡◌, ℕ, ◌<◌, ◌≤◌, ◌++◌, Bool, true, false, List, [], length, Option, Some, None, refl, ap, sym, ◌∙◌, subst}
use Rattle.std.specs.Prelude.{◌==◌, ◌&&◌, flat_map, if◌then◌else◌, option_map}
use Rattle.std.specs.List.{enumerate_from}
use Rattle.fdp_base.specs.declared.command.Range.{Range}
use Rattle.fdp_base.specs.declared.config.DriveConfig.{DriveConfig}
use Rattle.fdp_base.specs.declared.entry.Totals.{Totals}
use Rattle.fdp_base.specs.declared.event.Event.{Event}
use Rattle.fdp_base.specs.declared.event.EventKind.{EventKind}
use Rattle.fdp_base.specs.Placement.{handle_count}
use Rattle.fdp_image.specs.Applied.{applied}
use Rattle.fdp_image.specs.BadFields.{AreKnownMasks}
use Rattle.fdp_image.specs.ChangeEvents.{closed_event, events_of_change, kept_of_change}
use Rattle.fdp_image.specs.Changed.{pages_after, reporting}
use Rattle.fdp_image.specs.Checkpoint.{in_place, namespace_of, reading_of_state, reports_in}
use Rattle.fdp_image.specs.CheckpointRows.{has_kind}
use Rattle.fdp_image.specs.Fits.{fits, handles_in}
use Rattle.fdp_image.specs.Outline.{outline_before}
use Rattle.fdp_image.specs.Reading.{Reading}
use Rattle.fdp_records.specs.declared.change.Change.TheVariants as changes
use Rattle.fdp_rules.specs.Events.{latest}
use Rattle.fdp_rules.specs.PlainState.{Namespace}
use Rattle.fdp_snapshot.specs.declared.space.Space.{Space}
use Rattle.fdp_snapshot.specs.declared.state.Summary.{Summary}
use Rattle.fdp_snapshot.specs.Fixed.{IsSummary}
use Rattle.fdp_outline.specs.Events.{AddsEvents, with_events}
use Rattle.fdp_outline.specs.Outline.{IsOutlineOf, said_by}
use Rattle.fdp_events.proofs.Latest.{latest-few}
use Rattle.fdp_outline.proofs.Saying.{outline-more}

-- at most 32 events of each class
record HasFewEvents (s : Summary) : Type 0 where
  host : length s.host_events ≤ 32
  controller : length s.controller_events ≤ 32

-- other totals and pages, and no event more
outline-quiet : (c : DriveConfig) (x : Reading) (s : Summary) (totals : Totals) (pages : ℕ → ℕ → Option ℕ) → HasFewEvents s → IsOutlineOf c x s
    → IsOutlineOf c (record x { totals = totals; pages = pages; host_events = latest (x.host_events ++ []); controller_events = latest (x.controller_events ++ []) }) s
unfolding reading_of_state
outline-quiet c x s totals pages fits h = record {
  sizes = h.sizes;
  rows = h.rows;
  says =
      ap (λ (xs : List Event). record (said_by s) { totals = totals; pages = pages; host_events = xs }) (latest-few s.host_events fits.host)
      ∙ ap (λ (xs : List Event). record (said_by s) { totals = totals; pages = pages; host_events = latest (s.host_events ++ []); controller_events = xs }) (latest-few s.controller_events fits.controller)
      ∙ ap (λ (y : Reading). record y { totals = totals; pages = pages; host_events = latest (y.host_events ++ []); controller_events = latest (y.controller_events ++ []) }) h.says;
}

-- other namespaces
outline-spaces : (c : DriveConfig) (r : Reading) (s : Summary) (spaces : List (Option Space)) (f : ℕ → Option Namespace) → ((n : ℕ) → option_map namespace_of (in_place spaces n) ≡ f n) → IsOutlineOf c r s
    → IsOutlineOf c (record r { namespaces = f }) (record s { spaces = spaces })
unfolding reading_of_state
outline-spaces c r s spaces f is h = record {
  sizes = h.sizes;
  rows = record { masks = h.rows.masks; events = h.rows.events };
  says =
      ap (λ (g : ℕ → Option Namespace). record (said_by s) { totals = r.totals; pages = r.pages; namespaces = g }) (λ i. λ n. is n i)
      ∙ ap (λ (y : Reading). record y { namespaces = f }) h.says;
}

map-if : (b : Bool) (x y : Option Space) → option_map namespace_of (if b then x else y) ≡ (if b then option_map namespace_of x else option_map namespace_of y)
map-if true x y = refl
map-if false x y = refl

-- what an outline says of a namespace
pub namespaces-said : (c : DriveConfig) (r : Reading) (s : Summary) (n : ℕ) → IsOutlineOf c r s → option_map namespace_of (in_place s.spaces n) ≡ r.namespaces n
unfolding reading_of_state
namespaces-said c r s n h = ap (λ (y : Reading). y.namespaces n) h.says

-- a namespace, or none, in the place of an identifier
outline-place : (c : DriveConfig) (r : Reading) (s : Summary) (spaces : List (Option Space)) (nsid : ℕ) (o : Option Space) → ((n : ℕ) → in_place spaces n ≡ (if n == nsid then o else in_place s.spaces n)) → IsOutlineOf c r s
    → IsOutlineOf c (record r { namespaces = λ n. if n == nsid then option_map namespace_of o else r.namespaces n }) (record s { spaces = spaces })
outline-place c r s spaces nsid o is h =
    outline-spaces c r s spaces (λ n. if n == nsid then option_map namespace_of o else r.namespaces n)
    (λ n. ap (option_map namespace_of) (is n) ∙ map-if (n == nsid) o (in_place s.spaces n) ∙ ap (λ (x : Option Namespace). if n == nsid then option_map namespace_of o else x) (namespaces-said c r s n h))
    h

few-events : (s : Summary) (spaces : List (Option Space)) → IsSummary s → HasFewEvents (record s { spaces = spaces })
few-events s spaces fits = record { host = fits.host_count; controller = fits.controller_count }

pub outline-created : (c : DriveConfig) (r : Reading) (s : Summary) (totals : Totals) (spaces : List (Option Space)) (position nsid size : ℕ) (given : Bool) (handles : List ℕ) → IsSummary s
    → ((n : ℕ) → in_place spaces n ≡ (if n == nsid then Some (record { size = size; birth = position; given = given; handles = handles }) else in_place s.spaces n)) → totals.position ≡ position
    → IsOutlineOf c r s → IsOutlineOf c (applied c r (changes.Create nsid size given handles, totals)) (record s { spaces = spaces })
unfolding applied kept_of_change events_of_change
outline-created c r s totals spaces position nsid size given handles fits is at h =
    let same : (n : ℕ) → in_place spaces n ≡ (if n == nsid then Some (record { size = size; birth = totals.position; given = given; handles = handles }) else in_place s.spaces n) =
    λ n. is n ∙ ap (λ (k : ℕ). if n == nsid then Some (record { size = size; birth = k; given = given; handles = handles }) else in_place s.spaces n) (sym at) in
    let put = outline-place c r s spaces nsid (Some (record { size = size; birth = totals.position; given = given; handles = handles })) same h in
    outline-quiet c (record r { namespaces = λ n. if n == nsid then Some (record { size = size; handles = handles; given = given; birth = totals.position }) else r.namespaces n }) (record s { spaces = spaces }) totals
    (pages_after c r (changes.Create nsid size given handles)) (few-events s spaces fits) put

pub outline-deleted : (c : DriveConfig) (r : Reading) (s : Summary) (totals : Totals) (spaces : List (Option Space)) (nsid : ℕ) → IsSummary s
    → ((n : ℕ) → in_place spaces n ≡ (if n == nsid then None else in_place s.spaces n))
    → IsOutlineOf c r s → IsOutlineOf c (applied c r (changes.Delete nsid, totals)) (record s { spaces = spaces })
unfolding applied kept_of_change events_of_change
outline-deleted c r s totals spaces nsid fits is h =
    outline-quiet c (record r { namespaces = λ n. if n == nsid then None else r.namespaces n }) (record s { spaces = spaces }) totals (pages_after c r (changes.Delete nsid)) (few-events s spaces fits)
    (outline-place c r s spaces nsid None is h)

-- blocks are absent
pub outline-cleared : (c : DriveConfig) (r : Reading) (s : Summary) (totals : Totals) (nsid : ℕ) (ranges : List Range) → IsSummary s → IsOutlineOf c r s → IsOutlineOf c (applied c r (changes.Clear nsid ranges, totals)) s
unfolding applied kept_of_change events_of_change
outline-cleared c r s totals nsid ranges fits h = outline-quiet c r s totals (pages_after c r (changes.Clear nsid ranges)) (few-events s s.spaces fits) h

-- the events of an update
pub outline-updated : (c : DriveConfig) (r : Reading) (s now : Summary) (totals : Totals) (nsid closed : ℕ) (pids : List ℕ) → now ≡ with_events s (flat_map (closed_event c (outline_before c r totals.position) nsid closed) (enumerate_from 0 pids))
    → IsOutlineOf c r s → IsOutlineOf c (applied c r (changes.Update nsid closed pids, totals)) now
unfolding applied kept_of_change events_of_change
outline-updated c r s now totals nsid closed pids is h =
    let es : List Event = flat_map (closed_event c (outline_before c r totals.position) nsid closed) (enumerate_from 0 pids) in
    let adds : AddsEvents r es (applied c r (changes.Update nsid closed pids, totals)) = record { same = refl } in
    subst (λ (x : Summary). IsOutlineOf c (applied c r (changes.Update nsid closed pids, totals)) x) (sym is) (outline-more c r (applied c r (changes.Update nsid closed pids, totals)) es s h adds)

-- ---- the setting, and which kinds of event are kept

pub outline-set : (c : DriveConfig) (r : Reading) (s : Summary) (totals : Totals) (enabled : Bool) (index generation : ℕ) (masks : List ℕ) → IsSummary s → ((ruh : ℕ) (kind : EventKind) → reports_in masks ruh kind ≡ false) → ((count : ℕ) → AreKnownMasks count masks)
    → IsOutlineOf c r s → IsOutlineOf c (applied c r (changes.SetFdp enabled index generation, totals)) (record s { enabled = enabled; index = index; generation = generation; masks = masks })
unfolding applied kept_of_change events_of_change reading_of_state
outline-set c r s totals enabled index generation masks fits none known h =
    let x : Reading = record r { enabled = enabled; index = index; generation = generation; reports = λ ruh kind. false } in
    outline-quiet c x (record s { enabled = enabled; index = index; generation = generation; masks = masks }) totals (pages_after c r (changes.SetFdp enabled index generation))
    (record { host = fits.host_count; controller = fits.controller_count })
    (record {
      sizes = h.sizes;
      rows = record { masks = known (handle_count c enabled index); events = h.rows.events };
      says =
          ap (λ (f : ℕ → EventKind → Bool). record (said_by s) { totals = r.totals; pages = r.pages; enabled = enabled; index = index; generation = generation; reports = f }) (λ i. λ ruh kind. none ruh kind i)
          ∙ ap (λ (y : Reading). record y { enabled = enabled; index = index; generation = generation; reports = λ ruh kind. false }) h.says;
    })

-- as many handles are in force as an outline says
pub handles-said : (c : DriveConfig) (r : Reading) (s : Summary) → IsOutlineOf c r s → handles_in c r ≡ handle_count c s.enabled s.index
unfolding reading_of_state
handles-said c r s h = ap (λ (x : Reading). handle_count c x.enabled x.index) (sym h.says)

-- the kinds of a mask are set for a handle in force
pub outline-masks : (c : DriveConfig) (r : Reading) (s : Summary) (totals : Totals) (ruh mask : ℕ) (on : Bool) (masks : List ℕ) → IsSummary s
    → ((k : ℕ) (kind : EventKind) → reports_in masks k kind ≡ (if k == ruh && has_kind mask kind then on else reports_in s.masks k kind))
    → ((count : ℕ) → AreKnownMasks count s.masks → ruh < count → mask < 64 → AreKnownMasks count masks) → ruh < handle_count c s.enabled s.index → mask < 64
    → IsOutlineOf c r s → IsOutlineOf c (applied c r (changes.SetEvents ruh on mask, totals)) (record s { masks = masks })
unfolding applied kept_of_change events_of_change reading_of_state
outline-masks c r s totals ruh mask on masks few is known there small h =
    let kinds : (k : ℕ) (kind : EventKind) → reports_in masks k kind ≡ reporting r ruh on mask k kind =
    λ k kind. is k kind ∙ ap (λ (y : Reading). if k == ruh && has_kind mask kind then on else y.reports k kind) h.says in
    outline-quiet c (record r { reports = reporting r ruh on mask }) (record s { masks = masks }) totals (pages_after c r (changes.SetEvents ruh on mask))
    (record { host = few.host_count; controller = few.controller_count })
    (record {
      sizes = h.sizes;
      rows = record { masks = known (handle_count c s.enabled s.index) h.rows.masks there small; events = h.rows.events };
      says =
          ap (λ (f : ℕ → EventKind → Bool). record (said_by s) { totals = r.totals; pages = r.pages; reports = f }) (λ i. λ k kind. kinds k kind i)
          ∙ ap (λ (y : Reading). record y { reports = reporting r ruh on mask }) h.says;
    })
