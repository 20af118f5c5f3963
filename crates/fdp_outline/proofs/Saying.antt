-- What an outline says.
use Rattle.std.proofs.Common.{◌≡◌, ℕ, List, [], ◌++◌, Option, refl, sym, ◌∙◌, ap, not, filter}
use Rattle.fdp_base.specs.declared.config.DriveConfig.{DriveConfig}
use Rattle.fdp_base.specs.declared.entry.Totals.{Totals}
use Rattle.fdp_base.specs.declared.event.Event.{Event}
use Rattle.fdp_events.proofs.KnownRows.{class-more}
use Rattle.fdp_rules.specs.Events.{is_host_event, latest}
use Rattle.fdp_snapshot.specs.declared.state.Summary.{Summary}
use Rattle.fdp_image.specs.Checkpoint.{page_in_lists, reading_of_state}
use Rattle.fdp_image.specs.Reading.{Reading}
use Rattle.fdp_outline.specs.Events.{AddsEvents, kept_by, with_events, with_kept}
use Rattle.fdp_outline.specs.Outline.{IsOutlineOf}

pub says-reading : (c : DriveConfig) (r : Reading) (s : Summary) (lists : List (List (Option ℕ))) → IsOutlineOf c r s → s.totals ≡ r.totals → ((nsid lba : ℕ) → page_in_lists lists nsid lba ≡ r.pages nsid lba) → reading_of_state (record { summary = s; pages = lists }) ≡ r
unfolding reading_of_state
says-reading c r s lists h totals pages =
    let said : Reading = reading_of_state (record { summary = s; pages = [] }) in
    let all : page_in_lists lists ≡ r.pages = λ i. λ nsid lba. pages nsid lba i in
    ap (λ (t : Totals). record said { totals = t; pages = page_in_lists lists }) totals
    ∙ ap (λ (f : ℕ → ℕ → Option ℕ). record said { totals = r.totals; pages = f }) all
    ∙ h.says

with-kinds : (s : Summary) (es : List Event) → (with_kept s es).keys ≡ s.keys
unfolding with_kept
with-kinds s es = refl

-- a reading with these events more, and with the totals and pages of another
abbrev with_those : List Event → Reading → Reading → Reading
with_those es new x = record x {
  totals = new.totals;
  pages = new.pages;
  host_events = latest (x.host_events ++ filter is_host_event (filter (λ (e : Event). x.reports e.ruh e.kind) es));
  controller_events = latest (x.controller_events ++ filter (λ e. not (is_host_event e)) (filter (λ (e : Event). x.reports e.ruh e.kind) es));
}

pub outline-more : (c : DriveConfig) (old new : Reading) (es : List Event) (s : Summary) → IsOutlineOf c old s → AddsEvents old es new → IsOutlineOf c new (with_events s es)
unfolding reading_of_state with_kept
outline-more c old new es s h adds = record {
  sizes = h.sizes;
  says = ap (with_those es new) h.says ∙ sym adds.same;
  rows = record { masks = h.rows.masks; events = class-more s.host_events s.controller_events (kept_by s es) h.rows.events };
}

pub outline-totals : (c : DriveConfig) (r : Reading) (s : Summary) (totals : Totals) → IsOutlineOf c r s → IsOutlineOf c r (record s { totals = totals })
unfolding reading_of_state
outline-totals c r s totals h = record { sizes = h.sizes; says = h.says; rows = record { masks = h.rows.masks; events = h.rows.events } }

pub outline-later : (c : DriveConfig) (r : Reading) (s : Summary) (totals : Totals) → IsOutlineOf c r s → IsOutlineOf c (record r { totals = totals }) s
unfolding reading_of_state
outline-later c r s totals h = record { sizes = h.sizes; says = ap (λ (x : Reading). record x { totals = totals }) h.says; rows = h.rows }
