-- The outline of a drive that was found.
use Rattle.std.proofs.Common.{◌≡◌, ℕ, ◌+◌, ◌≤◌, ◌<◌, List, [], length, refl, sym, ◌∙◌, ap, subst, arith}
use Rattle.std.specs.Prelude.{◌-◌, ◌++◌, drop}
use Rattle.std.proofs.lemmas.List.{append-nil}
use Rattle.fdp_base.specs.declared.config.DriveConfig.{DriveConfig}
use Rattle.fdp_base.specs.declared.entry.Entry.TheVariants as entries
use Rattle.fdp_base.specs.declared.event.Event.{Event}
use Rattle.fdp_base.specs.Placement.{handle_count}
use Rattle.fdp_base.specs.declared.entry.Totals.{Totals}
use Rattle.fdp_book.specs.Outlined.{Counts, IsOutlineAt}
use Rattle.fdp_book.specs.Saving.{AreSmall}
use Rattle.fdp_flash.specs.declared.cell.Cell.{Cell}
use Rattle.fdp_found.specs.Beginning.{CanBegin}
use Rattle.fdp_found.specs.Finding.{found_in}
use Rattle.fdp_found.specs.fdp_state.Loaded.{IsDriveState}
use Rattle.fdp_found.proofs.Stating.{state-found}
use Rattle.fdp_image.specs.Checkpoint.{reading_of_state}
use Rattle.fdp_image.specs.Outline.{state_with}
use Rattle.fdp_image.specs.Reading.{Reading}
use Rattle.fdp_image.specs.Valid.{IsValid, state_in}
use Rattle.fdp_outline.specs.Events.{AddsEvents, with_events, with_kept}
use Rattle.fdp_outline.specs.Outline.{IsOutlineOf, IsWritable}
use Rattle.fdp_outline.proofs.Saying.{outline-more, outline-totals}
use Rattle.fdp_readings.specs.Drawn.{drawn}
use Rattle.fdp_rules.specs.Change.{after, changed_by}
use Rattle.fdp_rules.specs.Events.{events_of_entry, kept_from, kept_of_entry, latest}
use Rattle.fdp_rules.specs.History.{Found, controller_events_of, events_of, first_state, host_events_of, point_of, state_of, totals_of}
use Rattle.fdp_rules.specs.Next.{next, totals_with}
use Rattle.fdp_rules.specs.PlainState.{PlainState}
use Rattle.fdp_rules.specs.Point.{Point}
use Rattle.fdp_rules.specs.Room.{handles_in_force}
use Rattle.fdp_snapshot.specs.declared.state.State.{State}
use Rattle.fdp_snapshot.specs.declared.state.Summary.{Summary}

latest-few : (xs : List Event) → length xs ≤ 32 → xs ≡ latest (xs ++ [])
latest-few xs few = sym (ap latest (append-nil xs) ∙ all) where
  all : drop (length xs - 32) xs ≡ xs
  all = let none : length xs - 32 ≡ 0 = omega (arith, few) in ap (λ (n : ℕ). drop n xs) none

plus-none : (n : ℕ) → n ≡ n + 0
plus-none n = omega arith

-- the summary that was read is the outline of what the history without an entry draws
pub outline-found : (c : DriveConfig) (cells : List Cell) (s : State) → IsDriveState c s → IsValid c cells (reading_of_state s) → CanBegin (reading_of_state s) → IsOutlineAt c (point_of c (found_in c cells (reading_of_state s)) []) s.summary
unfolding reading_of_state state_in state_with point_of state_of totals_of host_events_of controller_events_of events_of kept_from first_state
outline-found c cells s drive valid can =
    let r : Reading = reading_of_state s in
    let f : Found = found_in c cells r in
    let same : first_state c f ≡ state_in c cells r = state-found c cells r valid can in
    record {
      outline = record {
        sizes = drive.keys;
        rows = drive.rows;
        says = λ d. record (drawn c (point_of c f [])) {
          reports = ap (λ (x : PlainState). x.reports) (sym same) d;
          namespaces = ap (λ (x : PlainState). x.namespaces) (sym same) d;
          host_events = latest-few r.host_events can.host_events d;
          controller_events = latest-few r.controller_events can.controller_events d;
        };
      };
      totals = λ d. record {
        position = plus-none s.summary.totals.position d;
        host_blocks = plus-none s.summary.totals.host_blocks d;
        media_blocks = plus-none s.summary.totals.media_blocks d;
        erases = plus-none s.summary.totals.erases d;
      };
    }

-- and its position is that of the history
pub position-found : (c : DriveConfig) (f : Found) → (point_of c f []).totals.position ≡ (point_of c f []).state.position
unfolding point_of state_of totals_of first_state
position-found c f = sym (plus-none f.totals.position)

-- ---- the entry of an opening

-- it adds no more than its events
pub reopened-adds : (c : DriveConfig) (p : Point) → AddsEvents (drawn c p) (events_of_entry c p.state entries.Reopened) (drawn c (next c p entries.Reopened))
unfolding next kept_of_entry after changed_by
reopened-adds c p = record { same = refl }

-- what an outline says of the handles in force
pub in_force-said : (c : DriveConfig) (p : Point) (s : Summary) → IsOutlineAt c p s → handle_count c s.enabled s.index ≡ handles_in_force c p.state
unfolding reading_of_state
in_force-said c p s h = ap (λ (r : Reading). handle_count c r.enabled r.index) h.outline.says

-- with these kept and the position counted an outline is that behind the entry
pub opened-by : (c : DriveConfig) (p : Point) (s kept new : Summary) → IsOutlineAt c p s → kept ≡ with_events s (events_of_entry c p.state entries.Reopened) → Counts 0 0 kept new → IsOutlineAt c (next c p entries.Reopened) new
unfolding next with_kept
opened-by c p s kept new h is counts =
    let more : IsOutlineOf c (drawn c (next c p entries.Reopened)) kept =
    subst (λ (x : Summary). IsOutlineOf c (drawn c (next c p entries.Reopened)) x) (sym is)
    (outline-more c (drawn c p) (drawn c (next c p entries.Reopened)) (events_of_entry c p.state entries.Reopened) s h.outline (reopened-adds c p)) in
    let t : Totals = kept.totals in
    let counted : Totals = record t { position = t.position + 1; media_blocks = t.media_blocks + 0; erases = t.erases + 0 } in
    record {
      outline = subst (IsOutlineOf c (drawn c (next c p entries.Reopened))) (sym counts.is) (outline-totals c (drawn c (next c p entries.Reopened)) kept counted more);
      totals = ap (λ (x : Summary). x.totals) counts.is
          ∙ ap (λ (n : ℕ). record counted { host_blocks = n }) (plus-none t.host_blocks)
          ∙ ap (λ (x : Summary). totals_with x.totals entries.Reopened) is
          ∙ ap (λ (x : Totals). totals_with x entries.Reopened) h.totals;
    }

-- ---- what a state that was found gives

pub writable-found : (c : DriveConfig) (s : State) → IsDriveState c s → IsWritable s.summary
writable-found c s h = record { summary = h.writable.summary; host_events = h.writable.host_events; controller_events = h.writable.controller_events }

pub index-found : (c : DriveConfig) (s : State) → IsDriveState c s → s.summary.index < length c.fdp
unfolding reading_of_state
index-found c s h = h.good.index

pub small-found : (s : State) → CanBegin (reading_of_state s) → AreSmall s.summary.totals
unfolding reading_of_state
small-found s can =
    let few = can.unspent in
    record {
      position = omega (arith, few.position);
      host_blocks = omega (arith, few.host_blocks);
      media_blocks = omega (arith, few.media_blocks);
      erases = omega (arith, few.erases);
    }
