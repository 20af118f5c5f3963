-- What stands where nothing was written.
use Rattle.std.proofs.Common.{◌≡◌, drop, ℕ, ◌+◌, ◌*◌, zero, suc, Bool, true, false, cond, ltb, List, [], ◌∷◌, length, map, Option, None, Some, refl, ap, sym, ◌∙◌, replicate, slice_get, not, filter}
use Rattle.std.specs.Prelude.{◌==◌, ◌&&◌, option_map, unwrap_or, reverse}
use Rattle.std.specs.Option.{option_map_or}
use Rattle.std.specs.Vec.{vec_items}
use Rattle.fdp_base.specs.declared.config.DriveConfig.{DriveConfig}
use Rattle.fdp_base.specs.declared.entry.Entry.{Entry}
use Rattle.fdp_base.specs.declared.entry.Spot.{Spot}
use Rattle.fdp_base.specs.declared.event.Event.{Event}
use Rattle.fdp_base.specs.declared.event.EventKind.{EventKind}
use Rattle.fdp_base.specs.declared.event.EventKind.TheVariants as kinds
use Rattle.fdp_rules.specs.Effect.{no_reference}
use Rattle.fdp_rules.specs.Events.{is_host_event, kept_from, latest}
use Rattle.fdp_rules.specs.History.{first_state, fresh, point_of, state_of, totals_of, events_of, host_events_of, controller_events_of}
use Rattle.fdp_rules.specs.PlainState.{PageName, PageName.found, PageName.written}
use Rattle.fdp_rules.specs.Sites.{first_site, trail_of}
use Rattle.fdp_tables.specs.declared.state.Kept.{Kept}
use Rattle.std.proofs.lemmas.Option.{slice_get-map}
use Rattle.fdp_tables.specs.declared.state.KeptGoing.{KeptGoing}
use Rattle.fdp_tables.specs.declared.state.KeptReference.{KeptReference}
use Rattle.fdp_tables.specs.declared.state.KeptReports.{KeptReports}
use Rattle.fdp_tables.specs.Fresh.{IsBlank, whole_reference}
use Rattle.fdp_tables.specs.Reports.{no_reports}
use Rattle.fdp_tables.proofs.Spaces.{row_absent}
use Rattle.fdp_tables.specs.PageSites.{site_in}
use Rattle.fdp_tables.specs.Copies.{copy_of}
use Rattle.fdp_tables.specs.Starts.{start_of}
use Rattle.fdp_tables.specs.State.{copies_at, going_of, keeps, own_entries, plain_of, point_kept, reference_of, row, site_at}

-- what is read of any row, where all rows are the same and a row that is not there reads so too
pub read_same : {X Y : Type 0} (f : X → Y) (y : Y) (n i : ℕ) (x : X) → f x ≡ y → option_map_or f (slice_get (replicate n x) i) y ≡ y
read_same f y zero i x e = refl
read_same f y (suc n) zero x e = e
read_same f y (suc n) (suc i) x e = read_same f y n i x e

keeps_none : (kind : EventKind) → keeps kind no_reports ≡ false
keeps_none kinds.NotFullyWritten = refl
keeps_none kinds.TimeLimitExceeded = refl
keeps_none kinds.HandlesModified = refl
keeps_none kinds.InvalidPlacementIdentifier = refl
keeps_none kinds.MediaReallocated = refl
keeps_none kinds.ImplicitlyModified = refl

either_same : {X : Type 0} (b : Bool) (x y : X) → x ≡ y → cond b x y ≡ y
either_same true x y e = e
either_same false x y e = refl

false_or : (n i : ℕ) → unwrap_or (slice_get (replicate n false) i) false ≡ false
false_or zero i = refl
false_or (suc n) zero = refl
false_or (suc n) (suc i) = false_or n i

pub blank_state : (c : DriveConfig) (k : Kept) → IsBlank c k → plain_of k ≡ first_state c (fresh c)
unfolding first_state fresh
blank_state c k h = λ d. record {
  position = ap length h.entries d;
  enabled = h.enabled d;
  index = h.index d;
  generation = h.generation d;
  reports = λ ruh kind. (ap (λ (rows : List KeptReports). option_map_or (keeps kind) (slice_get rows ruh) false) h.reports ∙ read_same (keeps kind) false 16 ruh no_reports (keeps_none kind)) d;
  namespaces = λ nsid. h.spaces.namespaces nsid d;
  blocks = λ nsid lba. h.spaces.empty nsid lba d;
  references = λ rg ruh.
      (ap (λ (rows : List KeptReference). cond (ltb ruh 16) (option_map_or reference_of (slice_get rows (16 * rg + ruh)) (no_reference k.config)) (no_reference k.config)) h.references
      ∙ ap (λ (b : DriveConfig). cond (ltb ruh 16) (option_map_or reference_of (slice_get (replicate (16 * c.groups) (whole_reference c)) (16 * rg + ruh)) (no_reference b)) (no_reference b)) h.config
      ∙ either_same (ltb ruh 16) _ (no_reference c) (read_same reference_of (no_reference c) (16 * c.groups) (16 * rg + ruh) (whole_reference c) refl)) d;
  going = λ queue. (ap (λ rows. option_map going_of (row rows queue)) h.going ∙ ap (λ (o : Option KeptGoing). option_map going_of o) (row_absent {X = KeptGoing} (c.queues + 1) queue)) d;
  is_lost = λ unit. (ap (λ rows. unwrap_or (slice_get rows unit) false) h.lost ∙ false_or (c.groups * c.units) unit) d;
  is_worn = λ rg. (ap (λ rows. unwrap_or (slice_get rows rg) false) h.worn ∙ false_or c.groups rg) d;
  media = ap reverse h.media d;
}

first_row : (t i : ℕ) → site_in ([] ∷ []) t i ≡ None
first_row zero i = refl
first_row (suc t) i = refl

-- the run has no entry
pub blank_own : (c : DriveConfig) (k : Kept) → IsBlank c k → own_entries k ≡ []
blank_own c k h = ap (λ (starts : List ℕ). drop (start_of starts) k.entries.items) h.starts ∙ h.entries

blank_site : (c : DriveConfig) (k : Kept) → IsBlank c k → (name : PageName) → site_at k name ≡ first_site name
unfolding trail_of
blank_site c k h (written ticket index) = ap (λ rows. site_in rows ticket index) h.sites ∙ first_row ticket index
blank_site c k h (found spot) = ap (λ (es : List Entry). (trail_of k.config es).site (found spot)) (blank_own c k h)

through : {X Y Z : Type 0} (f : Y → Z) (g : X → Y) (z : Z) (o : Option X) → option_map_or (λ (x : X). f (g x)) o z ≡ option_map_or f (option_map g o) z
through f g z None = refl
through f g z (Some x) = refl

blank_copies : (c : DriveConfig) (k : Kept) → IsBlank c k → (rg : ℕ) → copies_at k rg ≡ []
blank_copies c k h rg =
    through (map copy_of) vec_items [] (slice_get k.copies.items rg)
    ∙ ap (λ (o : Option (List (Spot × Spot))). option_map_or (map copy_of) o []) (sym (slice_get-map vec_items k.copies.items rg))
    ∙ ap (λ (xs : List (List (Spot × Spot))). option_map_or (map copy_of) (slice_get xs rg) []) h.copies
    ∙ read_same (map copy_of) [] c.groups rg [] refl

pub blank_point : (c : DriveConfig) (k : Kept) → IsBlank c k → point_kept k ≡ point_of c (fresh c) []
unfolding point_of state_of totals_of events_of host_events_of controller_events_of trail_of fresh kept_from
blank_point c k h = λ d. record {
  is_opening = ap (λ (starts : List ℕ). ltb 0 (length starts) && (length (drop (start_of starts) k.entries.items) == 0)) h.starts d;
  state = blank_state c k h d;
  trail = record { site = λ name. blank_site c k h name d; copies = λ rg. blank_copies c k h rg d };
  totals = record { position = ap length h.entries d; host_blocks = h.host_blocks d; media_blocks = h.media_blocks d; erases = h.erases d };
  host_events = ap (λ (es : List Event). latest (filter is_host_event es)) h.events d;
  controller_events = ap (λ (es : List Event). latest (filter (λ e. not (is_host_event e)) es)) h.events d;
}
