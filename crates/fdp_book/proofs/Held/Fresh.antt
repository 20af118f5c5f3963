-- The tables that a drive is made with.
use Rattle.std.proofs.Common.{◌≡◌, ℕ, zero, suc, ◌+◌, ◌*◌, ◌<◌, List, [], Option, Some, None, refl, sym, ◌∙◌, ap, subst, arith, replicate}
use Rattle.std.specs.Prelude.{Contains, option_and_then, option_map, slice_index_or}
use Rattle.std.specs.Option.{option_map_or}
use Rattle.std.proofs.lemmas.List.{length-replicate}
use Rattle.fdp_base.specs.declared.config.DriveConfig.{DriveConfig}
use Rattle.fdp_base.specs.declared.entry.Copied.{Copied}
use Rattle.fdp_base.specs.declared.entry.Spot.{Spot}
use Rattle.fdp_base.specs.declared.entry.Totals.{Totals}
use Rattle.fdp_base.specs.Config.{IsValidConfig}
use Rattle.fdp_base.specs.Placement.{classes_of}
use Rattle.fdp_book.specs.declared.flight.Flight.{Flight}
use Rattle.fdp_book.specs.declared.tables.Tables.{Tables}
use Rattle.fdp_book.specs.Book.{AreUnused}
use Rattle.fdp_book.specs.Configured.{IsConfiguredMap, fresh_opening}
use Rattle.fdp_base.specs.Geometry.{all_pages}
use Rattle.fdp_base.specs.Placement.{geometry_of}
use Rattle.fdp_readings.specs.fdp_locations.Held.{no_pages, pages_held}
use Rattle.fdp_readings.specs.fdp_locations.Written.{Written}
use Rattle.fdp_readings.proofs.fdp_locations.Held.{held-blank}
use Rattle.fdp_book.specs.Held.{AreFlightsOf, ArePagesOf, IsHeld, IsMapOf, flight_in, going_of, lead_in, page_in}
use Rattle.fdp_book.specs.Outlined.{AreFew, IsOutlineAt}
use Rattle.fdp_history.proofs.Fresh.{orderly-fresh, standing-fresh}
use Rattle.fdp_history.proofs.Listing.{listed-fresh}
use Rattle.fdp_readings.specs.fdp_locations.Located.{AreUnitsOf}
use Rattle.fdp_readings.specs.fdp_locations.Written.{written_by, written_from}
use Rattle.fdp_map.specs.declared.mapped.Mapped.{Mapped}
use Rattle.fdp_map.specs.MapTable.{MapTable}
use Rattle.fdp_owners.specs.declared.owner.Owner.{Owner}
use Rattle.fdp_owners.specs.Owned.{AreOwners}
use Rattle.fdp_owners.proofs.Owned.{owners-none}
use Rattle.fdp_readings.specs.fdp_pages.Joined.{AreJoined}
use Rattle.fdp_readings.specs.fdp_pages.PageTables.{PageTables, no_passes, no_targets, passes_at}
use Rattle.fdp_passes.specs.GroupPasses.{GroupPasses, Pass}
use Rattle.fdp_passes.specs.Due.{copies_in}
use Rattle.fdp_pointers.specs.Facts.{Page}
use Rattle.fdp_pointers.specs.Pointers.{Pointer, Pointer.of_block, Pointer.of_flight}
use Rattle.fdp_pointers.proofs.Opening.{table-fresh}
use Rattle.fdp_rules.specs.Events.{kept_from}
use Rattle.fdp_rules.specs.History.{controller_events_of, events_of, first_state, fresh, host_events_of, point_of, state_of, totals_of}
use Rattle.fdp_readings.proofs.fdp_trails.Following.{pass-ended}
use Rattle.fdp_image.specs.Reading.{Reading}
use Rattle.fdp_image.specs.Reads.{fresh_reading}
use Rattle.fdp_outline.specs.Outline.{IsOutlineOf}
use Rattle.fdp_readings.specs.Drawn.{drawn}
use Rattle.fdp_snapshot.specs.declared.state.Summary.{Summary}
use Rattle.fdp_units.specs.declared.data_unit.DataUnit.{DataUnit}
use Rattle.fdp_units.specs.DataUnits.{is_lost}
use Rattle.fdp_units.specs.UnitTable.{Cut, cut_of, unit_at}

pub none-some : (f : Flight) → None ≡ Some f → ⊥
none-some f e = cc

pub none_in : (n q : ℕ) → flight_in (replicate n None) q ≡ None
none_in zero zero = refl
none_in zero (suc q) = refl
none_in (suc n) zero = refl
none_in (suc n) (suc q) = none_in n q

passless : (n rg : ℕ) (pages : ℕ) → (slice_index_or (replicate n (no_targets pages)) rg no_passes).pass ≡ None
passless zero zero pages = refl
passless zero (suc rg) pages = refl
passless (suc n) zero pages = refl
passless (suc n) (suc rg) pages = passless n rg pages

-- what the pages are made with
pub record AreFreshPages (c : DriveConfig) (t : PageTables) : Type 0 where
  pub joined : AreJoined t
  pub classes : t.handles.classes ≡ classes_of c c.enabled c.index
  pub cut : cut_of t.units ≡ record { unit_pages = c.unit_pages; group_units = c.units; groups = c.groups }
  pub unused : AreUnused c t

no-copy : (o : Option Pass) (p : GroupPasses) (copy : Copied) → p.pass ≡ o → o ≡ None → Contains (copies_in p) copy → ⊥
no-copy o p copy is none has =
    let empty : copies_in p ≡ [] = ap (λ (x : Option Pass). copies_in (record p { pass = x })) (is ∙ none) in
    let has_none : Contains [] copy = subst (λ (xs : List Copied). Contains xs copy) empty has in
    omega (arith, has_none.1)

-- a fresh drive draws what it says
drawn-fresh : (c : DriveConfig) → drawn c (point_of c (fresh c) []) ≡ fresh_reading c
unfolding fresh fresh_reading first_state point_of state_of totals_of host_events_of controller_events_of events_of kept_from
drawn-fresh c = refl

-- the outline of what it says is that of its beginning
pub outline-fresh : (c : DriveConfig) (s : Summary) → IsOutlineOf c (fresh_reading c) s → s.totals ≡ (fresh_reading c).totals → IsOutlineAt c (point_of c (fresh c) []) s
outline-fresh c s outline totals = record {
  outline = subst (λ (r : Reading). IsOutlineOf c r s) (sym (drawn-fresh c)) outline;
  totals = totals ∙ sym (ap (λ (r : Reading). r.totals) (drawn-fresh c));
}

module _ (c : DriveConfig) (valid : IsValidConfig c) where
  flights-fresh : AreFlightsOf c (point_of c (fresh c) []).state (replicate (c.queues + 1) None)
  unfolding point_of state_of first_state
  flights-fresh = record {
    rows = length-replicate (c.queues + 1) None;
    going = λ queue. sym (ap (λ (f : Option Flight). option_map going_of f) (none_in (c.queues + 1) queue));
    target = λ queue f e. absurd (none-some f (sym (none_in (c.queues + 1) queue) ∙ e));
  }

  map-fresh : (x : MapTable) → IsConfiguredMap c x → IsMapOf c (point_of c (fresh c) []).state x
  unfolding point_of state_of first_state fresh
  map-fresh x h = record {
    geometry = h.geometry;
    sizes = λ nsid. sym (h.sizes nsid);
    most = h.most;
    groups = λ nsid lba. sym (ap (option_map (λ (m : Mapped). m.rg)) (h.absent nsid lba));
  }

  units-fresh : (t : PageTables) → AreFreshPages c t → AreUnitsOf c (point_of c (fresh c) []).state t
  unfolding point_of state_of first_state fresh
  units-fresh t h = record {
    cut = h.cut;
    agrees = record {
      units = sym (ap (λ (x : Cut). x.group_units) h.cut);
      lost = λ unit there. sym (ap (λ (x : DataUnit). is_lost x.state) (h.unused.units unit (subst (λ (x : Cut). unit < x.groups * x.group_units) h.cut there)));
      worn = λ rg. sym (h.unused.worn rg);
    };
    unit_pages = sym (h.joined.cut.unit_pages ∙ ap (λ (x : Cut). x.unit_pages) h.cut);
    groups = sym (h.joined.cut.groups ∙ ap (λ (x : Cut). x.groups) h.cut);
    classes = sym h.classes;
    references = λ rg ruh. sym (h.unused.references rg ruh);
  }

  pages-fresh : (map : MapTable) (t : PageTables) → IsConfiguredMap c map → AreFreshPages c t → ArePagesOf c (point_of c (fresh c) []) (written_by c (fresh c) no_pages []) map (replicate (c.queues + 1) None) t
  unfolding written_from
  pages-fresh map t m h = record {
    at = λ q. None;
    led = record {
      table = table-fresh c (λ unit. (unit_at t.units unit).next);
      owned = subst (λ (o : Spot → Option Owner). AreOwners o (λ q. None)) (λ d spot. sym (h.unused.owners spot) d) owners-none;
      named = λ queue index g w y going write e. absurd cc;
      handled = λ q y ruh e k. absurd cc;
      units = λ q y e. absurd cc;
      holds = λ q y x e k. absurd cc;
      below = λ spot x e. absurd cc;
      passes = λ rg low. pass-ended (λ q. None) (point_of c (fresh c) []).trail rg (passes_at t rg) (ap (λ (o : Option Pass). option_map_or (λ (pass : Pass). pass.copies) o []) (none-under_way rg));
      copies = λ rg low copy has. absurd (no-copy (passes_at t rg).pass (passes_at t rg) copy refl (none-under_way rg) has);
    };
    leads = leads;
  }
    where
      none-under_way : (rg : ℕ) → (passes_at t rg).pass ≡ None
      none-under_way rg = ap (λ (ps : List GroupPasses). (slice_index_or ps rg no_passes).pass) h.unused.passes ∙ passless c.groups rg c.unit_pages

      leads : (q : Pointer) → option_map (λ (y : Page). y.spot) None ≡ lead_in (point_of c (fresh c) []).state map (replicate (c.queues + 1) None) q
      leads (of_block nsid lba) = sym (ap (option_map (λ (x : Mapped). x.spot)) (m.absent nsid lba))
      leads (of_flight queue index) = sym (ap (option_and_then (page_in (point_of c (fresh c) []).state index)) (none_in (c.queues + 1) queue))

  few-fresh : (s : Summary) → IsOutlineAt c (point_of c (fresh c) []) s → AreFew [] s.totals
  unfolding point_of totals_of fresh
  few-fresh s h = record {
    few_host_blocks = omega (arith, ap (λ (t : Totals). t.host_blocks) h.totals);
    few_media_blocks = omega (arith, ap (λ (t : Totals). t.media_blocks) h.totals);
    few_erases = omega (arith, ap (λ (t : Totals). t.erases) h.totals);
  }

  -- the tables of a book that was made for a configuration
  pub held-fresh : (tables : Tables) →
      IsOutlineAt c (point_of c (fresh c) []) tables.outline → AreFreshPages c tables.pages → IsConfiguredMap c tables.map → tables.flights.items ≡ replicate (c.queues + 1) None →
      IsHeld c (fresh c) (pages_held c (fresh_opening c).cells) [] tables
  unfolding point_of state_of first_state
  held-fresh tables outline pages m f = subst (λ (first : Spot → Option Written). IsHeld c (fresh c) first [] tables) (sym (held-blank c (all_pages (geometry_of c)))) (record {
    config = valid;
    orderly = orderly-fresh c valid;
    standing = standing-fresh c;
    listed = listed-fresh c valid;
    outline_is = outline;
    few = few-fresh tables.outline outline;
    map_is = map-fresh tables.map m;
    flights_are = subst (λ (xs : List (Option Flight)). AreFlightsOf c (point_of c (fresh c) []).state xs) (sym f) flights-fresh;
    units_are = units-fresh tables.pages pages;
    pages_are = subst (λ (xs : List (Option Flight)). ArePagesOf c (point_of c (fresh c) []) (written_by c (fresh c) no_pages []) tables.map xs tables.pages) (sym f) (pages-fresh tables.map tables.pages m pages);
  })
