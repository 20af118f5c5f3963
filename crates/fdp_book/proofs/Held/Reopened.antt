-- The tables of a book whose image was opened.
use Rattle.std.proofs.Common.{◌≡◌, ℕ, ◌+◌, ◌^◌, ◌≤◌, ◌<◌, Bool, true, false, IsTrue, List, [], ◌∷◌, Option, Some, None, replicate, slice_get, refl, sym, ◌∙◌, ap, subst, arith}
use Rattle.std.specs.Prelude.{option_map}
use Rattle.std.specs.Option.{option_and_then, option_map_or}
use Rattle.std.proofs.lemmas.List.{length-replicate}
use Rattle.fdp_base.specs.declared.config.DriveConfig.{DriveConfig}
use Rattle.fdp_base.specs.declared.config.Geometry.{Geometry}
use Rattle.fdp_base.specs.declared.entry.Entry.{Entry}
use Rattle.fdp_base.specs.declared.entry.Entry.TheVariants as entries
use Rattle.fdp_base.specs.declared.entry.Spot.{Spot}
use Rattle.fdp_base.specs.Config.{IsValidConfig}
use Rattle.fdp_base.specs.Placement.{geometry_of}
use Rattle.fdp_book.specs.declared.flight.Flight.{Flight}
use Rattle.fdp_book.specs.declared.tables.Tables.{Tables}
use Rattle.fdp_book.specs.Held.{AreFlightsOf, ArePagesOf, IsBook, IsHeld, IsMapOf, going_of, lead_in, page_in}
use Rattle.fdp_book.specs.Saving.{AreSmall}
use Rattle.fdp_book.specs.Outlined.{AreFew, IsOutlineAt}
use Rattle.fdp_book.specs.Logged.{Logged}
use Rattle.fdp_book.specs.Reopened.{WasFound, cells_found}
use Rattle.fdp_book.proofs.Held.Fresh.{none-some, none_in}
use Rattle.fdp_book.proofs.Outlining.{generation-said}
use Rattle.fdp_book.proofs.Histories.Finding.{outline-found, position-found, small-found}
use Rattle.fdp_flash.specs.declared.cell.Cell.{Cell}
use Rattle.fdp_flash.specs.Cells.{AreCells}
use Rattle.fdp_flash.specs.FlashState.{FlashState, IsWellFormed}
use Rattle.fdp_found.specs.Beginning.{CanBegin}
use Rattle.fdp_found.specs.Finding.{found_in}
use Rattle.fdp_found.specs.Opened.{AreOpened, led_in}
use Rattle.fdp_found.specs.Told.{opened_cells}
use Rattle.fdp_found.proofs.Bridging.{opened-found}
use Rattle.fdp_found.proofs.Leading.{stands-on}
use Rattle.fdp_found.proofs.Loaded.{loaded-begins}
use Rattle.fdp_found.proofs.Opening.{leads-opened, led-opened, units-opened}
use Rattle.fdp_found.proofs.Ordering.{listed-found, orderly-found, standing-found}
use Rattle.fdp_found.proofs.Reopening.{led-reopened, listed-opened, orderly-opened, standing-opened, units-reopened}
use Rattle.fdp_found.proofs.Stating.{state-found}
use Rattle.fdp_found.proofs.Telling.{told-cells}
use Rattle.fdp_history.specs.Listed.{IsListed}
use Rattle.fdp_history.specs.Orderly.{IsOrderly}
use Rattle.fdp_image.specs.Checkpoint.{reading_of_state}
use Rattle.fdp_image.specs.Outline.{state_with}
use Rattle.fdp_image.specs.Reading.{Reading, size_in as size_by, spot_of}
use Rattle.fdp_image.specs.Valid.{IsValid, block_from, block_read, state_in}
use Rattle.fdp_readings.specs.fdp_locations.Held.{pages_held}
use Rattle.fdp_readings.specs.fdp_locations.Located.{LeadsTo}
use Rattle.fdp_readings.specs.fdp_locations.Written.{written_by}
use Rattle.fdp_map.specs.declared.mapped.Mapped.{Mapped}
use Rattle.fdp_map.specs.MapTable.{MapTable, mapped_at, size_in}
use Rattle.fdp_map.specs.PageLists.{placed_on, size_at, table_of}
use Rattle.fdp_found.proofs.fdp_opening.Mapping.{sizes-few}
use Rattle.fdp_origin.specs.Opening.{Opening}
use Rattle.fdp_owners.specs.declared.owner.Owner.{Owner}
use Rattle.fdp_owners.specs.OwnerTable.{owner_at}
use Rattle.fdp_readings.specs.fdp_pages.Joined.{AreJoined}
use Rattle.fdp_readings.specs.fdp_pages.PageTables.{PageTables}
use Rattle.fdp_pointers.specs.Pointers.{Pointer.of_block, Pointer.of_flight}
use Rattle.fdp_rules.specs.Change.{after, changed_by}
use Rattle.fdp_base.specs.declared.entry.Totals.{Totals}
use Rattle.fdp_rules.specs.History.{Found, first_state, point_of, state_of, totals_of}
use Rattle.fdp_rules.specs.PlainState.{Block, Namespace, PlainState}
use Rattle.fdp_rules.specs.Point.{Point}
use Rattle.fdp_snapshot.specs.declared.state.State.{State}
use Rattle.fdp_snapshot.specs.declared.state.Summary.{Summary}
use Rattle.fdp_rules.proofs.Pushes.{point_of-push}
use Rattle.fdp_rules.specs.Next.{next}
use Rattle.fdp_found.proofs.fdp_state.Loadable.{loadable}

-- the map is that of a reading, and no write is going
pub record AreReadTables (c : DriveConfig) (r : Reading) (t : Tables) : Type 0 where
  pub geometry : t.map.geometry ≡ geometry_of c
  pub sizes : (nsid : ℕ) → size_in t.map nsid ≡ size_by r nsid
  pub most : (nsid : ℕ) → size_in t.map nsid ≤ 262144
  pub places : (nsid lba : ℕ) → mapped_at t.map nsid lba ≡ option_map (placed_on (geometry_of c)) (r.pages nsid lba)
  pub flights : t.flights.items ≡ replicate (c.queues + 1) None

module _ (c : DriveConfig) (cells : List Cell) (r : Reading) (config : IsValidConfig c) (valid : IsValid c cells r) (can : CanBegin r) where
  abbrev f : Found
  f = found_in c cells r

  abbrev opening : List Entry
  opening = entries.Reopened ∷ []

  abbrev p : Point
  p = point_of c f opening

  image : IsTrue f.is_image
  image = refl

  -- ---- what the state has

  spaces : (nsid : ℕ) → p.state.namespaces nsid ≡ r.namespaces nsid
  unfolding point_of state_of after changed_by state_in state_with
  spaces nsid = ap (λ (s : PlainState). s.namespaces nsid) (state-found c cells r valid can)

  blocks : (nsid lba : ℕ) → p.state.blocks nsid lba ≡ block_read c cells r nsid lba
  unfolding point_of state_of after changed_by state_in state_with
  blocks nsid lba = ap (λ (s : PlainState). s.blocks nsid lba) (state-found c cells r valid can)

  few-opened : (s : Summary) → IsOutlineAt c p s → AreFew opening s.totals
  unfolding point_of totals_of
  few-opened s h =
      let few = can.unspent in
      record {
        few_host_blocks = omega (arith, few.host_blocks, ap (λ (t : Totals). t.host_blocks) h.totals);
        few_media_blocks = omega (arith, few.media_blocks, ap (λ (t : Totals). t.media_blocks) h.totals);
        few_erases = omega (arith, few.erases, ap (λ (t : Totals). t.erases) h.totals);
      }

  flights-opened : AreFlightsOf c p.state (replicate (c.queues + 1) None)
  unfolding point_of state_of after changed_by
  flights-opened = record {
    rows = length-replicate (c.queues + 1) None;
    going = λ queue. sym (ap (λ (f : Option Flight). option_map going_of f) (none_in (c.queues + 1) queue));
    target = λ queue f e. absurd (none-some f (sym (none_in (c.queues + 1) queue) ∙ e));
  }

  -- ---- the map

  -- the group of a block is that of its page
  group-opened : (nsid lba : ℕ) → option_map (λ (b : Block). b.rg) (block_read c cells r nsid lba) ≡ option_map (λ (m : Mapped). m.rg) (option_map (placed_on (geometry_of c)) (r.pages nsid lba))
  group-opened nsid lba = of (r.pages nsid lba) refl where
    of : (o : Option ℕ) → r.pages nsid lba ≡ o → option_map (λ (b : Block). b.rg) (block_read c cells r nsid lba) ≡ option_map (λ (m : Mapped). m.rg) (option_map (placed_on (geometry_of c)) (r.pages nsid lba))
    of None none =
        ap (λ (o : Option ℕ). option_map (λ (b : Block). b.rg) (option_and_then (λ page. option_and_then (block_from c r nsid lba page) (slice_get cells page)) o)) none
        ∙ sym (ap (λ (o : Option ℕ). option_map (λ (m : Mapped). m.rg) (option_map (placed_on (geometry_of c)) o)) none)
    of (Some page) there =
        let on = stands-on c cells r valid nsid lba page there in
        ap (option_map (λ (b : Block). b.rg)) on.read ∙ ap Some on.names.group
        ∙ sym (ap (λ (o : Option ℕ). option_map (λ (m : Mapped). m.rg) (option_map (placed_on (geometry_of c)) o)) there)

  module _ (t : Tables) (h : AreReadTables c r t) where
    map-opened : IsMapOf c p.state t.map
    map-opened = record {
      geometry = h.geometry;
      sizes = λ nsid. ap (λ (o : Option Namespace). option_map_or (λ x. x.size) o 0) (spaces nsid) ∙ sym (h.sizes nsid);
      most = h.most;
      groups = λ nsid lba. ap (option_map (λ (b : Block). b.rg)) (blocks nsid lba) ∙ group-opened nsid lba ∙ sym (ap (option_map (λ (m : Mapped). m.rg)) (h.places nsid lba));
    }

    -- ---- the pages

    leads-as : (nsid lba : ℕ) (o : Option ℕ) → option_map (spot_of c) o ≡ option_map (λ (m : Mapped). m.spot) (option_map (placed_on (geometry_of c)) o)
    leads-as nsid lba None = refl
    leads-as nsid lba (Some page) = refl

    leads : LeadsTo (lead_in p.state t.map (replicate (c.queues + 1) None)) (led_in c cells r)
    leads (of_block nsid lba) = leads-opened c cells r nsid lba config valid ∙ leads-as nsid lba (r.pages nsid lba) ∙ sym (ap (option_map (λ (m : Mapped). m.spot)) (h.places nsid lba))
    leads (of_flight queue index) = sym (ap (option_and_then (page_in p.state index)) (none_in (c.queues + 1) queue))

    module _ (outline : IsOutlineAt c p t.outline) (whole : AreCells (geometry_of c) cells) (opened : AreOpened c cells r t.pages) where
      begins : IsOrderly c (point_of c f [])
      begins = orderly-found c cells r valid config whole can

      lists : IsListed c p.state
      unfolding point_of
      lists = listed-opened c f image begins (listed-found c cells r valid can)

      pages-opened : ArePagesOf c p (written_by c f (pages_held c cells) opening) t.map (replicate (c.queues + 1) None) t.pages
      pages-opened = record {
        at = led_in c cells r;
        led = led-reopened c f (pages_held c cells) (led_in c cells r) t.pages image begins (led-opened c cells r t.pages config valid can opened);
        leads = leads;
      }

      pub held-reopened : IsHeld c f (pages_held c cells) opening t
      held-reopened = record {
        config = config;
        orderly = orderly-opened c f config image begins;
        standing = standing-opened c f image begins (standing-found c cells r valid config can);
        listed = lists;
        outline_is = outline;
        few = few-opened t.outline outline;
        map_is = map-opened;
        flights_are = subst (λ (xs : List (Option Flight)). AreFlightsOf c p.state xs) (sym h.flights) flights-opened;
        units_are = units-reopened c f t.pages (units-opened c cells r t.pages opened);
        pages_are = subst (λ (xs : List (Option Flight)). ArePagesOf c p (written_by c f (pages_held c cells) opening) t.map xs t.pages) (sym h.flights) pages-opened;
      }

-- ---- what was found

-- the map of a book as a state tells it
pub record AreFoundTables (c : DriveConfig) (s : State) (t : Tables) : Type 0 where
  pub map : t.map ≡ table_of (geometry_of c) s.pages
  pub sizes : (nsid : ℕ) → size_in t.map nsid ≡ size_by (reading_of_state s) nsid
  pub places : (nsid lba : ℕ) → mapped_at t.map nsid lba ≡ option_map (placed_on (geometry_of c)) ((reading_of_state s).pages nsid lba)
  pub flights : t.flights.items ≡ replicate (c.queues + 1) None

read-tables : (c : DriveConfig) (s : State) (t : Tables) → ((nsid : ℕ) → size_in t.map nsid ≤ 262144) → AreFoundTables c s t → AreReadTables c (reading_of_state s) t
unfolding reading_of_state
read-tables c s t most h = record {
  geometry = ap (λ (m : MapTable). m.geometry) h.map;
  sizes = h.sizes;
  most = most;
  places = h.places;
  flights = h.flights;
}

whole-told : (c : DriveConfig) (x : FlashState) (owners : Spot → Option Owner) → IsWellFormed x → x.geometry ≡ geometry_of c → AreCells (geometry_of c) (opened_cells x.told c x.cells owners)
whole-told c x owners formed cut = of x.told refl where
  of : (b : Bool) → x.told ≡ b → AreCells (geometry_of c) (opened_cells b c x.cells owners)
  of false untold = told-cells c owners
  of true told = subst (λ (g : Geometry). AreCells g x.cells) cut (record { size = formed.size told; blocks = formed.blocks told })

module _ (c : DriveConfig) (x : FlashState) (s : State) (t : PageTables) (config : IsValidConfig c) (joined : AreJoined t) (found : WasFound c x s t) where
  abbrev r : Reading
  r = reading_of_state s

  both : AreOpened c (cells_found c x t) r t × IsValid c (cells_found c x t) r
  both = opened-found c x r t config found.goes_on.state.good found.goes_on.blocks joined found.pages

  -- over the cells that an opening goes by the tables are such as an opening makes
  pub tables-found : AreOpened c (cells_found c x t) r t
  tables-found = both.0

  -- and what was read is valid
  pub valid-found : IsValid c (cells_found c x t) r
  valid-found = both.1

  can : CanBegin r
  can = loaded-begins c s found.area found.epoch found.goes_on

  pub few-read : AreSmall s.summary.totals
  few-read = small-found s can

  pub early-found : s.summary.totals.position ≤ 2 ^ 62
  unfolding reading_of_state
  early-found = let position : s.summary.totals.position < 2 ^ 62 = can.unspent.position in omega (arith, position)

  pub narrow-found : s.summary.generation < 2 ^ 31
  unfolding reading_of_state
  narrow-found = can.unspent.generation

  -- what the entry of the opening makes of the outline that was found
  pub outline-opened : (old new : Summary) → old ≡ s.summary → ((p : Point) → IsOutlineAt c p old → p.totals.position ≡ p.state.position → IsOutlineAt c (next c p entries.Reopened) new) → IsOutlineAt c (point_of c (found_in c (cells_found c x t) r) (entries.Reopened ∷ [])) new
  outline-opened old new is behind =
      let f : Found = found_in c (cells_found c x t) r in
      let begun : Point = point_of c f [] in
      subst (λ (p : Point). IsOutlineAt c p new) (sym (point_of-push c f [] entries.Reopened))
      (behind begun (subst (IsOutlineAt c begun) (sym is) (outline-found c (cells_found c x t) s found.goes_on.state valid-found can)) (position-found c f))

  pub generation-opened : (new : Summary) → IsOutlineAt c (point_of c (found_in c (cells_found c x t) r) (entries.Reopened ∷ [])) new → new.generation ≡ s.summary.generation
  unfolding point_of state_of after changed_by first_state reading_of_state
  generation-opened new h = sym (generation-said c (point_of c (found_in c (cells_found c x t) r) (entries.Reopened ∷ [])) new h)

  pub held-found : (tables : Tables) → IsWellFormed x → tables.pages ≡ t → IsOutlineAt c (point_of c (found_in c (cells_found c x t) r) (entries.Reopened ∷ [])) tables.outline → AreFoundTables c s tables → IsHeld c (found_in c (cells_found c x t) r) (pages_held c (cells_found c x t)) (entries.Reopened ∷ []) tables
  held-found tables formed pages outline h =
      let most : (nsid : ℕ) → size_in tables.map nsid ≤ 262144 = λ nsid. let few = sizes-few c s config.ranges found.goes_on.state nsid in let listed : size_at s.pages nsid ≡ size_by r nsid = (loadable s found.goes_on.state.writable).sizes nsid in omega (arith, few, h.sizes nsid, listed) in
      held-reopened c (cells_found c x t) r config valid-found can tables (read-tables c s tables most h) outline (whole-told c x (owner_at t.owners) formed found.cut)
      (subst (λ (y : PageTables). AreOpened c (cells_found c x t) r y) (sym pages) tables-found)

-- a book by parts that are these
pub book-as : (c d : DriveConfig) (o p : Opening) (l k : Logged) (t : Tables) → d ≡ c → p ≡ o → k ≡ l → IsBook c o l t → IsBook d p k t
book-as c d o p l k t config opening log h =
    subst (λ (x : DriveConfig). IsBook x p k t) (sym config) (subst (λ (x : Opening). IsBook c x k t) (sym opening) (subst (λ (x : Logged). IsBook c o x t) (sym log) h))
