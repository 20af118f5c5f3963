-- A page that was placed, and one whose program failed, keep apart what was.
use Rattle.std.proofs.Common.{◌≡◌, ◌≢◌, ◌⊎◌, ℕ, ◌^◌, ◌-◌, ◌<◌, Bool, true, false, List, [], ◌∷◌, ◌++◌, Option, Some, None, refl, sym, ◌∙◌, ap, subst, arith, inl, inr, ⊎_elim, eqb-true}
use Rattle.std.specs.Prelude.{◌||◌, ◌==◌, IsTrue, if◌then◌else◌, nat_lt, slice_index_or}
use Rattle.std.specs.List.{list_any}
use Rattle.fdp_base.specs.declared.config.Class.TheVariants.{Initial}
use Rattle.fdp_base.specs.declared.command.Write.{Write}
use Rattle.fdp_base.specs.declared.config.DriveConfig.{DriveConfig}
use Rattle.fdp_base.specs.declared.entry.Entry.{Entry}
use Rattle.fdp_base.specs.declared.entry.Entry.TheVariants as entries
use Rattle.fdp_base.specs.declared.entry.Placed.{Placed}
use Rattle.fdp_base.specs.declared.entry.Reply.{Reply}
use Rattle.fdp_base.specs.declared.entry.Shut.{Shut}
use Rattle.fdp_base.specs.declared.entry.Spot.{Spot}
use Rattle.fdp_base.specs.declared.status.Status.{Status}
use Rattle.fdp_base.specs.CommandKinds.{is_setting, write_of}
use Rattle.fdp_base.specs.Placement.{geometry_of}
use Rattle.fdp_base.specs.Spare.{data_spare}
use Rattle.fdp_base.specs.EntryKinds.{puts_into}
use Rattle.fdp_book.specs.declared.ticket.Done.{Done}
use Rattle.fdp_book.specs.declared.ticket.Ticket.{Ticket}
use Rattle.fdp_book.specs.Book.{BookSeen, IsLed, IsLonger, point_in, state_in}
use Rattle.fdp_book.specs.Shutting.{ShutsAndEnds}
use Rattle.fdp_book.specs.Steps.{Places}
use Rattle.fdp_book.specs.Tickets.{IsNextSpot, IsTicketOf}
use Rattle.fdp_flash.specs.declared.cell.Cell.{Cell}
use Rattle.fdp_flash.specs.Cells.{ProgramMayLeave}
use Rattle.fdp_handles.specs.HandleTable.{HandleTable, reference_at}
use Rattle.fdp_history.proofs.Points.{orderly-next}
use Rattle.fdp_isolation.specs.Isolated.{sets_placement, since_setting}
use Rattle.fdp_isolation.specs.Laned.{AreLaned, StandsOver, IsKnown, IsLaned, IsTaken}
use Rattle.fdp_isolation.proofs.Entries.{AreQuiet, and-false, only-placed-host, put-before, put-cases, quiet-one}
use Rattle.fdp_isolation.proofs.Filling.{NamesHandle, fills-unit, filled-by, filled-pages, handle-pages, handle-way}
use Rattle.fdp_isolation.proofs.Keeping.{GoesWay, laned-got, laned-longer, taken-kept}
use Rattle.fdp_isolation.proofs.Owning.{KeepsOwners, StoodBehind, book-owners, host-site, shut-content, shut-site, stood-unmade}
use Rattle.fdp_isolation.proofs.Pages.{program-others}
use Rattle.fdp_book.specs.fdp_locations.Written.{next_spare}
use Rattle.fdp_book.proofs.fdp_locations.Grouped.{generation-next}
use Rattle.fdp_owners.specs.declared.owner.Owner.{Owner}
use Rattle.fdp_owners.specs.OwnerTable.{owner_at}
use Rattle.fdp_book.specs.fdp_pages.PageTables.{PageTables}
use Rattle.fdp_book.proofs.fdp_pages.Next.{IsNextPage, next-page}
use Rattle.fdp_passes.specs.declared.lane.Lane.{Lane}
use Rattle.fdp_passes.specs.GroupPasses.{lane_of}
use Rattle.fdp_pointers.specs.Contents.{PageContent, content_at}
use Rattle.fdp_pointers.specs.Facts.{HasOnlyPlaced}
use Rattle.fdp_pointers.specs.Pointers.{Behind}
use Rattle.fdp_pointers.proofs.Unplaced.{only-placed-next}
use Rattle.fdp_rules.specs.Change.{one_less}
use Rattle.fdp_rules.specs.Effect.{no_reference, with_reference}
use Rattle.fdp_rules.specs.Answer.{bare}
use Rattle.fdp_rules.specs.Next.{next as after_entry}
use Rattle.fdp_rules.specs.PlainState.{Going, PlainState, Reference}
use Rattle.fdp_rules.specs.Point.{Point}
use Rattle.fdp_rules.specs.Sites.{group_of}
use Rattle.fdp_book.proofs.fdp_trails.Moving.{owner-there}
use Rattle.fdp_rules.specs.Step.{Follows, IsPlaced}
use Rattle.fdp_book.proofs.Longer.{point-one, point-two, written-two}

-- ---- the next page of a write

-- what is known of it
pub record IsNextWrite (c : DriveConfig) (s : PlainState) (g : Going) (w : Write) (spot : Spot) : Type 0 where
  pub group : (next_spare s g w).rg ≡ group_of c spot.unit
  pub small : (next_spare s g w).rg < 2 ^ 16
  pub inside : spot.page < c.unit_pages

placed-of : (told : Bool) (c : DriveConfig) (p : Point) (placed : Placed) → Follows told c p (entries.Placed placed) → IsPlaced c p placed.ticket placed.index placed.unit placed.page
unfolding Follows
placed-of told c p placed follows = follows

pub next-write : (old : BookSeen) (ticket : Ticket) (g : Going) (w : Write) (spot : Spot) → IsKnown old → IsTicketOf (state_in old) ticket g → IsNextSpot old ticket g spot → IsNextWrite old.config (state_in old) g w spot
next-write old ticket g w spot known is next =
    let placed = placed-of true old.config (point_in old) (record { ticket = ticket.position; index = g.placed; unit = spot.unit; page = spot.page }) (next.follows true) in
    let queue : placed.queue ≡ ticket.queue = known.orderly.state.tickets placed.queue ticket.queue placed.going g placed.going_is is.going_is (placed.same ∙ sym is.position_is) in
    let same : placed.going ≡ g = one (sym placed.going_is ∙ ap (state_in old).going queue ∙ is.going_is) in
    let few : g.rg < old.config.groups = (known.orderly.state.writes ticket.queue g is.going_is).group in
    let groups = known.config.ranges.groups in
    record {
      group = ap (λ (x : Going). x.rg) (sym same) ∙ sym placed.group;
      small = omega (arith, few, groups.1);
      inside = placed.spot.1;
    } where
      one : {a b : Going} → Some a ≡ Some b → a ≡ b
      one e = cc

-- ---- both ends of the program

module _ (old : BookSeen) (ticket : Ticket) (g : Going) (w : Write) (spot : Spot) (bytes : List ℕ) (cells now : List Cell) (kept : StandsOver old cells) (is : IsTicketOf (state_in old) ticket g) (next : IsNextSpot old ticket g spot) (left : ProgramMayLeave (geometry_of old.config) cells spot (data_spare (next_spare (state_in old) g w)) bytes now) (h : AreLaned old cells) where
  abbrev generation : ℕ
  generation = (state_in old).generation

  abbrev way : Lane
  way = lane_of (slice_index_or old.pages.handles.classes g.ruh Initial) g.ruh

  is-next : IsNextPage old.pages g.rg g.ruh spot
  is-next = next-page old.pages g.rg g.ruh spot kept.known.joined next.may

  is-write : IsNextWrite old.config (state_in old) g w spot
  is-write = next-write old ticket g w spot kept.known is next

  pages : NamesHandle old.config generation now spot.unit g.ruh
  pages = filled-pages old.config generation cells now spot (next_spare (state_in old) g w) bytes is-write.group is-write.small refl kept.known.generation is-write.inside left
      (handle-pages old.config (state_in old) generation old.entries (since_setting old.entries) old.pages cells g.rg g.ruh spot kept.known.units kept.known.joined kept.holds.blank next.kept next.is_unit next.may h.laned)

  -- so do those that a stop in it leaves: they go the way of the handle
  pub next-pages : GoesWay old.config generation old.pages.handles.classes now spot.unit way
  next-pages = handle-way old.config generation old.pages.handles.classes now spot.unit g.ruh pages

  -- what is kept apart after it, with one reference changed
  pub program-laned : (later more : List Entry) (t : PageTables) (r : Reference) → t.handles.classes ≡ old.pages.handles.classes → t.passes ≡ old.pages.passes → reference_at t.handles ≡ with_reference (reference_at old.pages.handles) g.rg g.ruh r → ((u : ℕ) → r.unit ≡ Some u → u ≡ spot.unit)
      → ((other : ℕ) → other ≢ spot.unit → IsTaken t later other → IsTaken old.pages old.entries other)
      → ((other : ℕ) → IsTrue (list_any (puts_into other) more) → IsTrue (list_any (puts_into other) (since_setting old.entries)) ⊎ (other ≡ spot.unit)) → IsLaned old.config generation later more t now
  program-laned later more t r classes passes references own taken puts =
      laned-got old.config generation old.entries later (since_setting old.entries) more old.pages t cells now spot.unit way
      (fills-unit old.config generation old.pages t now g.rg g.ruh spot kept.known.joined is-next classes passes (filled-by old.config old.pages t g.rg g.ruh spot r kept.known.joined is-next references own) pages)
      taken
      (program-others old.config cells now spot (data_spare (next_spare (state_in old) g w)) bytes left is-write.inside)
      next-pages puts h.laned

-- ---- the page was placed

one-less-unit : (c : DriveConfig) (unit u : ℕ) (x : Reference) → (one_less c unit x).unit ≡ Some u → u ≡ unit
one-less-unit c unit u x e = cases (nat_lt 1 x.left) e where
  cases : (b : Bool) → (if b then record { unit = Some unit; left = x.left - 1 } else no_reference c).unit ≡ Some u → u ≡ unit
  cases true h = cc
  cases false h = absurd (never h) where
    never : None ≡ Some u → ⊥
    never n = cc

pub laned-placed : (old new : BookSeen) (ticket : Ticket) (g : Going) (w : Write) (spot : Spot) (last : Bool) (bytes : List ℕ) (cells now : List Cell) → StandsOver old cells → IsLed new
    → IsTicketOf (state_in old) ticket g → write_of g.command ≡ Some w → IsNextSpot old ticket g spot → Places old new ticket g spot last
    → ProgramMayLeave (geometry_of old.config) cells spot (data_spare (next_spare (state_in old) g w)) bytes now
    → AreLaned old cells → AreLaned new now
laned-placed old new ticket g w spot last bytes cells now kept led is write next places left h =
    let e : Entry = entries.Placed (record { ticket = ticket.position; index = g.placed; unit = spot.unit; page = spot.page }) in
    let longer : IsLonger old new (e ∷ []) = places.step in
    let handles = places.puts.handles in
    let before : (at : Spot) (x : Owner) → at ≢ spot → owner_at new.pages.owners at ≡ Some x → owner_at old.pages.owners at ≡ Some x = λ at x ne owned.
    sym (owner-there (owner_at old.pages.owners) spot (Some places.owner) at ne) ∙ ap (λ (f : Spot → Option Owner). f at) (sym places.puts.owners) ∙ owned in
    let taken : (other : ℕ) → other ≢ spot.unit → IsTaken new.pages new.entries other → IsTaken old.pages old.entries other = λ other ne t. ⊎_elim
    (λ owned. inl (owned.0, owned.1, before owned.0 owned.1 (λ same. ne (sym owned.3 ∙ ap (λ (s : Spot). s.unit) same)) owned.2, owned.3))
    (λ put. ⊎_elim
    (λ was. inr was)
    (λ (here : IsTrue (spot.unit == other)). absurd (ne (sym (eqb-true spot.unit other here))))
    (put-cases other old.entries e (subst (λ (xs : List Entry). IsTrue (list_any (puts_into other) xs)) longer.entries_are put)))
    t in
    laned-longer old new (e ∷ []) now (quiet-one true old new e longer refl kept.known.orderly (next.follows true) h.placed)
    (program-laned old ticket g w spot bytes cells now kept is next left h new.entries (since_setting old.entries ++ e ∷ []) new.pages (one_less old.config spot.unit (reference_at old.pages.handles g.rg g.ruh))
    (ap (λ (x : HandleTable). x.classes) handles.rest) places.puts.passes (handles.references old.config kept.known.units.unit_pages) (λ u. one-less-unit old.config spot.unit u (reference_at old.pages.handles g.rg g.ruh))
    taken
    (λ other put. ⊎_elim inl (λ (here : IsTrue (spot.unit == other)). inr (sym (eqb-true spot.unit other here))) (put-cases other (since_setting old.entries) e put)))

-- the generation stays
pub placed-generation : (old new : BookSeen) (ticket : Ticket) (g : Going) (spot : Spot) (last : Bool) → Places old new ticket g spot last → (state_in new).generation ≡ (state_in old).generation
placed-generation old new ticket g spot last places =
    let e : Entry = entries.Placed (record { ticket = ticket.position; index = g.placed; unit = spot.unit; page = spot.page }) in
    ap (λ (p : Point). p.state.generation) (point-one old new e places.step) ∙ generation-next old.config (point_in old) e refl

-- ---- its program failed

-- the generation stays
pub shut-generation : (old new : BookSeen) (ticket : Ticket) (g : Going) (spot : Spot) (status : Status) (moment : ℕ) (done : Done) → ShutsAndEnds old new ticket g spot status moment done → (state_in new).generation ≡ (state_in old).generation
shut-generation old new ticket g spot status moment done shuts =
    let c : DriveConfig = old.config in
    let a : Entry = entries.Shut (record { rg = g.rg; ruh = g.ruh }) in
    let b : Entry = entries.Host (record { queue = ticket.queue; number = g.number; command = g.command; reply = bare status false; moment = moment }) in
    ap (λ (p : Point). p.state.generation) (point-two old new a b shuts.completes.step)
    ∙ generation-next c (after_entry c (point_in old) a) b (and-false (is_setting g.command))
    ∙ generation-next c (point_in old) a refl

pub laned-shut : (old new : BookSeen) (ticket : Ticket) (g : Going) (w : Write) (spot : Spot) (status : Status) (moment : ℕ) (done : Done) (bytes : List ℕ) (cells now : List Cell) → StandsOver old cells → IsLed new
    → IsTicketOf (state_in old) ticket g → write_of g.command ≡ Some w → IsNextSpot old ticket g spot → ShutsAndEnds old new ticket g spot status moment done
    → ProgramMayLeave (geometry_of old.config) cells spot (data_spare (next_spare (state_in old) g w)) bytes now
    → AreLaned old cells → AreLaned new now
laned-shut old new ticket g w spot status moment done bytes cells now kept led is write next shuts left h =
    let c : DriveConfig = old.config in
    let s : Shut = record { rg = g.rg; ruh = g.ruh } in
    let reply : Reply = bare status false in
    let a : Entry = entries.Shut s in
    let b : Entry = entries.Host (record { queue = ticket.queue; number = g.number; command = g.command; reply = reply; moment = moment }) in
    let longer : IsLonger old new (a ∷ b ∷ []) = shuts.completes.step in
    let middle : Point = after_entry c (point_in old) a in
    let point : point_in new ≡ after_entry c middle b = point-two old new a b longer in
    let unmade : sets_placement b ≡ false = and-false (is_setting g.command) in
    let quiet : AreQuiet (a ∷ b ∷ []) = ap (λ (x : Bool). x || false) unmade in
    let generation : (state_in new).generation ≡ (state_in old).generation = shut-generation old new ticket g spot status moment done shuts in
    let placed : HasOnlyPlaced (point_in new) =
    subst HasOnlyPlaced (sym point) (only-placed-host c middle ticket.queue g.number g.command reply moment (only-placed-next true c (point_in old) a kept.known.orderly (shuts.follows true) h.placed)) in
    let sites : (point_in new).trail.site ≡ (point_in old).trail.site = ap (λ (p : Point). p.trail.site) point ∙ host-site c middle ticket.queue g.number g.command reply moment ∙ shut-site c (point_in old) s in
    let orderly = orderly-next true c (point_in old) a kept.known.config kept.known.orderly (shuts.follows true) in
    let stood : StoodBehind (content_at c (state_in old)) (content_at c (state_in new)) =
    subst (λ (p : Point). StoodBehind (content_at c (state_in old)) (content_at c p.state)) (sym point)
    (subst (λ (k : Behind PageContent). StoodBehind k (content_at c (after_entry c middle b).state)) (shut-content c (point_in old) s) (stood-unmade c middle ticket.queue g.number g.command reply moment orderly.state refl)) in
    let keeps : KeepsOwners (owner_at old.pages.owners) (owner_at new.pages.owners) = book-owners old new kept.known.led led longer.config_is (written-two old new a b longer) sites stood in
    let handles = shuts.shut.handles in
    laned-longer old new (a ∷ b ∷ []) now (record { longer = longer; quiet = quiet; generation = generation; placed = placed })
    (program-laned old ticket g w spot bytes cells now kept is next left h new.entries (since_setting old.entries ++ a ∷ b ∷ []) new.pages (no_reference c)
    (ap (λ (x : HandleTable). x.classes) shuts.left.handles ∙ ap (λ (x : HandleTable). x.classes) handles.rest)
    (shuts.left.passes ∙ shuts.shut.passes)
    (ap (λ (x : HandleTable). reference_at x) shuts.left.handles ∙ handles.references c kept.known.units.unit_pages)
    (λ u none. absurd (never u none))
    (λ other ne t. taken-kept old new (a ∷ b ∷ []) longer (λ at x owned. let was = keeps at x owned in (was.0, was.1)) (λ unit. refl) other t)
    (λ other put. inl (put-before other (since_setting old.entries) (a ∷ b ∷ []) refl put))) where
      never : (u : ℕ) → None ≡ Some u → ⊥
      never u e = cc
