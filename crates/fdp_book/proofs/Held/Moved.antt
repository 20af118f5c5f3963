-- The tables after the move of a pass.
use Rattle.std.proofs.Common.{◌≡◌, ℕ, ◌<◌, Bool, true, List, [], ◌∷◌, ◌++◌, length, Option, Some, None, refl, sym, ◌∙◌, ap, subst, arith, get_or-set_same, ◌⊎◌, ⊎_elim}
use Rattle.std.specs.Prelude.{All, Contains, IfSome, IsTrue, option_map, slice_set}
use Rattle.std.specs.Option.{option_map_or}
use Rattle.std.proofs.lemmas.List.{take_all}
use Rattle.fdp_base.specs.declared.config.DriveConfig.{DriveConfig}
use Rattle.fdp_base.specs.declared.entry.BlockName.{BlockName}
use Rattle.fdp_base.specs.declared.entry.Copied.{Copied}
use Rattle.fdp_base.specs.declared.entry.Entry.{Entry}
use Rattle.fdp_base.specs.declared.entry.Entry.TheVariants as entries
use Rattle.fdp_base.specs.declared.entry.Spot.{Spot}
use Rattle.fdp_book.specs.declared.flight.Flight.{Flight}
use Rattle.fdp_book.specs.declared.tables.Tables.{Tables}
use Rattle.fdp_book.specs.Held.{AreFlightsOf, IsHeld, IsMapOf, flight_in, going_of, lead_in}
use Rattle.fdp_book.specs.Book.{BookSeen, first_in, point_in, written_in}
use Rattle.fdp_book.specs.Outlined.{CanMakeMove, IsOutlineAt, IsOutlineBehind, MakesMove}
use Rattle.fdp_book.specs.Relocating.{IsMoveChange}
use Rattle.fdp_book.specs.Moving.{KeepsFlights, KeepsGroups, LeadAsOwned, MovesCopies}
use Rattle.fdp_book.proofs.Held.Next.{can-make, held-next, made-behind}
use Rattle.fdp_book.proofs.Held.Worked.{IsQuiet}
use Rattle.fdp_book.proofs.Kept.{flights-alike, map-alike}
use Rattle.fdp_book.proofs.Leading.{leads-same}
use Rattle.fdp_book.proofs.Outlining.{behind-counted, generation-said}
use Rattle.fdp_outline.specs.declared.moved_block.MovedBlock.{MovedBlock}
use Rattle.fdp_readings.specs.Lasting.{leaves_nothing}
use Rattle.fdp_records.specs.declared.change.Change.{Change}
use Rattle.fdp_snapshot.specs.declared.state.Summary.{Summary}
use Rattle.fdp_book.proofs.Relocating.Leads.{leads-as, owners-same}
use Rattle.fdp_readings.specs.fdp_locations.Located.{AreLed, LeadsTo, next_in}
use Rattle.fdp_readings.specs.fdp_locations.Written.{Written, written_by}
use Rattle.fdp_readings.proofs.fdp_locations.Others.{ChangesPasses, copy-groups, ended-fewer, ended-left, group-same, is-group}
use Rattle.fdp_readings.proofs.fdp_locations.Grouped.{StayInGroups}
use Rattle.fdp_readings.proofs.fdp_locations.Relocated.{led-moved}
use Rattle.fdp_readings.proofs.fdp_locations.Units.{HasSameUnits, owners-alike, owners-next, units-same}
use Rattle.fdp_map.specs.MapTable.{MapTable, size_in}
use Rattle.fdp_owners.specs.declared.owner.Owner.{Owner}
use Rattle.fdp_owners.specs.Owned.{AreOwners, page_of}
use Rattle.fdp_owners.specs.OwnerTable.{owner_at, pointer_of}
use Rattle.fdp_readings.specs.fdp_pages.Joined.{AreJoined}
use Rattle.fdp_readings.specs.fdp_pages.PageTables.{PageTables, copies_at, no_passes, passes_at}
use Rattle.fdp_readings.specs.fdp_pages.Steps.{HasMoved, ended_move}
use Rattle.fdp_passes.specs.declared.due.Due.TheVariants as due
use Rattle.fdp_passes.specs.Due.{IsDue, copies_in}
use Rattle.fdp_passes.specs.GroupPasses.{GroupPasses, Pass, without_copies}
use Rattle.fdp_pointers.specs.Facts.{Page, put_at}
use Rattle.fdp_pointers.specs.Pointers.{Pointer, moved}
use Rattle.fdp_pointers.proofs.Renaming.{moved-from}
use Rattle.fdp_rules.specs.Change.{after, changed_by}
use Rattle.fdp_rules.specs.History.{Found, point_of}
use Rattle.fdp_rules.specs.Next.{next}
use Rattle.fdp_rules.specs.PlainState.{Going, PlainState}
use Rattle.fdp_rules.specs.Point.{Point}
use Rattle.fdp_rules.specs.Sites.{group_of, is_there, moved_blocks, moved_by, pass_in}
use Rattle.fdp_rules.specs.Step.{Follows, IsOnTarget}
use Rattle.fdp_readings.specs.fdp_trails.Followed.{IsCopyOf, IsFollowed}
use Rattle.fdp_readings.specs.fdp_trails.Moves.{AreMovable, names_of, owners_moved}
use Rattle.fdp_readings.proofs.fdp_trails.Grouping.{all-moved}
use Rattle.fdp_readings.proofs.fdp_trails.Listing.{copies-movable, pass-listed, pass-owners, pass-page, pass-to_copies}

-- the entry of a move of these blocks
abbrev pub moved_entry : ℕ → List BlockName → Entry
moved_entry rg blocks = entries.Moved (record { rg = rg; blocks = blocks })

quiet-moved : (c : DriveConfig) (p : Point) (rg : ℕ) (blocks : List BlockName) → IsQuiet p.state (next c p (moved_entry rg blocks)).state
unfolding next after changed_by
quiet-moved c p rg blocks = record { alike = record { enabled = refl; index = refl; generation = refl; namespaces = refl }; blocks = refl; going = refl }

moved-units : (c : DriveConfig) (p : Point) (rg : ℕ) (blocks : List BlockName) → HasSameUnits p.state (next c p (moved_entry rg blocks)).state
unfolding next after changed_by
moved-units c p rg blocks = record { enabled = refl; index = refl; references = refl; is_lost = refl; is_worn = refl }

follows-moved : (told : Bool) (c : DriveConfig) (p : Point) (rg : ℕ) (blocks : List BlockName) → rg < c.groups → blocks ≡ moved_blocks p rg → Follows told c p (moved_entry rg blocks)
unfolding Follows
follows-moved told c p rg blocks low listed = record { group = low; listed = listed }

ended-none : (q : GroupPasses) → copies_in (ended_move q) ≡ []
ended-none q = cases q.pass
  where
    cases : (o : Option Pass) → option_map_or (λ (pass : Pass). pass.copies) (option_map without_copies o) [] ≡ []
    cases None = refl
    cases (Some pass) = refl

-- what holds of all holds of one
each : (P : Copied → Type 0) (xs : List Copied) (x : Copied) → All P xs → Contains xs x → P x
each P xs x all has = subst P has.2 (all has.0 x has.1)

-- ---- the tables that follow a state

map-moved : (c : DriveConfig) (s : PlainState) (map new : MapTable) → KeepsGroups map new → IsMapOf c s map → IsMapOf c s new
map-moved c s map new keeps h = record {
  geometry = keeps.geometry ∙ h.geometry;
  sizes = λ nsid. h.sizes nsid ∙ sym (ap (λ (f : ℕ → ℕ). f nsid) keeps.sizes);
  most = λ nsid. let size : size_in new nsid ≡ size_in map nsid = ap (λ (f : ℕ → ℕ). f nsid) keeps.sizes in omega (arith, size, h.most nsid);
  groups = λ nsid lba. h.groups nsid lba ∙ sym (keeps.groups nsid lba);
}

flown : (P : Going → Type 0) (o : Option Flight) (f : Flight) → option_map going_of (Some f) ≡ option_map going_of o → ((x : Flight) → o ≡ Some x → P (going_of x)) → P (going_of f)
flown P None f e h = absurd cc
flown P (Some x) f e h = let same : going_of f ≡ going_of x = cc in subst P (sym same) (h x refl)

flights-moved : (c : DriveConfig) (s : PlainState) (flights new : List (Option Flight)) → KeepsFlights flights new → AreFlightsOf c s flights → AreFlightsOf c s new
flights-moved c s flights new keeps h = record {
  rows = keeps.rows ∙ h.rows;
  going = λ q. h.going q ∙ sym (keeps.going q);
  target = λ q f e. flown (λ (g : Going). IsTrue (is_there s g) → IsOnTarget c s g) (flight_in flights q) f (ap (option_map going_of) (sym e) ∙ keeps.going q) (λ x is. h.target q x is);
}

-- ---- the move of a pass

module _ (c : DriveConfig) (found : Found) (first : Spot → Option Written) (es : List Entry) (t : Tables) (rg : ℕ) (h : IsHeld c found first es t) (joined : AreJoined t.pages) (low : rg < c.groups) (is_due : IsDue (passes_at t.pages rg) t.pages.units t.pages.owners rg due.Move) where
  abbrev p : Point
  p = point_of c found es

  abbrev owners : Spot → Option Owner
  owners = owner_at t.pages.owners

  abbrev f : Spot → Spot
  f = moved_by (pass_in p.trail rg)

  copies-are : copies_at t.pages rg ≡ is_due.0.copies
  copies-are = ap (λ (o : Option Pass). option_map_or (λ (pass : Pass). pass.copies) o []) is_due.1

  some : copies_at t.pages rg ≡ [] → ⊥
  some e = is_due.2 (sym copies-are ∙ e)

  pub pass-movable : AreMovable owners (copies_at t.pages rg)
  pass-movable = copies-movable c p rg (next_in t.pages.units) h.pages_are.at owners (passes_at t.pages rg) h.pages_are.led.table h.pages_are.led.owned (h.pages_are.led.passes rg low)

  -- the blocks that are moved
  pub pass-blocks : names_of owners (copies_at t.pages rg) ≡ moved_blocks p rg
  pass-blocks = sym (pass-listed c p rg (next_in t.pages.units) h.pages_are.at owners (passes_at t.pages rg) h.orderly.state h.pages_are.led.table h.pages_are.led.owned (h.pages_are.led.passes rg low) some)

  pub pass-follows : (told : Bool) → Follows told c p (moved_entry rg (moved_blocks p rg))
  pass-follows told = follows-moved told c p rg (moved_blocks p rg) low refl

  own-pass : AreOwners (owners_moved owners (copies_at t.pages rg)) (moved (put_at f) h.pages_are.at)
  own-pass = pass-owners c p rg (next_in t.pages.units) h.pages_are.at owners (passes_at t.pages rg) h.pages_are.led.table h.pages_are.led.owned (h.pages_are.led.passes rg low) some

  copy-own : (copy : Copied) → Contains (copies_at t.pages rg) copy → IsCopyOf is_due.0 copy
  copy-own copy has =
      let followed : IsFollowed h.pages_are.at p.trail rg is_due.0 = subst (λ (o : Option Pass). IfSome o (IsFollowed h.pages_are.at p.trail rg)) is_due.1 (h.pages_are.led.passes rg low) in
      each (IsCopyOf is_due.0) is_due.0.copies copy followed.copies (subst (λ (xs : List Copied). Contains xs copy) copies-are has)

  -- where a page goes that is pointed to
  goes : (q : Pointer) (y : Page) → h.pages_are.at q ≡ Some y → (f y.spot ≡ y.spot) ⊎ ((x : Copied) × Contains (copies_at t.pages rg) x × (x.from ≡ y.spot) × (f y.spot ≡ x.to))
  goes q y e = pass-page c p rg (next_in t.pages.units) h.pages_are.at (passes_at t.pages rg) h.pages_are.led.table (h.pages_are.led.passes rg low) some q y e

  -- which stays in its group
  goes-within : StayInGroups c f h.pages_are.at
  goes-within q y e =
      ⊎_elim
      (λ (stays : f y.spot ≡ y.spot). ap (λ (x : Spot). group_of c x.unit) stays)
      (λ other.
      let both = copy-groups t.pages rg other.0 (joined.groups rg (is-group c p.state t.pages rg h.units_are low)) other.1 in
      ap (λ (x : Spot). group_of c x.unit) other.3 ∙ group-same c p.state t.pages other.0.to.unit h.units_are ∙ both.1 ∙ sym both.0 ∙ sym (group-same c p.state t.pages other.0.from.unit h.units_are) ∙ ap (λ (x : Spot). group_of c x.unit) other.2)
      (goes q y e)

  -- no page of the victim that was copied has an owner
  old-none : (copy : Copied) → Contains (copies_at t.pages rg) copy → owners_moved owners (copies_at t.pages rg) copy.from ≡ None
  old-none copy has = cases (owners_moved owners (copies_at t.pages rg) copy.from) refl
    where
      never : (w : Owner) → owners_moved owners (copies_at t.pages rg) copy.from ≡ Some w → ⊥
      never w e =
          let was = moved-from f (h.pages_are.at (pointer_of w)) (page_of copy.from w) (own-pass.led copy.from w e) in
          let here : copy.from ≡ f was.0.spot = ap (λ (y : Page). y.spot) was.2 in
          let own = copy-own copy has in
          ⊎_elim
          (λ (stays : f was.0.spot ≡ was.0.spot).
          let to = each (λ (x : Copied). x.from ≡ was.0.spot → f was.0.spot ≡ x.to) (copies_at t.pages rg) copy
          (pass-to_copies c p rg (next_in t.pages.units) h.pages_are.at (passes_at t.pages rg) h.pages_are.led.table (h.pages_are.led.passes rg low) some (pointer_of w) was.0 was.1) has (here ∙ stays) in
          own.new_unit (ap (λ (x : Spot). x.unit) (sym to ∙ sym here) ∙ own.old_unit))
          (λ other. (copy-own other.0 other.1).new_unit (ap (λ (x : Spot). x.unit) (sym other.3 ∙ sym here) ∙ own.old_unit))
          (goes (pointer_of w) was.0 was.1)

      cases : (o : Option Owner) → owners_moved owners (copies_at t.pages rg) copy.from ≡ o → owners_moved owners (copies_at t.pages rg) copy.from ≡ None
      cases None e = e
      cases (Some w) e = absurd (never w e)

  module _ (mid : Tables) (moves : MovesCopies t mid rg (length (copies_at t.pages rg))) where
    pub owners-are : owner_at mid.pages.owners ≡ owners_moved owners (copies_at t.pages rg)
    owners-are = moves.owners ∙ ap (owners_moved owners) (take_all _ (copies_at t.pages rg) (omega arith))

    pub all-moved-out : HasMoved mid.pages rg
    all-moved-out copy has =
        ap (λ (o : Spot → Option Owner). o copy.from) owners-are
        ∙ old-none copy (subst (λ (ps : List GroupPasses). Contains (copies_at (record t.pages { passes = ps }) rg) copy) moves.kept.pages.passes has)

    -- with the pass without copies
    abbrev ended : PageTables
    ended = record mid.pages { passes = slice_set mid.pages.passes rg (ended_move (passes_at mid.pages rg)) }

    rows : rg < length mid.pages.passes
    rows =
        let count : length mid.pages.passes ≡ length t.pages.passes = ap length moves.kept.pages.passes in
        let groups : length t.pages.units.groups ≡ c.groups = ap (λ x. x.groups) h.units_are.cut in
        omega (arith, low, count, groups, joined.cut.passes)

    here : passes_at ended rg ≡ ended_move (passes_at mid.pages rg)
    here = get_or-set_same mid.pages.passes rg (ended_move (passes_at mid.pages rg)) no_passes rows

    others : ChangesPasses t.pages ended rg
    others =
        ap (λ (ps : List GroupPasses). slice_set ps rg (ended_move (passes_at mid.pages rg))) moves.kept.pages.passes
        ∙ ap (slice_set t.pages.passes rg) (sym here)

    none : copies_at ended rg ≡ []
    none = ap copies_in here ∙ ended-none (passes_at mid.pages rg)

    own-ended : AreOwners (owner_at ended.owners) (moved (put_at f) h.pages_are.at)
    own-ended = subst (λ (o : Spot → Option Owner). AreOwners o (moved (put_at f) h.pages_are.at)) (sym owners-are) own-pass

    pass-led : AreLed c (next c p (moved_entry rg (moved_blocks p rg))) (written_by c found first es) (moved (put_at f) h.pages_are.at) ended
    pass-led =
        led-moved true c p rg (moved_blocks p rg) (written_by c found first es) h.pages_are.at t.pages ended h.orderly (pass-follows true) own-ended
        (λ unit. owners-next t.pages mid.pages moves.kept.pages unit)
        (λ q y e.
        ⊎_elim
        (λ (stays : f y.spot ≡ y.spot). ap (written_by c found first es) stays)
        (λ other.
        let alike = h.pages_are.led.copies rg low other.0 other.1 in
        ap (written_by c found first es) other.3 ∙ alike.new ∙ sym alike.old ∙ ap (written_by c found first es) other.2)
        (goes q y e))
        goes-within
        (all-moved c p rg (moved_blocks p rg) h.pages_are.at c.groups (passes_at t.pages) (passes_at ended) h.orderly (λ other there. ended-left t.pages ended rg others none other) none h.pages_are.led.passes)
        (ended-fewer t.pages ended rg others none)
        h.pages_are.led

    pass-leads : LeadsTo (lead_in (next c p (moved_entry rg (moved_blocks p rg))).state mid.map mid.flights.items) (moved (put_at f) h.pages_are.at)
    pass-leads =
        let lead : LeadAsOwned p.state mid = moves.kept.leads p.state (record { at = h.pages_are.at; owned = h.pages_are.led.owned; leads = h.pages_are.leads }) in
        leads-same p.state (next c p (moved_entry rg (moved_blocks p rg))).state mid.map mid.flights.items (moved (put_at f) h.pages_are.at) (quiet-moved c p rg (moved_blocks p rg)).alike.namespaces
        (leads-as (lead_in p.state mid.map mid.flights.items) lead.at (moved (put_at f) h.pages_are.at) (owners-same (owner_at mid.pages.owners) lead.at (moved (put_at f) h.pages_are.at) lead.owned own-ended) lead.leads)

    pub held-moved : (now : Tables) → now ≡ record mid { outline = now.outline; pages = ended } → IsOutlineBehind c found es (moved_entry rg (moved_blocks p rg)) now.outline → IsHeld c found first (es ++ moved_entry rg (moved_blocks p rg) ∷ []) now
    held-moved now is outline =
        let e : Entry = moved_entry rg (moved_blocks p rg) in
        let q : Point = next c p e in
        let quiet : IsQuiet p.state q.state = quiet-moved c p rg (moved_blocks p rg) in
        subst (λ (x : Tables). IsHeld c found first (es ++ e ∷ []) x) (sym (is ∙ ap (λ (x : Tables). record x { outline = now.outline; pages = ended }) moves.kept.rest))
        (held-next true c found first es e t (record t { outline = now.outline; map = mid.map; flights = mid.flights; pages = ended }) h (pass-follows true)
        (record {
          map_is = map-alike c p.state q.state mid.map quiet.alike quiet.blocks (map-moved c p.state t.map mid.map moves.kept.map h.map_is);
          flights_are = flights-alike c p.state q.state mid.flights.items quiet.alike quiet.going (flights-moved c p.state t.flights.items mid.flights.items moves.kept.flights h.flights_are);
          units_are = units-same c p.state q.state t.pages ended (moved-units c p rg (moved_blocks p rg)) (owners-alike t.pages mid.pages moves.kept.pages) moves.kept.pages.handles h.units_are;
        })
        outline
        (record { at = moved (put_at f) h.pages_are.at; led = pass-led; leads = pass-leads }))

-- ---- the outline

-- the change of a move may be made
pub can-make-move : (b : BookSeen) (t : Tables) (rg : ℕ) (change : Option Change) (moved : List MovedBlock) → IsHeld b.config b.found (first_in b) b.entries t → IsMoveChange b rg change moved → CanMakeMove b.config change moved t.outline
can-make-move b t rg None moved h is = tt
can-make-move b t rg (Some change) moved h is = (can-make b.config b.entries (point_in b) (written_in b) t (moved_entry rg (moved_blocks (point_in b) rg)) change moved h is.0, is.1)

none-moved : (rg : ℕ) (blocks : List BlockName) → blocks ≡ [] → IsTrue (leaves_nothing (moved_entry rg blocks))
none-moved rg blocks none = ap (λ (xs : List BlockName). leaves_nothing (moved_entry rg xs)) none

-- behind it the outline is that behind the move
pub moved-behind : (b : BookSeen) (t : Tables) (rg : ℕ) (change : Option Change) (moved : List MovedBlock) (new : Summary) → IsHeld b.config b.found (first_in b) b.entries t → ((told : Bool) → Follows told b.config (point_in b) (moved_entry rg (moved_blocks (point_in b) rg))) → IsMoveChange b rg change moved → MakesMove b.config change moved t.outline new → IsOutlineBehind b.config b.found b.entries (moved_entry rg (moved_blocks (point_in b) rg)) new
moved-behind b t rg None moved new h follows is counts =
    behind-counted b.config b.found b.entries (moved_entry rg (moved_blocks (point_in b) rg)) t.outline new (none-moved rg (moved_blocks (point_in b) rg) is) h.orderly h.standing (λ no. follows true) h.outline_is h.few counts
moved-behind b t rg (Some change) moved new h follows is makes = made-behind b.config b.found (first_in b) b.entries t (moved_entry rg (moved_blocks (point_in b) rg)) change moved new h (omega arith) is.0 makes

-- the generation stays
pub generation-moved : (c : DriveConfig) (found : Found) (es : List Entry) (rg : ℕ) (blocks : List BlockName) (old new : Summary) → IsOutlineAt c (point_of c found es) old → IsOutlineBehind c found es (moved_entry rg blocks) new → new.generation ≡ old.generation
generation-moved c found es rg blocks old new before behind =
    let p : Point = point_of c found es in
    sym (generation-said c (next c p (moved_entry rg blocks)) new behind.at) ∙ (quiet-moved c p rg blocks).alike.generation ∙ generation-said c p old before
