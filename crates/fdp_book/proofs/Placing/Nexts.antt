-- The next page of a going write.
use Rattle.std.proofs.Common.{◌≡◌, ℕ, ◌+◌, ◌*◌, ◌/◌, ◌<◌, ◌≤◌, arith, IsTrue, List, [], ◌∷◌, ◌++◌, length, length-append, Option, Some, None, refl, sym, ◌∙◌, ap, subst}
use Rattle.std.specs.Prelude.{IfSome, MatchOption, is_some, option_map}
use Rattle.fdp_base.specs.declared.entry.Spot.{Spot}
use Rattle.fdp_base.specs.CommandKinds.{blocks_written, write_of}
use Rattle.fdp_rules.specs.Change.{one_more_placed}
use Rattle.fdp_rules.specs.PlainState.{Going, PlainState, Reference}
use Rattle.fdp_rules.specs.Sites.{is_there}
use Rattle.fdp_base.specs.Spare.{data_spare}
use Rattle.fdp_rules.specs.Step.{Follows, IsNextPage, IsUnreferenced}
use Rattle.fdp_base.specs.declared.spare.DataSpare.{DataSpare}
use Rattle.fdp_book.specs.declared.extent.Extent.{Extent}
use Rattle.fdp_book.specs.declared.flight.Flight.{Flight}
use Rattle.fdp_book.specs.declared.ticket.Ticket.{Ticket}
use Rattle.fdp_book.specs.Book.{BookSeen, state_in}
use Rattle.fdp_book.specs.Extent.{extent}
use Rattle.fdp_book.specs.Flown.{HasPageMore, IsFlightAt}
use Rattle.fdp_book.specs.Places.{IsNextOf}
use Rattle.fdp_book.proofs.Placing.Fresh.{fresh-page}
use Rattle.fdp_base.specs.declared.config.DriveConfig.{DriveConfig}
use Rattle.fdp_readings.specs.fdp_locations.Located.{AreUnitsOf}
use Rattle.fdp_readings.specs.fdp_pages.Joined.{AreJoined}
use Rattle.fdp_readings.specs.fdp_pages.PageTables.{PageTables, left_of, unit_of}
use Rattle.fdp_readings.specs.fdp_pages.Steps.{MayPut}
use Rattle.fdp_units.specs.declared.state.UnitState.{UnitState}
use Rattle.fdp_units.specs.declared.state.UnitState.TheVariants.{Free, Referenced, Target, Closed, Retired, Aside}
use Rattle.fdp_units.specs.DataUnits.{is_free}
use Rattle.fdp_units.specs.UnitTable.{Cut, IsFreeUnit, state_at}
use Rattle.fdp_book.specs.Held.{going_of}
use Rattle.fdp_readings.specs.fdp_locations.Written.{next_spare}
use Rattle.fdp_book.specs.Tickets.{ComesTo, IsNextSpot, IsTicketOf}
use Rattle.fdp_book.specs.declared.next_page.NextPage.TheVariants as next_pages
use Rattle.fdp_base.specs.declared.command.Write.{Write}

-- two writes with one ticket are one
pub one-going : (s : PlainState) (ticket : Ticket) (g k : Going) → IsTicketOf s ticket g → IsTicketOf s ticket k → g ≡ k
one-going s ticket g k a b = let e : Some g ≡ Some k = sym a.going_is ∙ b.going_is in cc

-- where the next page of a handle goes, in the words of a state
next-place : (c : DriveConfig) (s : PlainState) (t : PageTables) (rg ruh : ℕ) (spot : Spot) → AreUnitsOf c s t → AreJoined t → MayPut t rg ruh spot → IsNextPage c s (s.references rg ruh) spot.unit spot.page
next-place c s t rg ruh spot units joined may =
    subst (λ (x : Reference). IsNextPage c s x spot.unit spot.page) (sym (units.references rg ruh)) (from (unit_of t rg ruh) refl may.page)
  where
    apart : Free ≡ Referenced → ⊥
    apart e = cc

    is-free-of : (x : UnitState) → IsTrue (is_free x) → x ≡ Free
    is-free-of Free e = refl
    is-free-of Referenced e = absurd cc
    is-free-of Target e = absurd cc
    is-free-of Closed e = absurd cc
    is-free-of Retired e = absurd cc
    is-free-of Aside e = absurd cc

    from : (o : Option ℕ) → unit_of t rg ruh ≡ o → MatchOption o (IsFreeUnit t.units rg spot.unit × (spot.page ≡ 0)) (λ unit. (spot.unit ≡ unit) × (spot.page + left_of t rg ruh ≡ t.units.unit_pages)) → MatchOption o (IsUnreferenced s spot.unit × (spot.page ≡ 0)) (λ unit. (spot.unit ≡ unit) × (spot.page + left_of t rg ruh ≡ c.unit_pages))
    from None none page = (λ r k e. apart (sym (is-free-of (state_at t.units spot.unit) page.0.free) ∙ (joined.filled.fills r k spot.unit (sym (ap (λ (x : Reference). x.unit) (units.references r k)) ∙ e)).stands.stands), page.1)
    from (Some unit) some page = (page.0, page.1 ∙ ap (λ (x : Cut). x.unit_pages) units.cut)

-- the next page of a handle is the next page of its write
pub next-spot : (b : BookSeen) (ticket : Ticket) (f : Flight) (spot : Spot) → AreUnitsOf b.config (state_in b) b.pages → AreJoined b.pages → IsFlightAt b ticket f → length f.pages.items < blocks_written f.room.command → IsTrue (is_there (state_in b) (going_of f)) → IsNextOf b f.rg f.ruh spot → IsNextSpot b ticket (going_of f) spot
unfolding Follows
next-spot b ticket f spot units joined at asked there h =
    let s : PlainState = state_in b in
    let fresh = fresh-page b.pages f.rg f.ruh spot joined h.may in
    let data_unit : spot.unit < b.config.groups * b.config.units = subst (λ (x : Cut). spot.unit < x.groups * x.group_units) units.cut fresh.is_unit in
    let within : spot.page < b.config.unit_pages = subst (λ (x : Cut). spot.page < x.unit_pages) units.cut fresh.within in
    record {
      follows = λ told. record {
        queue = ticket.queue;
        going = going_of f;
        queue_is = at.orderly.queue_is;
        going_is = at.going.going_is;
        same = at.going.position_is;
        there = there;
        next = refl;
        asked = asked;
        spot = (data_unit, within);
        group = ap (λ (x : Cut). spot.unit / x.group_units) (sym units.cut) ∙ fresh.group;
        kept = units.agrees.lost spot.unit fresh.is_unit ∙ fresh.kept;
        place = next-place b.config s b.pages f.rg f.ruh spot units joined h.may;
      };
      there = there;
      may = h.may;
      fresh = fresh.fresh;
      is_unit = fresh.is_unit;
      kept = fresh.kept;
      taken = λ none. h.taken (sym (ap (λ (x : Reference). x.unit) (units.references f.rg f.ruh)) ∙ none);
    }

-- a flight with one page more
pub page-more : (f g new : Flight) (spot : Spot) → Some g ≡ Some f → new.pages.items ≡ g.pages.items ++ spot ∷ [] → going_of new ≡ record (going_of g) { placed = length new.pages.items } → HasPageMore f spot (Some new)
page-more f g new spot e pages rest =
    let same : g ≡ f = cc in
    let count : length new.pages.items ≡ length g.pages.items + 1 = ap length pages ∙ length-append g.pages.items (spot ∷ []) in (
      new,
      refl,
      record {
        going_is = rest ∙ ap (λ (n : ℕ). record (going_of g) { placed = n }) count ∙ ap (λ (h : Flight). one_more_placed (going_of h)) same;
        pages_are = pages ∙ ap (λ (h : Flight). h.pages.items ++ spot ∷ []) same;
      },
    )

-- what a write is known to be, of what it puts where
written-extent : (w : Option Write) (x : Extent) (P : Option Write → Type 0) → ((y : Write) → w ≡ Some y → P (Some y)) → option_map extent w ≡ Some x → P w
written-extent None x P f e = absurd cc
written-extent (Some y) x P f e = f y refl

-- a going write comes to its next page, with its spare bytes
pub next-at : (b : BookSeen) (ticket : Ticket) (f : Flight) (g waiting : Going) (spot : Spot) (index : ℕ) (spare : DataSpare) (bytes : List ℕ) → AreUnitsOf b.config (state_in b) b.pages → AreJoined b.pages → IsFlightAt b ticket f → IsTicketOf (state_in b) ticket g → IsTicketOf (state_in b) ticket waiting → waiting.placed < blocks_written waiting.command → IsTrue (is_there (state_in b) (going_of f)) → IsNextOf b f.rg f.ruh spot → index ≡ length f.pages.items → ((w : Write) → write_of f.room.command ≡ Some w → spare ≡ next_spare (state_in b) (going_of f) w) → bytes ≡ data_spare spare → ComesTo b ticket g (next_pages.At spot index bytes)
next-at b ticket f g waiting spot index spare bytes units joined at is wait asked there h count spare_is bytes_are =
    let same : g ≡ going_of f = one-going (state_in b) ticket g (going_of f) is at.going in
    let other : waiting ≡ going_of f = one-going (state_in b) ticket waiting (going_of f) wait at.going in
    let left : length f.pages.items < blocks_written f.room.command = subst (λ (k : Going). k.placed < blocks_written k.command) other asked in
    let spares : option_map (λ (w : Write). data_spare (next_spare (state_in b) (going_of f) w)) (write_of f.room.command) ≡ Some bytes =
    written-extent (write_of f.room.command) f.extent (λ w. option_map (λ (y : Write). data_spare (next_spare (state_in b) (going_of f) y)) w ≡ Some bytes)
    (λ y e. ap (λ (s : DataSpare). Some (data_spare s)) (sym (spare_is y e)) ∙ ap (λ (xs : List ℕ). Some xs) (sym bytes_are)) (sym f.extent_is) in
    subst (λ (k : Going). ComesTo b ticket k (next_pages.At spot index bytes)) (sym same) (next-spot b ticket f spot units joined at left there h, count, spares)

-- ---- what a write puts

-- a command that is a write has what it puts where
pub write-there : (o : Option Write) → IsTrue (is_some o) → (w : Write) × (o ≡ Some w)
write-there None h = absurd cc
write-there (Some w) h = (w, refl)

-- the blocks of a write begin below a bound that they lie below
pub extent-low : (o : Option Write) (x : Extent) → Some x ≡ option_map extent o → IfSome o (λ (w : Write). w.slba + w.count ≤ 262144) → x.slba ≤ 262144
extent-low None x e h = absurd cc
extent-low (Some w) x e h = let same : x ≡ extent w = cc in let start : x.slba ≡ w.slba = ap (λ (y : Extent). y.slba) same in omega (arith, h, start)
