-- What joins the tables stands after an opening found a unit used, and a page that holds a block.
use Rattle.std.proofs.Common.{◌≡◌, ◌≢◌, ℕ, ◌+◌, ◌/◌, ◌<◌, Bool, true, false, Option, Some, None, refl, ap, sym, ◌∙◌, subst, arith, ⊎_elim}
use Rattle.std.specs.Prelude.{◌||◌, ◌&&◌, ◌==◌, if◌then◌else◌, IsTrue, MatchOption, is_some}
use Rattle.std.proofs.lemmas.Bool.{cases_eq}
use Rattle.fdp_base.specs.declared.entry.Spot.{Spot}
use Rattle.fdp_base.specs.declared.spare.DataSpare.{DataSpare}
use Rattle.fdp_collector.specs.Ready.{AreLive, lane_at}
use Rattle.fdp_collector.proofs.Kept.{changed-here, changed-other, live-ended, unit-of-kept, unit-was}
use Rattle.fdp_handles.specs.HandleTable.{reference_at}
use Rattle.fdp_owners.specs.declared.owner.Owner.{Owner}
use Rattle.fdp_owners.specs.OwnerTable.{owner_at}
use Rattle.fdp_pages.specs.Filling.{MayFill}
use Rattle.fdp_pages.specs.Finding.{GoWith, MayFind, found_used, lane_of_handle, of_found}
use Rattle.fdp_pages.specs.Joined.{AreFilled, AreJoined}
use Rattle.fdp_pages.specs.PageTables.{PageTables}
use Rattle.fdp_pages.proofs.Fitting.{change-fit, fit-sound}
use Rattle.fdp_pages.proofs.Groups.{LeavesGroups, is_filled, pages-of}
use Rattle.fdp_pages.proofs.Placed.{handled-joined}
use Rattle.fdp_pages.proofs.Places.{never, no, same-from}
use Rattle.fdp_passes.specs.GroupPasses.{slot_of}
use Rattle.fdp_units.specs.declared.data_unit.DataUnit.{DataUnit}
use Rattle.fdp_units.specs.declared.state.UnitState.{UnitState}
use Rattle.fdp_units.specs.declared.state.UnitState.TheVariants.{Free, Referenced, Target, Closed, Retired, Aside}
use Rattle.fdp_units.specs.DataUnits.{is_closed, is_free, is_target, may_become, may_turn, turned}
use Rattle.fdp_units.specs.UnitTable.{Changes, Cut, IsUnit, UnitTable, state_at, unit_at}

-- ---- a unit

-- a free unit is none that a handle fills, and none that gets copies or got some
unfree : (s : UnitState) → IsTrue (is_free s) → (s ≡ Referenced → ⊥) × (IsTrue (is_filled s) → ⊥)
unfree Free e = (λ same. absurd cc, λ filled. no filled)
unfree Referenced e = absurd (no e)
unfree Target e = absurd (no e)
unfree Closed e = absurd (no e)
unfree Retired e = absurd (no e)
unfree Aside e = absurd (no e)

module _ (t : PageTables) (was : AreJoined t) (unit : ℕ) (is : IsUnit t.units unit) (free : IsTrue (is_free (state_at t.units unit))) (new : UnitTable) (change : Changes t.units new unit (found_used t.units.unit_pages (unit_at t.units unit))) where
  abbrev y : DataUnit
  y = found_used t.units.unit_pages (unit_at t.units unit)

  other : (u : ℕ) → IsTrue (is_filled (state_at t.units u)) → u ≢ unit
  other u filled same = (unfree (state_at t.units unit) free).1 (ap (λ (k : ℕ). is_filled (state_at t.units k)) (sym same) ∙ filled)

  here : unit_at new unit ≡ y
  here = changed-here t.units new unit y change

  leaves : LeavesGroups t.units new t.owners t.owners
  leaves = record {
    cut = change.cut;
    size = record { unit_pages = refl; pages = refl };
    states = λ u filled. ap (λ (x : DataUnit). x.state) (changed-other t.units new unit u y change (other u filled));
    nexts = λ u filled. ap (λ (x : DataUnit). x.next) (changed-other t.units new unit u y change (other u filled));
    back = λ u stands. ⊎_elim
        (λ (same : u ≡ unit). absurd (apart (sym (ap (λ (x : DataUnit). x.state) here) ∙ ap (state_at new) (sym same) ∙ stands)))
        (λ (ne : u ≢ unit). ap (λ (x : DataUnit). x.state) (sym (changed-other t.units new unit u y change ne)) ∙ stands)
        (cases_eq u unit);
    owners = λ at z filled owned. same-from (owner_at t.owners at) z owned;
  } where
    apart : Closed ≡ Target → ⊥
    apart e = cc

  live : AreLive new t.owners
  live = live-ended t.units new t.owners unit y was.live change (record {
    live = refl;
    used = λ page some. let below : page < (unit_at t.units unit).next = was.live.used (record { unit = unit; page = page }) some in omega (arith, below, (was.sound unit is).next);
    unused = λ e. absurd (no e);
  })

  filled : AreFilled t.handles new t.owners
  filled = record {
    whole = λ rg ruh none. was.filled.whole rg ruh none ∙ sym (pages-of t.units new change.cut);
    fills = λ rg ruh u e.
        let h = was.filled.fills rg ruh u e in
        let ne : u ≢ unit = λ same. (unfree (state_at t.units unit) free).0 (ap (state_at t.units) (sym same) ∙ h.stands.stands) in
        let same : unit_at new u ≡ unit_at t.units u = changed-other t.units new unit u y change ne in
        let left : (unit_at t.units u).next + (reference_at t.handles rg ruh).left ≡ t.units.unit_pages = h.left in
        let next : (unit_at new u).next ≡ (unit_at t.units u).next = ap (λ (x : DataUnit). x.next) same in
        record {
          stands = unit-of-kept t.units new rg u Referenced change.cut h.stands (ap (λ (x : DataUnit). x.state) same);
          left = omega (arith, left, next, pages-of t.units new change.cut);
          some_left = h.some_left;
          own = h.own;
        };
    apart = was.filled.apart;
    filled = λ u there stands. ⊎_elim
        (λ (same : u ≡ unit). absurd (apart (sym (ap (λ (x : DataUnit). x.state) here) ∙ ap (state_at new) (sym same) ∙ stands)))
        (λ (ne : u ≢ unit).
        let found = was.filled.filled u (unit-was t.units new u change.cut there) (ap (λ (x : DataUnit). x.state) (sym (changed-other t.units new unit u y change ne)) ∙ stands) in
        (found.0, found.1, ap (λ (n : ℕ). (reference_at t.handles (u / n) found.0).unit) (ap (λ (x : Cut). x.group_units) change.cut) ∙ found.2))
        (cases_eq u unit);
  } where
    apart : Closed ≡ Referenced → ⊥
    apart e = cc

  pub found-joined : AreJoined (record t { units = new })
  found-joined = handled-joined t t.handles new t.owners (record { unit_pages = refl; groups = refl; classes = refl }) was (record { unit_pages = refl; pages = refl })
      (change-fit t.units new unit y change (record { within = omega arith; room = λ e. absurd (no e) }) (fit-sound t.units was.sound)) live was.lanes filled leaves

-- ---- a page

-- the page of a found block may get its owner
pub find-fill : (t : PageTables) (spot : Spot) (spare : DataSpare) → AreJoined t → MayFind t spot spare → MayFill t spot (of_found spare)
find-fill t spot spare was h = record {
  page = record {
    is_unit = h.is_unit;
    stands = ap (λ (s : UnitState). is_target s || is_closed s) h.closed;
    used = h.used;
    within = (was.sound spot.unit h.is_unit).next;
    unowned = h.unowned;
  };
  goes = record {
    handle = h.handle;
    way = h.way;
    target = λ rg lane is e. absurd (apart (sym h.closed ∙ ((was.groups rg is).ready.targets.targets (slot_of lane) spot.unit e).stands));
  };
  passes = record {
    victim = λ rg pass is e. absurd (never pass (sym (h.quiet rg is) ∙ e));
    apart = λ rg pass copy y is e. absurd (never pass (sym (h.quiet rg is) ∙ e));
    way = λ rg pass copy y is e. absurd (never pass (sym (h.quiet rg is) ∙ e));
  };
} where
  apart : Closed ≡ Target → ⊥
  apart e = cc

-- where one live page of a unit goes the way of a handle, all do
pub go-with : (t : PageTables) (unit ruh : ℕ) (spot : Spot) (x : Owner) → AreJoined t → spot.unit ≡ unit → owner_at t.owners spot ≡ Some x → lane_at t.handles.classes x ≡ lane_of_handle t.handles.classes ruh → GoWith t unit ruh
go-with t unit ruh spot x was is owned way other y same owns = was.lanes.same other spot y x (same ∙ sym is) owns owned ∙ way

-- ---- a free unit that is turned

or-true : (b : Bool) → (b || true) ≡ true
or-true true = refl
or-true false = refl

pub may-turn-closed : (x : DataUnit) → IsTrue (is_free x.state) → IsTrue (may_turn Closed x)
may-turn-closed x free = turns x.state (x.live == 0) free where
  turns : (s : UnitState) (b : Bool) → IsTrue (is_free s) → (may_become s Closed && (b || true)) ≡ true
  turns Free b e = or-true b
  turns Referenced b e = absurd (no e)
  turns Target b e = absurd (no e)
  turns Closed b e = absurd (no e)
  turns Retired b e = absurd (no e)
  turns Aside b e = absurd (no e)

pub found-changes : (t new : UnitTable) (unit : ℕ) → IsTrue (is_free (state_at t unit)) → Changes t new unit (turned t.unit_pages Closed (unit_at t unit)) → Changes t new unit (found_used t.unit_pages (unit_at t unit))
found-changes t new unit free change = subst (λ (y : DataUnit). Changes t new unit y) (ap (λ (b : Bool). record (unit_at t unit) { state = Closed; next = if b && true then t.unit_pages else (unit_at t unit).next }) free) change

-- ---- the way of a unit

-- the owner that was found
pub first-found : (owners : Spot → Option Owner) (unit : ℕ) (spot : Spot) (o : Option Owner) → spot.unit ≡ unit → o ≡ owners spot → is_some o ≡ true → MatchOption o ((page : Spot) → page.unit ≡ unit → owners page ≡ None) (λ (x : Owner). (page : Spot) × (page.unit ≡ unit) × (owners page ≡ Some x))
first-found owners unit spot None same is some = absurd (no some)
first-found owners unit spot (Some x) same is some = (spot, same, sym is)

pub from-found : (owners : Spot → Option Owner) (unit : ℕ) (o : Option Owner) (x : Owner) → o ≡ Some x → MatchOption o ((page : Spot) → page.unit ≡ unit → owners page ≡ None) (λ (x : Owner). (page : Spot) × (page.unit ≡ unit) × (owners page ≡ Some x)) → (page : Spot) × (page.unit ≡ unit) × (owners page ≡ Some x)
from-found owners unit o x is h = subst (λ (o : Option Owner). MatchOption o ((page : Spot) → page.unit ≡ unit → owners page ≡ None) (λ (x : Owner). (page : Spot) × (page.unit ≡ unit) × (owners page ≡ Some x))) is h
