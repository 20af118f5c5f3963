-- A page of a write was placed: a handle takes a free unit only where three are free.
use Rattle.std.proofs.Common.{◌≡◌, ◌≢◌, ℕ, ◌+◌, ◌≤◌, Bool, List, Option, Some, None, refl, sym, ◌∙◌, ap, subst, arith, ⊎_elim}
use Rattle.std.specs.Prelude.{MatchOption}
use Rattle.std.proofs.lemmas.Bool.{cases_eq}
use Rattle.fdp_base.specs.declared.entry.Spot.{Spot}
use Rattle.fdp_book.specs.declared.ticket.Ticket.{Ticket}
use Rattle.fdp_book.specs.Book.{BookSeen}
use Rattle.fdp_book.specs.Steps.{Places}
use Rattle.fdp_book.specs.Tickets.{IsNextSpot}
use Rattle.fdp_book.proofs.fdp_collector.Kept.{changed-other}
use Rattle.fdp_book.specs.fdp_pages.PageTables.{PageTables, left_of, passes_at, unit_of}
use Rattle.fdp_book.proofs.fdp_pages.Next.{IsNextPage, next-page}
use Rattle.fdp_isolation.specs.Laned.{IsKnown}
use Rattle.fdp_passes.specs.GroupPasses.{GroupPasses}
use Rattle.fdp_rules.specs.PlainState.{Going, Reference}
use Rattle.fdp_units.specs.declared.state.UnitState.TheVariants.{Referenced}
use Rattle.fdp_units.specs.DataUnits.{is_free}
use Rattle.fdp_units.specs.UnitTable.{IsFreeUnit, IsGroup, count_in, group_in, state_at, unit_at}
use Rattle.fdp_roominess.specs.Room.{HasRoom, HaveRoom, taken_in}
use Rattle.fdp_roominess.specs.Units.{is_free_unit, units_where}
use Rattle.fdp_roominess.proofs.Counting.{units-but}
use Rattle.fdp_roominess.proofs.Keeping.{IsNoWorse, group-was, room-free, room-kept, worse-filled, worse-same}

module _ (b new : BookSeen) (ticket : Ticket) (g : Going) (spot : Spot) (last : Bool) (known : IsKnown b) (next : IsNextSpot b ticket g spot) (step : Places b new ticket g spot last) where
  abbrev t : PageTables
  t = b.pages

  abbrev now : PageTables
  now = new.pages

  at : IsNextPage t g.rg g.ruh spot
  at = next-page t g.rg g.ruh spot known.joined next.may

  other : (unit : ℕ) → unit ≢ spot.unit → IsNoWorse (unit_at t.units unit) (unit_at now.units unit)
  other unit ne = worse-same (unit_at t.units unit) (unit_at now.units unit) (changed-other t.units now.units spot.unit unit _ step.puts.unit ne)

  taken : (rg : ℕ) → taken_in (passes_at now rg) ≡ taken_in (passes_at t rg)
  taken rg = ap (λ (ps : List GroupPasses). taken_in (passes_at (record t { passes = ps }) rg)) step.puts.passes

  -- in the unit that its handle has
  had : (rg : ℕ) → IsGroup t.units rg → state_at t.units spot.unit ≡ Referenced → HasRoom t rg → HasRoom now rg
  had rg there stands =
      room-kept t now rg there (record {
        cut = step.puts.unit.cut;
        each = λ unit is group. ⊎_elim
            (λ (same : unit ≡ spot.unit). worse-filled (unit_at t.units unit) (unit_at now.units unit) (ap (state_at t.units) same ∙ stands))
            (other unit)
            (cases_eq unit spot.unit);
      }) (taken rg)

  -- in a unit of another group
  elsewhere : (rg : ℕ) → IsGroup t.units rg → group_in t.units spot.unit ≢ rg → HasRoom t rg → HasRoom now rg
  elsewhere rg there ne =
      room-kept t now rg there (record {
        cut = step.puts.unit.cut;
        each = λ unit is group. other unit (λ same. ne (sym (ap (group_in t.units) same) ∙ group));
      }) (taken rg)

  -- in a free unit, of three at least
  free : (rg : ℕ) → IsGroup t.units rg → group_in t.units spot.unit ≡ rg → 3 ≤ count_in t.units rg is_free → HasRoom now rg
  free rg there group three =
      let fewer : units_where t.units rg is_free_unit ≤ units_where now.units rg is_free_unit + 1 =
      units-but t.units now.units rg is_free_unit is_free_unit step.puts.unit.cut there spot.unit at.is_unit group (λ unit is own ne. (other unit ne).unused) in
      room-free now.units rg (taken_in (passes_at now rg)) (there-now rg there) (omega (arith, three, fewer)) where
        there-now : (k : ℕ) → IsGroup t.units k → IsGroup now.units k
        there-now k is = group-was now.units t.units k (sym step.puts.unit.cut) is

  room-in : (rg : ℕ) → IsGroup t.units rg → HasRoom t rg → HasRoom now rg
  room-in rg there was = ⊎_elim
      (λ (same : group_in t.units spot.unit ≡ rg). here same (unit_of t g.rg g.ruh) refl next.may.page)
      (λ (ne : group_in t.units spot.unit ≢ rg). elsewhere rg there ne was)
      (cases_eq (group_in t.units spot.unit) rg) where
        here : group_in t.units spot.unit ≡ rg → (o : Option ℕ) → unit_of t g.rg g.ruh ≡ o → MatchOption o (IsFreeUnit t.units g.rg spot.unit × (spot.page ≡ 0)) (λ unit. (spot.unit ≡ unit) × (spot.page + left_of t g.rg g.ruh ≡ t.units.unit_pages)) → HasRoom now rg
        here same None none is =
            let takes = next.taken (ap (λ (r : Reference). r.unit) (known.units.references g.rg g.ruh) ∙ none) in
            free rg there same (subst (λ (k : ℕ). 3 ≤ count_in t.units k is_free) (sym at.group ∙ same) takes.three)
        here same (Some unit) some own =
            had rg there (ap (state_at t.units) own.0 ∙ (known.joined.filled.fills g.rg g.ruh unit some).stands.stands) was

  pub room-placed : HaveRoom t → HaveRoom now
  room-placed h rg there = let was = group-was t.units now.units rg step.puts.unit.cut there in room-in rg was (h rg was)
