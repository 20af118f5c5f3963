-- A unit that a handle fills, after the program of its next page: done, or failed.
use Rattle.std.proofs.Common.{◌≡◌, ◌≢◌, ◌⊎◌, ℕ, ◌+◌, ◌*◌, ◌^◌, ◌<◌, ◌≤◌, true, false, List, Option, Some, None, length, refl, sym, ◌∙◌, ap, subst, arith, inl, inr, ⊎_elim}
use Rattle.std.specs.Prelude.{◌||◌, IsFalse, MatchOption, slice_index_or}
use Rattle.std.proofs.lemmas.Bool.{cases_lt}
use Rattle.std.proofs.lemmas.List.{get_or_past}
use Rattle.fdp_base.specs.declared.config.Class.{Class}
use Rattle.fdp_base.specs.declared.config.Class.TheVariants.{Initial}
use Rattle.fdp_base.specs.declared.config.DriveConfig.{DriveConfig}
use Rattle.fdp_base.specs.declared.entry.Entry.{Entry}
use Rattle.fdp_base.specs.declared.entry.Spot.{Spot}
use Rattle.fdp_base.specs.declared.spare.DataSpare.{DataSpare}
use Rattle.fdp_base.specs.Placement.{geometry_of}
use Rattle.fdp_base.specs.Spare.{data_spare}
use Rattle.fdp_book.specs.fdp_collector.Ready.{IsBlankBehind, IsUnitOf}
use Rattle.fdp_flash.specs.declared.cell.Cell.{Cell}
use Rattle.fdp_flash.specs.Cells.{ProgramMayLeave}
use Rattle.fdp_handles.specs.HandleTable.{reference_at}
use Rattle.fdp_image.specs.Isolation.{EachPage}
use Rattle.fdp_isolation.specs.Laned.{IsLaned}
use Rattle.fdp_isolation.proofs.Keeping.{FillsUnit, GoesWay}
use Rattle.fdp_isolation.proofs.Pages.{blank-none, each-both, each-got, each-none, each-weaker, program-own}
use Rattle.fdp_image.proofs.Spares.{Says, spare-says}
use Rattle.fdp_book.specs.fdp_locations.Located.{AreUnitsOf}
use Rattle.fdp_book.specs.fdp_pages.Joined.{AreJoined}
use Rattle.fdp_book.specs.fdp_pages.PageTables.{PageTables, left_of, no_passes, passes_at, unit_of}
use Rattle.fdp_book.specs.fdp_pages.Steps.{MayPut}
use Rattle.fdp_book.proofs.fdp_pages.Handled.{read-reference}
use Rattle.fdp_book.proofs.fdp_pages.Next.{IsNextPage}
use Rattle.fdp_passes.specs.declared.lane.Lane.{Lane}
use Rattle.fdp_passes.specs.GroupPasses.{GroupPasses, lane_of, slot_of, target_at}
use Rattle.fdp_rules.specs.Effect.{References, with_reference}
use Rattle.fdp_rules.specs.PlainState.{PlainState, Reference}
use Rattle.fdp_rules.specs.Sites.{group_of}
use Rattle.fdp_rules.specs.Step.{IsDataUnit}
use Rattle.fdp_units.specs.declared.state.UnitState.{UnitState}
use Rattle.fdp_units.specs.declared.state.UnitState.TheVariants.{Target}
use Rattle.fdp_units.specs.DataUnits.{is_free, is_lost, is_referenced}
use Rattle.fdp_units.specs.UnitTable.{Cut, IsFreeUnit, IsUnit, state_at, unit_at}

-- ---- units and groups of a drive

pub data-unit : (c : DriveConfig) (s : PlainState) (t : PageTables) (unit : ℕ) → AreUnitsOf c s t → IsUnit t.units unit → IsDataUnit c unit
data-unit c s t unit units is = subst (λ (k : Cut). unit < k.groups * k.group_units) units.cut is

-- the target of a lane is a unit of the group
pub target-unit : (t : PageTables) (rg unit : ℕ) (lane : Lane) → AreJoined t → target_at (passes_at t rg) lane ≡ Some unit → IsUnitOf t.units rg unit Target
target-unit t rg unit lane joined e = ⊎_elim
    (λ (low : rg < length t.units.groups). (joined.groups rg low).ready.targets.targets (slot_of lane) unit e)
    (λ (high : length t.units.groups ≤ rg).
    let none : passes_at t rg ≡ no_passes = get_or_past t.passes rg no_passes (omega (arith, high, joined.cut.passes)) in
    absurd (never (sym (ap (λ (p : GroupPasses). target_at p lane) none) ∙ e)))
    (cases_lt rg (length t.units.groups)) where
      never : {x : ℕ} → None ≡ Some x → ⊥
      never e = cc

-- ---- the pages of the unit

-- what the pages of a unit name that a handle fills
abbrev pub NamesHandle : DriveConfig → ℕ → List Cell → ℕ → ℕ → Type 0
NamesHandle c generation cells unit ruh = EachPage c cells unit (λ x. (x.rg ≡ group_of c unit) × (x.generation ≡ generation) × (x.ruh ≡ ruh))

-- before the program: the handle has the unit, or takes it, blank
pub handle-pages : (c : DriveConfig) (s : PlainState) (generation : ℕ) (run es : List Entry) (t : PageTables) (cells : List Cell) (rg ruh : ℕ) (spot : Spot) → AreUnitsOf c s t → AreJoined t → IsBlankBehind (geometry_of c) cells t.units → IsFalse (is_lost (state_at t.units spot.unit)) → IsUnit t.units spot.unit → MayPut t rg ruh spot
    → IsLaned c generation run es t cells → NamesHandle c generation cells spot.unit ruh
handle-pages c s generation run es t cells rg ruh spot units joined blank kept is may laned = cases (unit_of t rg ruh) refl may.page where
  cases : (r : Option ℕ) → unit_of t rg ruh ≡ r → MatchOption r (IsFreeUnit t.units rg spot.unit × (spot.page ≡ 0)) (λ (unit : ℕ). (spot.unit ≡ unit) × (spot.page + left_of t rg ruh ≡ t.units.unit_pages)) → NamesHandle c generation cells spot.unit ruh
  cases None e h = each-none c spot.unit cells _ (blank-none c cells spot.unit (unit_at t.units spot.unit).next (joined.live.unused spot.unit h.0.free) (blank spot.unit is kept))
  cases (Some unit) e h =
      let own : unit_of t rg ruh ≡ Some spot.unit = e ∙ ap (λ (u : ℕ). Some u) (sym h.0) in
      let group = (laned.units spot.unit (data-unit c s t spot.unit units is)).group in
      each-weaker c spot.unit cells _ _ (λ x both. (both.0.0, both.1.0, both.1.1)) (each-both c spot.unit cells _ _ group.pages (laned.filled rg ruh spot.unit (data-unit c s t spot.unit units is) own))

-- after it
pub filled-pages : (c : DriveConfig) (generation : ℕ) (cells now : List Cell) (spot : Spot) (x : DataSpare) (bytes : List ℕ) → x.rg ≡ group_of c spot.unit → x.rg < 2 ^ 16 → x.generation ≡ generation → generation < 2 ^ 32 → spot.page < c.unit_pages
    → ProgramMayLeave (geometry_of c) cells spot (data_spare x) bytes now → NamesHandle c generation cells spot.unit x.ruh → NamesHandle c generation now spot.unit x.ruh
filled-pages c generation cells now spot x bytes rg small same low inside left h =
    let says : Says (data_spare x) x = spare-says x small (omega (arith, same, low)) in
    each-got c spot.unit cells now _ (data_spare x) says.said (program-own c cells now spot (data_spare x) bytes left inside) says.is (says.rg ∙ rg, says.generation ∙ same, says.ruh) h

-- pages that name a handle go its way
pub handle-way : (c : DriveConfig) (generation : ℕ) (classes : List Class) (cells : List Cell) (unit ruh : ℕ) → NamesHandle c generation cells unit ruh → GoesWay c generation classes cells unit (lane_of (slice_index_or classes ruh Initial) ruh)
handle-way c generation classes cells unit ruh h = each-weaker c unit cells _ _ (λ x named. (named.0, named.1, ap (λ (k : ℕ). lane_of (slice_index_or classes k Initial) k) named.2)) h

-- ---- what handles fill

-- a handle that fills another unit did so before, and one that fills this unit is the one that got a page of it
pub record IsFilledBy (t now : PageTables) (rg ruh unit : ℕ) : Type 0 where
  pub others : (other_rg other u : ℕ) → unit_of now other_rg other ≡ Some u → u ≢ unit → unit_of t other_rg other ≡ Some u
  pub here : (other_rg other : ℕ) → unit_of now other_rg other ≡ Some unit → other ≡ ruh

pub filled-by : (c : DriveConfig) (t now : PageTables) (rg ruh : ℕ) (spot : Spot) (r : Reference) → AreJoined t → IsNextPage t rg ruh spot → reference_at now.handles ≡ with_reference (reference_at t.handles) rg ruh r → ((u : ℕ) → r.unit ≡ Some u → u ≡ spot.unit) → IsFilledBy t now rg ruh spot.unit
filled-by c t now rg ruh spot r joined is references own = record {
  others = λ other_rg other u e ne. ⊎_elim
      (λ (h : (other_rg ≡ rg) × (other ≡ ruh) × (reference_at now.handles other_rg other ≡ r)). absurd (ne (own u (ap (λ (x : Reference). x.unit) (sym h.2) ∙ e))))
      (λ (h : (reference_at now.handles other_rg other ≡ reference_at t.handles other_rg other) × ((other_rg ≡ rg) × (other ≡ ruh) → ⊥)). ap (λ (x : Reference). x.unit) (sym h.0) ∙ e)
      (read other_rg other);
  here = λ other_rg other e. ⊎_elim
      (λ (h : (other_rg ≡ rg) × (other ≡ ruh) × (reference_at now.handles other_rg other ≡ r)). h.1)
      (λ (h : (reference_at now.handles other_rg other ≡ reference_at t.handles other_rg other) × ((other_rg ≡ rg) × (other ≡ ruh) → ⊥)).
      let before : unit_of t other_rg other ≡ Some spot.unit = ap (λ (x : Reference). x.unit) (sym h.0) ∙ e in
      let group : other_rg ≡ rg = sym (joined.filled.fills other_rg other spot.unit before).stands.group ∙ is.group in
      absurd (h.1 (group, sym (is.apart other (ap (λ (k : ℕ). unit_of t k other) (sym group) ∙ before)))))
      (read other_rg other);
} where
  read : (other_rg other : ℕ) → ((other_rg ≡ rg) × (other ≡ ruh) × (reference_at now.handles other_rg other ≡ r)) ⊎ ((reference_at now.handles other_rg other ≡ reference_at t.handles other_rg other) × ((other_rg ≡ rg) × (other ≡ ruh) → ⊥))
  read other_rg other =
      let e : reference_at now.handles other_rg other ≡ with_reference (reference_at t.handles) rg ruh r other_rg other = ap (λ (f : References). f other_rg other) references in
      ⊎_elim
      (λ (h : (other_rg ≡ rg) × (other ≡ ruh) × (with_reference (reference_at t.handles) rg ruh r other_rg other ≡ r)). inl (h.0, h.1, e ∙ h.2))
      (λ (h : (with_reference (reference_at t.handles) rg ruh r other_rg other ≡ reference_at t.handles other_rg other) × ((other_rg ≡ rg) × (other ≡ ruh) → ⊥)). inr (e ∙ h.0, h.1))
      (read-reference (reference_at t.handles) rg ruh r other_rg other)

-- a unit that a handle fills, or that is free, is no target
pub no-target : (t : PageTables) (rg other ruh : ℕ) (lane : Lane) (spot : Spot) → AreJoined t → IsNextPage t rg ruh spot → target_at (passes_at t other) lane ≡ Some spot.unit → ⊥
no-target t rg other ruh lane spot joined is e = apart (sym (ap (λ (x : UnitState). is_free x || is_referenced x) (target-unit t other spot.unit lane joined e).stands) ∙ is.state) where
  apart : false ≡ true → ⊥
  apart x = cc

-- what the tables are after the program: the handle fills the unit, or has let it go
pub fills-unit : (c : DriveConfig) (generation : ℕ) (t now : PageTables) (cells : List Cell) (rg ruh : ℕ) (spot : Spot) → AreJoined t → IsNextPage t rg ruh spot → now.handles.classes ≡ t.handles.classes → now.passes ≡ t.passes → IsFilledBy t now rg ruh spot.unit → NamesHandle c generation cells spot.unit ruh
    → FillsUnit c t now cells spot.unit (lane_of (slice_index_or t.handles.classes ruh Initial) ruh)
fills-unit c generation t now cells rg ruh spot joined is classes passes filled pages = record {
  classes = classes;
  filled = filled.others;
  filled_here = λ other_rg other e. subst (λ (k : ℕ). EachPage c cells spot.unit (λ x. x.ruh ≡ k)) (sym (filled.here other_rg other e)) (each-weaker c spot.unit cells _ _ (λ x named. named.2) pages);
  targets = λ other_rg u way e ne. target other_rg way ∙ e;
  targets_here = λ other_rg way e. absurd (no-target t rg other_rg ruh way spot joined is (target other_rg way ∙ e));
} where
  target : (k : ℕ) (way : Lane) → target_at (passes_at t k) way ≡ target_at (passes_at now k) way
  target k way = ap (λ (xs : List GroupPasses). target_at (slice_index_or xs k no_passes) way) (sym passes)
