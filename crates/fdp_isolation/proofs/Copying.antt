-- A target after the program of a copy: done, or failed.
use Rattle.std.proofs.Common.{◌≡◌, ◌≢◌, ◌⊎◌, ℕ, ◌^◌, ◌<◌, Bool, true, false, List, Option, Some, None, refl, sym, ◌∙◌, ap, arith, inl, inr, ⊎_elim, get_or-set_other}
use Rattle.std.specs.Prelude.{IsTrue, if◌then◌else◌, nat_le, slice_index_or}
use Rattle.std.proofs.lemmas.Bool.{cases_eq}
use Rattle.fdp_base.specs.declared.config.DriveConfig.{DriveConfig}
use Rattle.fdp_base.specs.declared.entry.Entry.{Entry}
use Rattle.fdp_base.specs.declared.entry.Spot.{Spot}
use Rattle.fdp_base.specs.Placement.{geometry_of}
use Rattle.fdp_base.specs.Spare.{data_spare}
use Rattle.fdp_book.specs.fdp_collector.Ready.{IsBlankBehind, IsReady, Relocation, lane_at}
use Rattle.fdp_book.proofs.fdp_collector.Opening.{open-ready}
use Rattle.fdp_book.proofs.fdp_collector.Readied.{IsHaving, IsTaking, emptied-unit, unlost}
use Rattle.fdp_flash.specs.declared.cell.Cell.{Cell}
use Rattle.fdp_flash.specs.Cells.{ProgramMayLeave}
use Rattle.fdp_handles.specs.HandleTable.{HandleTable, reference_at}
use Rattle.fdp_isolation.specs.Laned.{IsLaned, lane_by}
use Rattle.fdp_isolation.proofs.Filling.{data-unit, target-unit}
use Rattle.fdp_isolation.proofs.Keeping.{FillsUnit, GoesWay}
use Rattle.fdp_isolation.proofs.Pages.{blank-none, each-both, each-got, each-none, each-weaker, program-own}
use Rattle.fdp_isolation.proofs.Promised.{group-below}
use Rattle.fdp_image.proofs.Spares.{Says, spare-says}
use Rattle.fdp_book.specs.fdp_locations.Located.{AreUnitsOf}
use Rattle.fdp_book.proofs.fdp_locations.Others.{ChangesPasses, group-same, passes-other}
use Rattle.fdp_owners.specs.declared.owner.Owner.{Owner}
use Rattle.fdp_owners.specs.OwnerTable.{OwnerTable, owner_at}
use Rattle.fdp_book.specs.fdp_pages.Joined.{AreJoined}
use Rattle.fdp_book.specs.fdp_pages.PageTables.{PageTables, passes_at, relocation_at, unit_of}
use Rattle.fdp_book.proofs.fdp_pages.Inside.{slot-one}
use Rattle.fdp_passes.specs.declared.due.Due.TheVariants as due
use Rattle.fdp_passes.specs.declared.lane.Lane.{Lane}
use Rattle.fdp_passes.specs.Due.{IsDue}
use Rattle.fdp_passes.specs.GroupPasses.{GroupPasses, slot_of, target_at}
use Rattle.fdp_passes.specs.Targets.{OpensPage, UsesPage, goes_on, with_target}
use Rattle.fdp_passes.specs.Room.{room_in, wanted_in}
use Rattle.fdp_passes.proofs.Opened.{none-set}
use Rattle.fdp_rules.specs.PlainState.{PlainState}
use Rattle.fdp_rules.specs.Sites.{group_of}
use Rattle.fdp_units.specs.declared.state.UnitState.{UnitState}
use Rattle.fdp_units.specs.declared.state.UnitState.TheVariants.{Referenced, Target}
use Rattle.fdp_units.specs.DataUnits.{is_closed, is_free}
use Rattle.fdp_units.specs.UnitTable.{IsGroup, IsUnit, UnitTable, group_in, state_at, unit_at}

one : {X : Type 0} {a b : X} → Some a ≡ Some b → a ≡ b
one e = cc

never : {X : Type 0} {x : X} → None ≡ Some x → ⊥
never e = cc

-- ---- targets

-- no lane gets another target
abbrev pub KeepsTargets : GroupPasses → GroupPasses → Type 0
KeepsTargets p now = (lane : Lane) (unit : ℕ) → target_at now lane ≡ Some unit → target_at p lane ≡ Some unit

-- where a page of a target is used
pub used-targets : (p now : GroupPasses) (t new : UnitTable) (lane : Lane) (unit : ℕ) → UsesPage p now t new lane unit → KeepsTargets p now
used-targets p now t new lane unit used way other e = cases (is_closed (state_at new unit)) (ap (λ (q : GroupPasses). target_at q way) (sym used.passes) ∙ e) where
  cases : (b : Bool) → target_at (if b then with_target lane None p else p) way ≡ Some other → target_at p way ≡ Some other
  cases false h = h
  cases true h = ⊎_elim
      (λ (same : slot_of way ≡ slot_of lane). absurd (never (sym (none-set p.targets (slot_of lane)) ∙ ap (λ (k : ℕ). slice_index_or (with_target lane None p).targets k None) (sym same) ∙ h)))
      (λ (ne : slot_of way ≢ slot_of lane). sym (get_or-set_other p.targets (slot_of lane) (slot_of way) None None ne) ∙ h)
      (cases_eq (slot_of way) (slot_of lane))

-- where a pass goes on, or is given up
pub went-targets : (p : GroupPasses) (t : UnitTable) (o : OwnerTable) (lane : Lane) → (goes_on p t o lane).targets ≡ p.targets
went-targets p t o lane = cases (nat_le (wanted_in p o) (room_in p t lane)) where
  cases : (b : Bool) → (if b then p else record p { pass = None }).targets ≡ p.targets
  cases true = refl
  cases false = refl

pub same-targets : (p now : GroupPasses) → now.targets ≡ p.targets → KeepsTargets p now
same-targets p now same lane unit e = ap (λ (xs : List (Option ℕ)). slice_index_or xs (slot_of lane) None) (sym same) ∙ e

-- ---- a page is found for a copy

module _ (c : DriveConfig) (s : PlainState) (run es : List Entry) (t : PageTables) (cells : List Cell) (rg : ℕ) (generation : ℕ) (units : AreUnitsOf c s t) (joined : AreJoined t) (blank : IsBlankBehind (geometry_of c) cells t.units) (there : IsGroup t.units rg) (laned : IsLaned c generation run es t cells) (from to : Spot) (owner : Owner) (middle : Relocation) (is_due : IsDue (passes_at t rg) t.units t.owners rg (due.Copy from)) (owned : owner_at t.owners from ≡ Some owner) (opened : OpensPage (passes_at t rg) middle.passes t.units middle.units rg from.unit (lane_at t.handles.classes owner) to) where
  abbrev lane : Lane
  lane = lane_at t.handles.classes owner

  ready : IsReady (relocation_at t rg) t.owners t.handles.classes rg
  ready = (joined.groups rg there).ready

  -- the new unit before the copy: a target of the group, or free
  pub record IsOpened : Type 0 where
    pub is_unit : IsUnit t.units to.unit
    pub group : group_in t.units to.unit ≡ rg
    pub stands : (state_at t.units to.unit ≡ Target) ⊎ IsTrue (is_free (state_at t.units to.unit))
    pub pages : GoesWay c generation t.handles.classes cells to.unit lane
    pub targets : (way : Lane) (unit : ℕ) → target_at middle.passes way ≡ Some unit → unit ≢ to.unit → target_at (passes_at t rg) way ≡ Some unit

  having : IsHaving (relocation_at t rg) middle from.unit lane to.unit → IsOpened
  having h =
      let unit = ready.targets.targets (slot_of lane) to.unit h.target in
      record {
        is_unit = unit.is_unit;
        group = unit.group;
        stands = inl unit.stands;
        pages = each-weaker c to.unit cells _ _ (λ x both. (both.0.0, both.1.0, both.1.1)) (each-both c to.unit cells _ _ (laned.units to.unit (data-unit c s t to.unit units unit.is_unit)).group.pages (laned.targets rg to.unit lane (data-unit c s t to.unit units unit.is_unit) h.target));
        targets = λ way other e ne. ap (λ (p : GroupPasses). target_at p way) (sym h.passes) ∙ e;
      }

  taking : IsTaking (relocation_at t rg) middle rg from.unit lane to.unit → IsOpened
  taking h =
      let unit = h.free.is_free in
      record {
        is_unit = unit.is_unit;
        group = unit.group;
        stands = inr unit.free;
        pages = each-none c to.unit cells _ (blank-none c cells to.unit (unit_at t.units to.unit).next (joined.live.unused to.unit unit.free) (blank to.unit unit.is_unit (unlost (state_at t.units to.unit) unit.free)));
        targets = λ way other e ne. ⊎_elim
            (λ (same : slot_of way ≡ slot_of lane). absurd (ne (one (sym e ∙ ap (target_at middle.passes) (slot-one way lane same) ∙ opened.stands))))
            (λ (apart : slot_of way ≢ slot_of lane).
            sym (get_or-set_other (passes_at t rg).targets (slot_of lane) (slot_of way) (Some to.unit) None apart) ∙ ap (λ (p : GroupPasses). target_at p way) (sym h.passes) ∙ e)
            (cases_eq (slot_of way) (slot_of lane));
      }

  pub is-opened : IsOpened
  is-opened = ⊎_elim having taking opened.target

  -- the lane of the new unit is its only one
  middle-lane : (way : Lane) → target_at middle.passes way ≡ Some to.unit → way ≡ lane
  middle-lane way e =
      let after = open-ready (relocation_at t rg) middle t.owners t.handles.classes rg from to owner ready is_due owned opened in
      slot-one way lane (after.targets.apart (slot_of way) (slot_of lane) to.unit e opened.stands)

  -- the spare of the copy names the group of the new unit
  pub copy-group : owner.spare.rg ≡ group_of c from.unit → owner.spare.rg ≡ group_of c to.unit
  copy-group named =
      let old = emptied-unit (relocation_at t rg) t.owners t.handles.classes rg from.unit ready is_due.0 in
      named ∙ group-same c s t from.unit units ∙ old.group ∙ sym is-opened.group ∙ sym (group-same c s t to.unit units)

  -- its pages after the program
  pub copied-pages : (now : List Cell) (bytes : List ℕ) → (owner.spare.generation ≡ generation) × (owner.spare.rg ≡ group_of c from.unit) → c.groups < 2 ^ 16 → generation < 2 ^ 32 → to.page < c.unit_pages → ProgramMayLeave (geometry_of c) cells to (data_spare owner.spare) bytes now → GoesWay c generation t.handles.classes now to.unit lane
  copied-pages now bytes named few low inside left =
      let below = group-below c to.unit (data-unit c s t to.unit units is-opened.is_unit) in
      let group = copy-group named.1 in
      let force : owner.spare.generation ≡ generation = named.0 in
      let says : Says (data_spare owner.spare) owner.spare = spare-says owner.spare (omega (arith, group, below, few)) (omega (arith, force, low)) in
      each-got c to.unit cells now _ (data_spare owner.spare) says.said (program-own c cells now to (data_spare owner.spare) bytes left inside) says.is (says.rg ∙ group, says.generation ∙ force, ap (λ (ruh : ℕ). lane_by t.handles.classes (record owner.spare { ruh = ruh })) says.ruh) is-opened.pages

  -- what the tables are after it
  pub copied-fills : (new : PageTables) (now : List Cell) → new.handles ≡ t.handles → ChangesPasses t new rg → KeepsTargets middle.passes (passes_at new rg) → FillsUnit c t new now to.unit lane
  copied-fills new now handles passes keeps = record {
    classes = ap (λ (x : HandleTable). x.classes) handles;
    filled = λ k ruh other e ne. before k ruh other e;
    filled_here = λ k ruh e. absurd (unreferenced (joined.filled.fills k ruh to.unit (before k ruh to.unit e)).stands.stands);
    targets = λ k other way e ne. ⊎_elim
        (λ (same : k ≡ rg).
        let mine : target_at middle.passes way ≡ Some other = keeps way other (ap (λ (j : ℕ). target_at (passes_at new j) way) (sym same) ∙ e) in
        ap (λ (j : ℕ). target_at (passes_at t j) way) same ∙ is-opened.targets way other mine ne)
        (λ (apart : k ≢ rg). ap (λ (p : GroupPasses). target_at p way) (sym (passes-other t new rg k passes apart)) ∙ e)
        (cases_eq k rg);
    targets_here = λ k way e. ⊎_elim
        (λ (same : k ≡ rg). middle-lane way (keeps way to.unit (ap (λ (j : ℕ). target_at (passes_at new j) way) (sym same) ∙ e)))
        (λ (apart : k ≢ rg).
        let foreign = target-unit t k to.unit way joined (ap (λ (p : GroupPasses). target_at p way) (sym (passes-other t new rg k passes apart)) ∙ e) in
        absurd (apart (sym foreign.group ∙ is-opened.group)))
        (cases_eq k rg);
  } where
    before : (k ruh unit : ℕ) → unit_of new k ruh ≡ Some unit → unit_of t k ruh ≡ Some unit
    before k ruh unit e = ap (λ (x : HandleTable). (reference_at x k ruh).unit) (sym handles) ∙ e

    free-apart : (state : UnitState) → IsTrue (is_free state) → state ≡ Referenced → ⊥
    free-apart state free e = no (sym (ap is_free e) ∙ free) where
      no : false ≡ true → ⊥
      no x = cc

    unreferenced : state_at t.units to.unit ≡ Referenced → ⊥
    unreferenced referenced = ⊎_elim (λ (target : state_at t.units to.unit ≡ Target). apart (sym target ∙ referenced)) (λ (free : IsTrue (is_free (state_at t.units to.unit))). free-apart (state_at t.units to.unit) free referenced) is-opened.stands where
      apart : Target ≡ Referenced → ⊥
      apart x = cc
