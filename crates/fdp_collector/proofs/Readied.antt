-- What stands before each step gives what its parts ask for.
use Rattle.std.proofs.Common.{◌≡◌, ◌≢◌, ℕ, ◌*◌, ◌-◌, ◌<◌, ◌≤◌, Bool, true, false, List, Option, Some, None, refl, ap, sym, ◌∙◌, subst, arith, eq-eqb, ne_eqb, ⊎_elim, inl, inr, length}
use Rattle.std.specs.Prelude.{◌⊎◌, ◌&&◌, IsTrue, IfSome, MatchOption, is_some, slice_get, if◌then◌else◌}
use Rattle.fdp_base.specs.declared.config.Class.{Class}
use Rattle.fdp_base.specs.declared.config.Geometry.{Geometry}
use Rattle.fdp_base.specs.declared.entry.Spot.{Spot}
use Rattle.fdp_base.specs.Geometry.{all_units, data_units}
use Rattle.fdp_collector.specs.Leaving.{StepMayLeave}
use Rattle.fdp_collector.specs.Ready.{AreOfFlash, IsBlankBehind, IsOpen, IsReady, IsUnitOf, KeepsLive, Relocation, lane_at}
use Rattle.fdp_flash.specs.declared.cell.Cell.{Cell}
use Rattle.fdp_flash.specs.declared.cell.Cell.TheVariants.{Blank}
use Rattle.fdp_flash.specs.Cells.{EraseMayLeave, IsBlankFrom}
use Rattle.fdp_flash.specs.FlashState.{FlashState}
use Rattle.fdp_flash.specs.Layout.{page_number}
use Rattle.fdp_flash.specs.Runs.{Runs}
use Rattle.fdp_flash.proofs.Pages.{same_outside_page}
use Rattle.fdp_flash.proofs.Runs.{runs_weakened}
use Rattle.fdp_owners.specs.declared.owner.Owner.{Owner}
use Rattle.fdp_owners.specs.OwnerTable.{OwnerTable, live_in, owner_at}
use Rattle.fdp_owners.proofs.Rows.{count-some}
use Rattle.fdp_owners.proofs.Tables.{live-most, owned-within}
use Rattle.fdp_passes.specs.declared.due.Due.TheVariants as due
use Rattle.fdp_passes.specs.declared.lane.Lane.{Lane}
use Rattle.fdp_passes.specs.Due.{HasNoLive, IsDue, IsEmptied, IsShort, next_in}
use Rattle.fdp_passes.specs.GroupPasses.{GroupPasses, IsLane, Pass, slot_of, target_at, with_unit_taken}
use Rattle.fdp_passes.specs.Room.{room_in, wanted_in}
use Rattle.fdp_passes.specs.Targets.{HasTarget, OpensPage, OpensTarget, TakesTarget, pass_in}
use Rattle.fdp_passes.proofs.Opened.{IsTargetUnit, opened-unit}
use Rattle.fdp_units.specs.declared.data_unit.DataUnit.{DataUnit}
use Rattle.fdp_units.specs.declared.state.UnitState.{UnitState}
use Rattle.fdp_units.specs.declared.state.UnitState.TheVariants.{Free, Referenced, Target, Closed, Retired, Aside}
use Rattle.fdp_units.specs.DataUnits.{is_closed, is_free, is_lost, turned}
use Rattle.fdp_units.specs.UnitTable.{Cut, IsUnit, IsVictim, UnitTable, cut_of, state_at, unit_at}

-- ---- the unit that is emptied

closed-is : (s : UnitState) → is_closed s ≡ true → s ≡ Closed
closed-is Free e = absurd cc
closed-is Referenced e = absurd cc
closed-is Target e = absurd cc
closed-is Closed e = refl
closed-is Retired e = absurd cc
closed-is Aside e = absurd cc

pub emptied-unit : (s : Relocation) (o : OwnerTable) (classes : List Class) (rg unit : ℕ) → IsReady s o classes rg → IsEmptied s.passes s.units rg unit → IsUnitOf s.units rg unit Closed
emptied-unit s o classes rg unit ready = cases s.passes.pass refl where
  cases : (p : Option Pass) → s.passes.pass ≡ p → MatchOption p (IsShort s.units rg × IsVictim s.units rg unit) (λ (pass : Pass). pass.victim ≡ unit) → IsUnitOf s.units rg unit Closed
  cases None is both = record { is_unit = both.1.candidate.is_unit; group = both.1.candidate.group; stands = closed-is (state_at s.units unit) both.1.candidate.closed }
  cases (Some pass) is same = subst (λ (u : ℕ). IsUnitOf s.units rg u Closed) same (ready.victim pass is)

pub emptied-unused : (s : Relocation) (o : OwnerTable) (classes : List Class) (rg unit : ℕ) → IsReady s o classes rg → IsUnit s.units unit → HasNoLive o unit 0 → (unit_at s.units unit).live ≡ 0
emptied-unused s o classes rg unit ready there none =
    let counted : (unit_at s.units unit).live ≡ live_in o unit = ready.live.counted unit there in
    let most : live_in o unit ≤ 0 = live-most o unit 0 (omega arith) none in
    omega (arith, counted, most)

pub unit-of-flash : (t : UnitTable) (g : Geometry) (unit : ℕ) → AreOfFlash t g → IsUnit t unit → unit < all_units g
unit-of-flash t g unit same there =
    let one : unit < g.groups * g.units = subst (λ (k : ℕ). unit < k * g.units) same.groups (subst (λ (k : ℕ). unit < length t.groups * k) same.group_units there) in
    omega (arith, one)

pub data-unit : (t : UnitTable) (g : Geometry) (unit : ℕ) → AreOfFlash t g → IsUnit t unit → unit < data_units g
data-unit t g unit same there = subst (λ (k : ℕ). unit < k * g.units) same.groups (subst (λ (k : ℕ). unit < length t.groups * k) same.group_units there)

-- ---- the page that is copied

-- a pass under way wants a page that is live: one at least
wanted-some : (o : OwnerTable) (pass : Pass) (page : ℕ) (x : Owner) (p : GroupPasses) → p.pass ≡ Some pass → pass.next ≤ page → owner_at o (record { unit = pass.victim; page = page }) ≡ Some x → 1 ≤ wanted_in p o
wanted-some o pass page x p is low owned =
    let within : page < o.unit_pages = owned-within o (record { unit = pass.victim; page = page }) x owned in
    let some : 1 ≤ wanted_in (record p { pass = Some pass }) o = count-some (λ k. is_some (owner_at o (record { unit = pass.victim; page = k }))) pass.next (o.unit_pages - pass.next) page low (omega (arith, low, within)) (ap is_some owned) in
    subst (λ (q : Option Pass). 1 ≤ wanted_in (record p { pass = q }) o) (sym is) some

-- a lane has a page for the copy of a live page
pub room-some : (s : Relocation) (o : OwnerTable) (classes : List Class) (rg : ℕ) (from : Spot) (x : Owner) → IsReady s o classes rg → IsDue s.passes s.units o rg (due.Copy from) → owner_at o from ≡ Some x → 1 ≤ room_in s.passes s.units (lane_at classes x)
room-some s o classes rg from x ready is owned = cases s.passes.pass refl is.0 is.1.behind where
  cases : (p : Option Pass) → s.passes.pass ≡ p → MatchOption p (IsShort s.units rg × IsVictim s.units rg from.unit) (λ (pass : Pass). pass.victim ≡ from.unit) → next_in (record s.passes { pass = p }) ≤ from.page → 1 ≤ room_in s.passes s.units (lane_at classes x)
  cases None none both low =
      let within : from.page < o.unit_pages = owned-within o from x owned in
      let some : 1 ≤ room_in (record s.passes { pass = None }) s.units (lane_at classes x) = omega (arith, within, ready.cut.owners) in
      subst (λ (q : Option Pass). 1 ≤ room_in (record s.passes { pass = q }) s.units (lane_at classes x)) (sym none) some
  cases (Some pass) under same low =
      let here : owner_at o (record { unit = pass.victim; page = from.page }) ≡ Some x = ap (λ (u : ℕ). owner_at o (record { unit = u; page = from.page })) same ∙ owned in
      let enough : wanted_in s.passes o ≤ room_in s.passes s.units (lane_at classes x) = ready.enough pass from.page x under low here in
      let some : 1 ≤ wanted_in s.passes o = wanted-some o pass from.page x s.passes under low here in
      omega (arith, enough, some)

-- ---- the page that was found for a copy

abbrev pub IsTaking : Relocation → Relocation → ℕ → ℕ → Lane → ℕ → Type 0
IsTaking s now rg victim lane unit = TakesTarget s.passes now.passes s.units now.units rg victim lane unit

abbrev pub IsHaving : Relocation → Relocation → ℕ → Lane → ℕ → Type 0
IsHaving s now victim lane unit = HasTarget s.passes now.passes s.units now.units victim lane unit

-- the pass that stands when a target is open: that under way, or the one that began
pub record HasPass (s now : Relocation) (victim : ℕ) : Type 0 where
  pub pass : Pass
  pub under_way : now.passes.pass ≡ Some pass
  pub same_victim : pass.victim ≡ (pass_in s.passes victim).victim
  pub same_next : pass.next ≡ (pass_in s.passes victim).next
  pub same_copies : pass.copies ≡ (pass_in s.passes victim).copies
  pub same_pages : now.passes.unit_pages ≡ s.passes.unit_pages

pub open-pass : (s now : Relocation) (rg victim : ℕ) (lane : Lane) (unit : ℕ) → OpensTarget s.passes now.passes s.units now.units rg victim lane unit → HasPass s now victim
open-pass s now rg victim lane unit = ⊎_elim
    (λ (h : IsHaving s now victim lane unit). record { pass = pass_in s.passes victim; under_way = ap (λ (p : GroupPasses). p.pass) h.passes; same_victim = refl; same_next = refl; same_copies = refl; same_pages = ap (λ (p : GroupPasses). p.unit_pages) h.passes })
    (λ (h : IsTaking s now rg victim lane unit). record { pass = with_unit_taken (pass_in s.passes victim); under_way = ap (λ (p : GroupPasses). p.pass) h.passes; same_victim = refl; same_next = refl; same_copies = refl; same_pages = ap (λ (p : GroupPasses). p.unit_pages) h.passes })

pub open-cut : (s now : Relocation) (rg victim : ℕ) (lane : Lane) (unit : ℕ) → OpensTarget s.passes now.passes s.units now.units rg victim lane unit → cut_of now.units ≡ cut_of s.units
open-cut s now rg victim lane unit = ⊎_elim
    (λ (h : IsHaving s now victim lane unit). ap cut_of h.units)
    (λ (h : IsTaking s now rg victim lane unit). h.taken.cut)

pub target-of : (s : Relocation) (o : OwnerTable) (classes : List Class) (rg : ℕ) (lane : Lane) → IsReady s o classes rg → IsTargetUnit s.passes s.units lane
target-of s o classes rg lane ready = cases (target_at s.passes lane) refl where
  cases : (t : Option ℕ) → target_at s.passes lane ≡ t → IfSome t (λ (unit : ℕ). IsUnit s.units unit × (state_at s.units unit ≡ Target))
  cases None e = _
  cases (Some unit) e = let h = ready.targets.targets (slot_of lane) unit e in (h.is_unit, h.stands)

-- a unit of the flash, free or a target, before it is open
pub record WasUnused (s : Relocation) (unit : ℕ) : Type 0 where
  pub is_unit : IsUnit s.units unit
  pub stands : (state_at s.units unit ≡ Target) ⊎ IsTrue (is_free (state_at s.units unit))

pub open-unit : (s now : Relocation) (rg victim : ℕ) (lane : Lane) (unit : ℕ) → IsTargetUnit s.passes s.units lane → OpensTarget s.passes now.passes s.units now.units rg victim lane unit → WasUnused s unit
open-unit s now rg victim lane unit is = ⊎_elim
    (λ (h : IsHaving s now victim lane unit).
    let own : IsUnit s.units unit × (state_at s.units unit ≡ Target) = subst (λ (t : Option ℕ). IfSome t (λ (u : ℕ). IsUnit s.units u × (state_at s.units u ≡ Target))) h.target is in
    record { is_unit = own.0; stands = inl own.1 })
    (λ (h : IsTaking s now rg victim lane unit). record { is_unit = h.free.is_free.is_unit; stands = inr h.free.is_free.free })

and-false : (b : Bool) → (b && false) ≡ false
and-false true = refl
and-false false = refl

pub open-next : (s now : Relocation) (rg victim : ℕ) (lane : Lane) (unit : ℕ) → OpensTarget s.passes now.passes s.units now.units rg victim lane unit → (unit_at now.units unit).next ≡ (unit_at s.units unit).next
open-next s now rg victim lane unit = ⊎_elim
    (λ (h : IsHaving s now victim lane unit). ap (λ (t : UnitTable). (unit_at t unit).next) h.units)
    (λ (h : IsTaking s now rg victim lane unit).
    let x : DataUnit = unit_at s.units unit in
    let turns : DataUnit = turned s.units.unit_pages Target x in
    ap (λ (units : ℕ → DataUnit). (units unit).next) h.taken.units
    ∙ ap (λ (b : Bool). (if b then turns else x).next) (eq-eqb unit unit refl)
    ∙ ap (λ (b : Bool). if b then s.units.unit_pages else x.next) (and-false (is_free x.state)))

closed-unfree : true ≡ is_free Closed → ⊥
closed-unfree e = cc

closed-untarget : Closed ≡ Target → ⊥
closed-untarget e = cc

-- a closed unit is as it was
pub open-closed : (s now : Relocation) (rg victim : ℕ) (lane : Lane) (unit other : ℕ) → OpensTarget s.passes now.passes s.units now.units rg victim lane unit → state_at s.units other ≡ Closed → state_at now.units other ≡ Closed
open-closed s now rg victim lane unit other opened closed = ⊎_elim
    (λ (h : IsHaving s now victim lane unit). ap (λ (t : UnitTable). state_at t other) h.units ∙ closed)
    (λ (h : IsTaking s now rg victim lane unit).
    let x : DataUnit = unit_at s.units unit in
    let apart : other ≢ unit = λ same. closed-unfree (sym h.free.is_free.free ∙ ap is_free (ap (state_at s.units) (sym same) ∙ closed)) in
    ap (λ (units : ℕ → DataUnit). (units other).state) h.taken.units
    ∙ ap (λ (b : Bool). (if b then turned s.units.unit_pages Target x else unit_at s.units other).state) (ne_eqb other unit apart)
    ∙ closed)
    opened

-- a page from the next one of its unit on has no owner
pub unused-unowned : (s : Relocation) (o : OwnerTable) (classes : List Class) (rg : ℕ) (to : Spot) → IsReady s o classes rg → to.page ≡ (unit_at s.units to.unit).next → owner_at o to ≡ None
unused-unowned s o classes rg to ready next = cases (owner_at o to) refl where
  cases : (x : Option Owner) → owner_at o to ≡ x → owner_at o to ≡ None
  cases None e = e
  cases (Some x) e =
      let used : to.page < (unit_at s.units to.unit).next = ready.live.used to (ap is_some e) in
      absurd (omega (arith, used, next))

pub copy-opened : (s now : Relocation) (o : OwnerTable) (classes : List Class) (rg : ℕ) (from to : Spot) (x : Owner) → IsReady s o classes rg → IsDue s.passes s.units o rg (due.Copy from) → owner_at o from ≡ Some x → IsLane (lane_at classes x)
    → OpensPage s.passes now.passes s.units now.units rg from.unit (lane_at classes x) to → IsOpen now o (lane_at classes x) from to
copy-opened s now o classes rg from to x ready is owned is_lane opened =
    let lane : Lane = lane_at classes x in
    let stands = emptied-unit s o classes rg from.unit ready is.0 in
    let cut : cut_of now.units ≡ cut_of s.units = open-cut s now rg from.unit lane to.unit opened.target in
    let pages : now.units.unit_pages ≡ s.units.unit_pages = ap (λ (k : Cut). k.unit_pages) cut in
    let count : length now.units.groups * now.units.group_units ≡ length s.units.groups * s.units.group_units = ap (λ (k : Cut). k.groups * k.group_units) cut in
    let pass = open-pass s now rg from.unit lane to.unit opened.target in
    let unit = open-unit s now rg from.unit lane to.unit (target-of s o classes rg lane ready) opened.target in
    let inside : from.page < o.unit_pages = owned-within o from x owned in
    let begins : (pass_in s.passes from.unit).victim ≡ from.unit = began s.passes.pass is.0 in
    let goes : (pass_in s.passes from.unit).next ≡ next_in s.passes = going s.passes.pass in
    let behind : next_in s.passes ≤ from.page = is.1.behind in
    record {
      cut = record {
        passes = pass.same_pages ∙ ready.cut.passes ∙ sym pages;
        owners = ready.cut.owners ∙ sym pages;
        pages = ready.cut.pages ∙ sym (ap (λ (k : Cut). k.groups * k.group_units * k.unit_pages) cut);
      };
      is_lane = is_lane;
      pass = pass.pass;
      under_way = pass.under_way;
      victim = pass.same_victim ∙ begins;
      order = omega (arith, pass.same_next, goes, behind);
      old_unit = omega (arith, count, stands.is_unit);
      closed = open-closed s now rg from.unit lane to.unit from.unit opened.target stands.stands;
      old_page = omega (arith, inside, ready.cut.owners, pages);
      target = opened.stands;
      new_unit = omega (arith, count, unit.is_unit);
      opened = opened-unit s.passes now.passes s.units now.units rg from.unit lane to.unit (target-of s o classes rg lane ready) opened.target;
      new_page = opened.within;
      unowned = unused-unowned s o classes rg to ready (opened.page ∙ open-next s now rg from.unit lane to.unit opened.target);
    } where
      began : (p : Option Pass) → MatchOption p (IsShort s.units rg × IsVictim s.units rg from.unit) (λ (pass : Pass). pass.victim ≡ from.unit) → (pass_in (record s.passes { pass = p }) from.unit).victim ≡ from.unit
      began None both = refl
      began (Some pass) same = same

      going : (p : Option Pass) → (pass_in (record s.passes { pass = p }) from.unit).next ≡ next_in (record s.passes { pass = p })
      going None = refl
      going (Some pass) = refl

-- a free unit is not lost
pub unlost : (state : UnitState) → IsTrue (is_free state) → is_lost state ≡ false
unlost Free e = refl
unlost Referenced e = refl
unlost Target e = refl
unlost Closed e = refl
unlost Retired e = absurd cc
unlost Aside e = absurd cc

pub copy-blank : (s now : Relocation) (o : OwnerTable) (classes : List Class) (rg : ℕ) (from to : Spot) (lane : Lane) (g : Geometry) (cells : List Cell) → IsReady s o classes rg
    → OpensPage s.passes now.passes s.units now.units rg from.unit lane to → IsBlankBehind g cells s.units → IsBlankFrom g cells to
copy-blank s now o classes rg from to lane g cells ready opened blank =
    let unit = open-unit s now rg from.unit lane to.unit (target-of s o classes rg lane ready) opened.target in
    let page : (unit_at s.units to.unit).next ≡ to.page = sym (opened.page ∙ open-next s now rg from.unit lane to.unit opened.target) in
    subst (λ (k : ℕ). IsBlankFrom g cells (record { unit = to.unit; page = k })) page (blank to.unit unit.is_unit (⊎_elim (λ (is : state_at s.units to.unit ≡ Target). ap is_lost is) (unlost (state_at s.units to.unit)) unit.stands))

-- the first of these pages is blank
pub first-blank : (g : Geometry) (cells : List Cell) (at : Spot) → at.page < g.unit_pages → IsBlankFrom g cells at → slice_get cells (page_number g at) ≡ Some Blank
first-blank g cells at within h = h.blank at.page (omega arith) within

-- the page of a copy was not used
pub copy-unused : (s now : Relocation) (o : OwnerTable) (classes : List Class) (rg : ℕ) (from to : Spot) (lane : Lane) → IsReady s o classes rg
    → OpensPage s.passes now.passes s.units now.units rg from.unit lane to → (unit_at s.units to.unit).next ≤ to.page
copy-unused s now o classes rg from to lane ready opened =
    let page : to.page ≡ (unit_at s.units to.unit).next = opened.page ∙ open-next s now rg from.unit lane to.unit opened.target in
    omega (arith, page)

-- ---- an erase

pub erase-keeps-live : (s : Relocation) (o : OwnerTable) (classes : List Class) (rg unit : ℕ) (g : Geometry) (cells image : List Cell) → IsReady s o classes rg → AreOfFlash s.units g → HasNoLive o unit 0 → EraseMayLeave g cells unit image → KeepsLive g o cells image
erase-keeps-live s o classes rg unit g cells image ready same none left spot live = cases (owner_at o spot) refl where
  other : (x : Owner) → owner_at o spot ≡ Some x → spot.unit ≢ unit
  other x e is = never (sym (none spot.page (omega arith)) ∙ ap (λ (u : ℕ). owner_at o (record { unit = u; page = spot.page })) (sym is) ∙ e) where
    never : None ≡ Some x → ⊥
    never e = cc

  cases : (y : Option Owner) → owner_at o spot ≡ y → slice_get image (page_number g spot) ≡ slice_get cells (page_number g spot)
  cases None e = absurd (no (sym (ap is_some e) ∙ live)) where
    no : false ≡ true → ⊥
    no e = cc
  cases (Some x) e =
      let within : spot.page < o.unit_pages = owned-within o spot x e in
      same_outside_page g unit cells image spot left.others (omega (arith, within, ready.cut.owners, same.unit_pages)) (other x e)

pub erase-run : (t : UnitTable) (o : OwnerTable) (may_erase : Bool) (unit : ℕ) (old new : FlashState) → IsTrue may_erase → IsUnit t unit → HasNoLive o unit 0
    → Runs old new (λ m image. EraseMayLeave old.geometry old.cells unit image) → Runs old new (λ m image. StepMayLeave may_erase old.geometry t o old.cells image)
erase-run t o may_erase unit old new may there none run =
    runs_weakened old new (λ m image. EraseMayLeave old.geometry old.cells unit image) (λ m image. StepMayLeave may_erase old.geometry t o old.cells image)
    run (λ told m image after before left. inr (inr (may, record { unit = unit; is_unit = there; empty = none; left = left })))
