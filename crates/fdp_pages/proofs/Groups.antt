-- What stands in a group stands where its targets and its closed units, with the owners in them, are as they were.
use Rattle.std.proofs.Common.{◌≡◌, ◌≢◌, ℕ, ◌*◌, ◌<◌, ◌≤◌, Bool, List, Some, None, refl, ap, sym, ◌∙◌, subst, arith}
use Rattle.std.specs.Prelude.{◌||◌, Contains, IsSome, IsTrue, is_some}
use Rattle.fdp_base.specs.declared.config.Class.{Class}
use Rattle.fdp_base.specs.declared.entry.Copied.{Copied}
use Rattle.fdp_base.specs.declared.entry.Spot.{Spot}
use Rattle.fdp_collector.specs.Ready.{AreLive, HaveLanes, IsReady, IsUnitOf, Relocation, lane_at}
use Rattle.fdp_collector.proofs.Kept.{group-kept, unit-kept, unit-of-kept}
use Rattle.fdp_owners.specs.declared.owner.Owner.{Owner}
use Rattle.fdp_owners.specs.OwnerTable.{OwnerTable, live_in, owner_at}
use Rattle.fdp_pages.specs.Joined.{AreCopied, AreTargeted, Awaits, FillTargets, IsCopyOf, IsRelocating}
use Rattle.fdp_pages.specs.Steps.{HasSize}
use Rattle.fdp_pages.proofs.Counts.{fewer-live, room-kept, wanted-fewer}
use Rattle.fdp_pages.proofs.Places.{IsFrom, from-lane, never, owner-cases, some-is}
use Rattle.fdp_passes.specs.declared.lane.Lane.{Lane}
use Rattle.fdp_passes.specs.GroupPasses.{GroupPasses, Pass, slot_of, target_at}
use Rattle.fdp_passes.specs.Room.{room_in, wanted_in}
use Rattle.fdp_units.specs.declared.state.UnitState.{UnitState}
use Rattle.fdp_units.specs.declared.state.UnitState.TheVariants.{Closed, Target}
use Rattle.fdp_units.specs.DataUnits.{is_closed, is_target}
use Rattle.fdp_units.specs.UnitTable.{Cut, UnitTable, cut_of, group_in, state_at, unit_at}

-- a target, or a closed unit
abbrev pub is_filled : UnitState → Bool
is_filled state = is_target state || is_closed state

-- the targets and the closed units of a group, and the owners in the unit that its pass empties
pub record KeepsGroup (p : GroupPasses) (t new : UnitTable) (o now : OwnerTable) (rg : ℕ) : Type 0 where
  pub cut : cut_of new ≡ cut_of t
  pub size : HasSize o now
  pub states : (unit : ℕ) → group_in t unit ≡ rg → IsTrue (is_filled (state_at t unit)) → state_at new unit ≡ state_at t unit
  pub nexts : (unit : ℕ) → group_in t unit ≡ rg → IsTrue (is_filled (state_at t unit)) → (unit_at new unit).next ≡ (unit_at t unit).next
  pub owners : (pass : Pass) (spot : Spot) (x : Owner) → p.pass ≡ Some pass → spot.unit ≡ pass.victim → owner_at now spot ≡ Some x → IsFrom (owner_at o spot) x

pub closed-filled : (t : UnitTable) (rg unit : ℕ) → IsUnitOf t rg unit Closed → IsTrue (is_filled (state_at t unit))
closed-filled t rg unit is = ap is_filled is.stands

pub target-filled : (t : UnitTable) (rg unit : ℕ) → IsUnitOf t rg unit Target → IsTrue (is_filled (state_at t unit))
target-filled t rg unit is = ap is_filled is.stands

pub pages-of : (t new : UnitTable) → cut_of new ≡ cut_of t → new.unit_pages ≡ t.unit_pages
pages-of t new cut = ap (λ (k : Cut). k.unit_pages) cut

-- ---- before a step of relocation

-- a live page of the victim was live
victim-live : (p : GroupPasses) (t new : UnitTable) (o now : OwnerTable) (rg : ℕ) → KeepsGroup p t new o now rg → (pass : Pass) (page : ℕ) → p.pass ≡ Some pass → IsSome (owner_at now (record { unit = pass.victim; page = page })) → IsSome (owner_at o (record { unit = pass.victim; page = page }))
victim-live p t new o now rg k pass page is live =
    let spot : Spot = record { unit = pass.victim; page = page } in
    let x = some-is (owner_at now spot) live in
    ap is_some (k.owners pass spot x.0 is refl x.1).was

pub ready-kept : (p : GroupPasses) (t new : UnitTable) (o now : OwnerTable) (classes : List Class) (rg : ℕ) → KeepsGroup p t new o now rg → AreLive new now → HaveLanes classes now → IsReady (record { passes = p; units = t }) o classes rg → IsReady (record { passes = p; units = new }) now classes rg
ready-kept p t new o now classes rg k live lanes ready = record {
  cut = record {
    passes = ready.cut.passes ∙ sym (pages-of t new k.cut);
    owners = k.size.unit_pages ∙ ready.cut.owners ∙ sym (pages-of t new k.cut);
    pages = k.size.pages ∙ ready.cut.pages ∙ sym (ap (λ (c : Cut). c.groups * c.group_units * c.unit_pages) k.cut);
  };
  victim = λ pass e. let was = ready.victim pass e in unit-of-kept t new rg pass.victim Closed k.cut was (k.states pass.victim was.group (closed-filled t rg pass.victim was));
  copied = λ pass page e low some. ready.copied pass page e low (victim-live p t new o now rg k pass page e some);
  targets = record {
    targets = λ slot unit e. let was = ready.targets.targets slot unit e in unit-of-kept t new rg unit Target k.cut was (k.states unit was.group (target-filled t rg unit was));
    apart = ready.targets.apart;
  };
  live = live;
  lanes = lanes;
  enough = λ pass page x e low owns.
      let spot : Spot = record { unit = pass.victim; page = page } in
      let f = k.owners pass spot x e refl owns in
      let lane : Lane = lane_at classes f.owner in
      let before : wanted_in p o ≤ room_in p t lane = ready.enough pass page f.owner e low f.was in
      let wanted : wanted_in p now ≤ wanted_in p o = wanted-fewer p o now k.size.unit_pages (λ q i is some. victim-live p t new o now rg k q i is some) in
      let room : room_in p new lane ≡ room_in p t lane = room-kept p t new lane (pages-of t new k.cut) (λ unit is. let own = ready.targets.targets (slot_of lane) unit is in k.nexts unit own.group (target-filled t rg unit own)) in
      subst (λ (l : Lane). wanted_in p now ≤ room_in p new l) (sym (from-lane classes (owner_at o spot) x f)) (omega (arith, before, wanted, room));
}

-- the unit that is emptied has no more live pages than before, and so a page that is not live
pub gains-kept : (p : GroupPasses) (t new : UnitTable) (o now : OwnerTable) (classes : List Class) (rg : ℕ) → KeepsGroup p t new o now rg → AreLive new now → IsRelocating (record { passes = p; units = t }) o classes rg → (pass : Pass) → p.pass ≡ Some pass → (unit_at new pass.victim).live < new.unit_pages
gains-kept p t new o now classes rg k live was pass under =
    let is = (was.ready.victim pass under).is_unit in
    let before : (unit_at t pass.victim).live < t.unit_pages = was.gains pass under in
    let counted : (unit_at t pass.victim).live ≡ live_in o pass.victim = was.ready.live.counted pass.victim is in
    let now_counted : (unit_at new pass.victim).live ≡ live_in now pass.victim = live.counted pass.victim (unit-kept t new pass.victim k.cut is) in
    let fewer : live_in now pass.victim ≤ live_in o pass.victim = fewer-live o now pass.victim k.size.unit_pages (λ page. victim-live p t new o now rg k pass page under) in
    omega (arith, before, counted, now_counted, fewer, pages-of t new k.cut)

-- ---- copies

-- where an owner waits for a copy, each live page of the new unit goes its way, and is not the page of the copy
abbrev pub KeepsWays : OwnerTable → OwnerTable → List Class → Pass → Type 0
KeepsWays o now classes pass = (copy : Copied) (x y : Owner) (spot : Spot) → Contains pass.copies copy → owner_at o copy.from ≡ Some x → owner_at now spot ≡ Some y → spot.unit ≡ copy.to.unit → (lane_at classes y ≡ lane_at classes x) × (spot ≢ copy.to)

pub copied-kept : (p : GroupPasses) (t new : UnitTable) (o now : OwnerTable) (classes : List Class) (rg : ℕ) (pass : Pass) → KeepsGroup p t new o now rg → p.pass ≡ Some pass → KeepsWays o now classes pass → AreCopied (record { passes = p; units = t }) o classes rg pass → AreCopied (record { passes = p; units = new }) now classes rg pass
copied-kept p t new o now classes rg pass k under ways h = record { lie = lies; ascend = h.ascend; differ = h.differ; filled = fill; await = awaits } where
  lies : (copy : Copied) → Contains pass.copies copy → IsCopyOf new rg pass copy
  lies copy in_copies =
      let was = h.lie copy in_copies in
      let next : (unit_at new copy.to.unit).next ≡ (unit_at t copy.to.unit).next = k.nexts copy.to.unit was.group was.stands in
      let used : copy.to.page < (unit_at t copy.to.unit).next = was.used in
      let within : (unit_at t copy.to.unit).next ≤ t.unit_pages = was.within in
      record {
        victim = was.victim;
        behind = was.behind;
        from_page = omega (arith, pages-of t new k.cut, was.from_page);
        is_unit = unit-kept t new copy.to.unit k.cut was.is_unit;
        group = group-kept t new copy.to.unit rg k.cut was.group;
        stands = ap is_filled (k.states copy.to.unit was.group was.stands) ∙ was.stands;
        apart = was.apart;
        used = omega (arith, next, used);
        within = omega (arith, next, within, pages-of t new k.cut);
      }

  fill : FillTargets (record { passes = p; units = new }) now classes pass
  fill = record {
    first = h.filled.first;
    last = h.filled.last;
    first_unit = h.filled.first_unit;
    last_unit = h.filled.last_unit;
    split = h.filled.split;
    first_lie = h.filled.first_lie;
    last_lie = h.filled.last_lie;
    one = h.filled.one;
    goes_on = λ page unit x owns target.
        let spot : Spot = record { unit = pass.victim; page = page } in
        let f = k.owners pass spot x under refl owns in
        h.filled.goes_on page unit f.owner f.was (ap (target_at p) (sym (from-lane classes (owner_at o spot) x f)) ∙ target);
  }

  awaits : (copy : Copied) (x : Owner) → Contains pass.copies copy → owner_at now copy.from ≡ Some x → Awaits (record { passes = p; units = new }) now classes copy x
  awaits copy x in_copies owns =
      let f = k.owners pass copy.from x under (h.lie copy in_copies).victim owns in
      let was = h.await copy f.owner in_copies f.was in
      let way : lane_at classes x ≡ lane_at classes f.owner = from-lane classes (owner_at o copy.from) x f in
      record {
        unowned = owner-cases (owner_at now copy.to ≡ None) (owner_at now copy.to) (λ e. e) (λ y e. absurd ((ways copy f.owner y copy.to in_copies f.was e refl).1 refl));
        way = λ spot y same owned. (ways copy f.owner y spot in_copies f.was owned same).0 ∙ sym way;
        target = λ lane e. was.target lane e ∙ sym way;
      }

-- so it is where the owners are from before
pub from-ways : (s : Relocation) (o now : OwnerTable) (classes : List Class) (rg : ℕ) (pass : Pass) → AreCopied s o classes rg pass → ((spot : Spot) (y : Owner) → IsTrue (is_filled (state_at s.units spot.unit)) → owner_at now spot ≡ Some y → IsFrom (owner_at o spot) y) → KeepsWays o now classes pass
from-ways s o now classes rg pass h from copy x y spot in_copies owns owned same =
    let lie = h.lie copy in_copies in
    let was = h.await copy x in_copies owns in
    let g = from spot y (subst (λ (u : ℕ). IsTrue (is_filled (state_at s.units u))) (sym same) lie.stands) owned in (
      from-lane classes (owner_at o spot) y g ∙ was.way spot g.owner same g.was,
      λ is. never g.owner (sym was.unowned ∙ ap (owner_at o) (sym is) ∙ g.was),
    )

-- ---- targets

-- each live page of a target goes the way of its lane
abbrev pub KeepsLanes : GroupPasses → OwnerTable → List Class → Type 0
KeepsLanes p now classes = (unit : ℕ) (lane : Lane) (spot : Spot) (x : Owner) → target_at p lane ≡ Some unit → spot.unit ≡ unit → owner_at now spot ≡ Some x → lane_at classes x ≡ lane

pub targeted-kept : (p : GroupPasses) (t new : UnitTable) (o now : OwnerTable) (classes : List Class) (rg : ℕ) → cut_of new ≡ cut_of t → ((unit : ℕ) → IsUnitOf new rg unit Target → state_at t unit ≡ Target) → KeepsLanes p now classes → AreTargeted (record { passes = p; units = t }) o classes rg → AreTargeted (record { passes = p; units = new }) now classes rg
targeted-kept p t new o now classes rg cut back own was = record {
  targeted = λ unit is. was.targeted unit (unit-of-kept new t rg unit Target (sym cut) is (back unit is ∙ sym is.stands));
  lanes = was.lanes;
  own = own;
}

pub from-lanes : (s : Relocation) (o now : OwnerTable) (classes : List Class) (rg : ℕ) → IsRelocating s o classes rg → ((spot : Spot) (y : Owner) → IsTrue (is_filled (state_at s.units spot.unit)) → owner_at now spot ≡ Some y → IsFrom (owner_at o spot) y) → KeepsLanes s.passes now classes
from-lanes s o now classes rg h from unit lane spot x target same owned =
    let stands = (h.ready.targets.targets (slot_of lane) unit target) in
    let f = from spot x (subst (λ (u : ℕ). IsTrue (is_filled (state_at s.units u))) (sym same) (target-filled s.units rg unit stands)) owned in
    from-lane classes (owner_at o spot) x f ∙ h.targeted.own unit lane spot f.owner target same f.was

-- ---- a group

-- no owner but one from before is in a target or a closed unit, and no unit became a target: all that stands in a group stands
pub record LeavesGroups (t new : UnitTable) (o now : OwnerTable) : Type 0 where
  pub cut : cut_of new ≡ cut_of t
  pub size : HasSize o now
  pub states : (unit : ℕ) → IsTrue (is_filled (state_at t unit)) → state_at new unit ≡ state_at t unit
  pub nexts : (unit : ℕ) → IsTrue (is_filled (state_at t unit)) → (unit_at new unit).next ≡ (unit_at t unit).next
  pub back : (unit : ℕ) → state_at new unit ≡ Target → state_at t unit ≡ Target
  pub owners : (spot : Spot) (y : Owner) → IsTrue (is_filled (state_at t spot.unit)) → owner_at now spot ≡ Some y → IsFrom (owner_at o spot) y

pub group-left : (p : GroupPasses) (t new : UnitTable) (o now : OwnerTable) (classes : List Class) (rg : ℕ) → LeavesGroups t new o now → AreLive new now → HaveLanes classes now → IsRelocating (record { passes = p; units = t }) o classes rg → IsRelocating (record { passes = p; units = new }) now classes rg
group-left p t new o now classes rg h live lanes was = record {
  ready = ready-kept p t new o now classes rg keeps live lanes was.ready;
  targeted = targeted-kept p t new o now classes rg h.cut (λ unit is. h.back unit is.stands) (from-lanes (record { passes = p; units = t }) o now classes rg was h.owners) was.targeted;
  copied = λ pass under. copied-kept p t new o now classes rg pass keeps under (from-ways (record { passes = p; units = t }) o now classes rg pass (was.copied pass under) h.owners) (was.copied pass under);
  gains = gains-kept p t new o now classes rg keeps live was;
} where
  keeps : KeepsGroup p t new o now rg
  keeps = record {
    cut = h.cut;
    size = h.size;
    states = λ unit group. h.states unit;
    nexts = λ unit group. h.nexts unit;
    owners = λ pass spot x under same. h.owners spot x (subst (λ (u : ℕ). IsTrue (is_filled (state_at t u))) (sym same) (closed-filled t rg pass.victim (was.ready.victim pass under)));
  }
