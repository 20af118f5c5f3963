-- What joins the tables stands after owners changed.
use Rattle.std.proofs.Common.{◌≡◌, ℕ, ◌+◌, ◌*◌, ◌<◌, List, Some, refl, ap, sym, ◌∙◌, subst, arith, length}
use Rattle.std.specs.Prelude.{IsSome, is_some}
use Rattle.fdp_base.specs.declared.config.Class.{Class}
use Rattle.fdp_base.specs.declared.entry.Spot.{Spot}
use Rattle.fdp_base.specs.declared.spare.DataSpare.{DataSpare}
use Rattle.fdp_collector.specs.Ready.{AreLive, HaveLanes}
use Rattle.fdp_collector.proofs.Kept.{group-kept, unit-kept, unit-of-kept, unit-was}
use Rattle.fdp_handles.specs.HandleTable.{HandleTable, reference_at}
use Rattle.fdp_owners.specs.declared.owner.Owner.{Owner}
use Rattle.fdp_owners.specs.OwnerTable.{OwnerTable, owner_at}
use Rattle.fdp_pages.specs.Joined.{AreCutAlike, AreFilled, AreJoined, AreSized}
use Rattle.fdp_pages.specs.PageTables.{PageTables, passes_at}
use Rattle.fdp_pages.specs.Steps.{HasSize, Recounts}
use Rattle.fdp_pages.proofs.Fitting.{AreSound, fit-sound, recounts-fit, sound-fit}
use Rattle.fdp_pages.proofs.Groups.{LeavesGroups, group-left, pages-of}
use Rattle.fdp_pages.proofs.Places.{IsFrom, from-lane, some-is}
use Rattle.fdp_units.specs.declared.data_unit.DataUnit.{DataUnit}
use Rattle.fdp_units.specs.declared.state.UnitState.TheVariants.{Referenced}
use Rattle.fdp_units.specs.DataUnits.{is_free}
use Rattle.fdp_units.specs.UnitTable.{Cut, IsGroup, IsUnit, UnitTable, cut_of, group_in, state_at, unit_at}

-- the group of another table of one cut
pub group-was : (t new : UnitTable) (rg : ℕ) → cut_of new ≡ cut_of t → IsGroup new rg → IsGroup t rg
group-was t new rg cut is = subst (λ (k : Cut). rg < k.groups) cut is

pub sized-kept : (t new : UnitTable) (o now : OwnerTable) → cut_of new ≡ cut_of t → HasSize o now → AreSized t o → AreSized new now
sized-kept t new o now cut size h = record {
  unit_pages = size.unit_pages ∙ h.unit_pages ∙ sym (pages-of t new cut);
  pages = size.pages ∙ h.pages ∙ sym (ap (λ (c : Cut). c.groups * c.group_units * c.unit_pages) cut);
}

pub cut-kept : (t : PageTables) (new : UnitTable) (now : OwnerTable) → cut_of new ≡ cut_of t.units → HasSize t.owners now → AreCutAlike t → AreCutAlike (record t { units = new; owners = now })
cut-kept t new now cut size was =
    let groups : length new.groups ≡ length t.units.groups = ap (λ (c : Cut). c.groups) cut in
    let pages : new.unit_pages ≡ t.units.unit_pages = pages-of t.units new cut in
    record {
      passes = was.passes ∙ sym groups;
      groups = was.groups ∙ sym groups;
      unit_pages = was.unit_pages ∙ sym pages;
      owners = sized-kept t.units new t.owners now cut size was.owners;
      some_page = omega (arith, pages, was.some_page);
      some_handle = was.some_handle;
      few_handles = was.few_handles;
    }

-- ---- what a change of owners alone keeps

pub state-kept : (t new : UnitTable) (o : OwnerTable) (unit : ℕ) → Recounts t new o → state_at new unit ≡ state_at t unit
state-kept t new o unit h = ap (λ (x : DataUnit). x.state) (h.kept unit)

pub next-kept : (t new : UnitTable) (o : OwnerTable) (unit : ℕ) → Recounts t new o → (unit_at new unit).next ≡ (unit_at t unit).next
next-kept t new o unit h = ap (λ (x : DataUnit). x.next) (h.kept unit)

pub live-kept : (t new : UnitTable) (o now : OwnerTable) → Recounts t new now → AreLive t o → ((spot : Spot) → IsSome (owner_at now spot) → IsUnit t spot.unit × (spot.page < (unit_at t spot.unit).next)) → AreLive new now
live-kept t new o now h live there = record {
  there = λ spot some. unit-kept t new spot.unit h.cut (there spot some).0;
  used = λ spot some.
      let was : spot.page < (unit_at t spot.unit).next = (there spot some).1 in
      let next = next-kept t new now spot.unit h in
      omega (arith, next, was);
  counted = λ unit is. h.counted unit (unit-was t new unit h.cut is);
  unused = λ unit free. next-kept t new now unit h ∙ live.unused unit (ap is_free (sym (state-kept t new now unit h)) ∙ free);
}

-- units stay sound
pub sound-kept : (t : PageTables) (new : UnitTable) (now : OwnerTable) → AreJoined t → Recounts t.units new now → HasSize t.owners now → AreLive new now → AreSound new
sound-kept t new now was h size live =
    let cut = cut-kept t new now h.cut size was.cut in
    sound-fit new now cut.some_page cut.owners live (recounts-fit t.units new now h (fit-sound t.units was.sound))

-- handles stay, where the owners in the units that they fill are from before
pub filled-kept : (x : HandleTable) (t new : UnitTable) (o now : OwnerTable) → Recounts t new now → AreFilled x t o → ((spot : Spot) (y : Owner) → state_at t spot.unit ≡ Referenced → owner_at now spot ≡ Some y → IsFrom (owner_at o spot) y) → AreFilled x new now
filled-kept x t new o now h was from = record {
  whole = λ rg ruh e. was.whole rg ruh e ∙ sym (pages-of t new h.cut);
  fills = λ rg ruh u e.
      let old = was.fills rg ruh u e in
      let next = next-kept t new now u h in
      let total : (unit_at t u).next + (reference_at x rg ruh).left ≡ t.unit_pages = old.left in
      record {
        stands = unit-of-kept t new rg u Referenced h.cut old.stands (state-kept t new now u h);
        left = omega (arith, next, total, pages-of t new h.cut);
        some_left = old.some_left;
        own = λ spot y same owned.
            let f = from spot y (ap (state_at t) same ∙ old.stands.stands) owned in
            ap (λ (s : DataSpare). s.ruh) (sym f.spare) ∙ old.own spot f.owner same f.was;
      };
  apart = was.apart;
  filled = λ u is stands.
      let old = was.filled u (unit-was t new u h.cut is) (sym (state-kept t new now u h) ∙ stands) in
      (old.0, old.1, ap (λ (rg : ℕ). (reference_at x rg old.0).unit) (group-kept t new u (group_in t u) h.cut refl) ∙ old.2);
}

-- ---- owners that pages had before

abbrev pub AllFrom : OwnerTable → OwnerTable → Type 0
AllFrom o now = (spot : Spot) (x : Owner) → owner_at now spot ≡ Some x → IsFrom (owner_at o spot) x

from-live : (o now : OwnerTable) → AllFrom o now → (spot : Spot) → IsSome (owner_at now spot) → IsSome (owner_at o spot)
from-live o now from spot some = let x = some-is (owner_at now spot) some in ap is_some (from spot x.0 x.1).was

from-way : (classes : List Class) (o now : OwnerTable) → AllFrom o now → HaveLanes classes o → HaveLanes classes now
from-way classes o now from was = record {
  few = was.few;
  handles = λ spot x owned.
      let f = from spot x owned in
      subst (λ (s : DataSpare). s.ruh < length classes) f.spare (was.handles spot f.owner f.was);
  same = λ spot other x y e owned owns.
      let f = from spot x owned in
      let g = from other y owns in
      from-lane classes (owner_at o spot) x f ∙ was.same spot other f.owner g.owner e f.was g.was ∙ sym (from-lane classes (owner_at o other) y g);
}

pub from-joined : (t : PageTables) (new : UnitTable) (now : OwnerTable) → AreJoined t → Recounts t.units new now → HasSize t.owners now → AllFrom t.owners now → AreJoined (record t { units = new; owners = now })
from-joined t new now was h size from = record {
  cut = cut-kept t new now h.cut size was.cut;
  sound = sound-kept t new now was h size live;
  live = live;
  lanes = lanes;
  filled = filled-kept t.handles t.units new t.owners now h was.filled (λ spot x stands. from spot x);
  groups = λ rg is. group-left (passes_at t rg) t.units new t.owners now t.handles.classes rg leaves live lanes (was.groups rg (group-was t.units new rg h.cut is));
} where
  live : AreLive new now
  live = live-kept t.units new t.owners now h was.live (λ spot some. let old = from-live t.owners now from spot some in (was.live.there spot old, was.live.used spot old))

  lanes : HaveLanes t.handles.classes now
  lanes = from-way t.handles.classes t.owners now from was.lanes

  leaves : LeavesGroups t.units new t.owners now
  leaves = record {
    cut = h.cut;
    size = size;
    states = λ unit filled. state-kept t.units new now unit h;
    nexts = λ unit filled. next-kept t.units new now unit h;
    back = λ unit is. sym (state-kept t.units new now unit h) ∙ is;
    owners = λ spot y filled. from spot y;
  }
