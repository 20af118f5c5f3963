-- What joins the tables stands after a page that was used got an owner.
use Rattle.std.proofs.Common.{◌≡◌, ◌≢◌, ℕ, ◌<◌, List, Option, Some, ap, sym, ◌∙◌, subst, ⊎_elim, length}
use Rattle.std.specs.Prelude.{◌⊎◌, is_some}
use Rattle.fdp_base.specs.declared.config.Class.{Class}
use Rattle.fdp_base.specs.declared.entry.Spot.{Spot}
use Rattle.fdp_collector.specs.Ready.{AreLive, HaveLanes, lane_at}
use Rattle.fdp_owners.specs.declared.owner.Owner.{Owner}
use Rattle.fdp_owners.specs.OwnerTable.{OwnerTable, owner_at, with_owner}
use Rattle.fdp_pages.specs.Filling.{MayFill}
use Rattle.fdp_pages.specs.Joined.{AreJoined, IsRelocating}
use Rattle.fdp_pages.specs.PageTables.{PageTables, passes_at}
use Rattle.fdp_pages.specs.Steps.{HasSize, Recounts}
use Rattle.fdp_pages.proofs.Groups.{KeepsGroup, KeepsLanes, KeepsWays, copied-kept, gains-kept, is_filled, ready-kept, targeted-kept}
use Rattle.fdp_pages.proofs.Owning.{cut-kept, filled-kept, group-was, live-kept, next-kept, sound-kept, state-kept}
use Rattle.fdp_pages.proofs.Places.{IsFrom, never, no, same-from, some-is}
use Rattle.fdp_pages.proofs.Recounting.{put-cases}
use Rattle.fdp_passes.specs.GroupPasses.{Pass}
use Rattle.fdp_units.specs.declared.state.UnitState.TheVariants.{Referenced}
use Rattle.fdp_units.specs.UnitTable.{IsGroup, IsUnit, UnitTable, state_at, unit_at}

-- an owner that a page has now: the new one, or one that it had
abbrev pub IsNewOr : OwnerTable → Spot → Owner → Spot → Owner → Type 0
IsNewOr o spot x at y = ((at ≡ spot) × (x ≡ y)) ⊎ (owner_at o at ≡ Some y)

pub owner-now : (o now : OwnerTable) (spot at : Spot) (x y : Owner) → owner_at now ≡ with_owner (owner_at o) spot (Some x) → owner_at now at ≡ Some y → IsNewOr o spot x at y
owner-now o now spot at x y owners e = put-cases (owner_at o) spot at x y (sym (ap (λ (f : Spot → Option Owner). f at) owners) ∙ e)

-- a page that is not the new one has the owner that it had
pub owner-from : (o : OwnerTable) (spot at : Spot) (x y : Owner) → at ≢ spot → IsNewOr o spot x at y → IsFrom (owner_at o at) y
owner-from o spot at x y ne = ⊎_elim
    (λ (h : (at ≡ spot) × (x ≡ y)). absurd (ne h.0))
    (λ (h : owner_at o at ≡ Some y). same-from (owner_at o at) y h)

module _ (t : PageTables) (new : UnitTable) (now : OwnerTable) (spot : Spot) (x : Owner) (may : MayFill t spot x) (h : Recounts t.units new now) (size : HasSize t.owners now) (owners : owner_at now ≡ with_owner (owner_at t.owners) spot (Some x)) (was : AreJoined t) where
  abbrev classes : List Class
  classes = t.handles.classes

  is-now : (at : Spot) (y : Owner) → owner_at now at ≡ Some y → IsNewOr t.owners spot x at y
  is-now at y e = owner-now t.owners now spot at x y owners e

  away : (at : Spot) (y : Owner) → at.unit ≢ spot.unit → owner_at now at ≡ Some y → IsFrom (owner_at t.owners at) y
  away at y ne e = owner-from t.owners spot at x y (λ same. ne (ap (λ (s : Spot). s.unit) same)) (is-now at y e)

  live : AreLive new now
  live = live-kept t.units new t.owners now h was.live (λ at some. let y = some-is (owner_at now at) some in ⊎_elim
      (λ (is : (at ≡ spot) × (x ≡ y.0)). subst (λ (s : Spot). IsUnit t.units s.unit × (s.page < (unit_at t.units s.unit).next)) (sym is.0) (may.page.is_unit, may.page.used))
      (λ (is : owner_at t.owners at ≡ Some y.0). (was.live.there at (ap is_some is), was.live.used at (ap is_some is)))
      (is-now at y.0 y.1))

  -- live pages of the unit go the way of the owner
  ways : (at : Spot) (y : Owner) → at.unit ≡ spot.unit → IsNewOr t.owners spot x at y → lane_at classes y ≡ lane_at classes x
  ways at y same = ⊎_elim
      (λ (is : (at ≡ spot) × (x ≡ y)). ap (lane_at classes) (sym is.1))
      (λ (is : owner_at t.owners at ≡ Some y). may.goes.way at y same is)

  one-way : (at other : Spot) (y z : Owner) → at.unit ≡ other.unit → IsNewOr t.owners spot x at y → IsNewOr t.owners spot x other z → lane_at classes y ≡ lane_at classes z
  one-way at other y z same first second = ⊎_elim
      (λ (is : (at ≡ spot) × (x ≡ y)). ap (lane_at classes) (sym is.1) ∙ sym (ways other z (sym same ∙ ap (λ (s : Spot). s.unit) is.0) second))
      (λ (is : owner_at t.owners at ≡ Some y). ⊎_elim
      (λ (too : (other ≡ spot) × (x ≡ z)). ways at y (same ∙ ap (λ (s : Spot). s.unit) too.0) first ∙ ap (lane_at classes) too.1)
      (λ (too : owner_at t.owners other ≡ Some z). was.lanes.same at other y z same is too)
      second)
      first

  lanes : HaveLanes classes now
  lanes = record {
    few = was.lanes.few;
    handles = λ at y e. ⊎_elim
        (λ (is : (at ≡ spot) × (x ≡ y)). subst (λ (z : Owner). z.spare.ruh < length classes) is.1 may.goes.handle)
        (λ (is : owner_at t.owners at ≡ Some y). was.lanes.handles at y is)
        (is-now at y e);
    same = λ at other y z same e f. one-way at other y z same (is-now at y e) (is-now other z f);
  }

  -- the unit is not one that a handle fills
  unfilled : state_at t.units spot.unit ≡ Referenced → ⊥
  unfilled e = no (sym (ap is_filled e) ∙ may.page.stands)

  group : (rg : ℕ) → IsGroup t.units rg → KeepsGroup (passes_at t rg) t.units new t.owners now rg
  group rg is = record {
    cut = h.cut;
    size = size;
    states = λ unit group filled. state-kept t.units new now unit h;
    nexts = λ unit group filled. next-kept t.units new now unit h;
    owners = λ pass at y under same e. away at y (λ too. may.passes.victim rg pass is under (sym too ∙ same)) e;
  }

  keeps : (rg : ℕ) (pass : Pass) → IsGroup t.units rg → (passes_at t rg).pass ≡ Some pass → KeepsWays t.owners now classes pass
  keeps rg pass is under copy y z at in_copies owns owned same =
      let await = ((was.groups rg is).copied pass under).await copy y in_copies owns in
      ⊎_elim
      (λ (new_one : (at ≡ spot) × (x ≡ z)).
      let unit : copy.to.unit ≡ spot.unit = sym same ∙ ap (λ (s : Spot). s.unit) new_one.0 in (
        ap (lane_at classes) (sym new_one.1) ∙ sym (may.passes.way rg pass copy y is under in_copies owns unit),
        λ e. may.passes.apart rg pass copy y is under in_copies owns (sym e ∙ new_one.0),
      ))
      (λ (old : owner_at t.owners at ≡ Some z).
      (await.way at z same old, λ e. never z (sym await.unowned ∙ ap (owner_at t.owners) (sym e) ∙ old)))
      (is-now at z owned)

  keeps-lanes : (rg : ℕ) → IsGroup t.units rg → KeepsLanes (passes_at t rg) now classes
  keeps-lanes rg is u lane at y e same owned = ⊎_elim
      (λ (new_one : (at ≡ spot) × (x ≡ y)). ap (lane_at classes) (sym new_one.1) ∙ sym (may.goes.target rg lane is (e ∙ ap (λ (k : ℕ). Some k) (sym same ∙ ap (λ (s : Spot). s.unit) new_one.0))))
      (λ (old : owner_at t.owners at ≡ Some y). (was.groups rg is).targeted.own u lane at y e same old)
      (is-now at y owned)

  relocating : (rg : ℕ) → IsGroup t.units rg → IsRelocating (record { passes = passes_at t rg; units = new }) now classes rg
  relocating rg is = record {
    ready = ready-kept (passes_at t rg) t.units new t.owners now classes rg (group rg is) live lanes (was.groups rg is).ready;
    targeted = targeted-kept (passes_at t rg) t.units new t.owners now classes rg h.cut (λ unit stands. sym (state-kept t.units new now unit h) ∙ stands.stands) (keeps-lanes rg is) (was.groups rg is).targeted;
    copied = λ pass under. copied-kept (passes_at t rg) t.units new t.owners now classes rg pass (group rg is) under (keeps rg pass is under) ((was.groups rg is).copied pass under);
    gains = gains-kept (passes_at t rg) t.units new t.owners now classes rg (group rg is) live (was.groups rg is);
  }

  pub fill-joined : AreJoined (record t { units = new; owners = now })
  fill-joined = record {
    cut = cut-kept t new now h.cut size was.cut;
    sound = sound-kept t new now was h size live;
    live = live;
    lanes = lanes;
    filled = filled-kept t.handles t.units new t.owners now h was.filled (λ at y stands e. away at y (λ same. unfilled (ap (state_at t.units) (sym same) ∙ stands)) e);
    groups = λ rg is. relocating rg (group-was t.units new rg h.cut is);
  }
