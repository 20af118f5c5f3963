-- What joins the tables stands after a handle used a page of its unit.
use Rattle.std.proofs.Common.{◌≡◌, ◌≢◌, ℕ, ◌+◌, ◌-◌, ◌<◌, ◌≤◌, Bool, true, false, List, [], Some, None, refl, ap, sym, ◌∙◌, subst, arith, ⊎_elim, inl, inr, length}
use Rattle.std.specs.Prelude.{◌||◌, IsTrue, is_some, nat_lt, slice_index_or, if◌then◌else◌}
use Rattle.std.proofs.lemmas.Bool.{cases_eq, ltb-false, ltb-true}
use Rattle.fdp_base.specs.declared.config.Class.{Class}
use Rattle.fdp_base.specs.declared.config.Class.TheVariants.{Initial}
use Rattle.fdp_base.specs.declared.config.DriveConfig.{DriveConfig}
use Rattle.fdp_base.specs.declared.entry.Spot.{Spot}
use Rattle.fdp_collector.specs.Ready.{AreLive, HaveLanes, lane_at}
use Rattle.fdp_collector.proofs.Kept.{changed-here, changed-other, live-ended, unit-kept}
use Rattle.fdp_handles.specs.HandleTable.{HandleTable, reference_at}
use Rattle.fdp_owners.specs.declared.owner.Owner.{Owner}
use Rattle.fdp_owners.specs.OwnerTable.{IsPlace, OwnerTable, live_in, one_more, owner_at, with_owner}
use Rattle.fdp_pages.specs.Joined.{AreFilled, AreJoined, IsRelocating}
use Rattle.fdp_pages.specs.PageTables.{PageTables, left_of, passes_at, unit_of}
use Rattle.fdp_pages.specs.Steps.{HasSize, MayPut, Refers, closed_after, taken}
use Rattle.fdp_pages.proofs.Filling.{IsNewOr, owner-now}
use Rattle.fdp_pages.proofs.Fitting.{AreFit, FitsIn, change-fit, fit-sound, sound-fit}
use Rattle.fdp_pages.proofs.Groups.{LeavesGroups, group-left, is_filled}
use Rattle.fdp_pages.proofs.Handled.{GoesOn, handled-filled}
use Rattle.fdp_pages.proofs.Next.{IsNextPage, next-page, referenced-or}
use Rattle.fdp_pages.proofs.Owning.{cut-kept, group-was, live-kept}
use Rattle.fdp_pages.proofs.Places.{no, one, place-there, same-from, some-is}
use Rattle.fdp_pages.proofs.Recounting.{raised-recounts, room-for-one, unused-none}
use Rattle.fdp_pages.proofs.Used.{changes-twice, used-state}
use Rattle.fdp_passes.specs.GroupPasses.{lane_of}
use Rattle.fdp_rules.specs.Change.{one_less}
use Rattle.fdp_rules.specs.Effect.{no_reference}
use Rattle.fdp_rules.specs.PlainState.{Reference}
use Rattle.fdp_units.specs.declared.data_unit.DataUnit.{DataUnit}
use Rattle.fdp_units.specs.declared.state.UnitState.{UnitState}
use Rattle.fdp_units.specs.declared.state.UnitState.TheVariants.{Free, Referenced, Target, Closed, Retired, Aside}
use Rattle.fdp_units.specs.DataUnits.{is_free, is_open, is_referenced, raised, used}
use Rattle.fdp_units.specs.UnitTable.{Changes, IsUnit, UnitTable, is_worn_at, state_at, unit_at}

-- a configuration with units of so many pages
abbrev pub config-of : ℕ → DriveConfig
config-of pages = record {
  block = 0;
  unit_pages = pages;
  groups = 0;
  units = 0;
  area_units = 0;
  queues = 0;
  blocks_per_command = 0;
  fdp = [];
  enabled = false;
  index = 0;
  namespaces = [];
  queue_depth = 0;
  collectors = 0;
  turns = 0;
}

-- ---- units

-- a unit that a handle may use is neither a target nor closed
unfilled : (s : UnitState) → IsTrue (is_free s || is_referenced s) → IsTrue (is_filled s) → ⊥
unfilled Free e f = no f
unfilled Referenced e f = no f
unfilled Target e f = no e
unfilled Closed e f = no e
unfilled Retired e f = no e
unfilled Aside e f = no e

-- all else stands in each group where one such unit became a referenced or a closed one, and owners changed in it alone
pub leaves-groups : (t : PageTables) (rg ruh : ℕ) (spot : Spot) (new : UnitTable) (now : OwnerTable) (y : DataUnit) → IsNextPage t rg ruh spot → Changes t.units new spot.unit y → (y.state ≡ Target → ⊥) → HasSize t.owners now → ((at : Spot) (z : Owner) → at.unit ≢ spot.unit → owner_at now at ≡ Some z → owner_at t.owners at ≡ Some z) → LeavesGroups t.units new t.owners now
leaves-groups t rg ruh spot new now y is change apart size others = record {
  cut = change.cut;
  size = size;
  states = λ unit filled. ap (λ (x : DataUnit). x.state) (changed-other t.units new spot.unit unit y change (ne unit filled));
  nexts = λ unit filled. ap (λ (x : DataUnit). x.next) (changed-other t.units new spot.unit unit y change (ne unit filled));
  back = λ unit stands. ⊎_elim
      (λ (same : unit ≡ spot.unit). absurd (apart (sym (ap (λ (x : DataUnit). x.state) (changed-here t.units new spot.unit y change)) ∙ ap (state_at new) (sym same) ∙ stands)))
      (λ (other : unit ≢ spot.unit). ap (λ (x : DataUnit). x.state) (sym (changed-other t.units new spot.unit unit y change other)) ∙ stands)
      (cases_eq unit spot.unit);
  owners = λ at z filled owned. same-from (owner_at t.owners at) z (others at z (ne at.unit filled) owned);
} where
  ne : (unit : ℕ) → IsTrue (is_filled (state_at t.units unit)) → unit ≢ spot.unit
  ne unit filled same = unfilled (state_at t.units spot.unit) is.state (ap (λ (u : ℕ). is_filled (state_at t.units u)) (sym same) ∙ filled)

-- ---- how a handle goes on

-- after a page was programmed
pub placed-on : (t : PageTables) (rg ruh : ℕ) (spot : Spot) → IsNextPage t rg ruh spot → (pages : ℕ) → pages ≡ t.units.unit_pages → GoesOn t.units.unit_pages spot.unit (raised (used t.units.unit_pages (taken (unit_at t.units spot.unit)))) (one_less (config-of pages) spot.unit (reference_at t.handles rg ruh))
placed-on t rg ruh spot is pages same = how (nat_lt 1 (left_of t rg ruh)) refl where
  more : 1 < left_of t rg ruh → ((used t.units.unit_pages (taken (unit_at t.units spot.unit))).state ≡ Referenced) × ((unit_at t.units spot.unit).next + 1 < t.units.unit_pages)
  more low = ⊎_elim
      (λ (h : ((used t.units.unit_pages (taken (unit_at t.units spot.unit))).state ≡ Referenced) × ((unit_at t.units spot.unit).next + 1 < t.units.unit_pages)). h)
      (λ (h : ((used t.units.unit_pages (taken (unit_at t.units spot.unit))).state ≡ Closed) × (t.units.unit_pages ≤ (unit_at t.units spot.unit).next + 1)). absurd (omega (arith, low, h.1, is.left)))
      (used-state t.units.unit_pages (unit_at t.units spot.unit) is.state)

  last : left_of t rg ruh ≤ 1 → (used t.units.unit_pages (taken (unit_at t.units spot.unit))).state ≡ Closed
  last low = ⊎_elim
      (λ (h : ((used t.units.unit_pages (taken (unit_at t.units spot.unit))).state ≡ Referenced) × ((unit_at t.units spot.unit).next + 1 < t.units.unit_pages)). absurd (omega (arith, low, h.1, is.left)))
      (λ (h : ((used t.units.unit_pages (taken (unit_at t.units spot.unit))).state ≡ Closed) × (t.units.unit_pages ≤ (unit_at t.units spot.unit).next + 1)). h.0)
      (used-state t.units.unit_pages (unit_at t.units spot.unit) is.state)

  how : (b : Bool) → nat_lt 1 (left_of t rg ruh) ≡ b → GoesOn t.units.unit_pages spot.unit (raised (used t.units.unit_pages (taken (unit_at t.units spot.unit)))) (one_less (config-of pages) spot.unit (reference_at t.handles rg ruh))
  how true e =
      let low : 1 < left_of t rg ruh = ltb-true 1 (left_of t rg ruh) e in
      let r : one_less (config-of pages) spot.unit (reference_at t.handles rg ruh) ≡ record { unit = Some spot.unit; left = left_of t rg ruh - 1 } =
      ap (λ (b : Bool). if b then (record { unit = Some spot.unit; left = left_of t rg ruh - 1 }) else no_reference (config-of pages)) e in
      let left : (one_less (config-of pages) spot.unit (reference_at t.handles rg ruh)).left ≡ left_of t rg ruh - 1 = ap (λ (z : Reference). z.left) r in
      inl (record {
        own = ap (λ (z : Reference). z.unit) r;
        state = (more low).0;
        left = omega (arith, left, low, is.left);
        some_left = omega (arith, left, low);
      })
  how false e =
      let low : left_of t rg ruh ≤ 1 = ltb-false 1 (left_of t rg ruh) e in
      let r : one_less (config-of pages) spot.unit (reference_at t.handles rg ruh) ≡ no_reference (config-of pages) =
      ap (λ (b : Bool). if b then (record { unit = Some spot.unit; left = left_of t rg ruh - 1 }) else no_reference (config-of pages)) e in
      inr (record {
        none = ap (λ (z : Reference). z.unit) r;
        whole = ap (λ (z : Reference). z.left) r ∙ same;
        state = last low;
      })

-- ---- what joins the tables

-- data of one handle goes one way
handle-lane : (classes : List Class) (x y : Owner) → x.spare.ruh ≡ y.spare.ruh → lane_at classes x ≡ lane_at classes y
handle-lane classes x y same = ap (λ (k : ℕ). lane_of (slice_index_or classes k Initial) k) same

-- the handles are others, with as many groups, pages and classes
pub record SameCut (h now : HandleTable) : Type 0 where
  pub unit_pages : now.unit_pages ≡ h.unit_pages
  pub groups : now.groups ≡ h.groups
  pub classes : now.classes ≡ h.classes

pub refers-cut : (h now : HandleTable) (rg ruh : ℕ) (becomes : DriveConfig → Reference) → Refers h now rg ruh becomes → SameCut h now
refers-cut h now rg ruh becomes r = record {
  unit_pages = ap (λ (x : HandleTable). x.unit_pages) r.rest;
  groups = ap (λ (x : HandleTable). x.groups) r.rest;
  classes = ap (λ (x : HandleTable). x.classes) r.rest;
}

pub handled-joined : (t : PageTables) (x : HandleTable) (new : UnitTable) (now : OwnerTable) → SameCut t.handles x → AreJoined t → HasSize t.owners now → AreFit new → AreLive new now → HaveLanes t.handles.classes now → AreFilled x new now → LeavesGroups t.units new t.owners now → AreJoined (record t { handles = x; units = new; owners = now })
handled-joined t x new now same was size fit live lanes filled leaves = record {
  cut = let cut = cut-kept t new now leaves.cut size was.cut in record {
    passes = cut.passes;
    groups = same.groups ∙ cut.groups;
    unit_pages = same.unit_pages ∙ cut.unit_pages;
    owners = cut.owners;
    some_page = cut.some_page;
    some_handle = subst (λ (c : List Class). 1 ≤ length c) (sym same.classes) cut.some_handle;
    few_handles = subst (λ (c : List Class). length c ≤ 16) (sym same.classes) cut.few_handles;
  };
  sound = let cut = cut-kept t new now leaves.cut size was.cut in sound-fit new now cut.some_page cut.owners live fit;
  live = live;
  lanes = subst (λ (c : List Class). HaveLanes c now) (sym same.classes) lanes;
  filled = filled;
  groups = λ rg is. subst (λ (c : List Class). IsRelocating (record { passes = passes_at t rg; units = new }) now c rg) (sym same.classes)
      (group-left (passes_at t rg) t.units new t.owners now t.handles.classes rg leaves live lanes (was.groups rg (group-was t.units new rg leaves.cut is)));
}

-- ---- a page is programmed

used-unfree : (t : PageTables) (rg ruh : ℕ) (spot : Spot) → IsNextPage t rg ruh spot → is_free (used t.units.unit_pages (taken (unit_at t.units spot.unit))).state ≡ true → ⊥
used-unfree t rg ruh spot is free = ⊎_elim
    (λ (h : ((used t.units.unit_pages (taken (unit_at t.units spot.unit))).state ≡ Referenced) × ((unit_at t.units spot.unit).next + 1 < t.units.unit_pages)). no (sym (ap is_free h.0) ∙ free))
    (λ (h : ((used t.units.unit_pages (taken (unit_at t.units spot.unit))).state ≡ Closed) × (t.units.unit_pages ≤ (unit_at t.units spot.unit).next + 1)). no (sym (ap is_free h.0) ∙ free))
    (used-state t.units.unit_pages (unit_at t.units spot.unit) is.state)

used-fits : (t : PageTables) (rg ruh : ℕ) (spot : Spot) → IsNextPage t rg ruh spot → FitsIn t.units.unit_pages (raised (used t.units.unit_pages (taken (unit_at t.units spot.unit))))
used-fits t rg ruh spot is =
    let left : (unit_at t.units spot.unit).next + left_of t rg ruh ≡ t.units.unit_pages = is.left in
    let some : 1 ≤ left_of t rg ruh = is.some_left in
    record {
      within = omega (arith, left, some);
      room = λ e. ⊎_elim
          (λ (h : ((used t.units.unit_pages (taken (unit_at t.units spot.unit))).state ≡ Referenced) × ((unit_at t.units spot.unit).next + 1 < t.units.unit_pages)). h.1)
          (λ (h : ((used t.units.unit_pages (taken (unit_at t.units spot.unit))).state ≡ Closed) × (t.units.unit_pages ≤ (unit_at t.units spot.unit).next + 1)). absurd (no (sym (ap (λ (s : UnitState). is_free s || is_open s) h.0) ∙ e)))
          (used-state t.units.unit_pages (unit_at t.units spot.unit) is.state);
    }

used-untarget : (t : PageTables) (rg ruh : ℕ) (spot : Spot) → IsNextPage t rg ruh spot → (used t.units.unit_pages (taken (unit_at t.units spot.unit))).state ≡ Target → ⊥
used-untarget t rg ruh spot is e = ⊎_elim
    (λ (h : ((used t.units.unit_pages (taken (unit_at t.units spot.unit))).state ≡ Referenced) × ((unit_at t.units spot.unit).next + 1 < t.units.unit_pages)). apart (sym h.0 ∙ e))
    (λ (h : ((used t.units.unit_pages (taken (unit_at t.units spot.unit))).state ≡ Closed) × (t.units.unit_pages ≤ (unit_at t.units spot.unit).next + 1)). apart-closed (sym h.0 ∙ e))
    (used-state t.units.unit_pages (unit_at t.units spot.unit) is.state) where
      apart : Referenced ≡ Target → ⊥
      apart e = cc

      apart-closed : Closed ≡ Target → ⊥
      apart-closed e = cc

pub used-live : (t : PageTables) (rg ruh : ℕ) (spot : Spot) (middle : UnitTable) → AreJoined t → IsNextPage t rg ruh spot → Changes t.units middle spot.unit (used t.units.unit_pages (taken (unit_at t.units spot.unit))) → AreLive middle t.owners
used-live t rg ruh spot middle was is uses = live-ended t.units middle t.owners spot.unit (used t.units.unit_pages (taken (unit_at t.units spot.unit))) was.live uses (record {
  live = refl;
  used = λ page some. let below : page < (unit_at t.units spot.unit).next = was.live.used (record { unit = spot.unit; page = page }) some in omega (arith, below);
  unused = λ free. absurd (used-unfree t rg ruh spot is free);
})

pub put-page : (t : PageTables) (rg ruh : ℕ) (spot : Spot) → AreJoined t → IsNextPage t rg ruh spot → IsPlace t.owners spot
put-page t rg ruh spot was is =
    let page : spot.page ≡ (unit_at t.units spot.unit).next = is.page in
    let left : (unit_at t.units spot.unit).next + left_of t rg ruh ≡ t.units.unit_pages = is.left in
    let some : 1 ≤ left_of t rg ruh = is.some_left in
    place-there t.units t.owners spot was.cut.owners is.is_unit (omega (arith, page, left, some))

pub put-unowned : (t : PageTables) (rg ruh : ℕ) (spot : Spot) → AreJoined t → IsNextPage t rg ruh spot → owner_at t.owners spot ≡ None
put-unowned t rg ruh spot was is = unused-none t.units t.owners spot.unit was.live spot.page (omega (arith, is.page))

pub put-room : (t : PageTables) (rg ruh : ℕ) (spot : Spot) (middle : UnitTable) → AreJoined t → IsNextPage t rg ruh spot → Changes t.units middle spot.unit (used t.units.unit_pages (taken (unit_at t.units spot.unit))) → (unit_at middle spot.unit).live < (unit_at middle spot.unit).next
put-room t rg ruh spot middle was is uses =
    let next : (unit_at middle spot.unit).next ≡ (unit_at t.units spot.unit).next + 1 = ap (λ (z : DataUnit). z.next) (changed-here t.units middle spot.unit _ uses) in
    let page : spot.page ≡ (unit_at t.units spot.unit).next = is.page in
    let left : (unit_at t.units spot.unit).next + left_of t rg ruh ≡ t.units.unit_pages = is.left in
    let some : 1 ≤ left_of t rg ruh = is.some_left in
    let pages : t.owners.unit_pages ≡ t.units.unit_pages = was.cut.owners.unit_pages in
    room-for-one middle t.owners spot (used-live t rg ruh spot middle was is uses) (unit-kept t.units middle spot.unit uses.cut is.is_unit) (omega (arith, next, left, some, pages)) (omega (arith, next, page)) (put-unowned t rg ruh spot was is)

module _ (t : PageTables) (was : AreJoined t) (rg ruh : ℕ) (spot : Spot) (owner : Owner) (may : MayPut t rg ruh spot) (names : owner.spare.ruh ≡ ruh) (middle new : UnitTable) (now : OwnerTable) (x : HandleTable) (uses : Changes t.units middle spot.unit (used t.units.unit_pages (taken (unit_at t.units spot.unit)))) (raises : Changes middle new spot.unit (raised (unit_at middle spot.unit))) (worn : is_worn_at new ≡ is_worn_at middle) (owners : owner_at now ≡ with_owner (owner_at t.owners) spot (Some owner)) (counts : live_in now ≡ one_more (live_in t.owners) spot.unit) (size : HasSize t.owners now) (refers : Refers t.handles x rg ruh (λ c. one_less c spot.unit (reference_at t.handles rg ruh))) where
  abbrev is : IsNextPage t rg ruh spot
  is = next-page t rg ruh spot was may

  abbrev y : DataUnit
  y = used t.units.unit_pages (taken (unit_at t.units spot.unit))

  pub put-change : Changes t.units new spot.unit (raised y)
  put-change = changes-twice t.units middle new spot.unit _ _ uses (subst (λ (z : DataUnit). Changes middle new spot.unit z) (ap raised (changed-here t.units middle spot.unit _ uses)) raises)

  is-now : (at : Spot) (z : Owner) → owner_at now at ≡ Some z → IsNewOr t.owners spot owner at z
  is-now at z e = owner-now t.owners now spot at owner z owners e

  own : (at : Spot) (z : Owner) → at.unit ≡ spot.unit → owner_at now at ≡ Some z → z.spare.ruh ≡ ruh
  own at z same e = ⊎_elim
      (λ (h : (at ≡ spot) × (owner ≡ z)). ap (λ (k : Owner). k.spare.ruh) (sym h.1) ∙ names)
      (λ (h : owner_at t.owners at ≡ Some z). is.own at z same h)
      (is-now at z e)

  others : (at : Spot) (z : Owner) → at.unit ≢ spot.unit → owner_at now at ≡ Some z → owner_at t.owners at ≡ Some z
  others at z ne e = ⊎_elim
      (λ (h : (at ≡ spot) × (owner ≡ z)). absurd (ne (ap (λ (s : Spot). s.unit) h.0)))
      (λ (h : owner_at t.owners at ≡ Some z). h)
      (is-now at z e)

  untarget : y.state ≡ Target → ⊥
  untarget e = used-untarget t rg ruh spot is e

  live : AreLive new now
  live = live-kept middle new t.owners now (raised-recounts middle new t.owners now spot.unit (used-live t rg ruh spot middle was is uses) (unit-kept t.units middle spot.unit uses.cut is.is_unit) raises worn counts) (used-live t rg ruh spot middle was is uses) (λ at some.
      let z = some-is (owner_at now at) some in ⊎_elim
      (λ (h : (at ≡ spot) × (owner ≡ z.0)). subst (λ (s : Spot). IsUnit middle s.unit × (s.page < (unit_at middle s.unit).next)) (sym h.0) (unit-kept t.units middle spot.unit uses.cut is.is_unit, below))
      (λ (h : owner_at t.owners at ≡ Some z.0). ((used-live t rg ruh spot middle was is uses).there at (ap is_some h), (used-live t rg ruh spot middle was is uses).used at (ap is_some h)))
      (is-now at z.0 z.1)) where
        below : spot.page < (unit_at middle spot.unit).next
        below =
            let next : (unit_at middle spot.unit).next ≡ (unit_at t.units spot.unit).next + 1 = ap (λ (z : DataUnit). z.next) (changed-here t.units middle spot.unit _ uses) in
            omega (arith, next, is.page)

  lanes : HaveLanes t.handles.classes now
  lanes = record {
    few = was.lanes.few;
    handles = λ at z e. ⊎_elim
        (λ (h : (at ≡ spot) × (owner ≡ z)).
        let low : ruh < length t.handles.classes = may.handle in
        let same : z.spare.ruh ≡ ruh = ap (λ (k : Owner). k.spare.ruh) (sym h.1) ∙ names in
        subst (λ (k : ℕ). k < length t.handles.classes) (sym same) low)
        (λ (h : owner_at t.owners at ≡ Some z). was.lanes.handles at z h)
        (is-now at z e);
    same = λ at other z w unit e f. ⊎_elim
        (λ (here : at.unit ≡ spot.unit). handle-lane t.handles.classes z w (own at z here e ∙ sym (own other w (sym unit ∙ here) f)))
        (λ (ne : at.unit ≢ spot.unit). was.lanes.same at other z w unit (others at z ne e) (others other w (λ too. ne (unit ∙ too)) f))
        (cases_eq at.unit spot.unit);
  }

  goes : GoesOn t.units.unit_pages spot.unit (raised y) (one_less (config-of t.handles.unit_pages) spot.unit (reference_at t.handles rg ruh))
  goes = placed-on t rg ruh spot is t.handles.unit_pages was.cut.unit_pages

  pub put-joined : AreJoined (record t { handles = x; units = new; owners = now })
  put-joined = handled-joined t x new now (refers-cut t.handles x rg ruh _ refers) was size (change-fit t.units new spot.unit (raised y) put-change (used-fits t rg ruh spot is) (fit-sound t.units was.sound)) live lanes
      (handled-filled t was rg ruh spot is may.handle x new now (raised y) (one_less (config-of t.handles.unit_pages) spot.unit (reference_at t.handles rg ruh)) (refers-cut t.handles x rg ruh _ refers).classes (refers.references (config-of t.handles.unit_pages) refl) put-change goes own others)
      (leaves-groups t rg ruh spot new now (raised y) is put-change untarget size others)

-- ---- the unit of a handle is closed

closed-untarget : (y : DataUnit) → y.state ≡ Closed → y.state ≡ Target → ⊥
closed-untarget y closed e = apart (sym closed ∙ e) where
  apart : Closed ≡ Target → ⊥
  apart e = cc

closed-free : (y : DataUnit) → y.state ≡ Closed → IsTrue (is_free y.state) → ⊥
closed-free y closed free = no (sym (ap is_free closed) ∙ free)

closed-full : (y : DataUnit) → y.state ≡ Closed → IsTrue (is_free y.state || is_open y.state) → ⊥
closed-full y closed e = no (sym (ap (λ (s : UnitState). is_free s || is_open s) closed) ∙ e)

-- a unit of so many pages becomes a closed one, with no fewer pages used
pub record BecomesClosed (pages : ℕ) (x y : DataUnit) : Type 0 where
  pub within : y.next ≤ pages
  pub closed : y.state ≡ Closed
  pub live : y.live ≡ x.live
  pub next : x.next ≤ y.next

pub close-joined : (t : PageTables) → AreJoined t → (rg ruh : ℕ) (spot : Spot) → IsNextPage t rg ruh spot → ruh < length t.handles.classes → (new : UnitTable) (x : HandleTable) (y : DataUnit) → Changes t.units new spot.unit y → BecomesClosed t.units.unit_pages (unit_at t.units spot.unit) y → Refers t.handles x rg ruh no_reference → AreJoined (record t { handles = x; units = new })
close-joined t was rg ruh spot is is_handle new x y change becomes refers =
    let same : HasSize t.owners t.owners = record { unit_pages = refl; pages = refl } in
    let cut : SameCut t.handles x = refers-cut t.handles x rg ruh no_reference refers in
    let live : AreLive new t.owners = live-ended t.units new t.owners spot.unit y was.live change (record {
      live = becomes.live;
      used = λ page some. let below : page < (unit_at t.units spot.unit).next = was.live.used (record { unit = spot.unit; page = page }) some in omega (arith, below, becomes.next);
      unused = λ free. absurd (closed-free y becomes.closed free);
    }) in
    handled-joined t x new t.owners cut was same (change-fit t.units new spot.unit y change (record { within = becomes.within; room = λ e. absurd (closed-full y becomes.closed e) }) (fit-sound t.units was.sound)) live was.lanes
    (handled-filled t was rg ruh spot is is_handle x new t.owners y (no_reference (config-of t.handles.unit_pages)) cut.classes (refers.references (config-of t.handles.unit_pages) refl) change (inr (record { none = refl; whole = was.cut.unit_pages; state = becomes.closed })) is.own (λ at z ne e. e))
    (leaves-groups t rg ruh spot new t.owners y is change (closed-untarget y becomes.closed) same (λ at z ne e. e))

-- ---- a page is used for nothing

pub shut-joined : (t : PageTables) → AreJoined t → (rg ruh : ℕ) (spot : Spot) → MayPut t rg ruh spot → (new : UnitTable) (x : HandleTable) → Changes t.units new spot.unit (closed_after (unit_at t.units spot.unit)) → Refers t.handles x rg ruh no_reference → AreJoined (record t { handles = x; units = new })
shut-joined t was rg ruh spot may new x change refers =
    let is = next-page t rg ruh spot was may in
    let left : (unit_at t.units spot.unit).next + left_of t rg ruh ≡ t.units.unit_pages = is.left in
    let some : 1 ≤ left_of t rg ruh = is.some_left in
    close-joined t was rg ruh spot is may.handle new x (closed_after (unit_at t.units spot.unit)) change (record { within = omega (arith, left, some); closed = refl; live = refl; next = omega arith }) refers

-- ---- a handle lets its unit go

-- the unit of a handle is one that it fills
pub own-page : (t : PageTables) (rg ruh unit : ℕ) → AreJoined t → unit_of t rg ruh ≡ Some unit → IsNextPage t rg ruh (record { unit = unit; page = (unit_at t.units unit).next })
own-page t rg ruh unit was e =
    let f = was.filled.fills rg ruh unit e in
    record {
      is_unit = f.stands.is_unit;
      group = f.stands.group;
      state = referenced-or (state_at t.units unit) f.stands.stands;
      page = refl;
      left = f.left;
      some_left = f.some_left;
      own = f.own;
      only = λ other g. sym (one (sym e ∙ g));
      apart = λ other g. was.filled.apart rg ruh other unit e g;
    }

pub let-go : (t : PageTables) → AreJoined t → (rg ruh unit : ℕ) → unit_of t rg ruh ≡ Some unit → ruh < length t.handles.classes → (new : UnitTable) (x : HandleTable) → Changes t.units new unit (record (unit_at t.units unit) { state = Closed }) → Refers t.handles x rg ruh no_reference → AreJoined (record t { handles = x; units = new })
let-go t was rg ruh unit e is_handle new x change refers =
    close-joined t was rg ruh (record { unit = unit; page = (unit_at t.units unit).next }) (own-page t rg ruh unit was e) is_handle new x (record (unit_at t.units unit) { state = Closed }) change (record { within = (was.sound unit (was.filled.fills rg ruh unit e).stands.is_unit).next; closed = refl; live = refl; next = omega arith }) refers
