-- What joins the tables, of which no page has an owner, stands after the targets of a group were closed.
use Rattle.std.proofs.Common.{◌≡◌, ◌≢◌, ℕ, ◌+◌, ◌<◌, ◌≤◌, Bool, true, false, List, Option, Some, None, refl, ap, sym, ◌∙◌, subst, arith, ⊎_elim, inl, inr, length, replicate}
use Rattle.std.specs.Prelude.{◌⊎◌, ◌||◌, IsSome, IsTrue, is_some, slice_get, slice_index_or, slice_set}
use Rattle.std.proofs.lemmas.Bool.{cases_eq}
use Rattle.std.proofs.lemmas.Option.{slice_get_within}
use Rattle.fdp_base.specs.declared.config.Class.{Class}
use Rattle.fdp_base.specs.declared.entry.Copied.{Copied}
use Rattle.fdp_base.specs.declared.entry.Spot.{Spot}
use Rattle.fdp_collector.specs.Ready.{AreLive, HaveLanes, IsUnitOf, lane_at}
use Rattle.fdp_collector.proofs.Kept.{changed-here, changed-other, cut-kept, group-kept, unit-kept, unit-of-kept, unit-was}
use Rattle.fdp_owners.specs.declared.owner.Owner.{Owner}
use Rattle.fdp_owners.specs.OwnerTable.{OwnerTable, owner_at}
use Rattle.fdp_pages.specs.Joined.{AreCopied, AreJoined, IsCopyOf, IsRelocating}
use Rattle.fdp_pages.specs.Leaving.{ClosesTarget, ClosesTargets, LeavesTargets}
use Rattle.fdp_pages.specs.PageTables.{PageTables, no_passes, passes_at}
use Rattle.fdp_pages.specs.Steps.{HasNoOwner, IsLeft, LeavesUnits, without_targets}
use Rattle.fdp_pages.proofs.Advanced.{filled-outside, other-kept}
use Rattle.fdp_pages.proofs.Fitting.{AreFit, FitsIn, fit-sound}
use Rattle.fdp_pages.proofs.Fresh.{all-one}
use Rattle.fdp_pages.proofs.Groups.{pages-of}
use Rattle.fdp_pages.proofs.Inside.{StaysOutside}
use Rattle.fdp_pages.proofs.Places.{never, no, one}
use Rattle.fdp_pages.proofs.Regrouped.{group-low, one-group, passes-here, passes-there}
use Rattle.fdp_passes.specs.declared.lane.Lane.{Lane}
use Rattle.fdp_passes.specs.GroupPasses.{GroupPasses, Pass, lane_of, slot_of, target_at}
use Rattle.fdp_units.specs.declared.data_unit.DataUnit.{DataUnit}
use Rattle.fdp_units.specs.declared.state.UnitState.{UnitState}
use Rattle.fdp_units.specs.declared.state.UnitState.TheVariants.{Closed, Referenced, Target}
use Rattle.fdp_units.specs.DataUnits.{is_closed, is_free, is_open, is_target}
use Rattle.fdp_units.specs.UnitTable.{Changes, IsGroup, IsUnit, UnitTable, cut_of, group_in, is_worn_at, state_at, unit_at}

-- ---- targets are closed, one after another

-- the target of one lane
pub closes-one : (passes : GroupPasses) (lane : Lane) (old new : UnitTable) (unit : ℕ) → target_at passes lane ≡ Some unit → Changes old new unit (record (unit_at old unit) { state = Closed }) → (u : ℕ) → (unit_at new u ≡ unit_at old u) ⊎ ClosesTarget passes old new u
closes-one passes lane old new unit target change u = ⊎_elim
    (λ (same : u ≡ unit). inr (record {
      lane = lane;
      target = target ∙ ap (λ (k : ℕ). Some k) (sym same);
      closed = ap (unit_at new) same ∙ changed-here old new unit _ change ∙ ap (λ (k : ℕ). record (unit_at old k) { state = Closed }) (sym same);
    }))
    (λ (ne : u ≢ unit). inl (changed-other old new unit u _ change ne))
    (cases_eq u unit)

pub closes-none : (passes : GroupPasses) (classes : List Class) (units : UnitTable) → ClosesTargets passes classes 0 units units
closes-none passes classes units = record { units = λ unit. inl refl; closed = λ ruh unit class low. absurd (omega (arith, low)); cut = refl; worn = refl }

-- a target is open still, or closed
pub closable : (passes : GroupPasses) (classes : List Class) (count : ℕ) (old now : UnitTable) (unit : ℕ) → ClosesTargets passes classes count old now → IsUnit old unit × IsTrue (is_open (state_at old unit)) → IsUnit now unit × IsTrue (is_open (state_at now unit) || is_closed (state_at now unit))
closable passes classes count old now unit h is = (
  unit-kept old now unit h.cut is.0,
  ⊎_elim
      (λ (same : unit_at now unit ≡ unit_at old unit). ap (λ (b : Bool). b || is_closed (state_at now unit)) (ap (λ (x : DataUnit). is_open x.state) same ∙ is.1))
      (λ (k : ClosesTarget passes old now unit). ap (λ (x : DataUnit). is_open x.state || is_closed x.state) k.closed)
      (h.units unit),
)

closed-on : (passes : GroupPasses) (now new : UnitTable) (unit : ℕ) → (unit_at new unit ≡ unit_at now unit) ⊎ ClosesTarget passes now new unit → state_at now unit ≡ Closed → state_at new unit ≡ Closed
closed-on passes now new unit h closed = ⊎_elim
    (λ (same : unit_at new unit ≡ unit_at now unit). ap (λ (x : DataUnit). x.state) same ∙ closed)
    (λ (k : ClosesTarget passes now new unit). ap (λ (x : DataUnit). x.state) k.closed)
    h

-- the target of one handle more
pub closes-more : (passes : GroupPasses) (classes : List Class) (count at : ℕ) (old now new : UnitTable) (lane : Lane) (class : Class) → ClosesTargets passes classes count old now → at ≡ count → slice_get classes at ≡ Some class → lane ≡ lane_of class count →
    ((unit : ℕ) → (unit_at new unit ≡ unit_at now unit) ⊎ ClosesTarget passes now new unit) → ((unit : ℕ) → target_at passes lane ≡ Some unit → state_at new unit ≡ Closed) → cut_of new ≡ cut_of now → is_worn_at new ≡ is_worn_at now →
    ClosesTargets passes classes (count + 1) old new
closes-more passes classes count at old now new lane class h here is way units closed cut worn = record {
  units = λ unit. ⊎_elim
      (λ (same : unit_at new unit ≡ unit_at now unit). ⊎_elim
      (λ (was : unit_at now unit ≡ unit_at old unit). inl (same ∙ was))
      (λ (k : ClosesTarget passes old now unit). inr (record { lane = k.lane; target = k.target; closed = same ∙ k.closed }))
      (h.units unit))
      (λ (k : ClosesTarget passes now new unit). inr (record {
        lane = k.lane;
        target = k.target;
        closed = k.closed ∙ ⊎_elim
            (λ (was : unit_at now unit ≡ unit_at old unit). ap (λ (x : DataUnit). record x { state = Closed }) was)
            (λ (l : ClosesTarget passes old now unit). ap (λ (x : DataUnit). record x { state = Closed }) l.closed)
            (h.units unit);
      }))
      (units unit);
  closed = λ ruh unit other low e target. ⊎_elim
      (λ (same : ruh ≡ count).
      let own : Some other ≡ Some class = sym e ∙ ap (slice_get classes) (same ∙ sym here) ∙ is in
      let one_class : other ≡ class = one own in
      closed unit (ap (target_at passes) (way ∙ ap (λ (x : Class). lane_of x count) (sym one_class) ∙ ap (lane_of other) (sym same)) ∙ target))
      (λ (ne : ruh ≢ count). closed-on passes now new unit (units unit) (h.closed ruh unit other (omega (arith, low, ne)) e target))
      (cases_eq ruh count);
  cut = cut ∙ h.cut;
  worn = worn ∙ h.worn;
}

-- ---- what joins the tables

-- a copy lies in a unit where that is as it was, or closed
lies-on : (t new : UnitTable) (rg : ℕ) (pass : Pass) → new.unit_pages ≡ t.unit_pages → ((unit : ℕ) → IsUnit t unit → IsUnit new unit) → ((unit g : ℕ) → group_in t unit ≡ g → group_in new unit ≡ g)
    → ((unit : ℕ) → (unit_at new unit ≡ unit_at t unit) ⊎ (unit_at new unit ≡ record (unit_at t unit) { state = Closed })) → (copy : Copied) → IsCopyOf t rg pass copy → IsCopyOf new rg pass copy
lies-on t new rg pass pages there group how copy h =
    let within : (unit_at t copy.to.unit).next ≤ t.unit_pages = h.within in
    let used : copy.to.page < (unit_at t copy.to.unit).next = h.used in
    let from : copy.from.page < t.unit_pages = h.from_page in
    let next : (unit_at new copy.to.unit).next ≡ (unit_at t copy.to.unit).next = ⊎_elim
    (λ (same : unit_at new copy.to.unit ≡ unit_at t copy.to.unit). ap (λ (x : DataUnit). x.next) same)
    (λ (closed : unit_at new copy.to.unit ≡ record (unit_at t copy.to.unit) { state = Closed }). ap (λ (x : DataUnit). x.next) closed)
    (how copy.to.unit) in
    record {
      victim = h.victim;
      behind = h.behind;
      from_page = omega (arith, pages, from);
      is_unit = there copy.to.unit h.is_unit;
      group = group copy.to.unit rg h.group;
      stands = ⊎_elim
          (λ (same : unit_at new copy.to.unit ≡ unit_at t copy.to.unit). ap (λ (x : DataUnit). is_target x.state || is_closed x.state) same ∙ h.stands)
          (λ (closed : unit_at new copy.to.unit ≡ record (unit_at t copy.to.unit) { state = Closed }). ap (λ (x : DataUnit). is_target x.state || is_closed x.state) closed)
          (how copy.to.unit);
      apart = h.apart;
      used = omega (arith, next, used);
      within = omega (arith, next, within, pages);
    }

module _ (t : PageTables) (rg : ℕ) (new : UnitTable) (was : AreJoined t) (is : IsGroup t.units rg) (unowned : HasNoOwner t) (closes : ClosesTargets (passes_at t rg) t.handles.classes (length t.handles.classes) t.units new) where
  abbrev passes : GroupPasses
  passes = without_targets (passes_at t rg)

  -- each closed unit was a target of the group
  target-was : (unit : ℕ) → ClosesTarget (passes_at t rg) t.units new unit → IsUnitOf t.units rg unit Target
  target-was unit h = (was.groups rg is).ready.targets.targets (slot_of h.lane) unit h.target

  pub left-unit : (unit : ℕ) → IsLeft (unit_at t.units unit) (unit_at new unit)
  left-unit unit = ⊎_elim
      (λ (same : unit_at new unit ≡ unit_at t.units unit). inl same)
      (λ (h : ClosesTarget (passes_at t rg) t.units new unit). inr (ap is_open (target-was unit h).stands, h.closed))
      (closes.units unit)

  -- a unit in another state than a closed one is as it was
  unit-same : (unit : ℕ) (state : UnitState) → state_at new unit ≡ state → (Closed ≡ state → ⊥) → unit_at new unit ≡ unit_at t.units unit
  unit-same unit state stands other = ⊎_elim
      (λ (same : unit_at new unit ≡ unit_at t.units unit). same)
      (λ (h : ClosesTarget (passes_at t rg) t.units new unit). absurd (other (ap (λ (x : DataUnit). x.state) (sym h.closed) ∙ stands)))
      (closes.units unit)

  live-same : (unit : ℕ) → (unit_at new unit).live ≡ (unit_at t.units unit).live
  live-same unit = ⊎_elim
      (λ (same : unit_at new unit ≡ unit_at t.units unit). ap (λ (x : DataUnit). x.live) same)
      (λ (h : ClosesTarget (passes_at t rg) t.units new unit). ap (λ (x : DataUnit). x.live) h.closed)
      (closes.units unit)

  closed-same : (unit : ℕ) → state_at t.units unit ≡ Closed → state_at new unit ≡ Closed
  closed-same unit closed = ⊎_elim
      (λ (same : unit_at new unit ≡ unit_at t.units unit). ap (λ (x : DataUnit). x.state) same ∙ closed)
      (λ (h : ClosesTarget (passes_at t rg) t.units new unit). ap (λ (x : DataUnit). x.state) h.closed)
      (closes.units unit)

  apart-free : (s : UnitState) → s ≡ Closed → IsTrue (is_free s) → ⊥
  apart-free s closed free = no (sym (ap is_free closed) ∙ free)

  unowns : (spot : Spot) (x : Owner) → owner_at t.owners spot ≡ Some x → ⊥
  unowns spot x e = never x (sym (unowned spot) ∙ e)

  unlive : (spot : Spot) → IsSome (owner_at t.owners spot) → ⊥
  unlive spot some = no (sym (ap is_some (unowned spot)) ∙ some)

  stays : StaysOutside t.units new rg
  stays = record {
    cut = closes.cut;
    outside = λ unit ne. ⊎_elim
        (λ (same : unit_at new unit ≡ unit_at t.units unit). same)
        (λ (h : ClosesTarget (passes_at t rg) t.units new unit). absurd (ne (target-was unit h).group))
        (closes.units unit);
    referenced = λ unit stands. ⊎_elim
        (λ (same : unit_at new unit ≡ unit_at t.units unit). same)
        (λ (h : ClosesTarget (passes_at t rg) t.units new unit). absurd (target-referenced (sym (target-was unit h).stands ∙ stands)))
        (closes.units unit);
    back = λ unit stands. ap (λ (x : DataUnit). x.state) (sym (unit-same unit Referenced stands closed-referenced)) ∙ stands;
  } where
    closed-referenced : Closed ≡ Referenced → ⊥
    closed-referenced e = cc

    target-referenced : Target ≡ Referenced → ⊥
    target-referenced e = cc

  fit : AreFit new
  fit unit there =
      let old : FitsIn t.units.unit_pages (unit_at t.units unit) = fit-sound t.units was.sound unit (unit-was t.units new unit closes.cut there) in
      subst (λ (n : ℕ). FitsIn n (unit_at new unit)) (sym (pages-of t.units new closes.cut)) (⊎_elim
      (λ (same : unit_at new unit ≡ unit_at t.units unit). subst (λ (x : DataUnit). FitsIn t.units.unit_pages x) (sym same) old)
      (λ (h : ClosesTarget (passes_at t rg) t.units new unit). subst (λ (x : DataUnit). FitsIn t.units.unit_pages x) (sym h.closed) (record { within = old.within; room = λ e. absurd (no e) }))
      (closes.units unit))

  live : AreLive new t.owners
  live = record {
    there = λ spot some. absurd (unlive spot some);
    used = λ spot some. absurd (unlive spot some);
    counted = λ unit there. live-same unit ∙ was.live.counted unit (unit-was t.units new unit closes.cut there);
    unused = λ unit free. ⊎_elim
        (λ (same : unit_at new unit ≡ unit_at t.units unit). ap (λ (x : DataUnit). x.next) same ∙ was.live.unused unit (ap (λ (x : DataUnit). is_free x.state) (sym same) ∙ free))
        (λ (h : ClosesTarget (passes_at t rg) t.units new unit). absurd (apart-free (state_at new unit) (ap (λ (x : DataUnit). x.state) h.closed) free))
        (closes.units unit);
  }

  no-target : (slot unit : ℕ) → slice_index_or passes.targets slot None ≡ Some unit → ⊥
  no-target slot unit e = never unit (sym (all-one 17 slot none) ∙ e) where
    none : Option ℕ
    none = None

  -- no unit of the group is a target
  untargeted : (unit : ℕ) → IsUnitOf new rg unit Target → ⊥
  untargeted unit own =
      let same = unit-same unit Target own.stands closed-target in
      let before : IsUnitOf t.units rg unit Target = unit-of-kept new t.units rg unit Target (sym closes.cut) own (ap (λ (x : DataUnit). x.state) (sym same)) in
      let old = (was.groups rg is).targeted in
      let found = old.targeted unit before in
      let handle = old.lanes unit found.0 found.1 in
      let low : handle.0 < length t.handles.classes = slice_get_within t.handles.classes handle.0 handle.1 handle.2 in
      closed-target (sym (closes.closed handle.0 unit handle.1 low handle.2 (ap (target_at (passes_at t rg)) handle.3 ∙ found.1)) ∙ own.stands) where
        closed-target : Closed ≡ Target → ⊥
        closed-target e = cc

  copied-now : (pass : Pass) → passes.pass ≡ Some pass → AreCopied (record { passes = passes; units = new }) t.owners t.handles.classes rg pass
  copied-now pass under =
      let old = (was.groups rg is).copied pass under in
      record {
        lie = λ copy in_copies. lies-on t.units new rg pass (pages-of t.units new closes.cut) (λ unit there. unit-kept t.units new unit closes.cut there) (λ unit g own. group-kept t.units new unit g closes.cut own) how copy (old.lie copy in_copies);
        ascend = old.ascend;
        differ = old.differ;
        filled = record {
          first = old.filled.first;
          last = old.filled.last;
          first_unit = old.filled.first_unit;
          last_unit = old.filled.last_unit;
          split = old.filled.split;
          first_lie = old.filled.first_lie;
          last_lie = old.filled.last_lie;
          one = old.filled.one;
          goes_on = λ page unit x owned. absurd (unowns (record { unit = pass.victim; page = page }) x owned);
        };
        await = λ copy x in_copies owned. absurd (unowns copy.from x owned);
      } where
        how : (unit : ℕ) → (unit_at new unit ≡ unit_at t.units unit) ⊎ (unit_at new unit ≡ record (unit_at t.units unit) { state = Closed })
        how unit = ⊎_elim
            (λ (same : unit_at new unit ≡ unit_at t.units unit). inl same)
            (λ (h : ClosesTarget (passes_at t rg) t.units new unit). inr h.closed)
            (closes.units unit)

  own : IsRelocating (record { passes = passes; units = new }) t.owners t.handles.classes rg
  own =
      let old = was.groups rg is in
      record {
        ready = record {
          cut = cut-kept (passes_at t rg) passes t.units new t.owners refl closes.cut old.ready.cut;
          victim = λ pass under.
              let before = old.ready.victim pass under in
              unit-of-kept t.units new rg pass.victim Closed closes.cut before (closed-same pass.victim before.stands ∙ sym before.stands);
          copied = λ pass page under low some. absurd (unlive (record { unit = pass.victim; page = page }) some);
          targets = record {
            targets = λ slot unit e. absurd (no-target slot unit e);
            apart = λ slot other unit e f. absurd (no-target slot unit e);
          };
          live = live;
          lanes = was.lanes;
          enough = λ pass page x under low owned. absurd (unowns (record { unit = pass.victim; page = page }) x owned);
        };
        targeted = record {
          targeted = λ unit own_unit. absurd (untargeted unit own_unit);
          lanes = λ unit lane e. absurd (no-target (slot_of lane) unit e);
          own = λ unit lane spot x e. absurd (no-target (slot_of lane) unit e);
        };
        copied = copied-now;
        gains = λ pass under.
            let before : (unit_at t.units pass.victim).live < t.units.unit_pages = old.gains pass under in
            omega (arith, before, live-same pass.victim, pages-of t.units new closes.cut);
      }

  pub untargeted-joined : AreJoined (record t { units = new; passes = slice_set t.passes rg passes })
  untargeted-joined = one-group t rg new passes was is closes.cut fit live (filled-outside t.handles t.units new t.owners rg stays was.filled) own
      (λ other ne there. other-kept (passes_at t other) t.units new t.owners t.handles.classes rg other ne stays (was.groups other there).ready live (was.groups other there))

  pub untargeted-leaves : LeavesTargets t (record t { units = new; passes = slice_set t.passes rg passes }) rg
  untargeted-leaves = record {
    leaves = record {
      owners = refl;
      cut = closes.cut;
      units = left-unit;
      worn = closes.worn;
      handles = λ g ruh. inl refl;
      passes = λ g. ⊎_elim
          (λ (same : g ≡ rg). ap (λ (p : GroupPasses). p.pass) (at-group g same) ∙ ap (λ (k : ℕ). (passes_at t k).pass) (sym same))
          (λ (ne : g ≢ rg). ap (λ (p : GroupPasses). p.pass) (passes-there t rg g passes ne))
          (cases_eq g rg);
      targets = λ g lane. ⊎_elim
          (λ (same : g ≡ rg). inr (ap (λ (p : GroupPasses). target_at p lane) (at-group g same) ∙ all-one 17 (slot_of lane) none))
          (λ (ne : g ≢ rg). inl (ap (λ (p : GroupPasses). target_at p lane) (passes-there t rg g passes ne)))
          (cases_eq g rg);
    };
    none = λ lane. ap (λ (p : GroupPasses). target_at p lane) (at-group rg refl) ∙ all-one 17 (slot_of lane) none;
    handles = refl;
  } where
    none : Option ℕ
    none = None

    at-group : (g : ℕ) → g ≡ rg → slice_index_or (slice_set t.passes rg passes) g no_passes ≡ passes
    at-group g same = ap (λ (k : ℕ). slice_index_or (slice_set t.passes rg passes) k no_passes) same ∙ passes-here t rg passes (group-low t rg was is)

-- ---- by the parts of the tables

-- the tables after the targets of a group were closed and dropped
pub record AreUntargeted (old t : PageTables) (rg : ℕ) : Type 0 where
  pub joined : AreJoined t
  pub leaves : LeavesTargets old t rg

pub untargeted-by : (now t : PageTables) (rg : ℕ) (p q : GroupPasses) (classes : List Class) (new : UnitTable) → t ≡ now → AreJoined t → IsGroup now.units rg → HasNoOwner now → p ≡ passes_at t rg → classes ≡ t.handles.classes →
    ClosesTargets p classes (length classes) t.units new → q ≡ without_targets p → AreUntargeted now (record t { units = new; passes = slice_set t.passes rg q }) rg
untargeted-by now t rg p q classes new view was is unowned read same closes dropped =
    let there : IsGroup t.units rg = subst (λ (x : PageTables). IsGroup x.units rg) (sym view) is in
    let none : HasNoOwner t = subst HasNoOwner (sym view) unowned in
    let all : ClosesTargets (passes_at t rg) t.handles.classes (length t.handles.classes) t.units new =
    subst (λ (cs : List Class). ClosesTargets (passes_at t rg) cs (length cs) t.units new) same (subst (λ (x : GroupPasses). ClosesTargets x classes (length classes) t.units new) read closes) in
    let after : q ≡ without_targets (passes_at t rg) = dropped ∙ ap without_targets read in
    record {
      joined = subst (λ (x : GroupPasses). AreJoined (record t { units = new; passes = slice_set t.passes rg x })) (sym after) (untargeted-joined t rg new was there none all);
      leaves = subst (λ (x : PageTables). LeavesTargets x (record t { units = new; passes = slice_set t.passes rg q }) rg) view
          (subst (λ (x : GroupPasses). LeavesTargets t (record t { units = new; passes = slice_set t.passes rg x }) rg) (sym after) (untargeted-leaves t rg new was there none all));
    }
