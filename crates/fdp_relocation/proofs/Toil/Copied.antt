-- What one copy makes of the toil of a group, and of what its pass wants.
use Rattle.std.proofs.Common.{◌≡◌, ℕ, ◌+◌, ◌-◌, ◌≤◌, ◌<◌, Bool, true, false, List, Option, Some, None, refl, ap, sym, ◌∙◌, subst, arith, ⊎_elim}
use Rattle.std.specs.Prelude.{IsFalse, IsTrue, MatchOption, if◌then◌else◌, is_some, option_map}
use Rattle.fdp_base.specs.declared.config.Class.{Class}
use Rattle.fdp_base.specs.declared.entry.Copied.{Copied}
use Rattle.fdp_base.specs.declared.entry.Spot.{Spot}
use Rattle.fdp_keeper.specs.fdp_collector.Ready.{IsReady, Relocation, lane_at}
use Rattle.fdp_keeper.specs.fdp_collector.Step.{AddsCopy}
use Rattle.fdp_keeper.proofs.fdp_collector.Kept.{group-kept, unit-kept}
use Rattle.fdp_keeper.proofs.fdp_collector.Opening.{open-counts}
use Rattle.fdp_keeper.proofs.fdp_collector.Readied.{open-cut, open-pass, open-unit, target-of}
use Rattle.fdp_owners.specs.declared.owner.Owner.{Owner}
use Rattle.fdp_owners.specs.OwnerTable.{OwnerTable, live_in, owner_at}
use Rattle.fdp_owners.proofs.Tables.{owned-within}
use Rattle.fdp_passes.specs.declared.due.Due.TheVariants as due
use Rattle.fdp_passes.specs.declared.lane.Lane.{Lane}
use Rattle.fdp_passes.specs.Due.{IsDue, IsShort, next_in}
use Rattle.fdp_passes.specs.GroupPasses.{GroupPasses, Pass, slot_of, with_copy}
use Rattle.fdp_passes.specs.Room.{live_among, wanted_in}
use Rattle.fdp_passes.specs.Targets.{HasTarget, OpensPage, OpensTarget, TakesTarget, pass_in, with_target}
use Rattle.fdp_passes.proofs.Opened.{opened-unit}
use Rattle.fdp_relocation.proofs.Toil.Wanted.{less-live, some-live, wanted-by}
use Rattle.fdp_keeper.proofs.fdp_trails.Gaining.{gain-taken, gain-used, toil-one}
use Rattle.fdp_units.specs.declared.data_unit.DataUnit.{DataUnit}
use Rattle.fdp_units.specs.declared.state.UnitState.{UnitState}
use Rattle.fdp_units.specs.declared.state.UnitState.TheVariants.{Free, Referenced, Target, Closed, Retired, Aside}
use Rattle.fdp_units.specs.DataUnits.{IsSound, is_free, turned, used}
use Rattle.fdp_units.specs.UnitTable.{Cut, IsUnit, IsVictim, UnitTable, cut_of, group_in, state_at, toil_of, unit_at}

-- each unit is sound
abbrev pub AreSound : UnitTable → Type 0
AreSound t = (unit : ℕ) → IsUnit t unit → IsSound t.unit_pages (unit_at t unit)

-- a live page was copied to the page that was found for it
pub record IsOneCopy (s middle now : Relocation) (o : OwnerTable) (classes : List Class) (rg : ℕ) (from to : Spot) (owner : Owner) : Type 0 where
  pub due : IsDue s.passes s.units o rg (due.Copy from)
  pub owned : owner_at o from ≡ Some owner
  pub opened : OpensPage s.passes middle.passes s.units middle.units rg from.unit (lane_at classes owner) to
  pub adds : AddsCopy middle now (lane_at classes owner) (record { from = from; to = to })

-- ---- the page that was found

opens-toil : (s middle : Relocation) (rg victim : ℕ) (lane : Lane) (unit : ℕ) → AreSound s.units → OpensTarget s.passes middle.passes s.units middle.units rg victim lane unit → toil_of middle.units rg ≡ toil_of s.units rg
opens-toil s middle rg victim lane unit sound = ⊎_elim
    (λ (h : HasTarget s.passes middle.passes s.units middle.units victim lane unit). ap (λ (t : UnitTable). toil_of t rg) h.units)
    (λ (h : TakesTarget s.passes middle.passes s.units middle.units rg victim lane unit).
    let x : DataUnit = unit_at s.units unit in
    let free = h.free.is_free in
    let one = toil-one s.units middle.units unit (turned s.units.unit_pages Target x) free.is_unit h.taken in
    let same = gain-taken s.units.unit_pages x (sound unit free.is_unit) free.free in
    let was : toil_of s.units (group_in s.units unit) ≡ toil_of s.units rg = ap (toil_of s.units) free.group in
    let now : toil_of middle.units (group_in s.units unit) ≡ toil_of middle.units rg = ap (toil_of middle.units) free.group in
    omega (arith, one, same, was, now))

-- the unit of a new page is one of the group
pub opened-group : (s middle : Relocation) (o : OwnerTable) (classes : List Class) (rg victim : ℕ) (lane : Lane) (unit : ℕ) → IsReady s o classes rg → OpensTarget s.passes middle.passes s.units middle.units rg victim lane unit → group_in s.units unit ≡ rg
opened-group s middle o classes rg victim lane unit ready = ⊎_elim
    (λ (h : HasTarget s.passes middle.passes s.units middle.units victim lane unit). (ready.targets.targets (slot_of lane) unit h.target).group)
    (λ (h : TakesTarget s.passes middle.passes s.units middle.units rg victim lane unit). h.free.is_free.group)

never-free : (x : UnitState) → x ≡ Target → IsTrue (is_free x) → ⊥
never-free Free e = absurd cc
never-free Referenced e = λ free. absurd cc
never-free Target e = λ free. absurd cc
never-free Closed e = λ free. absurd cc
never-free Retired e = λ free. absurd cc
never-free Aside e = λ free. absurd cc

-- the unit of the new page, as the copy finds it: a sound target of the group
record IsOpened (t : UnitTable) (rg unit : ℕ) : Type 0 where
  is_unit : IsUnit t unit
  group : group_in t unit ≡ rg
  stands : state_at t unit ≡ Target
  sound : IsSound t.unit_pages (unit_at t unit)

opened-is : (s middle : Relocation) (o : OwnerTable) (classes : List Class) (rg victim : ℕ) (lane : Lane) (to : Spot) → IsReady s o classes rg → AreSound s.units → OpensPage s.passes middle.passes s.units middle.units rg victim lane to → IsOpened middle.units rg to.unit
opened-is s middle o classes rg victim lane to ready sound opened =
    let cut : cut_of middle.units ≡ cut_of s.units = open-cut s middle rg victim lane to.unit opened.target in
    let stands : state_at middle.units to.unit ≡ Target = opened-unit s.passes middle.passes s.units middle.units rg victim lane to.unit (target-of s o classes rg lane ready) opened.target in
    let was = open-unit s middle rg victim lane to.unit (target-of s o classes rg lane ready) opened.target in
    let counts = open-counts s middle rg victim lane to.unit to.unit opened.target in
    let pages : middle.units.unit_pages ≡ s.units.unit_pages = ap (λ (k : Cut). k.unit_pages) cut in
    let before : IsSound s.units.unit_pages (unit_at s.units to.unit) = sound to.unit was.is_unit in
    record {
      is_unit = unit-kept s.units middle.units to.unit cut was.is_unit;
      group = group-kept s.units middle.units to.unit rg cut (opened-group s middle o classes rg victim lane to.unit ready opened.target);
      stands = stands;
      sound = record {
        some = omega (arith, before.some, pages);
        next = omega (arith, before.next, counts.next, pages);
        live = omega (arith, before.live, counts.next, counts.live);
        free = λ free. absurd (never-free (state_at middle.units to.unit) stands free);
        room = λ some. omega (arith, opened.page, opened.within);
      };
    }

-- ---- the toil

pub copied-toil : (s middle now : Relocation) (o : OwnerTable) (classes : List Class) (rg : ℕ) (from to : Spot) (owner : Owner) → IsReady s o classes rg → AreSound s.units → IsOneCopy s middle now o classes rg from to owner → toil_of now.units rg ≡ toil_of s.units rg + 1
copied-toil s middle now o classes rg from to owner ready sound h =
    let is = opened-is s middle o classes rg from.unit (lane_at classes owner) to ready sound h.opened in
    let x : DataUnit = unit_at middle.units to.unit in
    let one = toil-one middle.units now.units to.unit (used middle.units.unit_pages x) is.is_unit h.adds.used.page in
    let more = gain-used middle.units.unit_pages x is.sound is.stands in
    let before = opens-toil s middle rg from.unit (lane_at classes owner) to.unit sound h.opened.target in
    let was : toil_of middle.units (group_in middle.units to.unit) ≡ toil_of middle.units rg = ap (toil_of middle.units) is.group in
    let new : toil_of now.units (group_in middle.units to.unit) ≡ toil_of now.units rg = ap (toil_of now.units) is.group in
    omega (arith, one, more, before, was, new)

-- ---- the pass

-- the pass that goes on behind a page of its victim
pub record GoesOnBehind (now : GroupPasses) (from : Spot) : Type 0 where
  pub pass : Pass
  pub under_way : now.pass ≡ Some pass
  pub victim : pass.victim ≡ from.unit
  pub next : pass.next ≡ from.page + 1

used-pass : (b : Bool) (lane : Lane) (p : GroupPasses) → (if b then with_target lane None p else p).pass ≡ p.pass
used-pass true lane p = refl
used-pass false lane p = refl

began : (p : GroupPasses) (t : UnitTable) (rg unit : ℕ) (o : Option Pass) → MatchOption o (IsShort t rg × IsVictim t rg unit) (λ (pass : Pass). pass.victim ≡ unit) → (pass_in (record p { pass = o }) unit).victim ≡ unit
began p t rg unit None both = refl
began p t rg unit (Some pass) same = same

pub copied-pass : (s middle now : Relocation) (o : OwnerTable) (classes : List Class) (rg : ℕ) (from to : Spot) (owner : Owner) → IsOneCopy s middle now o classes rg from to owner → GoesOnBehind now.passes from
copied-pass s middle now o classes rg from to owner h =
    let has = open-pass s middle rg from.unit (lane_at classes owner) to.unit h.opened.target in
    let copy : Copied = record { from = from; to = to } in
    let used : h.adds.passes.pass ≡ Some has.pass = ap (λ (p : GroupPasses). p.pass) h.adds.used.passes ∙ used-pass _ (lane_at classes owner) middle.passes ∙ has.under_way in
    record {
      pass = with_copy copy has.pass;
      under_way = ap (λ (p : GroupPasses). p.pass) h.adds.copied ∙ ap (option_map (with_copy copy)) used;
      victim = has.same_victim ∙ began s.passes s.units rg from.unit s.passes.pass h.due.0;
      next = refl;
    }

-- what the pass wants behind the page that was copied is one less than from where it went on
pub copied-wanted : (s middle now : Relocation) (o : OwnerTable) (classes : List Class) (rg : ℕ) (from to : Spot) (owner : Owner) → IsOneCopy s middle now o classes rg from to owner →
    wanted_in now.passes o + 1 ≡ live_among o from.unit (next_in s.passes) (o.unit_pages - next_in s.passes)
copied-wanted s middle now o classes rg from to owner h =
    let on = copied-pass s middle now o classes rg from to owner h in
    let within : from.page < o.unit_pages = owned-within o from owner h.owned in
    let one = less-live o (next_in s.passes) from h.due.1 within in
    let new : wanted_in now.passes o ≡ live_among o on.pass.victim on.pass.next (o.unit_pages - on.pass.next) = wanted-by now.passes o on.pass on.under_way in
    let at : live_among o on.pass.victim on.pass.next (o.unit_pages - on.pass.next) ≡ live_among o from.unit (from.page + 1) (o.unit_pages - (from.page + 1)) =
    ap (λ (u : ℕ). live_among o u on.pass.next (o.unit_pages - on.pass.next)) on.victim ∙ ap (λ (k : ℕ). live_among o from.unit k (o.unit_pages - k)) on.next in
    omega (arith, one, new, at)

-- ---- the work

-- the work of a group by its relocation: its toil, with a page more for each page that its pass wants
abbrev pub work_in : Relocation → OwnerTable → ℕ → ℕ
work_in s o rg = toil_of s.units rg + wanted_in s.passes o

-- a copy leaves the work of a pass under way as it is, and there was a page to copy
pub record GoesOn (s now : Relocation) (o : OwnerTable) (rg : ℕ) : Type 0 where
  pub wanted : 1 ≤ wanted_in s.passes o
  pub work : work_in now o rg ≡ work_in s o rg

copied-on : (s middle now : Relocation) (o : OwnerTable) (classes : List Class) (rg : ℕ) (from to : Spot) (owner : Owner) → IsReady s o classes rg → AreSound s.units → IsOneCopy s middle now o classes rg from to owner → (pass : Pass) → s.passes.pass ≡ Some pass → GoesOn s now o rg
copied-on s middle now o classes rg from to owner ready sound h pass is =
    let toil = copied-toil s middle now o classes rg from to owner ready sound h in
    let less = copied-wanted s middle now o classes rg from to owner h in
    let next : next_in s.passes ≡ pass.next = ap (λ (q : Option Pass). next_in (record s.passes { pass = q })) is in
    let victim : pass.victim ≡ from.unit = subst (λ (q : Option Pass). MatchOption q (IsShort s.units rg × IsVictim s.units rg from.unit) (λ (y : Pass). y.victim ≡ from.unit)) is h.due.0 in
    let before : wanted_in s.passes o ≡ live_among o from.unit (next_in s.passes) (o.unit_pages - next_in s.passes) =
    wanted-by s.passes o pass is ∙ ap (λ (u : ℕ). live_among o u pass.next (o.unit_pages - pass.next)) victim ∙ ap (λ (k : ℕ). live_among o from.unit k (o.unit_pages - k)) (sym next) in
    record { wanted = omega (arith, less, before); work = omega (arith, toil, less, before) }

-- a pass that begins with a copy has less to do than a unit has pages
copied-first : (s middle now : Relocation) (o : OwnerTable) (classes : List Class) (rg : ℕ) (from to : Spot) (owner : Owner) → IsReady s o classes rg → AreSound s.units → IsOneCopy s middle now o classes rg from to owner → s.passes.pass ≡ None → work_in now o rg + 1 ≤ toil_of s.units rg + s.units.unit_pages
copied-first s middle now o classes rg from to owner ready sound h none =
    let toil = copied-toil s middle now o classes rg from to owner ready sound h in
    let less = copied-wanted s middle now o classes rg from to owner h in
    let next : next_in s.passes ≡ 0 = ap (λ (q : Option Pass). next_in (record s.passes { pass = q })) none in
    let victim = subst (λ (q : Option Pass). MatchOption q (IsShort s.units rg × IsVictim s.units rg from.unit) (λ (y : Pass). y.victim ≡ from.unit)) none h.due.0 in
    let all : live_among o from.unit (next_in s.passes) (o.unit_pages - next_in s.passes) ≤ live_in o from.unit = some-live o from.unit (next_in s.passes) in
    let counted : (unit_at s.units from.unit).live ≡ live_in o from.unit = ready.live.counted from.unit victim.1.candidate.is_unit in
    omega (arith, toil, less, all, counted, victim.1.candidate.gains)

-- A copy of a pass under way, or the first of one: the pass goes on behind the page that was copied.
pub record CopiesIn (s now : Relocation) (o : OwnerTable) (rg : ℕ) : Type 0 where
  pub under_way : IsTrue (is_some now.passes.pass)
  pub next : next_in s.passes < next_in now.passes
  pub within : next_in now.passes ≤ s.units.unit_pages
  pub on : IsTrue (is_some s.passes.pass) → GoesOn s now o rg
  pub first : IsFalse (is_some s.passes.pass) → work_in now o rg + 1 ≤ toil_of s.units rg + s.units.unit_pages

is-pass : (q : Option Pass) → IsTrue (is_some q) → (pass : Pass) × (q ≡ Some pass)
is-pass None e = absurd cc
is-pass (Some pass) e = (pass, refl)

is-none : (q : Option Pass) → IsFalse (is_some q) → q ≡ None
is-none None e = refl
is-none (Some pass) e = absurd cc

pub copied-in : (s middle now : Relocation) (o : OwnerTable) (classes : List Class) (rg : ℕ) (from to : Spot) (owner : Owner) → IsReady s o classes rg → AreSound s.units → IsOneCopy s middle now o classes rg from to owner → CopiesIn s now o rg
copied-in s middle now o classes rg from to owner ready sound h =
    let on = copied-pass s middle now o classes rg from to owner h in
    let next : next_in now.passes ≡ from.page + 1 = ap (λ (q : Option Pass). next_in (record now.passes { pass = q })) on.under_way ∙ on.next in
    let within : from.page < o.unit_pages = owned-within o from owner h.owned in
    let behind : next_in s.passes ≤ from.page = h.due.1.behind in
    record {
      under_way = ap is_some on.under_way;
      next = omega (arith, next, behind);
      within = omega (arith, next, within, ready.cut.owners);
      on = λ some. let pass = is-pass s.passes.pass some in copied-on s middle now o classes rg from to owner ready sound h pass.0 pass.1;
      first = λ none. copied-first s middle now o classes rg from to owner ready sound h (is-none s.passes.pass none);
    }
