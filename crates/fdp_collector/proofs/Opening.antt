-- What stands before a step stands when a page was found for a copy.
use Rattle.std.proofs.Common.{◌≡◌, ◌≢◌, ℕ, ◌-◌, ◌<◌, ◌≤◌, Bool, true, false, List, Option, Some, None, refl, ap, sym, ◌∙◌, subst, arith, ⊎_elim, get_or-set_other}
use Rattle.std.specs.Prelude.{IsTrue, IsSome, MatchOption, slice_index_or, if◌then◌else◌}
use Rattle.std.specs.Option.{option_map_or}
use Rattle.std.proofs.lemmas.Bool.{cases_eq}
use Rattle.fdp_base.specs.declared.config.Class.{Class}
use Rattle.fdp_base.specs.declared.entry.Copied.{Copied}
use Rattle.fdp_base.specs.declared.entry.Spot.{Spot}
use Rattle.fdp_collector.specs.Ready.{AreLive, AreTargets, IsReady, IsUnitOf, Relocation, lane_at}
use Rattle.fdp_collector.proofs.Kept.{changed-here, changed-other, cut-kept, group-kept, unit-kept, unit-of-kept, unit-was}
use Rattle.fdp_collector.proofs.Readied.{HasPass, IsHaving, IsTaking, emptied-unit, open-closed, open-cut, open-next, open-pass, target-of, unlost, unused-unowned}
use Rattle.fdp_owners.specs.declared.owner.Owner.{Owner}
use Rattle.fdp_owners.specs.OwnerTable.{OwnerTable, live_in, owner_at}
use Rattle.fdp_passes.specs.declared.due.Due.TheVariants as due
use Rattle.fdp_passes.specs.declared.lane.Lane.{Lane}
use Rattle.fdp_passes.specs.Due.{HasCopied, IsDue, IsOldPage, IsShort}
use Rattle.fdp_passes.specs.GroupPasses.{GroupPasses, Pass, slot_of, target_at}
use Rattle.fdp_passes.specs.Place.{has_taken}
use Rattle.fdp_passes.specs.Room.{left_in, live_among, room_in, wanted_in}
use Rattle.fdp_passes.specs.Targets.{OpensPage, OpensTarget, pass_in, with_pass}
use Rattle.fdp_passes.proofs.Opened.{opened-unit}
use Rattle.fdp_units.specs.declared.data_unit.DataUnit.{DataUnit}
use Rattle.fdp_units.specs.declared.state.UnitState.TheVariants.{Target, Closed}
use Rattle.fdp_units.specs.DataUnits.{is_free, is_lost}
use Rattle.fdp_units.specs.UnitTable.{Cut, IsVictim, UnitTable, state_at, unit_at}

-- ---- live pages

-- as many pages were used, and as many are live
pub record SameCounts (x y : DataUnit) : Type 0 where
  pub next : y.next ≡ x.next
  pub live : y.live ≡ x.live

pub open-counts : (s now : Relocation) (rg victim : ℕ) (lane : Lane) (unit other : ℕ) → OpensTarget s.passes now.passes s.units now.units rg victim lane unit → SameCounts (unit_at s.units other) (unit_at now.units other)
open-counts s now rg victim lane unit other opened = ⊎_elim
    (λ (h : IsHaving s now victim lane unit). record { next = ap (λ (t : UnitTable). (unit_at t other).next) h.units; live = ap (λ (t : UnitTable). (unit_at t other).live) h.units })
    (λ (h : IsTaking s now rg victim lane unit). ⊎_elim
    (λ (same : other ≡ unit). subst (λ (u : ℕ). SameCounts (unit_at s.units u) (unit_at now.units u)) (sym same) (record {
      next = open-next s now rg victim lane unit opened;
      live = ap (λ (z : DataUnit). z.live) (changed-here s.units now.units unit _ h.taken);
    }))
    (λ (ne : other ≢ unit). let is = changed-other s.units now.units unit other _ h.taken ne in record { next = ap (λ (z : DataUnit). z.next) is; live = ap (λ (z : DataUnit). z.live) is })
    (cases_eq other unit))
    opened

-- a unit that is free now was free
open-free : (s now : Relocation) (rg victim : ℕ) (lane : Lane) (unit other : ℕ) → state_at now.units unit ≡ Target → OpensTarget s.passes now.passes s.units now.units rg victim lane unit → IsTrue (is_free (state_at now.units other)) → IsTrue (is_free (state_at s.units other))
open-free s now rg victim lane unit other is opened free = ⊎_elim
    (λ (h : IsHaving s now victim lane unit). ap (λ (t : UnitTable). is_free (state_at t other)) (sym h.units) ∙ free)
    (λ (h : IsTaking s now rg victim lane unit).
    let ne : other ≢ unit = λ same. target-unfree (sym (ap is_free (ap (state_at now.units) same ∙ is)) ∙ free) in
    ap (λ (z : DataUnit). is_free z.state) (sym (changed-other s.units now.units unit other _ h.taken ne)) ∙ free)
    opened where
      target-unfree : false ≡ true → ⊥
      target-unfree e = cc

open-live : (s now : Relocation) (o : OwnerTable) (rg victim : ℕ) (lane : Lane) (unit : ℕ) → AreLive s.units o → state_at now.units unit ≡ Target → OpensTarget s.passes now.passes s.units now.units rg victim lane unit → AreLive now.units o
open-live s now o rg victim lane unit h is opened =
    let cut = open-cut s now rg victim lane unit opened in record {
      there = λ spot live. unit-kept s.units now.units spot.unit cut (h.there spot live);
      used = λ spot live. let page = h.used spot live in let same = (open-counts s now rg victim lane unit spot.unit opened).next in omega (arith, page, same);
      counted = λ u there. (open-counts s now rg victim lane unit u opened).live ∙ h.counted u (unit-was s.units now.units u cut there);
      unused = λ u free. (open-counts s now rg victim lane unit u opened).next ∙ h.unused u (open-free s now rg victim lane unit u is opened free);
    }

-- ---- targets

open-targets : (s now : Relocation) (rg victim : ℕ) (lane : Lane) (unit : ℕ) → AreTargets s.passes s.units rg → state_at now.units unit ≡ Target → target_at now.passes lane ≡ Some unit → OpensTarget s.passes now.passes s.units now.units rg victim lane unit → AreTargets now.passes now.units rg
open-targets s now rg victim lane unit h is target = ⊎_elim
    (λ (has : IsHaving s now victim lane unit).
    subst (λ (p : GroupPasses). AreTargets p now.units rg) (sym has.passes)
    (subst (λ (t : UnitTable). AreTargets (with_pass (pass_in s.passes victim) s.passes) t rg) (sym has.units) (record { targets = h.targets; apart = h.apart })))
    (λ (takes : IsTaking s now rg victim lane unit).
    let old : (slot u : ℕ) → slot ≢ slot_of lane → slice_index_or now.passes.targets slot None ≡ Some u → slice_index_or s.passes.targets slot None ≡ Some u = λ slot u ne e.
    sym (ap (λ (p : GroupPasses). slice_index_or p.targets slot None) takes.passes ∙ get_or-set_other s.passes.targets (slot_of lane) slot (Some unit) None ne) ∙ e in
    let unfree : (slot u : ℕ) → slice_index_or s.passes.targets slot None ≡ Some u → u ≢ unit = λ slot u e same.
    target-unfree (sym (ap is_free (h.targets slot u e).stands) ∙ ap (λ (k : ℕ). is_free (state_at s.units k)) same ∙ takes.free.is_free.free) in
    let own : (slot u : ℕ) → slot ≡ slot_of lane → slice_index_or now.passes.targets slot None ≡ Some u → u ≡ unit = λ slot u same e.
    one (sym e ∙ ap (λ (k : ℕ). slice_index_or now.passes.targets k None) same ∙ target) in
    record {
      targets = λ slot u e. ⊎_elim
          (λ (same : slot ≡ slot_of lane). subst (λ (k : ℕ). IsUnitOf now.units rg k Target) (sym (own slot u same e)) (record {
            is_unit = unit-kept s.units now.units unit takes.taken.cut takes.free.is_free.is_unit;
            group = group-kept s.units now.units unit rg takes.taken.cut takes.free.is_free.group;
            stands = is;
          }))
          (λ (ne : slot ≢ slot_of lane). unit-of-kept s.units now.units rg u Target takes.taken.cut (h.targets slot u (old slot u ne e)) (ap (λ (z : DataUnit). z.state) (changed-other s.units now.units unit u _ takes.taken (unfree slot u (old slot u ne e)))))
          (cases_eq slot (slot_of lane));
      apart = λ slot other u e f. ⊎_elim
          (λ (same : slot ≡ slot_of lane). ⊎_elim
          (λ (too : other ≡ slot_of lane). same ∙ sym too)
          (λ (ne : other ≢ slot_of lane). absurd (unfree other u (old other u ne f) (own slot u same e)))
          (cases_eq other (slot_of lane)))
          (λ (ne : slot ≢ slot_of lane). ⊎_elim
          (λ (too : other ≡ slot_of lane). absurd (unfree slot u (old slot u ne e) (own other u too f)))
          (λ (away : other ≢ slot_of lane). h.apart slot other u (old slot u ne e) (old other u away f))
          (cases_eq other (slot_of lane)))
          (cases_eq slot (slot_of lane));
    }) where
      target-unfree : false ≡ true → ⊥
      target-unfree e = cc

      one : {a b : ℕ} → Some a ≡ Some b → a ≡ b
      one e = cc

-- ---- the pass that copies

-- the pages that it looked at, and what it copied, are those of the pass before
open-copied : (s now : Relocation) (o : OwnerTable) (victim : ℕ) → HasCopied s.passes o → (MatchOption s.passes.pass (Unit {0}) (λ (pass : Pass). pass.victim ≡ victim)) → HasPass s now victim → HasCopied now.passes o
open-copied s now o victim h is has pass page e low live =
    let same : has.pass ≡ pass = one (sym has.under_way ∙ e) in
    subst (λ (x : Pass). IsOldPage x.copies (record { unit = x.victim; page = page })) same
    (before s.passes.pass refl
    (subst (λ (x : Pass). page < x.next) (sym same) low)
    (subst (λ (x : Pass). IsSome (owner_at o (record { unit = x.victim; page = page }))) (sym same) live)) where
      one : {a b : Pass} → Some a ≡ Some b → a ≡ b
      one e = cc

      before : (p : Option Pass) → s.passes.pass ≡ p → page < has.pass.next → IsSome (owner_at o (record { unit = has.pass.victim; page = page })) → IsOldPage has.pass.copies (record { unit = has.pass.victim; page = page })
      before None none under there =
          let next : (pass_in s.passes victim).next ≡ 0 = ap (λ (q : Option Pass). (pass_in (record s.passes { pass = q }) victim).next) none in
          let same : has.pass.next ≡ (pass_in s.passes victim).next = has.same_next in
          absurd (omega (arith, next, same, under))
      before (Some old) some under there =
          let goes : pass_in s.passes victim ≡ old = ap (λ (q : Option Pass). pass_in (record s.passes { pass = q }) victim) some in
          let next : has.pass.next ≡ old.next = has.same_next ∙ ap (λ (x : Pass). x.next) goes in
          let vic : old.victim ≡ has.pass.victim = sym (has.same_victim ∙ ap (λ (x : Pass). x.victim) goes) in
          let copies : old.copies ≡ has.pass.copies = sym (has.same_copies ∙ ap (λ (x : Pass). x.copies) goes) in
          subst (λ (cs : List Copied). IsOldPage cs (record { unit = has.pass.victim; page = page })) copies
          (subst (λ (u : ℕ). IsOldPage old.copies (record { unit = u; page = page })) vic
          (h old page some (omega (arith, next, under)) (subst (λ (u : ℕ). IsSome (owner_at o (record { unit = u; page = page }))) (sym vic) there)))

-- how much room a lane has when its target is open: as before, with a pass under way
open-room : (s now : Relocation) (o : OwnerTable) (rg victim : ℕ) (lane : Lane) (unit : ℕ) → AreLive s.units o → OpensTarget s.passes now.passes s.units now.units rg victim lane unit → target_at now.passes lane ≡ Some unit → room_in s.passes s.units lane ≤ room_in now.passes now.units lane
open-room s now o rg victim lane unit live opened target = ⊎_elim
    (λ (h : IsHaving s now victim lane unit).
    subst (λ (t : UnitTable). room_in s.passes s.units lane ≤ room_in now.passes t lane) (sym h.units)
    (subst (λ (p : GroupPasses). room_in s.passes s.units lane ≤ room_in p s.units lane) (sym h.passes) (having s.passes.pass refl)))
    (λ (h : IsTaking s now rg victim lane unit).
    let none : left_in s.passes s.units lane ≡ 0 = ap (λ (t : Option ℕ). option_map_or (λ (u : ℕ). s.units.unit_pages - (unit_at s.units u).next) t 0) h.none in
    let first : (if has_taken s.passes then 0 else s.units.unit_pages) ≡ s.units.unit_pages = ap (λ (b : Bool). if b then 0 else s.units.unit_pages) h.first in
    let left : left_in now.passes now.units lane ≡ now.units.unit_pages - (unit_at now.units unit).next = ap (λ (t : Option ℕ). option_map_or (λ (u : ℕ). now.units.unit_pages - (unit_at now.units u).next) t 0) target in
    let unused : (unit_at now.units unit).next ≡ 0 = open-next s now rg victim lane unit opened ∙ live.unused unit h.free.is_free.free in
    let pages : now.units.unit_pages ≡ s.units.unit_pages = ap (λ (k : Cut). k.unit_pages) (open-cut s now rg victim lane unit opened) in
    omega (arith, none, first, left, unused, pages))
    opened where
      each : (p : Option Pass) → room_in (record s.passes { pass = p }) s.units lane ≤ room_in (with_pass (pass_in (record s.passes { pass = p }) victim) s.passes) s.units lane
      each None = omega arith
      each (Some pass) = omega arith

      having : (p : Option Pass) → s.passes.pass ≡ p → room_in s.passes s.units lane ≤ room_in (with_pass (pass_in s.passes victim) s.passes) s.units lane
      having p e = subst (λ (q : Option Pass). room_in (record s.passes { pass = q }) s.units lane ≤ room_in (with_pass (pass_in (record s.passes { pass = q }) victim) s.passes) s.units lane) (sym e) (each p)

-- ---- what is wanted

-- all live pages of a unit are wanted by a pass that begins there
all-wanted : (o : OwnerTable) (unit : ℕ) → live_among o unit 0 (o.unit_pages - 0) ≡ live_in o unit
all-wanted o unit = let all : o.unit_pages - 0 ≡ o.unit_pages = omega arith in ap (live_among o unit 0) all

-- the pass under way wants what it wanted; one that begins wants the live pages of its victim, which are fewer than the pages of a unit
open-wanted : (s now : Relocation) (o : OwnerTable) (classes : List Class) (rg : ℕ) (from : Spot) (x : Owner) (lane : Lane) → IsReady s o classes rg → IsDue s.passes s.units o rg (due.Copy from) → owner_at o from ≡ Some x → lane_at classes x ≡ lane → HasPass s now from.unit → wanted_in now.passes o ≤ room_in s.passes s.units lane
open-wanted s now o classes rg from x lane ready is owned way has = cases s.passes.pass refl is.0 is.1.behind where
  wanted-now : wanted_in now.passes o ≡ live_among o has.pass.victim has.pass.next (o.unit_pages - has.pass.next)
  wanted-now = ap (λ (p : Option Pass). wanted_in (record now.passes { pass = p }) o) has.under_way

  cases : (p : Option Pass) → s.passes.pass ≡ p → MatchOption p (IsShort s.units rg × IsVictim s.units rg from.unit) (λ (pass : Pass). pass.victim ≡ from.unit) → option_map_or (λ (pass : Pass). pass.next) p 0 ≤ from.page → wanted_in now.passes o ≤ room_in s.passes s.units lane
  cases None none both low =
      let next : has.pass.next ≡ 0 = has.same_next ∙ ap (λ (q : Option Pass). (pass_in (record s.passes { pass = q }) from.unit).next) none in
      let vic : has.pass.victim ≡ from.unit = has.same_victim ∙ ap (λ (q : Option Pass). (pass_in (record s.passes { pass = q }) from.unit).victim) none in
      let one : live_among o has.pass.victim has.pass.next (o.unit_pages - has.pass.next) ≡ live_among o from.unit 0 (o.unit_pages - 0) = ap (λ (k : ℕ). live_among o has.pass.victim k (o.unit_pages - k)) next ∙ ap (λ (u : ℕ). live_among o u 0 (o.unit_pages - 0)) vic in
      let all = all-wanted o from.unit in
      let live : (unit_at s.units from.unit).live ≡ live_in o from.unit = ready.live.counted from.unit both.1.candidate.is_unit in
      let gains : (unit_at s.units from.unit).live < s.units.unit_pages = both.1.candidate.gains in
      let first : (if has_taken s.passes then 0 else s.units.unit_pages) ≡ s.units.unit_pages = ap (λ (q : Option Pass). if has_taken (record s.passes { pass = q }) then 0 else s.units.unit_pages) none in
      omega (arith, wanted-now, one, all, live, gains, first)
  cases (Some old) some same low =
      let goes : pass_in s.passes from.unit ≡ old = ap (λ (q : Option Pass). pass_in (record s.passes { pass = q }) from.unit) some in
      let next : has.pass.next ≡ old.next = has.same_next ∙ ap (λ (y : Pass). y.next) goes in
      let vic : has.pass.victim ≡ old.victim = has.same_victim ∙ ap (λ (y : Pass). y.victim) goes in
      let one : live_among o has.pass.victim has.pass.next (o.unit_pages - has.pass.next) ≡ live_among o old.victim old.next (o.unit_pages - old.next) = ap (λ (k : ℕ). live_among o has.pass.victim k (o.unit_pages - k)) next ∙ ap (λ (u : ℕ). live_among o u old.next (o.unit_pages - old.next)) vic in
      let before : wanted_in s.passes o ≡ live_among o old.victim old.next (o.unit_pages - old.next) = ap (λ (q : Option Pass). wanted_in (record s.passes { pass = q }) o) some in
      let here : owner_at o (record { unit = old.victim; page = from.page }) ≡ Some x = ap (λ (u : ℕ). owner_at o (record { unit = u; page = from.page })) same ∙ owned in
      let enough : wanted_in s.passes o ≤ room_in s.passes s.units lane = subst (λ (l : Lane). wanted_in s.passes o ≤ room_in s.passes s.units l) way (ready.enough old from.page x some low here) in
      omega (arith, wanted-now, one, before, enough)

pub open-ready : (s now : Relocation) (o : OwnerTable) (classes : List Class) (rg : ℕ) (from to : Spot) (x : Owner) → IsReady s o classes rg → IsDue s.passes s.units o rg (due.Copy from) → owner_at o from ≡ Some x
    → OpensPage s.passes now.passes s.units now.units rg from.unit (lane_at classes x) to → IsReady now o classes rg
open-ready s now o classes rg from to x ready is owned opens =
    let target = opens.stands in
    let lane : Lane = lane_at classes x in
    let opened = opens.target in
    let has = open-pass s now rg from.unit lane to.unit opened in
    let cut = open-cut s now rg from.unit lane to.unit opened in
    let stands = emptied-unit s o classes rg from.unit ready is.0 in
    let state = opened-unit s.passes now.passes s.units now.units rg from.unit lane to.unit (target-of s o classes rg lane ready) opened in
    let closed = open-closed s now rg from.unit lane to.unit from.unit opened stands.stands in
    let vic : has.pass.victim ≡ from.unit = has.same_victim ∙ began s.passes.pass is.0 in
    let room = open-room s now o rg from.unit lane to.unit ready.live opened target in
    let wanted = open-wanted s now o classes rg from x lane ready is owned refl has in
    record {
      cut = cut-kept s.passes now.passes s.units now.units o has.same_pages cut ready.cut;
      victim = λ pass e. subst (λ (u : ℕ). IsUnitOf now.units rg u Closed) (sym (ap (λ (y : Pass). y.victim) (one (sym e ∙ has.under_way)) ∙ vic)) (unit-of-kept s.units now.units rg from.unit Closed cut stands (closed ∙ sym stands.stands));
      copied = open-copied s now o from.unit ready.copied (weaker s.passes.pass is.0) has;
      targets = open-targets s now rg from.unit lane to.unit ready.targets state target opened;
      live = open-live s now o rg from.unit lane to.unit ready.live state opened;
      lanes = ready.lanes;
      enough = λ pass page y e low owns.
          let unit : pass.victim ≡ from.unit = ap (λ (z : Pass). z.victim) (one (sym e ∙ has.under_way)) ∙ vic in
          let same : lane_at classes y ≡ lane = ready.lanes.same (record { unit = pass.victim; page = page }) from y x unit owns owned in
          subst (λ (l : Lane). wanted_in now.passes o ≤ room_in now.passes now.units l) (sym same) (omega (arith, room, wanted));
    } where
      one : {a b : Pass} → Some a ≡ Some b → a ≡ b
      one e = cc

      began : (p : Option Pass) → MatchOption p (IsShort s.units rg × IsVictim s.units rg from.unit) (λ (pass : Pass). pass.victim ≡ from.unit) → (pass_in (record s.passes { pass = p }) from.unit).victim ≡ from.unit
      began None both = refl
      began (Some pass) same = same

      weaker : (p : Option Pass) → MatchOption p (IsShort s.units rg × IsVictim s.units rg from.unit) (λ (pass : Pass). pass.victim ≡ from.unit) → MatchOption p (Unit {0}) (λ (pass : Pass). pass.victim ≡ from.unit)
      weaker None both = _
      weaker (Some pass) same = same

-- a unit that is not lost now was not
pub open-lost : (s now : Relocation) (rg victim : ℕ) (lane : Lane) (unit other : ℕ) → OpensTarget s.passes now.passes s.units now.units rg victim lane unit → is_lost (state_at now.units other) ≡ false → is_lost (state_at s.units other) ≡ false
open-lost s now rg victim lane unit other opened kept = ⊎_elim
    (λ (h : IsHaving s now victim lane unit). ap (λ (t : UnitTable). is_lost (state_at t other)) (sym h.units) ∙ kept)
    (λ (h : IsTaking s now rg victim lane unit). ⊎_elim
    (λ (same : other ≡ unit). ap (λ (u : ℕ). is_lost (state_at s.units u)) same ∙ unlost (state_at s.units unit) h.free.is_free.free)
    (λ (ne : other ≢ unit). ap (λ (z : DataUnit). is_lost z.state) (sym (changed-other s.units now.units unit other _ h.taken ne)) ∙ kept)
    (cases_eq other unit))
    opened

-- the page that was found has no owner
pub open-unowned : (s now : Relocation) (o : OwnerTable) (classes : List Class) (rg victim : ℕ) (lane : Lane) (to : Spot) → IsReady s o classes rg → OpensPage s.passes now.passes s.units now.units rg victim lane to → owner_at o to ≡ None
open-unowned s now o classes rg victim lane to ready opened = unused-unowned s o classes rg to ready (opened.page ∙ open-next s now rg victim lane to.unit opened.target)
