-- A step of relocation leaves each group its room, and finds a free unit where it needs one.
use Rattle.std.proofs.Common.{◌≡◌, ◌≢◌, ℕ, ◌+◌, ◌<◌, ◌≤◌, Bool, true, false, ◌&&◌, ◌||◌, Option, Some, None, refl, sym, ◌∙◌, ap, subst, arith, inl, inr, ⊎_elim, eq-eqb}
use Rattle.std.specs.Prelude.{◌==◌, IsTrue, MatchOption, is_some, nat_lt, option_map, slice_set, if◌then◌else◌}
use Rattle.std.specs.Option.{option_map_or}
use Rattle.std.proofs.lemmas.Bool.{cases_eq, eqb-true}
use Rattle.fdp_base.specs.declared.entry.Copied.{Copied}
use Rattle.fdp_base.specs.declared.entry.Spot.{Spot}
use Rattle.fdp_book.specs.fdp_collector.Ready.{IsReady, IsUnitOf, Relocation, lane_at}
use Rattle.fdp_book.specs.fdp_collector.Step.{AddsCopy}
use Rattle.fdp_book.proofs.fdp_collector.Kept.{changed-here, changed-other, group-kept, unit-was}
use Rattle.fdp_book.proofs.fdp_collector.Readied.{IsHaving, IsTaking, emptied-unit, emptied-unused}
use Rattle.fdp_book.specs.fdp_pages.Joined.{AreJoined}
use Rattle.fdp_book.specs.fdp_pages.PageTables.{PageTables, passes_at, relocation_at}
use Rattle.fdp_book.proofs.fdp_pages.Regrouped.{passes-there}
use Rattle.fdp_owners.specs.declared.owner.Owner.{Owner}
use Rattle.fdp_owners.specs.OwnerTable.{live_in, owner_at}
use Rattle.fdp_owners.proofs.Tables.{one-live, owned-within}
use Rattle.fdp_passes.specs.declared.due.Due.TheVariants as due
use Rattle.fdp_passes.specs.declared.lane.Lane.{Lane}
use Rattle.fdp_passes.specs.Due.{IsDue, IsShort}
use Rattle.fdp_passes.specs.GroupPasses.{GroupPasses, Pass, begun, slot_of, with_copy}
use Rattle.fdp_passes.specs.Place.{has_taken}
use Rattle.fdp_passes.specs.Targets.{OpensPage, Starves, UsesPage, with_target}
use Rattle.fdp_units.specs.declared.data_unit.DataUnit.{DataUnit}
use Rattle.fdp_units.specs.declared.state.UnitState.{UnitState}
use Rattle.fdp_units.specs.declared.state.UnitState.TheVariants.{Aside, Closed, Free, Referenced, Retired, Target}
use Rattle.fdp_units.specs.DataUnits.{is_closed, is_free, is_open, turned, used}
use Rattle.fdp_units.specs.UnitTable.{Changes, Cut, IsGroup, IsUnit, IsVictim, UnitTable, cut_of, group_in, state_at, unit_at}
use Rattle.fdp_roominess.specs.Room.{HasRoom, HasRoomWith, HaveRoom, taken_in}
use Rattle.fdp_roominess.specs.Units.{EachUnit, is_idle, is_spare, is_free_unit, units_where}
use Rattle.fdp_roominess.proofs.Counting.{no, units-but, units-more, units-none, units-one}
use Rattle.fdp_roominess.proofs.Keeping.{IsNoWorse, group-was, room-kept, room-with, unused-idle, unused-spare, worse-closed, worse-live, worse-same}

-- ---- a pass that took a unit

begun-taken : (victim : ℕ) (o : Option Pass) → (option_map_or (λ (pass : Pass). pass) o (begun victim)).took_unit ≡ option_map_or (λ (pass : Pass). pass.took_unit) o false
begun-taken victim None = refl
begun-taken victim (Some pass) = refl

-- the use of a page, and a copy more, leave it as it is
added-taken : (middle now : Relocation) (lane : Lane) (copy : Copied) (h : AddsCopy middle now lane copy) → taken_in now.passes ≡ taken_in middle.passes
added-taken middle now lane copy h = ap taken_in h.copied ∙ more h.passes.pass ∙ ap taken_in h.used.passes ∙ chosen (is_closed (state_at now.units copy.to.unit)) where
  more : (o : Option Pass) → option_map (λ (pass : Pass). pass.took_unit) (option_map (with_copy copy) o) ≡ option_map (λ (pass : Pass). pass.took_unit) o
  more None = refl
  more (Some pass) = refl

  chosen : (b : Bool) → taken_in (if b then with_target lane None middle.passes else middle.passes) ≡ taken_in middle.passes
  chosen true = refl
  chosen false = refl

-- ---- one unit

-- a target of which a page was used passes the tests that it passed
used-worse : (pages : ℕ) (x : DataUnit) → x.state ≡ Target → IsNoWorse x (used pages x)
used-worse pages x target = chosen (nat_lt (x.next + 1) pages) refl where
  chosen : (b : Bool) → nat_lt (x.next + 1) pages ≡ b → IsNoWorse x (used pages x)
  chosen true is = worse-live x (used pages x) (ap (λ (b : Bool). if b then x.state else Closed) is) (λ zero. zero)
  chosen false is = worse-closed x (used pages x) (ap is_open target) (ap (λ (b : Bool). if b then x.state else Closed) is) refl

-- a free unit that became a target, of which a page was used, is spare
taken-spare : (pages : ℕ) (x : DataUnit) → x.live ≡ 0 → IsTrue (is_spare (used pages (turned pages Target x)))
taken-spare pages x none =
    chosen (nat_lt ((turned pages Target x).next + 1) pages) where
      chosen : (b : Bool) → IsTrue (is_spare (record (turned pages Target x) { state = if b then Target else Closed; next = (turned pages Target x).next + 1 }))
      chosen true = eq-eqb x.live 0 none
      chosen false = eq-eqb x.live 0 none

-- a closed unit that is idle has no live page
idle-closed : (x : DataUnit) → x.state ≡ Closed → IsTrue (is_idle x) → x.live ≡ 0
idle-closed x closed h = eqb-true x.live 0 (ap (λ (s : UnitState). is_free s || is_closed s && (x.live == 0)) (sym closed) ∙ h)

-- an idle unit is free, or closed without a live page
idle-cases : (x : DataUnit) (P : Type 0) → IsTrue (is_idle x) → (IsTrue (is_free x.state) → P) → (IsTrue (is_closed x.state) → x.live ≡ 0 → P) → P
idle-cases x P h free closed = by (is_free x.state) (is_closed x.state) refl refl h where
  by : (a b : Bool) → is_free x.state ≡ a → is_closed x.state ≡ b → (a || b && (x.live == 0)) ≡ true → P
  by true b e f h = free e
  by false true e f h = closed f (eqb-true x.live 0 h)
  by false false e f h = absurd (no (sym h))

module _ (t : PageTables) (rg : ℕ) (joined : AreJoined t) (there : IsGroup t.units rg) where
  abbrev s : Relocation
  s = relocation_at t rg

  ready : IsReady s t.owners t.handles.classes rg
  ready = (joined.groups rg there).ready

  -- ---- where a copy is due

  -- a unit with a page that has an owner has a live page
  some-live : (from : Spot) (x : Owner) → IsUnit t.units from.unit → owner_at t.owners from ≡ Some x → 1 ≤ (unit_at t.units from.unit).live
  some-live from x is owned =
      let one : 1 ≤ live_in t.owners from.unit = one-live t.owners from (owned-within t.owners from x owned) (ap is_some owned) in
      let counted : (unit_at t.units from.unit).live ≡ live_in t.owners from.unit = joined.live.counted from.unit is in
      omega (arith, one, counted)

  -- a victim with a live page has the fewest: so each idle unit is free
  idle-free : (victim : ℕ) → IsVictim t.units rg victim → 1 ≤ (unit_at t.units victim).live → (unit : ℕ) → IsUnit t.units unit → group_in t.units unit ≡ rg → IsTrue (is_idle (unit_at t.units unit)) → IsTrue (is_free_unit (unit_at t.units unit))
  idle-free victim is live unit is_unit group idle =
      idle-cases (unit_at t.units unit) (IsTrue (is_free_unit (unit_at t.units unit))) idle
      (λ free. free)
      (λ closed zero.
      let gains : (unit_at t.units unit).live < t.units.unit_pages = let some = joined.cut.some_page in omega (arith, some, zero) in
      let fewest : (unit_at t.units victim).live ≤ (unit_at t.units unit).live = is.fewest unit (record { is_unit = is_unit; group = group; closed = closed; gains = gains }) in
      absurd (omega (arith, live, fewest, zero)))

  -- a pass that goes on, or begins, in a unit with a live page: where it took no unit two are free
  pub due-room : (from : Spot) (x : Owner) → IsDue s.passes s.units t.owners rg (due.Copy from) → owner_at t.owners from ≡ Some x → HasRoom t rg → HasRoomWith (Some (has_taken s.passes)) t.units rg
  due-room from x is owned = by s.passes.pass is.0 where
    by : (o : Option Pass) → MatchOption o (IsShort s.units rg × IsVictim s.units rg from.unit) (λ (pass : Pass). pass.victim ≡ from.unit) → HasRoomWith (option_map (λ (pass : Pass). pass.took_unit) o) t.units rg → HasRoomWith (Some (option_map_or (λ (pass : Pass). pass.took_unit) o false)) t.units rg
    by (Some pass) same h = h
    by None begins h =
        let victim = begins.1.candidate in
        let live = some-live from x victim.is_unit owned in
        ⊎_elim
        (λ (two : 2 ≤ units_where t.units rg is_idle).
        let more = units-more t.units t.units rg is_idle is_free_unit refl there (idle-free from.unit begins.1 live) in
        omega (arith, two, more))
        (λ (all : EachUnit t.units rg is_idle).
        let idle = all from.unit victim.is_unit victim.group in
        let none : (unit_at t.units from.unit).live ≡ 0 = idle-cases (unit_at t.units from.unit) ((unit_at t.units from.unit).live ≡ 0) idle
        (λ free. absurd (both (state_at t.units from.unit) free victim.closed)) (λ closed zero. zero) in
        absurd (omega (arith, live, none)))
        h where
          both : (x : UnitState) → is_free x ≡ true → is_closed x ≡ true → ⊥
          both Free free closed = no (sym closed)
          both Referenced free closed = no (sym free)
          both Target free closed = no (sym free)
          both Closed free closed = no (sym free)
          both Retired free closed = no (sym free)
          both Aside free closed = no (sym free)

  -- so a copy finds a place
  pub never-starves : (from : Spot) (x : Owner) (p : GroupPasses) (new : UnitTable) → IsDue s.passes s.units t.owners rg (due.Copy from) → owner_at t.owners from ≡ Some x → Starves s.passes p s.units new rg (lane_at t.handles.classes x) → HasRoom t rg → ⊥
  never-starves from x p new is owned starves h = by (has_taken s.passes) starves.first (due-room from x is owned h) where
    by : (b : Bool) → b ≡ false → HasRoomWith (Some b) t.units rg → ⊥
    by true e k = no e
    by false e k =
        let none = units-none t.units rg is_free_unit there (λ unit is_unit group free. starves.free unit (record { is_unit = is_unit; group = group; free = free })) in
        omega (arith, k, none)

  -- ---- a page was copied

  module _ (now : PageTables) (from to : Spot) (x : Owner) (middle : Relocation) (is_due : IsDue s.passes s.units t.owners rg (due.Copy from)) (owned : owner_at t.owners from ≡ Some x) (opened : OpensPage s.passes middle.passes s.units middle.units rg from.unit (lane_at t.handles.classes x) to)
      (copy : Copied) (same : copy ≡ record { from = from; to = to }) (adds : AddsCopy middle (relocation_at now rg) (lane_at t.handles.classes x) copy) where
    abbrev lane : Lane
    lane = lane_at t.handles.classes x

    uses : UsesPage middle.passes adds.passes middle.units now.units lane to.unit
    uses = subst (λ (u : ℕ). UsesPage middle.passes adds.passes middle.units now.units lane u) (ap (λ (z : Copied). z.to.unit) same) adds.used

    taken-now : taken_in (passes_at now rg) ≡ taken_in middle.passes
    taken-now = added-taken middle (relocation_at now rg) lane copy adds

    -- in the target that its lane had
    having : IsHaving s middle from.unit lane to.unit → HasRoom t rg → HasRoom now rg
    having h was =
        let cut : cut_of now.units ≡ cut_of t.units = uses.page.cut ∙ ap cut_of h.units in
        let took : taken_in (passes_at now rg) ≡ Some (has_taken s.passes) = taken-now ∙ ap taken_in h.passes ∙ ap (λ (b : Bool). Some b) (begun-taken from.unit s.passes.pass) in
        let here : unit_at now.units to.unit ≡ used t.units.unit_pages (unit_at t.units to.unit) = changed-here middle.units now.units to.unit _ uses.page ∙ ap (λ (u : UnitTable). used u.unit_pages (unit_at u to.unit)) h.units in
        subst (λ (taken : Option Bool). HasRoomWith taken now.units rg) (sym took)
        (room-with t.units now.units rg there (record {
          cut = cut;
          each = λ unit is group. ⊎_elim
              (λ (own : unit ≡ to.unit). subst (λ (u : ℕ). IsNoWorse (unit_at t.units u) (unit_at now.units u)) (sym own)
              (subst (λ (y : DataUnit). IsNoWorse (unit_at t.units to.unit) y) (sym here) (used-worse t.units.unit_pages (unit_at t.units to.unit) (ready.targets.targets (slot_of lane) to.unit h.target).stands)))
              (λ (ne : unit ≢ to.unit). worse-same (unit_at t.units unit) (unit_at now.units unit) (changed-other middle.units now.units to.unit unit _ uses.page ne ∙ ap (λ (u : UnitTable). unit_at u unit) h.units))
              (cases_eq unit to.unit);
        }) (Some (has_taken s.passes)) (due-room from x is_due owned was))

    -- in a free unit, which the pass took
    taking : IsTaking s middle rg from.unit lane to.unit → HasRoom t rg → HasRoom now rg
    taking h was = subst (λ (taken : Option Bool). HasRoomWith taken now.units rg) (sym took) (one-left, two-spare) where
      cut : cut_of now.units ≡ cut_of t.units
      cut = uses.page.cut ∙ h.taken.cut

      took : taken_in (passes_at now rg) ≡ Some true
      took = taken-now ∙ ap taken_in h.passes

      two : 2 ≤ units_where t.units rg is_free_unit
      two = by (has_taken s.passes) h.first (due-room from x is_due owned was) where
        by : (b : Bool) → b ≡ false → HasRoomWith (Some b) t.units rg → 2 ≤ units_where t.units rg is_free_unit
        by true e k = absurd (no e)
        by false e k = k

      others : (unit : ℕ) → unit ≢ to.unit → unit_at now.units unit ≡ unit_at t.units unit
      others unit ne = changed-other middle.units now.units to.unit unit _ uses.page ne ∙ changed-other t.units middle.units to.unit unit _ h.taken ne

      here : unit_at now.units to.unit ≡ used middle.units.unit_pages (turned t.units.unit_pages Target (unit_at t.units to.unit))
      here = changed-here middle.units now.units to.unit _ uses.page ∙ ap (used middle.units.unit_pages) (changed-here t.units middle.units to.unit _ h.taken)

      unlive : (unit_at t.units to.unit).live ≡ 0
      unlive = let sound = joined.sound to.unit h.free.is_free.is_unit in let live = sound.live in let next = sound.free h.free.is_free.free in omega (arith, live, next)

      one-left : 1 ≤ units_where now.units rg is_free_unit
      one-left =
          let fewer = units-but t.units now.units rg is_free_unit is_free_unit cut there to.unit h.free.is_free.is_unit h.free.is_free.group (λ unit is group ne free. ap is_free_unit (others unit ne) ∙ free) in
          omega (arith, fewer, two)

      pages : middle.units.unit_pages ≡ t.units.unit_pages
      pages = ap (λ (k : Cut). k.unit_pages) h.taken.cut

      spare-here : IsTrue (is_spare (unit_at now.units to.unit))
      spare-here = ap is_spare (here ∙ ap (λ (n : ℕ). used n (turned t.units.unit_pages Target (unit_at t.units to.unit))) pages) ∙ taken-spare t.units.unit_pages (unit_at t.units to.unit) unlive

      two-spare : 2 ≤ units_where now.units rg is_spare
      two-spare =
          let more = units-more t.units now.units rg is_free_unit is_spare cut there (λ unit is group free. ⊎_elim
          (λ (own : unit ≡ to.unit). ap (λ (u : ℕ). is_spare (unit_at now.units u)) own ∙ spare-here)
          (λ (ne : unit ≢ to.unit). ap is_spare (others unit ne) ∙ unused-spare (unit_at t.units unit) free)
          (cases_eq unit to.unit)) in
          omega (arith, more, two)

    copied-cut : cut_of now.units ≡ cut_of t.units
    copied-cut = uses.page.cut ∙ ⊎_elim
        (λ (h : IsHaving s middle from.unit lane to.unit). ap cut_of h.units)
        (λ (h : IsTaking s middle rg from.unit lane to.unit). h.taken.cut)
        opened.target

    copied-others : (unit : ℕ) → unit ≢ to.unit → unit_at now.units unit ≡ unit_at t.units unit
    copied-others unit ne = changed-other middle.units now.units to.unit unit _ uses.page ne ∙ ⊎_elim
        (λ (h : IsHaving s middle from.unit lane to.unit). ap (λ (u : UnitTable). unit_at u unit) h.units)
        (λ (h : IsTaking s middle rg from.unit lane to.unit). changed-other t.units middle.units to.unit unit _ h.taken ne)
        opened.target

    copied-group : group_in t.units to.unit ≡ rg
    copied-group = ⊎_elim
        (λ (h : IsHaving s middle from.unit lane to.unit). (ready.targets.targets (slot_of lane) to.unit h.target).group)
        (λ (h : IsTaking s middle rg from.unit lane to.unit). h.free.is_free.group)
        opened.target

    copied-room : HasRoom t rg → HasRoom now rg
    copied-room was = ⊎_elim (λ h. having h was) (λ h. taking h was) opened.target

  -- ---- a unit was erased

  module _ (now : PageTables) (unit : ℕ) (is_due : IsDue s.passes s.units t.owners rg (due.Erase unit)) (passes : passes_at now rg ≡ record s.passes { pass = None }) (becomes : Changes t.units now.units unit (turned t.units.unit_pages Free (unit_at t.units unit))) where
    emptied : IsUnitOf t.units rg unit Closed
    emptied = emptied-unit s t.owners t.handles.classes rg unit ready is_due.0

    none : (unit_at t.units unit).live ≡ 0
    none = emptied-unused s t.owners t.handles.classes rg unit ready emptied.is_unit is_due.2

    free-now : IsTrue (is_free_unit (unit_at now.units unit))
    free-now = ap is_free_unit (changed-here t.units now.units unit _ becomes)

    others-now : (other : ℕ) → other ≢ unit → unit_at now.units other ≡ unit_at t.units other
    others-now other ne = changed-other t.units now.units unit other _ becomes ne

    -- each idle unit is idle still
    idle-still : (other : ℕ) → IsTrue (is_idle (unit_at t.units other)) → IsTrue (is_idle (unit_at now.units other))
    idle-still other h = ⊎_elim
        (λ (own : other ≡ unit). ap (λ (u : ℕ). is_idle (unit_at now.units u)) own ∙ unused-idle (unit_at now.units unit) free-now)
        (λ (ne : other ≢ unit). ap is_idle (others-now other ne) ∙ h)
        (cases_eq other unit)

    one-more : units_where t.units rg is_free_unit + 1 ≤ units_where now.units rg is_idle
    one-more =
        units-one t.units now.units rg is_free_unit is_idle becomes.cut there unit emptied.is_unit emptied.group
        (λ other is group ne h. unused-idle (unit_at now.units other) (ap is_free_unit (others-now other ne) ∙ h))
        (ap is_free emptied.stands) (unused-idle (unit_at now.units unit) free-now)

    erased-with : (taken : Option Bool) → HasRoomWith taken t.units rg → HasRoomWith None now.units rg
    erased-with None h = ⊎_elim
        (λ (two : 2 ≤ units_where t.units rg is_idle).
        let more = units-more t.units now.units rg is_idle is_idle becomes.cut there (λ other is group idle. idle-still other idle) in
        inl (omega (arith, two, more)))
        (λ (all : EachUnit t.units rg is_idle).
        inr (λ other is group. idle-still other (all other (unit-was t.units now.units other becomes.cut is) (group-kept now.units t.units other rg (sym becomes.cut) group))))
        h
    erased-with (Some false) h = inl (omega (arith, h, one-more))
    erased-with (Some true) h = inl (omega (arith, h.0, one-more))

    erased-room : HasRoom t rg → HasRoom now rg
    erased-room h = subst (λ (taken : Option Bool). HasRoomWith taken now.units rg) (sym (ap taken_in passes)) (erased-with (taken_in (passes_at t rg)) h)

-- ---- all groups

module _ (t now : PageTables) (rg : ℕ) (joined : AreJoined t) (there : IsGroup t.units rg) (rest : now ≡ record t { units = now.units; passes = slice_set t.passes rg (passes_at now rg) }) where
  -- the passes of other groups stay
  other-passes : (k : ℕ) → k ≢ rg → passes_at now k ≡ passes_at t k
  other-passes k ne = ap (λ (x : PageTables). passes_at x k) rest ∙ passes-there t rg k (passes_at now rg) ne

  -- a unit of one group changes
  all-groups : (unit : ℕ) → cut_of now.units ≡ cut_of t.units → group_in t.units unit ≡ rg → ((other : ℕ) → other ≢ unit → unit_at now.units other ≡ unit_at t.units other) → (HasRoom t rg → HasRoom now rg) → HaveRoom t → HaveRoom now
  all-groups unit cut group others own h k there_now =
      let is = group-was t.units now.units k cut there_now in
      ⊎_elim
      (λ (same : k ≡ rg). subst (HasRoom now) (sym same) (own (h rg there)))
      (λ (ne : k ≢ rg). room-kept t now k is (record {
        cut = cut;
        each = λ other is_unit in_group. worse-same (unit_at t.units other) (unit_at now.units other) (others other (λ same. ne (sym in_group ∙ ap (group_in t.units) same ∙ group)));
      }) (ap taken_in (other-passes k ne)) (h k is))
      (cases_eq k rg)

  -- a page was copied
  pub room-copied : (from to : Spot) (x : Owner) (middle : Relocation) → IsDue (passes_at t rg) t.units t.owners rg (due.Copy from) → owner_at t.owners from ≡ Some x → OpensPage (passes_at t rg) middle.passes t.units middle.units rg from.unit (lane_at t.handles.classes x) to
      → (copy : Copied) → copy ≡ record { from = from; to = to } → AddsCopy middle (relocation_at now rg) (lane_at t.handles.classes x) copy → HaveRoom t → HaveRoom now
  room-copied from to x middle is_due owned opened copy same adds =
      all-groups to.unit
      (copied-cut t rg joined there now from to x middle is_due owned opened copy same adds)
      (copied-group t rg joined there now from to x middle is_due owned opened copy same adds)
      (copied-others t rg joined there now from to x middle is_due owned opened copy same adds)
      (copied-room t rg joined there now from to x middle is_due owned opened copy same adds)

  -- a unit was erased
  pub room-erased : (unit : ℕ) → IsDue (passes_at t rg) t.units t.owners rg (due.Erase unit) → passes_at now rg ≡ record (passes_at t rg) { pass = None } → Changes t.units now.units unit (turned t.units.unit_pages Free (unit_at t.units unit)) → HaveRoom t → HaveRoom now
  room-erased unit is_due passes becomes =
      all-groups unit becomes.cut
      (emptied t rg joined there now unit is_due passes becomes).group
      (others-now t rg joined there now unit is_due passes becomes)
      (erased-room t rg joined there now unit is_due passes becomes)

  -- nothing was done
  pub room-rested : relocation_at now rg ≡ relocation_at t rg → HaveRoom t → HaveRoom now
  room-rested same h k there_now =
      let units : now.units ≡ t.units = ap (λ (r : Relocation). r.units) same in
      let is : IsGroup t.units k = subst (λ (u : UnitTable). IsGroup u k) units there_now in
      room-kept t now k is (record { cut = ap cut_of units; each = λ unit is_unit group. worse-same (unit_at t.units unit) (unit_at now.units unit) (ap (λ (u : UnitTable). unit_at u unit) units) })
      (ap taken_in (⊎_elim
      (λ (own : k ≡ rg). ap (passes_at now) own ∙ ap (λ (r : Relocation). r.passes) same ∙ ap (passes_at t) (sym own))
      (λ (ne : k ≢ rg). other-passes k ne)
      (cases_eq k rg))) (h k is)
