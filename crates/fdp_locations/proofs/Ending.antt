-- What a step of relocation leaves that ends a pass or uses a page for nothing: an erase, or one that failed; a victim that is set
-- aside; no free unit; a page that is skipped.
use Rattle.std.proofs.Common.{◌≡◌, ◌≢◌, ℕ, ◌+◌, ◌/◌, ◌≤◌, ◌<◌, Bool, true, false, List, [], Option, Some, None, refl, sym, ◌∙◌, ap, subst, arith, ⊎_elim, eq-eqb, ne_eqb}
use Rattle.std.specs.Prelude.{◌==◌, ◌&&◌, All, Contains, IfSome, if◌then◌else◌, length, nat_le, slice_set}
use Rattle.std.specs.Option.{option_map_or}
use Rattle.std.proofs.lemmas.Bool.{cases_eq}
use Rattle.std.proofs.lemmas.List.Elements.{All-nil, All-weaker}
use Rattle.std.proofs.lemmas.Option.{slice_get-get_or}
use Rattle.fdp_base.specs.declared.config.DriveConfig.{DriveConfig}
use Rattle.fdp_base.specs.declared.entry.Copied.{Copied}
use Rattle.fdp_base.specs.declared.entry.Entry.TheVariants as entries
use Rattle.fdp_base.specs.declared.entry.Spot.{Spot}
use Rattle.fdp_base.specs.Numbers.{with_at}
use Rattle.fdp_pages.specs.fdp_collector.Erasing.{state_after, worn_after}
use Rattle.fdp_pages.specs.fdp_collector.Ready.{IsUnitOf, Relocation, lane_at}
use Rattle.fdp_pages.specs.fdp_collector.Step.{GoesAside, SkipsPage}
use Rattle.fdp_pages.proofs.fdp_collector.Readied.{emptied-unit}
use Rattle.fdp_flash.proofs.Lists.{slice_set-same}
use Rattle.fdp_flash.specs.declared.answer.Wrote.TheVariants as wrote
use Rattle.fdp_history.specs.Orderly.{IsOrderly}
use Rattle.fdp_locations.specs.Located.{AreLed, AreUnitsOf, next_in}
use Rattle.fdp_locations.specs.Written.{Written, written_after}
use Rattle.fdp_locations.proofs.Copying.{copy-alike, copy-fresh, copy-nexts, copy-pass}
use Rattle.fdp_locations.proofs.Others.{ChangesPasses, HasSameHandles, copies-apart, data-unit, ended-fewer, ended-left, group-same, is-group, passes-other, units-given, unreferenced}
use Rattle.fdp_locations.proofs.Relocated.{ArePassedBy, led-aside, led-erased, led-retired, led-skipped, led-worn}
use Rattle.fdp_locations.proofs.Units.{AreLostAlike, changed-next, units-same}
use Rattle.fdp_owners.specs.declared.owner.Owner.{Owner}
use Rattle.fdp_owners.specs.OwnerTable.{owner_at}
use Rattle.fdp_pages.specs.Joined.{AreJoined}
use Rattle.fdp_pages.specs.PageTables.{PageTables, copies_at, no_passes, passes_at, relocation_at}
use Rattle.fdp_passes.specs.declared.due.Due.TheVariants as due
use Rattle.fdp_passes.specs.declared.lane.Lane.{Lane}
use Rattle.fdp_passes.specs.Due.{IsDue, copies_in}
use Rattle.fdp_passes.specs.GroupPasses.{GroupPasses, Pass, begun}
use Rattle.fdp_passes.specs.Room.{room_in, wanted_in}
use Rattle.fdp_passes.specs.Targets.{OpensPage, Starves, pass_in, with_target}
use Rattle.fdp_pointers.specs.Facts.{IsFree, Page, with_next}
use Rattle.fdp_pointers.specs.Pointers.{Behind}
use Rattle.fdp_rules.specs.Change.{after, changed_by}
use Rattle.fdp_rules.specs.Next.{next}
use Rattle.fdp_rules.specs.PlainState.{PlainState}
use Rattle.fdp_rules.specs.Point.{Point, Trail}
use Rattle.fdp_rules.specs.Sites.{group_of}
use Rattle.fdp_rules.specs.Step.{Follows, IsAside, IsErasable}
use Rattle.fdp_trails.specs.Followed.{FollowsPass, IsCopyOf, IsFollowed, IsPassOf}
use Rattle.fdp_trails.proofs.Grouping.{all-erased, all-renamed}
use Rattle.fdp_trails.proofs.Listing.{unit-empty, unit-erasable}
use Rattle.fdp_units.specs.declared.data_unit.DataUnit.{DataUnit}
use Rattle.fdp_units.specs.declared.state.UnitState.TheVariants.{Closed, Referenced}
use Rattle.fdp_units.specs.DataUnits.{is_closed, is_free, is_lost, turned}
use Rattle.fdp_units.specs.UnitTable.{Changes, IsGroup, IsUnit, UnitTable, group_in, is_worn_at, state_at, unit_at}

closed-referenced : Closed ≡ Referenced → ⊥
closed-referenced e = cc

and-false : (b : Bool) → (b && false) ≡ false
and-false true = refl
and-false false = refl

-- a table with what it has at a place
with-same : {X : Type 0} (f : ℕ → X) (place : ℕ) (x : X) → x ≡ f place → (k : ℕ) → with_at f place x k ≡ f k
with-same f place x same k =
    ⊎_elim
    (λ (e : k ≡ place). ap (λ (b : Bool). if b then x else f k) (eq-eqb k place e) ∙ same ∙ ap f (sym e))
    (λ (ne : k ≢ place). ap (λ (b : Bool). if b then x else f k) (ne_eqb k place ne))
    (cases_eq k place)

-- which units are lost, where one became another
changed-lost : (t new : UnitTable) (unit : ℕ) (y : DataUnit) → Changes t new unit y → (k : ℕ) → is_lost (state_at new k) ≡ with_at (λ j. is_lost (state_at t j)) unit (is_lost y.state) k
changed-lost t new unit y h k = ap (λ (f : ℕ → DataUnit). is_lost (f k).state) h.units ∙ chosen (k == unit)
  where
    chosen : (b : Bool) → is_lost (if b then y else unit_at t k).state ≡ (if b then is_lost y.state else is_lost (state_at t k))
    chosen true = refl
    chosen false = refl

-- ---- what the entries make of the units

-- units and groups are lost and worn as these say, and all else of the units is as it was
record HasUnits (s n : PlainState) (is_lost is_worn : ℕ → Bool) : Type 0 where
  handles : HasSameHandles s n
  lost : n.is_lost ≡ is_lost
  worn : n.is_worn ≡ is_worn

erased-state : (c : DriveConfig) (p : Point) (unit : ℕ) → HasUnits p.state (next c p (entries.Erased (record { unit = unit }))).state p.state.is_lost (with_at p.state.is_worn (unit / c.units) false)
unfolding next after changed_by
erased-state c p unit = record { handles = record { enabled = refl; index = refl; references = refl }; lost = refl; worn = refl }

retired-state : (c : DriveConfig) (p : Point) (unit : ℕ) → HasUnits p.state (next c p (entries.Retired (record { unit = unit }))).state (with_at p.state.is_lost unit true) p.state.is_worn
unfolding next after changed_by
retired-state c p unit = record { handles = record { enabled = refl; index = refl; references = refl }; lost = refl; worn = refl }

aside-state : (c : DriveConfig) (p : Point) (unit : ℕ) → HasUnits p.state (next c p (entries.Aside (record { unit = unit }))).state (with_at p.state.is_lost unit true) p.state.is_worn
unfolding next after changed_by
aside-state c p unit = record { handles = record { enabled = refl; index = refl; references = refl }; lost = refl; worn = refl }

worn-state : (c : DriveConfig) (p : Point) (rg : ℕ) → HasUnits p.state (next c p (entries.Worn (record { rg = rg }))).state p.state.is_lost (with_at p.state.is_worn rg true)
unfolding next after changed_by
worn-state c p rg = record { handles = record { enabled = refl; index = refl; references = refl }; lost = refl; worn = refl }

-- a unit less is in use, and no group is worn that was not
units-less : (c : DriveConfig) (s n : PlainState) (t now : PageTables) (mid : UnitTable) (unit : ℕ) (y : DataUnit) → HasUnits s n (with_at s.is_lost unit true) s.is_worn → AreLostAlike t.units mid → Changes mid now.units unit y → is_lost y.state ≡ true → is_worn_at now.units ≡ is_worn_at mid → now.handles ≡ t.handles → AreUnitsOf c s t → AreUnitsOf c n now
units-less c s n t now mid unit y h alike becomes lost worn handles was =
    units-given c s n t now h.handles (becomes.cut ∙ alike.cut)
    (λ k there e.
    ap (λ (f : ℕ → Bool). f k) h.lost
    ∙ chosen k (k == unit) there e
    ∙ ap (λ (b : Bool). with_at (λ j. is_lost (state_at mid j)) unit b k) (sym lost)
    ∙ sym (changed-lost mid now.units unit y becomes k))
    (λ k e. ap (λ (f : ℕ → Bool). f k) h.worn ∙ e ∙ ap (λ (f : ℕ → Bool). f k) (sym (worn ∙ alike.worn)))
    handles was
  where
    chosen : (k : ℕ) (b : Bool) → IsUnit t.units k → s.is_lost k ≡ is_lost (state_at t.units k) → (if b then true else s.is_lost k) ≡ (if b then true else is_lost (state_at mid k))
    chosen k true there e = refl
    chosen k false there e = e ∙ sym (alike.lost k there)

-- the next page of each unit, where one came into a state in which it is used no more
lost-next : (t new : UnitTable) (unit pages : ℕ) (y : DataUnit) → Changes t new unit y → y.next ≡ next_in t unit → (k : ℕ) → next_in new k ≡ next_in t k
lost-next t new unit pages y h same k = changed-next t new unit y h k ∙ with-same (next_in t) unit y.next same k

-- ---- an erase, or one that failed

module _ (c : DriveConfig) (p : Point) (t : PageTables) (rg unit : ℕ) (joined : AreJoined t) (units : AreUnitsOf c p.state t) (low : rg < c.groups) (is_due : IsDue (passes_at t rg) t.units t.owners rg (due.Erase unit)) where
  closed : IsUnitOf t.units rg unit Closed
  closed = emptied-unit (relocation_at t rg) t.owners t.handles.classes rg unit (joined.groups rg (is-group c p.state t rg units low)).ready is_due.0

  kept : is_lost (state_at t.units unit) ≡ false
  kept = ap is_lost closed.stands

  group : group_of c unit ≡ rg
  group = group-same c p.state t unit units ∙ closed.group

  module _ (written : Spot → Option Written) (at : Behind Page) (orderly : IsOrderly c p) (led : AreLed c p written at t) where
    erasable : IsErasable c p unit
    erasable = record {
      data_unit = data-unit c p.state t unit units closed.is_unit;
      unreferenced = unreferenced c p.state t unit units joined.filled (λ e. closed-referenced (sym closed.stands ∙ e));
      kept = units.agrees.lost unit closed.is_unit ∙ kept;
      empty = unit-erasable c p (next_in t.units) at t.owners unit led.table led.owned is_due.2;
    }

    pub erase-follows : (told : Bool) → Follows told c p (entries.Erased (record { unit = unit }))
    unfolding Follows
    erase-follows told = erasable

    pub retire-follows : (told : Bool) → Follows told c p (entries.Retired (record { unit = unit }))
    unfolding Follows
    retire-follows told = erasable

    free : IsFree unit at
    free = unit-empty t.owners at unit led.owned is_due.2

    module _ (now : PageTables) (owners : now.owners ≡ t.owners) (handles : now.handles ≡ t.handles) (others : ChangesPasses t now rg) (passes : passes_at now rg ≡ record (passes_at t rg) { pass = None }) where
      none : copies_at now rg ≡ []
      none = ap (λ (q : GroupPasses). copies_in q) passes

      passed : (k : ℕ) → k < c.groups → ArePassedBy unit (copies_at now k)
      passed k there = copies-apart t now rg unit joined others none closed.group k (is-group c p.state t k units there)

      pub erased-led : Changes t.units now.units unit (turned t.units.unit_pages (state_after wrote.Done) (unit_at t.units unit)) → AreLed c (next c p (entries.Erased (record { unit = unit }))) (written_after c p.state written (entries.Erased (record { unit = unit }))) at now
      erased-led becomes =
          led-erased true c p unit written at t now orderly (erase-follows true) free (ap owner_at owners)
          (changed-next t.units now.units unit _ becomes)
          (all-erased c p unit at c.groups (passes_at t) (passes_at now) (λ k there. ended-left t now rg others none k) (ap (copies_at now) group ∙ none) led.passes)
          (ended-fewer t now rg others none)
          passed
          led

      pub erased-units : Changes t.units now.units unit (turned t.units.unit_pages (state_after wrote.Done) (unit_at t.units unit)) → is_worn_at now.units ≡ worn_after t.units unit wrote.Done → AreUnitsOf c (next c p (entries.Erased (record { unit = unit }))).state now
      erased-units becomes worn =
          let h = erased-state c p unit in
          units-given c p.state (next c p (entries.Erased (record { unit = unit }))).state t now h.handles becomes.cut
          (λ k there e. ap (λ (f : ℕ → Bool). f k) h.lost ∙ e ∙ sym (changed-lost t.units now.units unit _ becomes k ∙ with-same (λ j. is_lost (state_at t.units j)) unit false (sym kept) k))
          (λ k e.
          ap (λ (f : ℕ → Bool). f k) h.worn
          ∙ ap (λ (n : ℕ). with_at p.state.is_worn n false k) (group-same c p.state t unit units)
          ∙ ap (λ (f : ℕ → Bool). with_at f (group_in t.units unit) false k) (λ d j. units.agrees.worn j d)
          ∙ ap (λ (f : ℕ → Bool). f k) (sym worn))
          handles units

      pub retired-led : Changes t.units now.units unit (turned t.units.unit_pages (state_after wrote.Failed) (unit_at t.units unit)) → AreLed c (next c p (entries.Retired (record { unit = unit }))) (written_after c p.state written (entries.Retired (record { unit = unit }))) at now
      retired-led becomes =
          led-retired true c p unit written at t now orderly (retire-follows true) free (ap owner_at owners)
          (lost-next t.units now.units unit t.units.unit_pages _ becomes (ap (λ (b : Bool). if b then t.units.unit_pages else next_in t.units unit) (and-false (is_free (state_at t.units unit)))))
          (all-renamed c p (entries.Retired (record { unit = unit })) at c.groups (passes_at t) (passes_at now) refl (λ k there. ended-left t now rg others none k)
          (λ k there ends. let same : group_of c unit ≡ k = cc in ap (copies_at now) (sym same ∙ group) ∙ none) led.passes)
          (ended-fewer t now rg others none)
          passed
          led

      pub retired-units : Changes t.units now.units unit (turned t.units.unit_pages (state_after wrote.Failed) (unit_at t.units unit)) → is_worn_at now.units ≡ worn_after t.units unit wrote.Failed → AreUnitsOf c (next c p (entries.Retired (record { unit = unit }))).state now
      retired-units becomes worn =
          units-less c p.state (next c p (entries.Retired (record { unit = unit }))).state t now t.units unit _ (retired-state c p unit) (record { cut = refl; lost = λ k there. refl; worn = refl }) becomes refl worn handles units

-- ---- a victim is set aside, or a page is skipped

-- a full target is none any more, and the pass stays
used-pass : (b : Bool) (lane : Lane) (middle : GroupPasses) → (if b then with_target lane None middle else middle).pass ≡ middle.pass
used-pass true lane middle = refl
used-pass false lane middle = refl

-- a pass with the same victim and copies follows the trail too
followed-same : (at : Behind Page) (t : Trail) (rg : ℕ) (a b : Pass) → b.victim ≡ a.victim → b.next ≡ a.next → b.copies ≡ a.copies → IsFollowed at t rg a → IsFollowed at t rg b
followed-same at t rg a b victim next copies h = record {
  copies = All-weaker (IsCopyOf a) (IsCopyOf b)
      (λ x is. let low : x.from.page < a.next = is.passed in record { old_unit = is.old_unit ∙ sym victim; passed = omega (arith, low, next); new_unit = λ e. is.new_unit (e ∙ victim) })
      b.copies
      (subst (All (IsCopyOf a)) (sym copies) h.copies);
  follows = λ some. subst (FollowsPass at t rg) (sym copies) (h.follows (λ none. some (copies ∙ none)));
}

-- the pass under way, or one that begins
followed-in : (at : Behind Page) (t : Trail) (rg victim : ℕ) (o : Option Pass) → IfSome o (IsFollowed at t rg) → IsFollowed at t rg (option_map_or (λ (pass : Pass). pass) o (begun victim))
followed-in at t rg victim None h = record { copies = All-nil (IsCopyOf (begun victim)); follows = λ some. absurd (some refl) }
followed-in at t rg victim (Some pass) h = h

copies-begun : (victim : ℕ) (o : Option Pass) → (option_map_or (λ (pass : Pass). pass) o (begun victim)).copies ≡ option_map_or (λ (pass : Pass). pass.copies) o []
copies-begun victim None = refl
copies-begun victim (Some pass) = refl

-- a pass that goes on, or is given up
goes-followed : (at : Behind Page) (t : Trail) (rg : ℕ) (b : Bool) (q : GroupPasses) → IsPassOf at t rg q → IsPassOf at t rg (if b then q else record q { pass = None })
goes-followed at t rg true q h = h
goes-followed at t rg false q h = tt

goes-fewer : (b : Bool) (q : GroupPasses) (x : Copied) → Contains (copies_in (if b then q else record q { pass = None })) x → Contains (copies_in q) x
goes-fewer true q x among = among
goes-fewer false q x among = absurd (omega (arith, among.1))

aside-follows-by : (told : Bool) (c : DriveConfig) (p : Point) (unit : ℕ) → IsAside c p unit → Follows told c p (entries.Aside (record { unit = unit }))
unfolding Follows
aside-follows-by told c p unit h = h

-- the victim could not be read
module _ (c : DriveConfig) (p : Point) (t : PageTables) (rg : ℕ) (from : Spot) (joined : AreJoined t) (units : AreUnitsOf c p.state t) (low : rg < c.groups) (is_due : IsDue (passes_at t rg) t.units t.owners rg (due.Copy from)) where
  victim : IsUnitOf t.units rg from.unit Closed
  victim = emptied-unit (relocation_at t rg) t.owners t.handles.classes rg from.unit (joined.groups rg (is-group c p.state t rg units low)).ready is_due.0

  pub aside-follows : (told : Bool) → Follows told c p (entries.Aside (record { unit = from.unit }))
  aside-follows told = aside-follows-by told c p from.unit (record {
    data_unit = data-unit c p.state t from.unit units victim.is_unit;
    unreferenced = unreferenced c p.state t from.unit units joined.filled (λ e. closed-referenced (sym victim.stands ∙ e));
  })

  module _ (now : PageTables) (handles : now.handles ≡ t.handles) (goes : GoesAside (relocation_at t rg) (relocation_at now rg) from.unit) where
    pub aside-units : AreUnitsOf c (next c p (entries.Aside (record { unit = from.unit }))).state now
    aside-units =
        units-less c p.state (next c p (entries.Aside (record { unit = from.unit }))).state t now t.units from.unit _ (aside-state c p from.unit)
        (record { cut = refl; lost = λ k there. refl; worn = refl }) goes.becomes refl goes.worn handles units

    module _ (written : Spot → Option Written) (at : Behind Page) (orderly : IsOrderly c p) (led : AreLed c p written at t) (owners : now.owners ≡ t.owners) (others : ChangesPasses t now rg) where
      given-up : copies_at now rg ≡ []
      given-up = ap (λ (q : GroupPasses). copies_in q) goes.passes

      aside-next : (k : ℕ) → next_in now.units k ≡ next_in t.units k
      aside-next k =
          lost-next t.units now.units from.unit t.units.unit_pages _ goes.becomes (ap (λ (b : Bool). if b then t.units.unit_pages else next_in t.units from.unit) (and-false (is_free (state_at t.units from.unit)))) k

      pub aside-led : AreLed c (next c p (entries.Aside (record { unit = from.unit }))) written at now
      aside-led =
          led-aside true c p from.unit written at t now orderly (aside-follows true)
          (record { owners = ap owner_at owners; next = λ k. omega (arith, aside-next k); fewer = ended-fewer t now rg others given-up })
          (all-renamed c p (entries.Aside (record { unit = from.unit })) at c.groups (passes_at t) (passes_at now) refl (λ k there. ended-left t now rg others given-up k)
          (λ k there ends. let same : group_of c from.unit ≡ k = cc in ap (copies_at now) (sym same ∙ group-same c p.state t from.unit units ∙ victim.group) ∙ given-up) led.passes)
          led

-- the new page was not programmed
module _ (c : DriveConfig) (p : Point) (t : PageTables) (rg : ℕ) (from to : Spot) (owner : Owner) (middle : Relocation) (joined : AreJoined t) (units : AreUnitsOf c p.state t) (low : rg < c.groups) (is_due : IsDue (passes_at t rg) t.units t.owners rg (due.Copy from)) (owned : owner_at t.owners from ≡ Some owner) (opened : OpensPage (passes_at t rg) middle.passes t.units middle.units rg from.unit (lane_at t.handles.classes owner) to) where
  abbrev lane : Lane
  lane = lane_at t.handles.classes owner

  abbrev was : Relocation
  was = relocation_at t rg

  module _ (written : Spot → Option Written) (at : Behind Page) (now : PageTables) (orderly : IsOrderly c p) (led : AreLed c p written at t) (owners : now.owners ≡ t.owners) (handles : now.handles ≡ t.handles) (others : ChangesPasses t now rg) where
    module _ (skips : SkipsPage middle (relocation_at now rg) t.owners lane to.unit) where
      abbrev suffices : Bool
      suffices = nat_le (wanted_in skips.passes t.owners) (room_in skips.passes now.units lane)

      stays : skips.passes.pass ≡ Some (copy-pass c p t rg from to owner middle joined units low is_due owned opened).pass
      stays = ap (λ (q : GroupPasses). q.pass) skips.used.passes ∙ used-pass (is_closed (state_at now.units to.unit)) lane middle.passes ∙ (copy-pass c p t rg from to owner middle joined units low is_due owned opened).under_way

      skipped-pass : IsPassOf at p.trail rg (passes_at now rg)
      skipped-pass =
          let has = copy-pass c p t rg from to owner middle joined units low is_due owned opened in
          subst (IsPassOf at p.trail rg) (sym skips.left) (goes-followed at p.trail rg suffices skips.passes
          (subst (λ (o : Option Pass). IfSome o (IsFollowed at p.trail rg)) (sym stays)
          (followed-same at p.trail rg (pass_in (passes_at t rg) from.unit) has.pass has.same_victim has.same_next has.same_copies (followed-in at p.trail rg from.unit (passes_at t rg).pass (led.passes rg low)))))

      skipped-fewer : (x : Copied) → Contains (copies_at now rg) x → Contains (copies_at t rg) x
      skipped-fewer x among =
          let has = copy-pass c p t rg from to owner middle joined units low is_due owned opened in
          let before : Contains (copies_in skips.passes) x = goes-fewer suffices skips.passes x (subst (λ (q : GroupPasses). Contains (copies_in q) x) skips.left among) in
          subst (λ (xs : List Copied). Contains xs x) (ap (λ (o : Option Pass). option_map_or (λ (pass : Pass). pass.copies) o []) stays ∙ has.same_copies ∙ copies-begun from.unit (passes_at t rg).pass) before

      skipped-next : (k : ℕ) → next_in t.units k ≤ next_in now.units k
      skipped-next k =
          let is : next_in now.units k ≡ with_next (next_in t.units) to k = copy-nexts c p t rg from to owner middle joined units low is_due owned opened skips.passes now.units skips.used k in
          let fresh : to.page ≡ next_in t.units to.unit = copy-fresh c p t rg from to owner middle joined units low is_due owned opened in
          ⊎_elim
          (λ (e : k ≡ to.unit).
          let here : with_next (next_in t.units) to k ≡ to.page + 1 = ap (λ (b : Bool). if b then to.page + 1 else next_in t.units k) (eq-eqb k to.unit e) in
          let same : next_in t.units k ≡ next_in t.units to.unit = ap (next_in t.units) e in
          omega (arith, is, here, same, fresh))
          (λ (ne : k ≢ to.unit).
          let there : with_next (next_in t.units) to k ≡ next_in t.units k = ap (λ (b : Bool). if b then to.page + 1 else next_in t.units k) (ne_eqb k to.unit ne) in
          omega (arith, is, there))
          (cases_eq k to.unit)

      pub skipped-led : AreLed c p written at now
      skipped-led =
          led-skipped c p written at t now
          (record {
            owners = ap owner_at owners;
            next = skipped-next;
            fewer = λ k x among.
                ⊎_elim
                (λ (e : k ≡ rg). subst (λ (n : ℕ). Contains (copies_at t n) x) (sym e) (skipped-fewer x (subst (λ (n : ℕ). Contains (copies_at now n) x) e among)))
                (λ (ne : k ≢ rg). subst (λ (q : GroupPasses). Contains (copies_in q) x) (passes-other t now rg k others ne) among)
                (cases_eq k rg);
          })
          (λ k there.
          ⊎_elim
          (λ (e : k ≡ rg). subst (λ (n : ℕ). IsPassOf at p.trail n (passes_at now n)) (sym e) skipped-pass)
          (λ (ne : k ≢ rg). subst (IsPassOf at p.trail k) (sym (passes-other t now rg k others ne)) (led.passes k there))
          (cases_eq k rg))
          led

      pub skipped-units : AreUnitsOf c p.state now
      skipped-units = units-same c p.state p.state t now (record { enabled = refl; index = refl; references = refl; is_lost = refl; is_worn = refl }) (copy-alike c p t rg from to owner middle joined units low is_due owned opened skips.passes now.units skips.used) handles units

-- ---- no unit is free

module _ (c : DriveConfig) (p : Point) (t now : PageTables) (rg : ℕ) (lane : Lane) (units : AreUnitsOf c p.state t) (low : rg < c.groups) (starves : Starves (passes_at t rg) (passes_at now rg) t.units now.units rg lane) where
  pub worn-follows : (told : Bool) → Follows told c p (entries.Worn (record { rg = rg }))
  unfolding Follows
  worn-follows told = low

  starved-none : copies_at now rg ≡ []
  starved-none = ap (λ (q : GroupPasses). copies_in q) starves.passes

  starved-next : (k : ℕ) → next_in now.units k ≡ next_in t.units k
  starved-next k = ap (λ (f : ℕ → DataUnit). (f k).next) starves.units

  pub worn-led : (written : Spot → Option Written) (at : Behind Page) → IsOrderly c p → now.owners ≡ t.owners → ChangesPasses t now rg → AreLed c p written at t → AreLed c (next c p (entries.Worn (record { rg = rg }))) written at now
  worn-led written at orderly owners others led =
      led-worn true c p rg written at t now orderly (worn-follows true)
      (record { owners = ap owner_at owners; next = λ k. omega (arith, starved-next k); fewer = ended-fewer t now rg others starved-none })
      (all-renamed c p (entries.Worn (record { rg = rg })) at c.groups (passes_at t) (passes_at now) refl (λ k there. ended-left t now rg others starved-none k)
      (λ k there ends. let same : rg ≡ k = cc in ap (copies_at now) (sym same) ∙ starved-none) led.passes)
      led

  pub worn-units : now.handles ≡ t.handles → AreUnitsOf c (next c p (entries.Worn (record { rg = rg }))).state now
  worn-units handles =
      let h = worn-state c p rg in
      units-given c p.state (next c p (entries.Worn (record { rg = rg }))).state t now h.handles starves.cut
      (λ k there e. ap (λ (f : ℕ → Bool). f k) h.lost ∙ e ∙ ap (λ (f : ℕ → DataUnit). is_lost (f k).state) (sym starves.units))
      (λ k e. ap (λ (f : ℕ → Bool). f k) h.worn ∙ ap (λ (f : ℕ → Bool). with_at f rg true k) (λ d j. units.agrees.worn j d) ∙ ap (λ (f : ℕ → Bool). f k) (sym starves.worn))
      handles units

-- ---- nothing is done

pub rests-same : (t now : PageTables) (rg : ℕ) → AreJoined t → IsGroup t.units rg → now ≡ record t { units = now.units; passes = slice_set t.passes rg (passes_at now rg) } → relocation_at now rg ≡ relocation_at t rg → now ≡ t
rests-same t now rg joined there rest same =
    let low : rg < length t.passes = omega (arith, there, joined.cut.passes) in
    rest
    ∙ ap (λ (r : Relocation). record t { units = r.units; passes = slice_set t.passes rg r.passes }) same
    ∙ ap (λ (xs : List GroupPasses). record t { passes = xs }) (slice_set-same t.passes rg (passes_at t rg) (slice_get-get_or t.passes rg no_passes low))
