-- A group has room still where a step leaves as many units free, idle and spare.
use Rattle.std.proofs.Common.{◌≡◌, ℕ, ◌≤◌, Bool, true, false, ◌&&◌, ◌||◌, Option, Some, None, refl, sym, ◌∙◌, ap, subst, arith, inl, inr, ⊎_elim, eq-eqb}
use Rattle.std.specs.Prelude.{◌==◌, IsTrue}
use Rattle.std.proofs.lemmas.Bool.{eqb-true}
use Rattle.fdp_book.proofs.fdp_collector.Kept.{group-kept, unit-was}
use Rattle.fdp_book.specs.fdp_pages.PageTables.{PageTables, passes_at}
use Rattle.fdp_units.specs.declared.data_unit.DataUnit.{DataUnit}
use Rattle.fdp_units.specs.declared.state.UnitState.{UnitState}
use Rattle.fdp_units.specs.declared.state.UnitState.TheVariants.{Aside, Closed, Free, Referenced, Retired, Target}
use Rattle.fdp_units.specs.DataUnits.{is_closed, is_free, is_open, is_target}
use Rattle.fdp_units.specs.UnitTable.{Cut, IsGroup, IsUnit, UnitTable, cut_of, group_in, unit_at}
use Rattle.fdp_roominess.specs.Room.{HasRoom, HasRoomWith, taken_in}
use Rattle.fdp_roominess.specs.Units.{EachUnit, is_idle, is_spare, is_free_unit, units_where}
use Rattle.fdp_roominess.proofs.Counting.{no, units-more}

-- ---- one unit

-- a test that asks for a unit without a live page, where no page of it came to life
test-kept : (a b : Bool) (m n : ℕ) → (m ≡ 0 → n ≡ 0) → (a || b && (m == 0)) ≡ true → (a || b && (n == 0)) ≡ true
test-kept true b m n none h = refl
test-kept false true m n none h = eq-eqb n 0 (none (eqb-true m 0 h))
test-kept false false m n none h = h

-- a unit passes each of the three tests that it passed
pub record IsNoWorse (x y : DataUnit) : Type 0 where
  pub unused : IsTrue (is_free_unit x) → IsTrue (is_free_unit y)
  pub idle : IsTrue (is_idle x) → IsTrue (is_idle y)
  pub spare : IsTrue (is_spare x) → IsTrue (is_spare y)

pub worse-same : (x y : DataUnit) → y ≡ x → IsNoWorse x y
worse-same x y same = record {
  unused = λ h. ap is_free_unit same ∙ h;
  idle = λ h. ap is_idle same ∙ h;
  spare = λ h. ap is_spare same ∙ h;
}

-- no page of it came to life
pub worse-live : (x y : DataUnit) → y.state ≡ x.state → (x.live ≡ 0 → y.live ≡ 0) → IsNoWorse x y
worse-live x y state none = record {
  unused = λ h. ap is_free state ∙ h;
  idle = λ h. ap (λ (s : UnitState). is_free s || is_closed s && (y.live == 0)) state ∙ test-kept (is_free x.state) (is_closed x.state) x.live y.live none h;
  spare = λ h. ap (λ (s : UnitState). is_free s || (is_closed s || is_target s) && (y.live == 0)) state ∙ test-kept (is_free x.state) (is_closed x.state || is_target x.state) x.live y.live none h;
}

-- it was open, and is closed
pub worse-closed : (x y : DataUnit) → IsTrue (is_open x.state) → y.state ≡ Closed → y.live ≡ x.live → IsNoWorse x y
worse-closed x y opened closed live = by x.state refl where
  is : (s : UnitState) → x.state ≡ s → is_open s ≡ true
  is s e = ap is_open (sym e) ∙ opened

  none : {A : Type 0} → false ≡ true → A
  none e = absurd (no (sym e))

  spares : IsTrue (x.live == 0) → IsTrue (is_spare y)
  spares h = ap (λ (s : UnitState). is_free s || (is_closed s || is_target s) && (y.live == 0)) closed ∙ ap (λ (n : ℕ). n == 0) live ∙ h

  by : (s : UnitState) → x.state ≡ s → IsNoWorse x y
  by Free e = none (is Free e)
  by Referenced e = record {
    unused = λ h. none (ap is_free (sym e) ∙ h);
    idle = λ h. none (ap (λ (s : UnitState). is_free s || is_closed s && (x.live == 0)) (sym e) ∙ h);
    spare = λ h. none (ap (λ (s : UnitState). is_free s || (is_closed s || is_target s) && (x.live == 0)) (sym e) ∙ h);
  }
  by Target e = record {
    unused = λ h. none (ap is_free (sym e) ∙ h);
    idle = λ h. none (ap (λ (s : UnitState). is_free s || is_closed s && (x.live == 0)) (sym e) ∙ h);
    spare = λ h. spares (ap (λ (s : UnitState). is_free s || (is_closed s || is_target s) && (x.live == 0)) (sym e) ∙ h);
  }
  by Closed e = none (is Closed e)
  by Retired e = none (is Retired e)
  by Aside e = none (is Aside e)

-- a unit that a handle fills passes none of them
pub worse-filled : (x y : DataUnit) → x.state ≡ Referenced → IsNoWorse x y
worse-filled x y filled = record {
  unused = λ h. absurd (no (sym (ap is_free (sym filled) ∙ h)));
  idle = λ h. absurd (no (sym (ap (λ (s : UnitState). is_free s || is_closed s && (x.live == 0)) (sym filled) ∙ h)));
  spare = λ h. absurd (no (sym (ap (λ (s : UnitState). is_free s || (is_closed s || is_target s) && (x.live == 0)) (sym filled) ∙ h)));
}

-- an unused unit is idle, and an idle one spare
or-left : (a b : Bool) → a ≡ true → (a || b) ≡ true
or-left true b h = refl
or-left false b h = absurd (no (sym h))

wider : (a b d e : Bool) → (a || b && e) ≡ true → (a || (b || d) && e) ≡ true
wider true b d e h = refl
wider false true d e h = h
wider false false d e h = absurd (no (sym h))

pub unused-idle : (x : DataUnit) → IsTrue (is_free_unit x) → IsTrue (is_idle x)
unused-idle x h = or-left (is_free x.state) (is_closed x.state && (x.live == 0)) h

pub unused-spare : (x : DataUnit) → IsTrue (is_free_unit x) → IsTrue (is_spare x)
unused-spare x h = or-left (is_free x.state) ((is_closed x.state || is_target x.state) && (x.live == 0)) h

pub idle-spare : (x : DataUnit) → IsTrue (is_idle x) → IsTrue (is_spare x)
idle-spare x h = wider (is_free x.state) (is_closed x.state) (is_target x.state) (x.live == 0) h

-- ---- the units of a group

-- each unit of a group passes the tests that it passed
pub record KeepsUnits (t now : UnitTable) (rg : ℕ) : Type 0 where
  pub cut : cut_of now ≡ cut_of t
  pub each : (unit : ℕ) → IsUnit t unit → group_in t unit ≡ rg → IsNoWorse (unit_at t unit) (unit_at now unit)

module _ (t now : UnitTable) (rg : ℕ) (there : IsGroup t rg) (keeps : KeepsUnits t now rg) where
  pub more-unused : units_where t rg is_free_unit ≤ units_where now rg is_free_unit
  more-unused = units-more t now rg is_free_unit is_free_unit keeps.cut there (λ unit is group. (keeps.each unit is group).unused)

  more-idle : units_where t rg is_idle ≤ units_where now rg is_idle
  more-idle = units-more t now rg is_idle is_idle keeps.cut there (λ unit is group. (keeps.each unit is group).idle)

  more-spare : units_where t rg is_spare ≤ units_where now rg is_spare
  more-spare = units-more t now rg is_spare is_spare keeps.cut there (λ unit is group. (keeps.each unit is group).spare)

  all-idle : EachUnit t rg is_idle → EachUnit now rg is_idle
  all-idle h unit is group =
      let was : IsUnit t unit = unit-was t now unit keeps.cut is in
      let own : group_in t unit ≡ rg = group-kept now t unit rg (sym keeps.cut) group in
      (keeps.each unit was own).idle (h unit was own)

  pub room-with : (taken : Option Bool) → HasRoomWith taken t rg → HasRoomWith taken now rg
  room-with None h = ⊎_elim (λ (two : 2 ≤ units_where t rg is_idle). inl (omega (arith, two, more-idle))) (λ (all : EachUnit t rg is_idle). inr (all-idle all)) h
  room-with (Some false) h = omega (arith, h, more-unused)
  room-with (Some true) h = (omega (arith, h.0, more-unused), omega (arith, h.1, more-spare))

-- two units are free, whatever the pass under way took
pub room-free : (t : UnitTable) (rg : ℕ) (taken : Option Bool) → IsGroup t rg → 2 ≤ units_where t rg is_free_unit → HasRoomWith taken t rg
room-free t rg None there two =
    let more = units-more t t rg is_free_unit is_idle refl there (λ unit is group. unused-idle (unit_at t unit)) in
    inl (omega (arith, two, more))
room-free t rg (Some false) there two = two
room-free t rg (Some true) there two =
    let more = units-more t t rg is_free_unit is_spare refl there (λ unit is group. unused-spare (unit_at t unit)) in
    (omega (arith, two), omega (arith, two, more))

-- ---- a group

pub room-kept : (t now : PageTables) (rg : ℕ) → IsGroup t.units rg → KeepsUnits t.units now.units rg → taken_in (passes_at now rg) ≡ taken_in (passes_at t rg) → HasRoom t rg → HasRoom now rg
room-kept t now rg there keeps same h = subst (λ (taken : Option Bool). HasRoomWith taken now.units rg) (sym same) (room-with t.units now.units rg there keeps (taken_in (passes_at t rg)) h)

pub group-was : (t now : UnitTable) (rg : ℕ) → cut_of now ≡ cut_of t → IsGroup now rg → IsGroup t rg
group-was t now rg cut is = omega (arith, is, ap (λ (k : Cut). k.groups) cut)
