-- What the table of states gives.
use Rattle.std.proofs.Common.{◌≡◌, ℕ, Bool, true, false, refl, sym, ◌∙◌, arith}
use Rattle.std.specs.Prelude.{not, ◌||◌, ◌==◌}
use Rattle.std.proofs.lemmas.Bool.{and_parts, eqb-true}
use Rattle.fdp_units.specs.declared.data_unit.DataUnit.{DataUnit}
use Rattle.fdp_units.specs.declared.state.UnitState.{UnitState}
use Rattle.fdp_units.specs.declared.state.UnitState.TheVariants.{Free, Referenced, Target, Closed, Retired, Aside}
use Rattle.fdp_units.specs.DataUnits.{IsSound, is_end_of_erase, is_free, is_open, may_become, may_turn}

-- only a free unit is opened
opened-free : (from to : UnitState) → may_become from to ≡ true → is_open to ≡ true → is_free from ≡ true
opened-free from Free may opens = absurd cc
opened-free from Closed may opens = absurd cc
opened-free from Retired may opens = absurd cc
opened-free from Aside may opens = absurd cc
opened-free Free Referenced may opens = refl
opened-free Referenced Referenced may opens = absurd cc
opened-free Target Referenced may opens = absurd cc
opened-free Closed Referenced may opens = absurd cc
opened-free Retired Referenced may opens = absurd cc
opened-free Aside Referenced may opens = absurd cc
opened-free Free Target may opens = refl
opened-free Referenced Target may opens = absurd cc
opened-free Target Target may opens = absurd cc
opened-free Closed Target may opens = absurd cc
opened-free Retired Target may opens = absurd cc
opened-free Aside Target may opens = absurd cc

or-open : (a b : Bool) → a ≡ false → (a || b) ≡ true → b ≡ true
or-open a b none e = rw none at e

-- only a unit without a live page is erased
pub turned-free : (pages : ℕ) (x : DataUnit) (to : UnitState) → IsSound pages x → may_turn to x ≡ true → is_free to ≡ true → IsSound pages (record { state = to; next = 0; live = x.live })
turned-free pages x to sound may free = record {
  some = sound.some;
  next = omega arith;
  live = let none : x.live ≡ 0 = eqb-true x.live 0 (no-page to (x.live == 0) (and_parts (may_become x.state to) _ may).1 free) in omega (arith, none);
  free = λ is. refl;
  room = λ is. omega (arith, sound.some);
} where
  no-page : (to : UnitState) (b : Bool) → (b || not (is_end_of_erase to)) ≡ true → is_free to ≡ true → b ≡ true
  no-page to true e f = refl
  no-page Free false e f = absurd cc
  no-page Referenced false e f = absurd cc
  no-page Target false e f = absurd cc
  no-page Closed false e f = absurd cc
  no-page Retired false e f = absurd cc
  no-page Aside false e f = absurd cc

-- a unit that is not erased keeps its pages
pub turned-sound : (pages : ℕ) (x : DataUnit) (to : UnitState) → IsSound pages x → may_turn to x ≡ true → is_free to ≡ false → IsSound pages (record { state = to; next = x.next; live = x.live })
turned-sound pages x to sound may kept = record {
  some = sound.some;
  next = sound.next;
  live = sound.live;
  free = λ is. absurd (no (sym is ∙ kept));
  room = λ is. sound.room (first (is_free x.state) (is_open x.state) (opened-free x.state to (and_parts (may_become x.state to) _ may).0 (or-open (is_free to) (is_open to) kept is)));
} where
  no : true ≡ false → ⊥
  no e = cc

  first : (a b : Bool) → a ≡ true → (a || b) ≡ true
  first a b e = rw e refl
