-- Orderly references, and one that is changed.
use Rattle.std.proofs.Common.{◌≡◌, ◌⊎◌, inl, inr, ℕ, ◌-◌, ◌<◌, Bool, true, false, cond, List, [], ◌∷◌, Option, Some, None, refl, sym, ◌∙◌, ap, subst, arith, eq-eqb, ne_eqb, ⊎_elim}
use Rattle.std.specs.Prelude.{IfSome, IsFalse, fold, nat_lt}
use Rattle.std.specs.Option.{option_map_or}
use Rattle.std.proofs.lemmas.Bool.{cases_eq, ltb-true}
use Rattle.fdp_base.specs.declared.config.DriveConfig.{DriveConfig}
use Rattle.fdp_rules.specs.Change.{one_less}
use Rattle.fdp_base.specs.Config.{IsValidConfig}
use Rattle.fdp_rules.specs.Effect.{References, is_partly_written, no_reference, updated_at, updated_by, with_reference}
use Rattle.fdp_rules.specs.PlainState.{PlainState, Reference}
use Rattle.fdp_rules.specs.Sites.{group_of}
use Rattle.fdp_rules.specs.Step.{IsDataUnit}
use Rattle.fdp_rules.specs.Target.{Target, named_by}
use Rattle.fdp_history.specs.OrderlyState.{IsOrderlyReference, IsOrderlyState}
use Rattle.fdp_history.proofs.Changed.{with-parts}

-- each is orderly, and no unit is referenced twice
pub record AreOrderlyReferences (c : DriveConfig) (s : PlainState) (references : References) : Type 0 where
  pub each : (rg ruh : ℕ) → IsOrderlyReference c s rg (references rg ruh)
  pub units : (rg ruh other_rg other_ruh unit : ℕ) → (references rg ruh).unit ≡ Some unit → (references other_rg other_ruh).unit ≡ Some unit → (rg ≡ other_rg) × (ruh ≡ other_ruh)

pub references-changed : (c : DriveConfig) (s : PlainState) (references : References) → AreOrderlyReferences c s references → IsOrderlyState c s → IsOrderlyState c (record s { references = references })
references-changed c s references good h =
    with-parts c s (record s { references = references }) (omega arith) refl refl refl refl
    (record {
      writes = h.writes;
      tickets = h.tickets;
      blocks = h.blocks;
      references = good.each;
      kept = λ rg ruh unit e. subst (λ (o : Option ℕ). IfSome o (λ u. IsFalse (s.is_lost u))) e (good.each rg ruh).kept;
      units = good.units;
      media = h.media;
    }) h

pub own-references : (c : DriveConfig) (s : PlainState) → IsOrderlyState c s → AreOrderlyReferences c s s.references
own-references c s h = record { each = h.references; units = h.units }

-- a handle without a unit
pub no_reference-orderly : (c : DriveConfig) (s : PlainState) (rg : ℕ) → IsValidConfig c → IsOrderlyReference c s rg (no_reference c)
no_reference-orderly c s rg valid = record { left = (omega (arith, valid.ranges.unit_pages.0), omega arith); whole = λ _. refl; unit = tt; kept = tt }

-- no handle has a unit
pub none-orderly : (c : DriveConfig) (s : PlainState) → IsValidConfig c → AreOrderlyReferences c s (λ rg ruh. no_reference c)
none-orderly c s valid = record { each = λ rg ruh. no_reference-orderly c s rg valid; units = λ rg ruh other_rg other_ruh unit e f. absurd cc }

module _ (references : References) (rg ruh : ℕ) (x : Reference) where
  -- a reference is the one that was put there, or the one that stood there
  read : (i k : ℕ) → ((i ≡ rg) × (k ≡ ruh) × (with_reference references rg ruh x i k ≡ x)) ⊎ (with_reference references rg ruh x i k ≡ references i k)
  read i k =
      ⊎_elim
      (λ (e : i ≡ rg). ⊎_elim
      (λ (f : k ≡ ruh). inl (e, f, rw (eq-eqb i rg e, eq-eqb k ruh f) refl))
      (λ ne. inr (rw (eq-eqb i rg e, ne_eqb k ruh ne, e) refl))
      (cases_eq k ruh))
      (λ ne. inr (rw (ne_eqb i rg ne) refl))
      (cases_eq i rg)

  -- a reference is put there whose unit no other handle has
  pub with_reference-orderly : (c : DriveConfig) (s : PlainState) → IsOrderlyReference c s rg x → ((unit i k : ℕ) → x.unit ≡ Some unit → (references i k).unit ≡ Some unit → (i ≡ rg) × (k ≡ ruh)) → AreOrderlyReferences c s references → AreOrderlyReferences c s (with_reference references rg ruh x)
  with_reference-orderly c s good alone h = record {
    each = λ i k.
        ⊎_elim
        (λ here. subst (λ (y : Reference). IsOrderlyReference c s i y) (sym here.2) (subst (λ (j : ℕ). IsOrderlyReference c s j x) (sym here.0) good))
        (λ there. subst (λ (y : Reference). IsOrderlyReference c s i y) (sym there) (h.each i k))
        (read i k);
    units = λ i k j l unit e f.
        ⊎_elim
        (λ here. ⊎_elim
        (λ also. (here.0 ∙ sym also.0, here.1 ∙ sym also.1))
        (λ there.
        let same = alone unit j l (ap (λ (y : Reference). y.unit) (sym here.2) ∙ e) (ap (λ (y : Reference). y.unit) (sym there) ∙ f) in
        (here.0 ∙ sym same.0, here.1 ∙ sym same.1))
        (read j l))
        (λ there. ⊎_elim
        (λ also.
        let same = alone unit i k (ap (λ (y : Reference). y.unit) (sym also.2) ∙ f) (ap (λ (y : Reference). y.unit) (sym there) ∙ e) in
        (same.0 ∙ sym also.0, same.1 ∙ sym also.1))
        (λ too. h.units i k j l unit (ap (λ (y : Reference). y.unit) (sym there) ∙ e) (ap (λ (y : Reference). y.unit) (sym too) ∙ f))
        (read j l))
        (read i k);
  }

-- a handle loses its unit
pub shut-orderly : (c : DriveConfig) (s : PlainState) (references : References) (rg ruh : ℕ) → IsValidConfig c → AreOrderlyReferences c s references → AreOrderlyReferences c s (with_reference references rg ruh (no_reference c))
shut-orderly c s references rg ruh valid h = with_reference-orderly references rg ruh (no_reference c) c s (no_reference-orderly c s rg valid) (λ unit i k e f. absurd cc) h

-- ---- updates

updated_at-orderly : (c : DriveConfig) (s : PlainState) (references : References) (t : Target) → IsValidConfig c → AreOrderlyReferences c s references → AreOrderlyReferences c s (updated_at c references t)
updated_at-orderly c s references t valid h =
    elim (is_partly_written c (references t.rg t.ruh)) as (λ b. AreOrderlyReferences c s (cond b (with_reference references t.rg t.ruh (no_reference c)) references)) [ true ↦ shut-orderly c s references t.rg t.ruh valid h | false ↦ h ]

updated_by-orderly : (c : DriveConfig) (s : PlainState) (nsid : ℕ) (now : PlainState) (references : References) (pid : ℕ) → IsValidConfig c → AreOrderlyReferences c s references → AreOrderlyReferences c s (updated_by c now nsid references pid)
updated_by-orderly c s nsid now references pid valid h =
    elim (named_by c now nsid pid) as (λ o. AreOrderlyReferences c s (option_map_or (updated_at c references) o references)) [ None ↦ h | Some t ↦ updated_at-orderly c s references t valid h ]

-- the handles that placement identifiers name are updated
pub updates-orderly : (c : DriveConfig) (s : PlainState) (nsid : ℕ) (now : PlainState) (references : References) (pids : List ℕ) → IsValidConfig c → AreOrderlyReferences c s references → AreOrderlyReferences c s (fold (updated_by c now nsid) references pids)
updates-orderly c s nsid now references [] valid h = h
updates-orderly c s nsid now references (pid ∷ pids) valid h = updates-orderly c s nsid now (updated_by c now nsid references pid) pids valid (updated_by-orderly c s nsid now references pid valid h)

-- ---- a page placed

less-orderly : (c : DriveConfig) (s : PlainState) (rg unit : ℕ) (x : Reference) (b : Bool) → nat_lt 1 x.left ≡ b → IsValidConfig c → IsDataUnit c unit → group_of c unit ≡ rg → IsFalse (s.is_lost unit) → IsOrderlyReference c s rg x → IsOrderlyReference c s rg (cond b (record { unit = Some unit; left = x.left - 1 }) (no_reference c))
less-orderly c s rg unit x true e valid data_unit group kept h =
    let more : 1 < x.left = ltb-true 1 x.left e in
    record { left = (omega (arith, more), omega (arith, h.left.1)); whole = λ none. absurd cc; unit = (data_unit, group); kept = kept }
less-orderly c s rg unit x false e valid data_unit group kept h = no_reference-orderly c s rg valid

pub one_less-orderly : (c : DriveConfig) (s : PlainState) (rg unit : ℕ) (x : Reference) → IsValidConfig c → IsDataUnit c unit → group_of c unit ≡ rg → IsFalse (s.is_lost unit) → IsOrderlyReference c s rg x → IsOrderlyReference c s rg (one_less c unit x)
one_less-orderly c s rg unit x valid data_unit group kept h = less-orderly c s rg unit x (nat_lt 1 x.left) refl valid data_unit group kept h

-- the unit that a handle has after a page was placed in a unit
pub one_less-unit : (c : DriveConfig) (unit u : ℕ) (x : Reference) → (one_less c unit x).unit ≡ Some u → u ≡ unit
one_less-unit c unit u x e =
    (elim (nat_lt 1 x.left) as (λ b. (cond b (record { unit = Some unit; left = x.left - 1 }) (no_reference c)).unit ≡ Some u → u ≡ unit) [ true ↦ (λ some. cc) | false ↦ (λ none. absurd cc) ]) e
