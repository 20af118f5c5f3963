-- As many pages of each unit were used as before, or more.
use Rattle.std.proofs.Common.{◌≡◌, ℕ, ◌+◌, ◌≤◌, true, false, refl, sym, ap, subst, arith, eqb-true, ⊎_elim}
use Rattle.std.specs.Prelude.{◌==◌, if◌then◌else◌}
use Rattle.fdp_base.specs.declared.entry.Spot.{Spot}
use Rattle.fdp_owners.specs.OwnerTable.{OwnerTable}
use Rattle.fdp_durability.specs.fdp_pages.Steps.{IsLeft, Recounts}
use Rattle.fdp_pointers.specs.Facts.{with_next}
use Rattle.fdp_units.specs.declared.data_unit.DataUnit.{DataUnit}
use Rattle.fdp_units.specs.UnitTable.{Changes, UnitTable, unit_at}

-- no unit has fewer pages that were used
abbrev pub GoOn : UnitTable → UnitTable → Type 0
GoOn old new = (unit : ℕ) → (unit_at old unit).next ≤ (unit_at new unit).next

pub same-go : (old new : UnitTable) → unit_at new ≡ unit_at old → GoOn old new
same-go old new same unit = subst (λ (f : ℕ → DataUnit). (unit_at old unit).next ≤ (f unit).next) (sym same) (omega arith)

pub joined-go : (a b c : UnitTable) → GoOn a b → GoOn b c → GoOn a c
joined-go a b c p q unit = let one = p unit in let two = q unit in omega (arith, one, two)

-- one unit changed
pub changed-go : (old new : UnitTable) (unit : ℕ) (x : DataUnit) → Changes old new unit x → (unit_at old unit).next ≤ x.next → GoOn old new
changed-go old new unit x h more other =
    subst (λ (f : ℕ → DataUnit). (unit_at old other).next ≤ (f other).next) (sym h.units)
    ((elim (other == unit) as (λ b. (other == unit) ≡ b → (unit_at old other).next ≤ (if b then x else unit_at old other).next) [
      | true ↦ λ is. subst (λ (u : ℕ). (unit_at old u).next ≤ x.next) (sym (eqb-true other unit is)) more
      | false ↦ λ ne. omega arith
    ]) refl)

-- the units were counted anew
pub recounted-go : (old new : UnitTable) (o : OwnerTable) → Recounts old new o → GoOn old new
recounted-go old new o h unit =
    let same : (unit_at new unit).next ≡ (unit_at old unit).next = ap (λ (x : DataUnit). x.next) (h.kept unit) in
    omega (arith, same)

-- units were left, and closed
pub left-go : (old new : UnitTable) → ((unit : ℕ) → IsLeft (unit_at old unit) (unit_at new unit)) → GoOn old new
left-go old new left unit =
    let same : (unit_at new unit).next ≡ (unit_at old unit).next = ⊎_elim (λ (is : unit_at new unit ≡ unit_at old unit). ap (λ (x : DataUnit). x.next) is) (λ closed. ap (λ (x : DataUnit). x.next) closed.1) (left unit) in
    omega (arith, same)

-- a page was used that is the next of its unit
pub next-go : (old new : UnitTable) (spot : Spot) → spot.page ≡ (unit_at old spot.unit).next → ((unit : ℕ) → (unit_at new unit).next ≡ with_next (λ (u : ℕ). (unit_at old u).next) spot unit) → GoOn old new
next-go old new spot fresh nexts other =
    subst (λ (n : ℕ). (unit_at old other).next ≤ n) (sym (nexts other))
    ((elim (other == spot.unit) as (λ b. (other == spot.unit) ≡ b → (unit_at old other).next ≤ (if b then spot.page + 1 else (unit_at old other).next)) [
      | true ↦ λ is. (let same : (unit_at old other).next ≡ (unit_at old spot.unit).next = ap (λ (u : ℕ). (unit_at old u).next) (eqb-true other spot.unit is) in omega (arith, same, fresh))
      | false ↦ λ ne. omega arith
    ]) refl)
