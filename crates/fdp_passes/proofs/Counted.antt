-- The live pages of a unit, counted one after another.
use Rattle.std.proofs.Common.{◌≡◌, ℕ, zero, suc, ◌+◌, ◌-◌, ◌≤◌, Bool, true, false, Option, refl, ap, sym, ◌∙◌, arith, cond}
use Rattle.std.specs.Prelude.{count_by, is_some}
use Rattle.std.proofs.lemmas.List.Sums.{sum_by-cons}
use mir.Val.{bool_byte}
use Rattle.fdp_base.specs.Numbers.{numbers_from}
use Rattle.fdp_owners.specs.declared.owner.Owner.{Owner}
use Rattle.fdp_owners.specs.OwnerTable.{OwnerTable, owner_at}
use Rattle.fdp_passes.specs.Room.{live_among}

-- a test as a number
abbrev pub as_number : Bool → ℕ
as_number b = cond b 1 0

pub byte-is : (b : Bool) → bool_byte b ≡ as_number b
byte-is true = refl
byte-is false = refl

-- one number more at the end
count-last : (test : ℕ → Bool) (first count : ℕ) → count_by test (numbers_from first (count + 1)) ≡ count_by test (numbers_from first count) + cond (test (first + count)) 1 0
unfolding numbers_from
count-last test first zero = let at : first ≡ first + 0 = omega arith in ap (λ (k : ℕ). 0 + cond (test k) 1 0) at
count-last test first (suc count) =
    let counts : ℕ → ℕ = λ k. cond (test k) 1 0 in
    let more : suc count + 1 ≡ suc (count + 1) = omega arith in
    let at : counts (first + 1 + count) ≡ counts (first + suc count) = ap counts (omega arith) in
    let longer : count_by test (numbers_from first (suc count + 1)) ≡ counts first + count_by test (numbers_from (first + 1) (count + 1)) = ap (λ (n : ℕ). count_by test (numbers_from first n)) more ∙ sum_by-cons counts first (numbers_from (first + 1) (count + 1)) in
    let shorter : count_by test (numbers_from first (suc count)) ≡ counts first + count_by test (numbers_from (first + 1) count) = sum_by-cons counts first (numbers_from (first + 1) count) in
    let rest : count_by test (numbers_from (first + 1) (count + 1)) ≡ count_by test (numbers_from (first + 1) count) + counts (first + 1 + count) = count-last test (first + 1) count in
    omega (arith, at, longer, shorter, rest)

-- before the first page none is counted
pub none-counted : (o : OwnerTable) (unit first : ℕ) → live_among o unit first (first - first) ≡ 0
unfolding numbers_from
none-counted o unit first = let none : first - first ≡ 0 = omega arith in ap (live_among o unit first) none

-- a page more is counted where it is live
pub one-counted : (o : OwnerTable) (unit first page live : ℕ) (owner : Option Owner) → first ≤ page → live ≡ live_among o unit first (page - first) → owner ≡ owner_at o (record { unit = unit; page = page }) → live + cond (is_some owner) 1 0 ≡ live_among o unit first (page + 1 - first)
one-counted o unit first page live owner low counted is =
    let more : page + 1 - first ≡ page - first + 1 = omega (arith, low) in
    let at : first + (page - first) ≡ page = omega (arith, low) in
    let one : Option Owner → ℕ = λ x. cond (is_some x) 1 0 in
    let here : one (owner_at o (record { unit = unit; page = first + (page - first) })) ≡ one owner = ap (λ (k : ℕ). one (owner_at o (record { unit = unit; page = k }))) at ∙ ap one (sym is) in
    let last : live_among o unit first (page - first + 1) ≡ live_among o unit first (page - first) + one (owner_at o (record { unit = unit; page = first + (page - first) })) = count-last (λ k. is_some (owner_at o (record { unit = unit; page = k }))) first (page - first) in
    let longer : live_among o unit first (page + 1 - first) ≡ live_among o unit first (page - first + 1) = ap (live_among o unit first) more in
    omega (arith, counted, here, last, longer)

pub test-bound : (b : Bool) → cond b 1 0 ≤ 1
test-bound true = omega arith
test-bound false = omega arith
