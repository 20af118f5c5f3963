-- A row that is put into a table: what the table says has another value at one place.
use Rattle.std.proofs.Common.{◌≡◌, ℕ, ◌<◌, true, false, List, length, set, Option, Some, refl, ap, ◌∙◌, arith, slice_get}
use Rattle.std.specs.Prelude.{◌==◌, if◌then◌else◌}
use Rattle.std.proofs.lemmas.Grind.{common_steps}
use Rattle.std.proofs.lemmas.Option.{gets}
use Rattle.std.proofs.lemmas.Bool.Decides.{nat_tests}
use Rattle.fdp_base.specs.Numbers.{with_at}

-- a word of what a table has at a place
pub with_at_read : {X Y : Type 0} (f : X → Y) (table : ℕ → X) (place : ℕ) (value : X) (i : ℕ) → f (with_at table place value i) ≡ with_at (λ k. f (table k)) place (f value) i
with_at_read f table place value i =
    elim (i == place) as (λ b. f (if b then value else table i) ≡ (if b then f value else f (table i))) [ true ↦ refl | false ↦ refl ]

-- the row that is put there, and the rows that were there before
pub slice_get-set : {X : Type 0} (xs : List X) (place : ℕ) (y : X) → place < length xs → (i : ℕ) → slice_get (set xs place y) i ≡ with_at (slice_get xs) place (Some y) i
slice_get-set xs place y there i = grind (arith, common_steps, gets, nat_tests)

-- what is read of the rows
pub read-set : {X Y : Type 0} (f : Option X → Y) (xs : List X) (place : ℕ) (y : X) → place < length xs → (i : ℕ) → f (slice_get (set xs place y) i) ≡ with_at (λ k. f (slice_get xs k)) place (f (Some y)) i
read-set f xs place y there i = ap f (slice_get-set xs place y there i) ∙ with_at_read f (slice_get xs) place (Some y) i
