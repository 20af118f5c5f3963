-- Rows that get spare room hold what they held.
use Rattle.std.proofs.Common.{◌≡◌, Err, Ok, ℕ, ◌<◌, List, length, get_or, set, Some, slice_get, ap, ◌∙◌, arith, map}
use Rattle.std.specs.Option.{IfSome}
use Rattle.std.specs.Prelude.{OnErr, Result}
use Rattle.std.proofs.Math.Seq.{map-set_same}
use Rattle.std.proofs.lemmas.Grind.{common_steps}
use Rattle.std.proofs.lemmas.Option.{gets}
use Rattle.std.proofs.lemmas.Bool.Decides.{nat_tests}

-- a row in place of one that reads as it does
pub same_rows : {V X : Type 0} (read : V → X) (xs : List V) (i : ℕ) (v w : V) → v ≡ get_or xs i v → read w ≡ read v → map read (set xs i w) ≡ map read xs
same_rows read xs i v w at e = map-set_same read xs i w v (e ∙ ap read at)

-- the row that was put there
put_row : {V : Type 0} (xs : List V) (i : ℕ) (w : V) → i < length xs → slice_get (set xs i w) i ≡ Some w
put_row xs i w there = grind (arith, common_steps, gets, nat_tests)

pub room_put : {V : Type 0} (P : V → Type 0) (xs : List V) (i j : ℕ) (w : V) → j ≡ i → i < length xs → P w → IfSome (slice_get (set xs i w) j) P
room_put P xs i j w same there h = rw (same, put_row xs i w there) h

-- what holds whatever comes holds of an error
pub on_err : {T E P : Type 0} (r : Result T E) → P → OnErr r P
on_err (Ok v) p = tt
on_err (Err e) p = p
