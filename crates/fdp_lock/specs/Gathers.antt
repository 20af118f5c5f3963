-- What a seat knows that has taken in others, and of the value that the lock then gives back.
use Rattle.std.specs.Prelude.{◌≡◌, ◌≢◌, ℕ, ◌<◌, List, [], Option, Some, All, sum_by}
use mathlib.Core.List.{IsPrefix}
use Rattle.fdp_base.specs.declared.recorded.Mark.{Mark}
use Rattle.fdp_base.specs.Records.{carrying}
use Rattle.fdp_lock.specs.declared.view.View.{View}
use Rattle.atomic_table.specs.Seated.{TableId}
use Rattle.atomic_table.specs.declared.shared.Seat.{Seat as Token}
use Rattle.fdp_lock.specs.declared.seat.Seat.{Seat}
use Rattle.fdp_lock.specs.declared.view.Stage.TheVariants.{Idle}
use Rattle.fdp_lock.specs.Rule.{AllMade, has_number}
use Rattle.fdp_lock.specs.Seats.{number_of, parts_of, seen_of, made_of}
use Rattle.fdp_lock.specs.Steps.{joined, learning}

-- the value that a lock gives back to one who has all parts and knew v
pub record Ends {S O I : Type 0} (origin : S → O) (entries : S → List I) (mark : I → Mark) (v : View O I) (x : S) : Type 0 where
  pub origin_is : v.origin ≡ Some (origin x)
  pub seen : IsPrefix v.seen (entries x)
  pub made : AllMade mark (entries x) v.made
  pub others : (q : ℕ) → q ≢ 0 → has_number q v ≡ 0 → carrying mark q (entries x) ≡ []

-- what a view is that has taken in another, and compared what both have seen
abbrev pub takes_in : {O I : Type 0} → View O I → View O I → View O I
takes_in v w = learning (joined v w)

abbrev pub IsAtRest : {S O I : Type 0} → Token (Option S) (View O I) → Type 0
IsAtRest t = (t.me.0.stage ≡ Idle) × (t.me.1 ≡ [])

-- one place at the table has all that these seats have
pub record Gathered {S O I : Type 0} {g : _} (mark : I → Mark) (table : TableId) (org : O) (seats : List (Seat S O I g)) (t : Token (Option S) (View O I)) : Type 0 where
  pub of_table : t.table_id ≡ table
  pub rests : IsAtRest t
  pub origin_is : t.me.0.origin ≡ Some org
  pub some_part : 0 < t.me.0.parts
  pub parts_are : t.me.0.parts ≡ sum_by (λ s. parts_of s) seats
  pub seen : All (λ s. IsPrefix (seen_of s) t.me.0.seen) seats
  pub made : (log : List I) → AllMade mark log t.me.0.made → All (λ s. number_of s ≢ 0 → carrying mark (number_of s) log ≡ made_of s) seats
  pub others : (q : ℕ) → All (λ s. number_of s ≢ q) seats → has_number q t.me.0 ≡ 0
