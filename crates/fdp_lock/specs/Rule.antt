-- The rule of the lock's table. Its word is 1 while the value is out with a seat that has the turn, and else 0. Slot 0 holds the value.
use Rattle.std.specs.Prelude.{◌≡◌, ◌≢◌, ◌==◌, ℕ, ◌<◌, ◌≤◌, List, [], ◌∷◌, Option, Some, sum_by, count_by}
use mathlib.Core.Option.{some}
use mathlib.Core.List.{IsPrefix}
use lib.ListN.{get_elem?}
use Rattle.atomic_table.specs.Table.{State}
use Rattle.fdp_base.specs.declared.recorded.Mark.{Mark}
use Rattle.fdp_base.specs.Records.{carrying}
use Rattle.fdp_lock.specs.declared.view.View.{View}
use Rattle.fdp_lock.specs.declared.view.Stage.{Stage}
use Rattle.fdp_lock.specs.declared.view.Stage.TheVariants.{Idle, Holding}

abbrev pub turn_in : Stage → ℕ
turn_in Idle = 0
turn_in Holding = 1

module _ {O I : Type 0} where
  abbrev pub parts : View O I → ℕ
  parts v = v.parts

  -- 1 where the view has the turn
  abbrev pub has_turn : View O I → ℕ
  has_turn v = turn_in v.stage

  -- how often the view has the number q
  abbrev pub has_number : ℕ → View O I → ℕ
  has_number q v = count_by (λ m. m.0 == q) v.made

-- of the record, the entries with each of these numbers but 0 are just those that were made
abbrev pub AllMade : {I : Type 0} → (I → Mark) → List I → List (ℕ × List I) → Type 0
AllMade mark log [] = Unit {0}
AllMade mark log (m ∷ ms) = (m.0 ≢ 0 → carrying mark m.0 log ≡ m.1) × AllMade mark log ms

-- what the rule says of one view
pub record Fits {O I : Type 0} (mark : I → Mark) (log : List I) (org : O) (v : View O I) : Type 0 where
  pub seen : IsPrefix v.seen log
  pub told : IsPrefix v.told log
  pub origin : 0 < v.parts → v.origin ≡ Some org
  pub made : AllMade mark log v.made
  pub idle : v.parts ≡ 0 → (v.made ≡ []) × (v.stage ≡ Idle)
  pub holding : v.stage ≡ Holding → v.seen ≡ log

-- the value is at home, with the record so far
abbrev pub AtHome : {S O I : Type 0} → (S → O) → (S → List I) → List I → O → List (mathlib.Core.Option.Option (Option S)) → Type 0
AtHome {S} origin entries log org homes = (x : S) × (homes ≡ some (Some x) ∷ []) × (entries x ≡ log) × (origin x ≡ org)

pub record Held {S O I : Type 0} (origin : S → O) (entries : S → List I) (mark : I → Mark) (org : O) (seats : ℕ) (s : State (Option S) (View O I)) : Type 0 where
  pub log : List I
  pub taken : ℕ
  pub words : s.words ≡ taken ∷ []
  -- one view at most has the turn
  pub turn : sum_by has_turn s.views ≡ taken
  pub one : taken ≤ 1
  pub whole : sum_by parts s.views ≡ seats
  pub once : (q : ℕ) → sum_by (has_number q) s.views ≤ 1
  -- a number that no view has is on no entry
  pub unnamed : (q : ℕ) → q ≢ 0 → sum_by (has_number q) s.views ≡ 0 → carrying mark q log ≡ []
  -- the view with the number 0 has given no number above its last
  pub first : (j : ℕ) (v : View O I) → get_elem? s.views j ≡ some v → 0 < has_number 0 v → (q : ℕ) → v.given < q → sum_by (has_number q) s.views ≡ 0
  pub each : (j : ℕ) (v : View O I) → get_elem? s.views j ≡ some v → Fits mark log org v
  pub home : taken ≡ 0 → AtHome origin entries log org s.homes

-- what the first seat knows
abbrev pub first_view : {O I : Type 0} → O → List I → ℕ → View O I
first_view org log seats = record { stage = Idle; parts = seats; given = 0; next = 0; origin = Some org; seen = log; told = []; made = (0, []) ∷ [] }

-- the entries under a seat's own number
abbrev pub own : {I : Type 0} → List (ℕ × List I) → List I
own [] = []
own (m ∷ ms) = m.1

-- a seat's numbers are those of its view
pub record IsTied {O I : Type 0} (v : View O I) (number parts given : ℕ) : Type 0 where
  pub made : v.made ≡ (number, own v.made) ∷ []
  pub parts_is : v.parts ≡ parts
  pub some_part : 0 < parts
  pub given_is : v.given ≡ given
  pub told : v.told ≡ []
