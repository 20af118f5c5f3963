-- The rule of the gauge's cell, and what each step tells.
use Rattle.std.specs.Prelude.{◌≡◌, ℕ, ◌≤◌, Bool, true, false, List, [], ◌∷◌, length, sum_by, count_by}
use mathlib.Core.Option.{some}
use mathlib.Core.List.{IsPrefix}
use lib.ListN.{get_elem?}
use Rattle.fdp_base.specs.declared.recorded.Mark.{Mark}
use Rattle.fdp_base.specs.Records.{longer}
use Rattle.fdp_gauge.specs.declared.known.Known.{Known}

-- the length of a list of marks, and the sums of what they add
abbrev pub counts_of : List Mark → List ℕ
counts_of ms = length ms ∷ sum_by (λ m. m.host_blocks) ms ∷ sum_by (λ m. m.media_blocks) ms ∷ sum_by (λ m. m.erases) ms ∷ []

abbrev pub known : Bool → List Mark → List Mark → Known
known tells seen told = record { tells = tells; seen = seen; told = told }

-- what the teller knows at first
abbrev pub first : Known
first = known true [] []

abbrev pub note : Known → Known
note v = known false v.seen []

abbrev pub nobody : Known
nobody = known false [] []

abbrev pub informed : Known → Known → Known
informed v w = known v.tells v.seen w.seen

-- what a pass knows begins the list, and the teller knows it whole
pub record Fits (list : List Mark) (v : Known) : Type 0 where
  pub seen : IsPrefix v.seen list
  pub told : IsPrefix v.told list
  pub whole : v.tells ≡ true → v.seen ≡ list

-- the words are the counts of one list, which one pass at most tells
pub record Shows (words : List ℕ) (views : List Known) : Type 0 where
  pub list : List Mark
  pub shown : words ≡ counts_of list
  pub each : (j : ℕ) (v : Known) → get_elem? views j ≡ some v → Fits list v
  pub one : count_by (λ v. v.tells) views ≤ 1

-- of each step: what was known, the words before and after, and what is known then

-- the list was told
abbrev pub Stored : List Mark → Known → List ℕ → List ℕ → Known → Type 0
Stored list v before after w = w ≡ known true list []

-- a list was seen that goes on from what had been seen
abbrev pub Looked : Known → List ℕ → List ℕ → Known → Type 0
Looked v before after w = (after ≡ counts_of w.seen) × IsPrefix v.seen w.seen × (w.tells ≡ v.tells) × (w.told ≡ [])

-- what was seen and what was told are beginnings of one list, and the teller's is all of it
abbrev pub Learned : Known → List ℕ → List ℕ → Known → Type 0
Learned v before after w = (w ≡ known v.tells (longer v.seen v.told) []) × IsPrefix v.seen w.seen × IsPrefix v.told w.seen × (v.tells ≡ true → w.seen ≡ v.seen)
