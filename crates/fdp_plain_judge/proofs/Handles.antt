-- Whether a list of numbers has one, by what `contains` answers.
use Rattle.std.proofs.Common.{◌≡◌, ℕ, Bool, true, false, List, eqb, get_or, refl, sym, ◌∙◌}
use Rattle.std.specs.Bool.{Decides}
use Rattle.std.specs.List.{Contains, IsAnyAnswer}
use Rattle.std.proofs.lemmas.Bool.Decides.{Decides-eqb}
use mathlib.Core.Bool.{true≢false}
use Rattle.std.proofs.Common.{arith}

pub any_decides : (xs : List ℕ) (n : ℕ) (r : Bool) → IsAnyAnswer (λ (y : ℕ) (b : Bool). eqb y n ≡ b) xs r → Decides r (Contains xs n)
any_decides xs n true answer = (λ _. (answer.0, answer.1, (Decides-eqb (get_or xs answer.0 n) n).0 (answer.2 n)), λ _. refl)
any_decides xs n false answer = (
  λ (e : false ≡ true). absurd (true≢false (sym e)),
  λ (has : Contains xs n). absurd (true≢false (sym ((Decides-eqb (get_or xs has.0 n) n).1 has.2) ∙ answer has.0 n (omega arith) has.1)),
)
