-- Lines at the fronts of texts.
use Rattle.std.specs.Prelude.{◌≡◌, ℕ, List, ◌∷◌, ◌++◌, length}
use Rattle.fdp_reader.specs.Form.{AreLines, IsLine, text_of}

-- the first line of a text, and what stands behind its end
pub record IsNextLine (text line after : List ℕ) : Type 0 where
  pub is_line : IsLine line
  pub cut : text ≡ line ++ 10 ∷ after

-- no line stands first in both
abbrev pub AreApart : List ℕ → List ℕ → Type 0
AreApart left right = (line x y : List ℕ) → IsLine line → left ≡ line ++ 10 ∷ x → right ≡ line ++ 10 ∷ y → ⊥

-- two texts have the same lines at their fronts
pub record HaveLines (left right other rest : List ℕ) : Type 0 where
  pub lines : List (List ℕ)
  pub whole : AreLines lines
  pub left_is : left ≡ text_of lines ++ other
  pub right_is : right ≡ text_of lines ++ rest

-- and no more: so many bytes
pub record SameLines (left right : List ℕ) (count : ℕ) : Type 0 where
  pub other : List ℕ
  pub rest : List ℕ
  pub same : HaveLines left right other rest
  pub counted : count ≡ length (text_of same.lines)
  pub apart : AreApart other rest
