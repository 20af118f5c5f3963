-- Texts of whole lines, compared line by line.
use Rattle.std.proofs.Common.{◌≡◌, ◌⊎◌, inl, inr, ⊎_elim, ℕ, List, [], ◌∷◌, ◌++◌, refl, sym, ap, ◌∙◌, append_assoc}
use Rattle.std.specs.List.{before_first, after_first}
use Rattle.fdp_trace.specs.Reader.FrontOf.{is_line_feed}
use Rattle.fdp_prints.proofs.Cutting.{after-is, before-is}
use Rattle.fdp_reader.specs.Form.{AreLines, IsLine, ended, text_of}

pub line-cut : (x y xs ys : List ℕ) → IsLine x → IsLine y → x ++ 10 ∷ xs ≡ y ++ 10 ∷ ys → (x ≡ y) × (xs ≡ ys)
line-cut x y xs ys hx hy e = (
  sym (before-is 10 x xs hx) ∙ ap (before_first is_line_feed) e ∙ before-is 10 y ys hy,
  sym (after-is 10 x xs hx) ∙ ap (after_first is_line_feed) e ∙ after-is 10 y ys hy,
)

-- the first line of a text, and what follows
pub first-cut : (line : List ℕ) (lines : List (List ℕ)) (rest : List ℕ) → text_of (line ∷ lines) ++ rest ≡ line ++ 10 ∷ (text_of lines ++ rest)
first-cut line lines rest = append_assoc (line ++ 10 ∷ []) (text_of lines) rest ∙ append_assoc line (10 ∷ []) (text_of lines ++ rest)

pub text-append : (ls ms : List (List ℕ)) → text_of (ls ++ ms) ≡ text_of ls ++ text_of ms
text-append [] ms = refl
text-append (l ∷ ls) ms = ap (λ (t : List ℕ). ended l ++ t) (text-append ls ms) ∙ sym (append_assoc (ended l) (text_of ls) (text_of ms))

pub lines-append : (ls ms : List (List ℕ)) → AreLines ls → AreLines ms → AreLines (ls ++ ms)
lines-append [] ms hl hm = hm
lines-append (l ∷ ls) ms hl hm = (hl.0, lines-append ls ms hl.1 hm)

pub lines-parts : (ls : List (List ℕ)) (line : List ℕ) (ms : List (List ℕ)) → AreLines (ls ++ line ∷ ms) → AreLines ls × IsLine line × AreLines ms
lines-parts [] line ms h = (tt, h.0, h.1)
lines-parts (l ∷ ls) line ms h = let rest = lines-parts ls line ms h.1 in ((h.0, rest.0), rest.1, rest.2)

-- one line more at the end of lines
pub line-more : (ls : List (List ℕ)) (line rest : List ℕ) → text_of (ls ++ line ∷ []) ++ rest ≡ text_of ls ++ line ++ 10 ∷ rest
line-more ls line rest =
    ap (λ (t : List ℕ). t ++ rest) (text-append ls (line ∷ [])) ∙ append_assoc (text_of ls) (text_of (line ∷ [])) rest
    ∙ ap (λ (t : List ℕ). text_of ls ++ t) (first-cut line [] rest) ∙ sym (append_assoc (text_of ls) line (10 ∷ rest))

pub no-end : (x y : List ℕ) → x ++ 10 ∷ y ≡ [] → ⊥
no-end [] y e = absurd cc
no-end (b ∷ bs) y e = absurd cc

pub some-line : (line : List ℕ) (lines : List (List ℕ)) (rest : List ℕ) → text_of (line ∷ lines) ++ rest ≡ [] → ⊥
some-line line lines rest e = no-end line (text_of lines ++ rest) (sym (first-cut line lines rest) ∙ e)

-- of two texts of lines that go on to the same text, one begins with the other: the second has the first and maybe lines more
pub record IsWithin (short long : List (List ℕ)) (rest later : List ℕ) : Type 0 where
  pub more : List (List ℕ)
  pub lines : long ≡ short ++ more
  pub text : rest ≡ text_of more ++ later

-- or the first has the second and a line more
pub record IsBeyond (short long : List (List ℕ)) (rest later : List ℕ) : Type 0 where
  pub line : List ℕ
  pub more : List (List ℕ)
  pub lines : long ≡ short ++ line ∷ more
  pub text : rest ≡ text_of (line ∷ more) ++ later

pub compared : (ds ls : List (List ℕ)) (z w : List ℕ) → AreLines ds → AreLines ls → text_of ds ++ z ≡ text_of ls ++ w → IsWithin ds ls z w ⊎ IsBeyond ls ds w z
compared [] ls z w hd hl e = inl (record { more = ls; lines = refl; text = e })
compared (d ∷ ds) [] z w hd hl e = inr (record { line = d; more = ds; lines = refl; text = sym e })
compared (d ∷ ds) (l ∷ ls) z w hd hl e =
    let both = line-cut d l (text_of ds ++ z) (text_of ls ++ w) hd.0 hl.0 (sym (first-cut d ds z) ∙ e ∙ first-cut l ls w) in
    ⊎_elim
    (λ (h : IsWithin ds ls z w). inl (record { more = h.more; lines = ap (λ (x : List ℕ). x ∷ ls) (sym both.0) ∙ ap (λ (xs : List (List ℕ)). d ∷ xs) h.lines; text = h.text }))
    (λ (h : IsBeyond ls ds w z). inr (record { line = h.line; more = h.more; lines = ap (λ (x : List ℕ). x ∷ ds) both.0 ∙ ap (λ (xs : List (List ℕ)). l ∷ xs) h.lines; text = h.text }))
    (compared ds ls z w hd.1 hl.1 both.1)
