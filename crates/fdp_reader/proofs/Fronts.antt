-- The lines at the front of a text.
use Rattle.std.proofs.Common.{◌≡◌, ℕ, ◌+◌, ◌-◌, ◌<◌, ◌≤◌, Bool, true, false, cond, List, [], ◌∷◌, ◌++◌, length, take, drop, refl, sym, ap, subst, ◌∙◌, append_assoc, arith, ne_eqb}
use Rattle.std.specs.Prelude.{bytes_eq, count_by, ◌==◌}
use Rattle.std.proofs.lemmas.List.{length-append, take-append-drop}
use Rattle.std.proofs.lemmas.List.Sums.{sum_by-cons}
use Rattle.std.proofs.lemmas.Slice.Eq.{bytes_eq-Decides}
use Rattle.fdp_trace.specs.Reader.FrontOf.{is_line_feed}
use Rattle.fdp_reader.specs.Form.{AreLines, IsLine, text_of}
use Rattle.fdp_reader.specs.Lines.{AreApart, HaveLines, IsNextLine, SameLines}
use Rattle.fdp_reader.specs.Next.{Begins}
use Rattle.fdp_reader.proofs.Cuts.{line-cut, line-more, lines-append}

-- ---- lines that two texts have

pub have-none : (left right : List ℕ) → HaveLines left right left right
have-none left right = record { lines = []; whole = tt; left_is = refl; right_is = refl }

pub have-more : (left right other rest line after own behind : List ℕ) → HaveLines left right other rest → IsNextLine other line after → IsNextLine rest own behind → bytes_eq line own ≡ true → HaveLines left right after behind
have-more left right other rest line after own behind h n m same =
    let one = (bytes_eq-Decides line own).0 same in
    record {
      lines = h.lines ++ line ∷ [];
      whole = lines-append h.lines (line ∷ []) h.whole (n.is_line, tt);
      left_is = h.left_is ∙ ap (λ (t : List ℕ). text_of h.lines ++ t) n.cut ∙ sym (append_assoc (text_of h.lines) line (10 ∷ after)) ∙ sym (line-more h.lines line after);
      right_is = h.right_is ∙ ap (λ (t : List ℕ). text_of h.lines ++ t) (m.cut ∙ ap (λ (l : List ℕ). l ++ 10 ∷ behind) (sym one)) ∙ sym (append_assoc (text_of h.lines) line (10 ∷ behind)) ∙ sym (line-more h.lines line behind);
    }

pub same-lines : (left right other rest : List ℕ) → HaveLines left right other rest → AreApart other rest → SameLines left right (length right - length rest)
same-lines left right other rest h apart = record {
  other = other;
  rest = rest;
  same = h;
  counted = omega (arith, ap (λ (t : List ℕ). length t) h.right_is, length-append (text_of h.lines) rest);
  apart = apart;
}

-- a text without an end of a line has no first line
no-feed-in : (line x : List ℕ) → IsLine (line ++ 10 ∷ x) → ⊥
no-feed-in [] x h = h.0 refl
no-feed-in (b ∷ bs) x h = no-feed-in bs x h.1

pub no-line : (text : List ℕ) → IsLine text → (line x : List ℕ) → text ≡ line ++ 10 ∷ x → ⊥
no-line text is line x e = no-feed-in line x (subst IsLine e is)

pub apart-left : (other rest : List ℕ) → IsLine other → AreApart other rest
apart-left other rest is line x y l e f = no-line other is line x e

pub apart-right : (other rest : List ℕ) → IsLine rest → AreApart other rest
apart-right other rest is line x y l e f = no-line rest is line y f

no_both : (b : Bool) → b ≡ true → b ≡ false → ⊥
no_both b yes' no' = cc

pub apart-here : (other rest line after own behind : List ℕ) → IsNextLine other line after → IsNextLine rest own behind → bytes_eq line own ≡ false → AreApart other rest
apart-here other rest line after own behind n m differ l x y is e f =
    let a = line-cut line l after x n.is_line is (sym n.cut ∙ e) in
    let b = line-cut own l behind y m.is_line is (sym m.cut ∙ f) in
    no_both (bytes_eq line own) ((bytes_eq-Decides line own).1 (a.0 ∙ sym b.0)) differ

-- ---- a text that begins with another

take-front : (front more : List ℕ) (n : ℕ) → n ≡ length front → take n (front ++ more) ≡ front
take-front [] more n e = ap (λ (k : ℕ). take k more) e
take-front (b ∷ bs) more n e = ap (λ (k : ℕ). take k (b ∷ bs ++ more)) e ∙ ap (λ (xs : List ℕ). b ∷ xs) (take-front bs more (length bs) refl)

pub begins-by : (text front : List ℕ) (b : Bool) → length front ≤ length text → b ≡ bytes_eq (take (length front) text) front → Begins text front b
begins-by text front true few e = sym (take-append-drop (length front) text) ∙ ap (λ (t : List ℕ). t ++ drop (length front) text) ((bytes_eq-Decides (take (length front) text) front).0 (sym e))
begins-by text front false few e = λ more whole.
    let same : take (length front) text ≡ front = ap (take (length front)) whole ∙ take-front front more (length front) refl in
    no_both (bytes_eq (take (length front) text) front) ((bytes_eq-Decides (take (length front) text) front).1 same) (sym e)

pub begins-not : (text front : List ℕ) → length text < length front → Begins text front false
begins-not text front few more whole = omega (arith, few, ap (λ (t : List ℕ). length t) whole, length-append front more)

-- ---- the number of a line

abbrev one-at : ℕ → ℕ
one-at b = cond (is_line_feed b) 1 0

count-line : (line : List ℕ) (rest : List ℕ) → IsLine line → count_by is_line_feed (line ++ 10 ∷ rest) ≡ count_by is_line_feed rest + 1
count-line [] rest is = sum_by-cons one-at 10 rest ∙ omega arith
count-line (b ∷ bs) rest is =
    let first : one-at b ≡ 0 = ap (λ (t : Bool). cond t 1 0) (ne_eqb b 10 is.0) in
    sum_by-cons one-at b (bs ++ 10 ∷ rest) ∙ omega (arith, first, count-line bs rest is.1)

pub count-lines : (lines : List (List ℕ)) (rest : List ℕ) → AreLines lines → count_by is_line_feed (take (length (text_of lines)) (text_of lines ++ rest)) ≡ length lines
count-lines lines rest hl = ap (count_by is_line_feed) (take-front (text_of lines) rest (length (text_of lines)) refl) ∙ all lines hl where
  all : (ls : List (List ℕ)) → AreLines ls → count_by is_line_feed (text_of ls) ≡ length ls
  all [] h = refl
  all (l ∷ ls) h = ap (count_by is_line_feed) (append_assoc l (10 ∷ []) (text_of ls)) ∙ count-line l (text_of ls) h.0 ∙ omega (arith, all ls h.1)

-- the number of the line that begins behind these
pub line-number : (text : List ℕ) (lines : List (List ℕ)) (rest : List ℕ) (place number : ℕ) → AreLines lines → text ≡ text_of lines ++ rest → place ≡ length (text_of lines) → number ≡ count_by is_line_feed (take place text) + 1 → number ≡ length lines + 1
line-number text lines rest place number hl is at counted =
    counted ∙ ap (λ (k : ℕ). count_by is_line_feed (take k text) + 1) at ∙ ap (λ (t : List ℕ). count_by is_line_feed (take (length (text_of lines)) t) + 1) is
    ∙ ap (λ (k : ℕ). k + 1) (count-lines lines rest hl)

-- how many bytes stand in front of the rest
pub front-len : (text front rest : List ℕ) → text ≡ front ++ rest → length text ≡ length front + length rest
front-len text front rest is = ap (λ (t : List ℕ). length t) is ∙ length-append front rest

pub some-left : (text : List ℕ) → (length text == 0) ≡ false → 0 < length text
some-left [] e = absurd cc
some-left (b ∷ bs) e = omega arith
