-- Data that agree at their fronts have the same lines there; and so far as lines of a print stand at the front of a text, its data are read.
use Rattle.std.proofs.Common.{◌≡◌, ℕ, zero, suc, ◌+◌, ◌-◌, ◌*◌, ◌/◌, ◌<◌, ◌≤◌, min, List, [], ◌∷◌, ◌++◌, length, take, drop, refl, sym, ap, ◌∙◌, append_assoc, arith, inl, inr, take-take}
use Rattle.std.specs.Prelude.{codes}
use Rattle.std.specs.List.{before_first, after_first, flat_map}
use Rattle.std.proofs.lemmas.Bool.{cases_lt}
use Rattle.std.proofs.lemmas.List.{drop-take, length-drop, length-take, nil_from_length, take-append-drop}
use Rattle.std.proofs.lemmas.Nat.{div-mul-add}
use Rattle.fdp_base.specs.Geometry.{IsBlockSize}
use Rattle.fdp_base.specs.Text.{hex_bytes}
use Rattle.fdp_output.specs.Output.{block_line, block_lines, block_text, data_line, data_lines, pieces_of}
use Rattle.fdp_trace.specs.Reader.FrontOf.{is_line_feed}
use Rattle.fdp_prints.specs.Told.{AreBytes}
use Rattle.fdp_prints.specs.Reader.{block_in, bytes_in, lines_in}
use Rattle.fdp_prints.proofs.Cutting.{after-is, before-is}
use Rattle.fdp_prints.proofs.Data.{block-back, drop-bytes, indented, show-block, show-bytes, sized, take-bytes}
use Rattle.fdp_prints.proofs.Digits.{bytes-back}
use Rattle.fdp_prints.proofs.Visible.{AllShow, no_feed}
use Rattle.fdp_reader.specs.Form.{AreLines, text_of}
use Rattle.fdp_reader.proofs.Cuts.{first-cut, line-cut, some-line}

-- ---- pieces

pieces-cons : (n size : ℕ) (z : List ℕ) → 0 < length z → pieces_of (suc n) size z ≡ take size z ∷ pieces_of n size (drop size z)
unfolding pieces_of
pieces-cons n size [] some = absurd (omega (arith, some))
pieces-cons n size (b ∷ bs) some = refl

lines-none : (piece : ℕ → List ℕ → List ℕ) (size n : ℕ) (text : List ℕ) → lines_in piece size n 0 text ≡ []
unfolding lines_in
lines-none piece size zero text = refl
lines-none piece size (suc n) text = refl

no-pieces : (f : List ℕ → List ℕ) (n size : ℕ) → flat_map f (pieces_of n size []) ≡ []
unfolding pieces_of
no-pieces f zero size = refl
no-pieces f (suc n) size = refl

none-first : (f : List ℕ → List ℕ) (size : ℕ) (x : List ℕ) → flat_map f (pieces_of 0 size x) ≡ []
unfolding pieces_of
none-first f size x = refl

abbrev row : (List ℕ → List ℕ) → List ℕ → List ℕ
row show x = codes "  " ++ show x ++ 10 ∷ []

row-cut : (t rest : List ℕ) → (codes "  " ++ t ++ 10 ∷ []) ++ rest ≡ (codes "  " ++ t) ++ 10 ∷ rest
row-cut t rest = append_assoc (codes "  " ++ t) (10 ∷ []) rest

-- a print goes on from these lines
abbrev pub GoesOn : List ℕ → List (List ℕ) → Type 0
GoesOn text lines = (more : List ℕ) × (text ≡ text_of lines ++ more)

-- lists agree so far
abbrev pub Agree : ℕ → List ℕ → List ℕ → Type 0
Agree k x y = take k x ≡ take k y

pub agree-none : (size : ℕ) (x y : List ℕ) → Agree (size * 0) x y
agree-none size x y =
    let none : size * 0 ≡ 0 = omega arith in
    ap (λ (k : ℕ). take k x) none ∙ sym (ap (λ (k : ℕ). take k y) none)

pub take-behind : (px a : List ℕ) (k : ℕ) → take (length px + k) (px ++ a) ≡ px ++ take k a
take-behind [] a k = ap (λ (j : ℕ). take j a) (omega arith)
take-behind (b ∷ bs) a k =
    let more : suc (length bs) + k ≡ suc (length bs + k) = omega arith in
    ap (λ (j : ℕ). take j (b ∷ (bs ++ a))) more ∙ ap (λ (xs : List ℕ). b ∷ xs) (take-behind bs a k)

-- a piece of a size in front of lists that agree, or a shorter one with nothing behind it
agree-behind : (size m : ℕ) (px a b : List ℕ) → length px ≤ size → (length px < size → (a ≡ []) × (b ≡ [])) → Agree (size * m) a b → Agree (size * suc m) (px ++ a) (px ++ b)
agree-behind size m px a b le short agree = elim (cases_lt (length px) size) [
  | inl lt ↦ let none = short lt in ap (λ (t : List ℕ). take (size * suc m) (px ++ t)) (none.0 ∙ sym none.1)
  | inr ge ↦
      let all : size * suc m ≡ length px + size * m = (let more : size * suc m ≡ size + size * m = omega arith in omega (arith, more, le, ge)) in
      ap (λ (k : ℕ). take k (px ++ a)) all ∙ take-behind px a (size * m) ∙ ap (λ (t : List ℕ). px ++ t) agree ∙ sym (take-behind px b (size * m)) ∙ sym (ap (λ (k : ℕ). take k (px ++ b)) all)
]

module _ (show : List ℕ → List ℕ) (piece : ℕ → List ℕ → List ℕ) (shows : (x : List ℕ) → AllShow (show x)) (back : (x : List ℕ) → AreBytes x → piece (length x) (show x) ≡ x) where
  -- what is read of lines at the front of a print
  front-read : (size n : ℕ) (x : List ℕ) (lines : List (List ℕ)) (more later : List ℕ) → 0 < size → AreBytes x → AreLines lines
      → flat_map (row show) (pieces_of n size x) ≡ text_of lines ++ more → Agree (size * length lines) (lines_in piece size n (length x) (text_of lines ++ later)) x
  unfolding lines_in
  front-read size n x [] more later some h hl e = agree-none size (lines_in piece size n (length x) later) x
  front-read size zero x (l ∷ ls) more later some h hl e = absurd (some-line l ls more (sym e ∙ none-first (row show) size x))
  front-read size (suc n) [] (l ∷ ls) more later some h hl e = absurd (some-line l ls more (sym e ∙ no-pieces (row show) (suc n) size))
  front-read size (suc n) (b ∷ bs) (l ∷ ls) more later some h hl e =
      let x = b ∷ bs in
      let px = take size x in
      let left = drop size x in
      let rest = flat_map (row show) (pieces_of n size left) in
      let there : row show px ++ rest ≡ text_of (l ∷ ls) ++ more = sym (ap (flat_map (row show)) (pieces-cons n size x (omega arith))) ∙ e in
      let both = line-cut (codes "  " ++ show px) l rest (text_of ls ++ more) (indented (show px) (no_feed (show px) (shows px))) hl.0 (sym (row-cut (show px) rest) ∙ there ∙ first-cut l ls more) in
      let read = lines_in piece size n (length left) (text_of ls ++ later) in
      let front : before_first is_line_feed (text_of (l ∷ ls) ++ later) ≡ l = ap (before_first is_line_feed) (first-cut l ls later) ∙ before-is 10 l (text_of ls ++ later) hl.0 in
      let behind : after_first is_line_feed (text_of (l ∷ ls) ++ later) ≡ text_of ls ++ later = ap (after_first is_line_feed) (first-cut l ls later) ∙ after-is 10 l (text_of ls ++ later) hl.0 in
      let digits : drop 2 (before_first is_line_feed (text_of (l ∷ ls) ++ later)) ≡ show px = ap (λ (t : List ℕ). drop 2 t) (front ∙ sym both.0) in
      let size-is : min size (suc (length bs)) ≡ length px = sym (length-take size x) in
      let left-is : suc (length bs) - size ≡ length left = sym (length-drop size x) in
      let read-is : lines_in piece size (suc n) (length x) (text_of (l ∷ ls) ++ later) ≡ px ++ read =
      ap (λ (t : List ℕ). piece (min size (suc (length bs))) t ++ lines_in piece size n (suc (length bs) - size) (after_first is_line_feed (text_of (l ∷ ls) ++ later))) digits
      ∙ ap (λ (t : List ℕ). piece (min size (suc (length bs))) (show px) ++ lines_in piece size n (suc (length bs) - size) t) behind
      ∙ ap (λ (k : ℕ). piece k (show px) ++ lines_in piece size n (suc (length bs) - size) (text_of ls ++ later)) size-is
      ∙ ap (λ (k : ℕ). piece (length px) (show px) ++ lines_in piece size n k (text_of ls ++ later)) left-is
      ∙ ap (λ (t : List ℕ). t ++ read) (back px (take-bytes size x h)) in
      let few : length px ≤ size = omega (arith, length-take size x) in
      let short : length px < size → (read ≡ []) × (left ≡ []) = λ lt.
      let none : length left ≡ 0 = omega (arith, lt, length-take size x, length-drop size x) in
      (ap (λ (k : ℕ). lines_in piece size n k (text_of ls ++ later)) none ∙ lines-none piece size n (text_of ls ++ later), nil_from_length left none) in
      let others = front-read size n left ls more later some (drop-bytes size x h) hl.1 both.1 in
      ap (take (size * suc (length ls))) read-is ∙ agree-behind size (length ls) px read left few short others ∙ ap (take (size * suc (length ls))) (take-append-drop size x)

  -- data that agree with others so far as these lines tell have them too
  front-print : (size n : ℕ) (x y : List ℕ) (lines : List (List ℕ)) (more : List ℕ) → length x ≡ length y → AreLines lines → Agree (size * length lines) x y
      → flat_map (row show) (pieces_of n size x) ≡ text_of lines ++ more → GoesOn (flat_map (row show) (pieces_of n size y)) lines
  front-print size n x y [] more same hl agree e = (flat_map (row show) (pieces_of n size y), refl)
  front-print size zero x y (l ∷ ls) more same hl agree e = absurd (some-line l ls more (sym e ∙ none-first (row show) size x))
  front-print size (suc n) [] y (l ∷ ls) more same hl agree e = absurd (some-line l ls more (sym e ∙ no-pieces (row show) (suc n) size))
  front-print size (suc n) (b ∷ bs) [] (l ∷ ls) more same hl agree e = absurd (omega (arith, same))
  front-print size (suc n) (b ∷ bs) (d ∷ ds) (l ∷ ls) more same hl agree e =
      let x = b ∷ bs in
      let y = d ∷ ds in
      let px = take size x in
      let m = length ls in
      let all : size * suc m ≡ size + size * m = omega arith in
      let le : size ≤ size * suc m = omega (arith, all) in
      let front : px ≡ take size y = sym (take-take size (size * suc m) x le) ∙ ap (take size) agree ∙ take-take size (size * suc m) y le in
      let there' : take (size + size * m) x ≡ take (size + size * m) y = sym (ap (λ (k : ℕ). take k x) all) ∙ agree ∙ ap (λ (k : ℕ). take k y) all in
      let back' : Agree (size * m) (drop size x) (drop size y) = sym (drop-take size (size * m) x) ∙ ap (drop size) there' ∙ drop-take size (size * m) y in
      let rest = flat_map (row show) (pieces_of n size (drop size x)) in
      let own = flat_map (row show) (pieces_of n size (drop size y)) in
      let there : row show px ++ rest ≡ text_of (l ∷ ls) ++ more = sym (ap (flat_map (row show)) (pieces-cons n size x (omega arith))) ∙ e in
      let both = line-cut (codes "  " ++ show px) l rest (text_of ls ++ more) (indented (show px) (no_feed (show px) (shows px))) hl.0 (sym (row-cut (show px) rest) ∙ there ∙ first-cut l ls more) in
      let others = front-print size n (drop size x) (drop size y) ls more (length-drop size x ∙ ap (λ (k : ℕ). k - size) same ∙ sym (length-drop size y)) hl.1 back' both.1 in (
        others.0,
        ap (flat_map (row show)) (pieces-cons n size y (omega arith)) ∙ ap (λ (t : List ℕ). row show t ++ own) (sym front) ∙ row-cut (show px) own
            ∙ ap (λ (t : List ℕ). t ++ 10 ∷ own) both.0 ∙ ap (λ (t : List ℕ). l ++ 10 ∷ t) others.1 ∙ sym (first-cut l ls others.0),
      )

-- ---- blocks

size-of : (n size : ℕ) (x : List ℕ) → length x ≡ suc n * size → length x / suc n ≡ size
size-of n size x lx = ap (λ (k : ℕ). k / suc n) (omega (arith, lx)) ∙ div-mul-add size (suc n) 0 (omega arith)

blocks-of : (n block : ℕ) (x : List ℕ) → length x ≡ suc n * block → block_lines (suc n) x ≡ flat_map block_line (pieces_of (suc n) block x)
blocks-of n block x lx = ap (λ (k : ℕ). flat_map block_line (pieces_of (suc n) k x)) (size-of n block x lx)

none-read : (x : List ℕ) (size n : ℕ) → length x ≡ 0 * size → x ≡ []
none-read x size n lx = nil_from_length x (omega (arith, lx))

pub blocks-read : (block count : ℕ) (x : List ℕ) (lines : List (List ℕ)) (more later : List ℕ) → IsBlockSize block → length x ≡ count * block → AreBytes x → AreLines lines
    → block_lines count x ≡ text_of lines ++ more → Agree (block * length lines) (lines_in block_in block count (count * block) (text_of lines ++ later)) x
unfolding lines_in
blocks-read block zero x lines more later is lx h hl e = ap (take (block * length lines)) (sym (none-read x block 0 lx))
blocks-read block (suc n) x lines more later is lx h hl e =
    ap (λ (k : ℕ). take (block * length lines) (lines_in block_in block (suc n) k (text_of lines ++ later))) (sym lx)
    ∙ front-read block_text block_in show-block block-back block (suc n) x lines more later (omega (arith, sized block is)) h hl (sym (blocks-of n block x lx) ∙ e)

pub blocks-print : (block count : ℕ) (x y : List ℕ) (lines : List (List ℕ)) (more : List ℕ) → length x ≡ count * block → length y ≡ count * block → AreLines lines → Agree (block * length lines) x y
    → block_lines count x ≡ text_of lines ++ more → GoesOn (block_lines count y) lines
unfolding pieces_of
blocks-print block zero x y lines more lx ly hl agree e = (more, e)
blocks-print block (suc n) x y lines more lx ly hl agree e =
    let g = front-print block_text block_in show-block block-back block (suc n) x y lines more (lx ∙ sym ly) hl agree (sym (blocks-of n block x lx) ∙ e) in
    (g.0, blocks-of n block y ly ∙ g.1)

-- ---- bytes

pub rows-read : (size : ℕ) (x : List ℕ) (lines : List (List ℕ)) (more later : List ℕ) → length x ≡ size → AreBytes x → AreLines lines
    → data_lines x ≡ text_of lines ++ more → Agree (32 * length lines) (lines_in bytes_in 32 size size (text_of lines ++ later)) x
rows-read size x lines more later lx h hl e =
    ap (λ (k : ℕ). take (32 * length lines) (lines_in bytes_in 32 k k (text_of lines ++ later))) (sym lx)
    ∙ front-read hex_bytes bytes_in show-bytes bytes-back 32 (length x) x lines more later (omega arith) h hl e

pub rows-print : (x y : List ℕ) (lines : List (List ℕ)) (more : List ℕ) → length x ≡ length y → AreLines lines → Agree (32 * length lines) x y → data_lines x ≡ text_of lines ++ more → GoesOn (data_lines y) lines
rows-print x y lines more same hl agree e =
    let g = front-print hex_bytes bytes_in show-bytes bytes-back 32 (length x) x y lines more same hl agree e in
    (g.0, ap (λ (k : ℕ). flat_map data_line (pieces_of k 32 y)) (sym same) ∙ g.1)
