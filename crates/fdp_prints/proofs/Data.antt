-- The lines of data tell their bytes.
use Rattle.std.proofs.Common.{◌≡◌, inl, inr, ℕ, zero, suc, ◌+◌, ◌-◌, ◌*◌, ◌/◌, ◌%◌, ◌^◌, ◌<◌, ◌≤◌, min, Bool, true, false, List, [], ◌∷◌, ◌++◌, length, take, drop, get_or, refl, sym, ap, ◌∙◌, arith, append_assoc, ne_eqb, eq-eqb, cond}
use Rattle.std.specs.Prelude.{codes, bytes_eq, flat_map, if◌then◌else◌, ◌==◌}
use Rattle.std.specs.Int.{from_le_bytes, to_le_bytes, w32}
use Rattle.std.specs.List.{before_first, after_first}
use Rattle.std.proofs.lemmas.Bool.{cases_lt, eqb-true, or_cases}
use Rattle.std.proofs.lemmas.List.{nil_from_length, length-take, length-drop, take-append-drop, take_all}
use Rattle.std.proofs.lemmas.Nat.{le_bytes_4, div-mul-add}
use Rattle.std.proofs.lemmas.Slice.Eq.{bytes_eq-Decides}
use Rattle.fdp_base.specs.declared.command.Command.{Command}
use Rattle.fdp_base.specs.declared.command.Command.TheVariants as commands
use Rattle.fdp_base.specs.declared.config.DriveConfig.{DriveConfig}
use Rattle.fdp_base.specs.declared.status.Status.{Status}
use Rattle.fdp_base.specs.Geometry.{IsBlockSize}
use Rattle.fdp_base.specs.Pattern.{repeated}
use Rattle.fdp_base.specs.Text.{hex, hex_bytes}
use Rattle.fdp_output.specs.CommandData.{own_text}
use Rattle.fdp_output.specs.CommandText.{is_spelled}
use Rattle.fdp_output.specs.Output.{pieces_of, block_text, block_line, block_lines, data_lines, data_text}
use Rattle.fdp_trace.specs.Reader.FrontOf.{is_line_feed}
use Rattle.fdp_prints.specs.Told.{AreBytes, data_size, is_success, reply_size}
use Rattle.fdp_prints.specs.Reader.{block_in, bytes_in, hex_number, lines_in, reply_in, success_in}
use Rattle.fdp_prints.proofs.Cutting.{HasNone, after-is, before-is, none-append}
use Rattle.fdp_prints.proofs.Visible.{AllShow, no_feed, show-append, show-hex}
use Rattle.fdp_prints.proofs.Digits.{bytes-back, dword-fits, length-hex, length-hex_bytes, number-hex}

-- ---- bytes of a part

pub take-bytes : (n : ℕ) (x : List ℕ) → AreBytes x → AreBytes (take n x)
take-bytes zero x h = tt
take-bytes (suc n) [] h = tt
take-bytes (suc n) (b ∷ bs) h = (h.0, take-bytes n bs h.1)

pub drop-bytes : (n : ℕ) (x : List ℕ) → AreBytes x → AreBytes (drop n x)
drop-bytes zero x h = h
drop-bytes (suc n) [] h = tt
drop-bytes (suc n) (b ∷ bs) h = drop-bytes n bs h.1

byte-at : (x : List ℕ) → AreBytes x → (i : ℕ) → get_or x i 0 < 256
byte-at [] h i = omega arith
byte-at (b ∷ bs) h zero = h.0
byte-at (b ∷ bs) h (suc i) = byte-at bs h.1 i

-- ---- a block

-- the word that fills a block, if one does, and the block that it fills
abbrev word : List ℕ → ℕ
word x = from_le_bytes w32 (take 4 x)

abbrev filled : List ℕ → List ℕ
filled x = repeated (length x / 4) (take 4 x)

number-is : (a b c d : ℕ) → from_le_bytes w32 (a ∷ b ∷ c ∷ d ∷ []) ≡ a + 256 * b + 65536 * c + 16777216 * d
number-is a b c d = omega arith

word-fits : (x : List ℕ) → 4 ≤ length x → AreBytes x → word x < 2 ^ 32
word-fits [] long h = absurd (omega (arith, long))
word-fits (a ∷ []) long h = absurd (omega (arith, long))
word-fits (a ∷ b ∷ []) long h = absurd (omega (arith, long))
word-fits (a ∷ b ∷ c ∷ []) long h = absurd (omega (arith, long))
word-fits (a ∷ b ∷ c ∷ d ∷ rest) long h = omega (arith, number-is a b c d, h.0, h.1.0, h.1.1.0, h.1.1.1.0)

front-back : (x : List ℕ) → 4 ≤ length x → AreBytes x → to_le_bytes w32 (word x) ≡ take 4 x
front-back x long h = le_bytes_4 (take 4 x) (word x) (omega (arith, length-take 4 x, long)) (byte-at (take 4 x) (take-bytes 4 x h)) refl

eight-is : (ds : List ℕ) → length ds ≡ 8 → (length ds == 8) ≡ true
eight-is ds e = eq-eqb (length ds) 8 e

-- a word over and over is read back
word-back : (x : List ℕ) → 4 ≤ length x → AreBytes x → x ≡ filled x → block_in (length x) (hex 8 (word x)) ≡ x
unfolding block_in
word-back x long h is =
    let small = word-fits x long h in
    let eight : (length (hex 8 (word x)) == 8) ≡ true = eight-is (hex 8 (word x)) (length-hex 8 (word x)) in
    let number : hex_number (hex 8 (word x)) % 2 ^ 32 ≡ word x = omega (arith, number-hex 8 (word x) (dword-fits (word x) small) (omega (arith, small)), small) in
    rw (eight, number, front-back x long h) (sym is)

few-words : (n : ℕ) (xs : List ℕ) → n ≡ 0 → repeated n xs ≡ []
unfolding repeated
few-words zero xs e = refl
few-words (suc n) xs e = absurd (omega (arith, e))

-- and so is a short list that is no word over and over, but the empty one
short-back : (x : List ℕ) → length x < 4 → x ≡ filled x → block_in (length x) (hex 8 (word x)) ≡ x
unfolding block_in
short-back x short is =
    let none : length x / 4 ≡ 0 = omega (arith, short) in
    let eight : (length (hex 8 (word x)) == 8) ≡ true = eight-is (hex 8 (word x)) (length-hex 8 (word x)) in
    let nil : x ≡ [] = is ∙ few-words (length x / 4) (take 4 x) none in
    rw eight (few-words (length x / 4) (to_le_bytes w32 (hex_number (hex 8 (word x)) % 2 ^ 32)) none ∙ sym nil)

once : (xs : List ℕ) (n : ℕ) → n ≡ 1 → repeated n xs ≡ xs
unfolding repeated
once xs zero e = absurd (omega (arith, e))
once xs (suc zero) e = refl
once xs (suc (suc n)) e = absurd (omega (arith, e))

-- four bytes are one word
four-filled : (x : List ℕ) → length x ≡ 4 → x ≡ filled x
four-filled x four = sym (take_all 4 x (omega (arith, four))) ∙ sym (once (take 4 x) (length x / 4) (omega (arith, four)))

other-back : (x : List ℕ) → AreBytes x → (x ≡ filled x → ⊥) → block_in (length x) (hex_bytes x) ≡ x
unfolding block_in
other-back x h not =
    let not-eight : (length (hex_bytes x) == 8) ≡ false = ne_eqb (length (hex_bytes x)) 8 (λ same. not (four-filled x (omega (arith, same, length-hex_bytes x)))) in
    rw not-eight (bytes-back x h)

filled-back : (x : List ℕ) → AreBytes x → x ≡ filled x → block_in (length x) (hex 8 (word x)) ≡ x
filled-back x h is = elim (cases_lt (length x) 4) [ inl short ↦ short-back x short is | inr long ↦ word-back x long h is ]

no_both : (b : Bool) → b ≡ true → b ≡ false → ⊥
no_both b yes' no' = cc

by-test : (x : List ℕ) (b : Bool) → bytes_eq x (filled x) ≡ b → AreBytes x → block_in (length x) (if b then hex 8 (word x) else hex_bytes x) ≡ x
by-test x true test h = filled-back x h ((bytes_eq-Decides x (filled x)).0 test)
by-test x false test h = other-back x h (λ is. no_both (bytes_eq x (filled x)) ((bytes_eq-Decides x (filled x)).1 is) test)

pub block-back : (x : List ℕ) → AreBytes x → block_in (length x) (block_text x) ≡ x
block-back x h = by-test x (bytes_eq x (filled x)) refl h

-- ---- lines

pub show-bytes : (x : List ℕ) → AllShow (hex_bytes x)
show-bytes [] = tt
show-bytes (b ∷ bs) = show-append (hex 2 b) (hex_bytes bs) (show-hex 2 b) (show-bytes bs)

show-either : (b : Bool) (x y : List ℕ) → AllShow x → AllShow y → AllShow (if b then x else y)
show-either true x y hx hy = hx
show-either false x y hx hy = hy

pub show-block : (x : List ℕ) → AllShow (block_text x)
show-block x = show-either (bytes_eq x (filled x)) (hex 8 (word x)) (hex_bytes x) (show-hex 8 (word x)) (show-bytes x)

-- the line of a piece
abbrev row : (List ℕ → List ℕ) → List ℕ → List ℕ
row show x = codes "  " ++ show x ++ 10 ∷ []

pub indented : (t : List ℕ) → HasNone 10 t → HasNone 10 (codes "  " ++ t)
indented t none = none-append 10 (codes "  ") t (λ same. omega (arith, same), (λ same. omega (arith, same), tt)) none

-- what stands before the end of a line, and what stands behind it
row-cut : (t rest r : List ℕ) → ((codes "  " ++ t ++ 10 ∷ []) ++ rest) ++ r ≡ (codes "  " ++ t) ++ 10 ∷ (rest ++ r)
row-cut t rest r = append_assoc (codes "  " ++ t ++ 10 ∷ []) rest r ∙ append_assoc (codes "  " ++ t) (10 ∷ []) (rest ++ r)

module _ (show : List ℕ → List ℕ) (piece : ℕ → List ℕ → List ℕ) (shows : (x : List ℕ) → AllShow (show x)) (back : (x : List ℕ) → AreBytes x → piece (length x) (show x) ≡ x) where
  first-line : (x rest r : List ℕ) → drop 2 (before_first is_line_feed (((codes "  " ++ show x ++ 10 ∷ []) ++ rest) ++ r)) ≡ show x
  first-line x rest r =
      ap (λ (t : List ℕ). drop 2 (before_first is_line_feed t)) (row-cut (show x) rest r)
      ∙ ap (λ (t : List ℕ). drop 2 t) (before-is 10 (codes "  " ++ show x) (rest ++ r) (indented (show x) (no_feed (show x) (shows x))))

  other-lines : (x rest r : List ℕ) → after_first is_line_feed (((codes "  " ++ show x ++ 10 ∷ []) ++ rest) ++ r) ≡ rest ++ r
  other-lines x rest r =
      ap (after_first is_line_feed) (row-cut (show x) rest r)
      ∙ after-is 10 (codes "  " ++ show x) (rest ++ r) (indented (show x) (no_feed (show x) (shows x)))

  -- pieces are read back from their lines, where there are lines enough for all bytes
  pub lines-back : (size n : ℕ) (x r : List ℕ) → 0 < size → length x ≤ n * size → AreBytes x → lines_in piece size n (length x) (flat_map (row show) (pieces_of n size x) ++ r) ≡ x
  unfolding lines_in pieces_of
  lines-back size zero x r some few h = sym (nil_from_length x (omega (arith, few)))
  lines-back size (suc n) [] r some few h = refl
  lines-back size (suc n) (b ∷ bs) r some few h =
      let x = b ∷ bs in
      let px = take size x in
      let rest = flat_map (row show) (pieces_of n size (drop size x)) in
      let size-is : min size (suc (length bs)) ≡ length px = sym (length-take size x) in
      let left-is : suc (length bs) - size ≡ length (drop size x) = sym (length-drop size x) in
      let more : suc n * size ≡ size + n * size = omega arith in
      ap (λ (t : List ℕ). piece (min size (suc (length bs))) t ++ lines_in piece size n (suc (length bs) - size) (after_first is_line_feed ((row show px ++ rest) ++ r))) (first-line px rest r)
      ∙ ap (λ (t : List ℕ). piece (min size (suc (length bs))) (show px) ++ lines_in piece size n (suc (length bs) - size) t) (other-lines px rest r)
      ∙ ap (λ (k : ℕ). piece k (show px) ++ lines_in piece size n (suc (length bs) - size) (rest ++ r)) size-is
      ∙ ap (λ (k : ℕ). piece (length px) (show px) ++ lines_in piece size n k (rest ++ r)) left-is
      ∙ ap (λ (t : List ℕ). t ++ lines_in piece size n (length (drop size x)) (rest ++ r)) (back px (take-bytes size x h))
      ∙ ap (λ (t : List ℕ). px ++ t) (lines-back size n (drop size x) r some (omega (arith, few, more, length-drop size x)) (drop-bytes size x h))
      ∙ take-append-drop size x

-- ---- the data of a command

pub sized : (size : ℕ) → IsBlockSize size → 512 ≤ size
sized size h =
    elim (or_cases (size == 512) (size == 4096) h) [
      | inl e ↦ let same : size ≡ 512 = eqb-true size 512 e in omega (arith, same)
      | inr e ↦ let same : size ≡ 4096 = eqb-true size 4096 e in omega (arith, same)
    ]

nothing-back : (x : List ℕ) → length x ≡ 0 → [] ≡ x
nothing-back x e = sym (nil_from_length x e)

no-blocks : (size : ℕ) (x r : List ℕ) → length x ≡ 0 → lines_in block_in size 0 0 (block_lines 0 x ++ r) ≡ x
unfolding lines_in
no-blocks size x r e = nothing-back x e

pub read-back : (block count : ℕ) (x r : List ℕ) → IsBlockSize block → length x ≡ count * block → AreBytes x → lines_in block_in block count (count * block) (block_lines count x ++ r) ≡ x
read-back block zero x r is lx h = ap (λ (k : ℕ). lines_in block_in block zero k (block_lines zero x ++ r)) (omega arith) ∙ no-blocks block x r (omega (arith, lx))
read-back block (suc n) x r is lx h =
    let size : length x / suc n ≡ block = ap (λ (k : ℕ). k / suc n) (omega (arith, lx)) ∙ div-mul-add block (suc n) 0 (omega arith) in
    ap (λ (k : ℕ). lines_in block_in block (suc n) (suc n * block) (flat_map block_line (pieces_of (suc n) k x) ++ r)) size
    ∙ ap (λ (k : ℕ). lines_in block_in block (suc n) k (flat_map block_line (pieces_of (suc n) block x) ++ r)) (sym lx)
    ∙ lines-back block_text block_in show-block block-back block (suc n) x r (omega (arith, sized block is)) (omega (arith, lx)) h

pub log-back : (size : ℕ) (x r : List ℕ) → length x ≡ size → AreBytes x → lines_in bytes_in 32 size size (data_lines x ++ r) ≡ x
log-back size x r lx h =
    ap (λ (k : ℕ). lines_in bytes_in 32 k k (data_lines x ++ r)) (sym lx)
    ∙ lines-back hex_bytes bytes_in show-bytes bytes-back 32 (length x) x r (omega arith) (omega arith) h

-- a command that carries no data prints none
none-own : (b : Bool) → ◌≡◌ {A = List ℕ} (cond b [] []) []
none-own true = refl
none-own false = refl

success-back : (c : DriveConfig) (command : Command) (x r : List ℕ) → IsBlockSize c.block → length x ≡ data_size c command → AreBytes x → success_in c command ((own_text c.block command ++ data_text command x) ++ r) ≡ x
success-back c (commands.Write w) x r is lx h = nothing-back x lx
success-back c (commands.Read d) x r is lx h =
    ap (λ (own : List ℕ). success_in c (commands.Read d) ((own ++ data_text (commands.Read d) x) ++ r)) (none-own (is_spelled (commands.Read d))) ∙ read-back c.block d.count x r is lx h
success-back c (commands.Zero z) x r is lx h = nothing-back x lx
success-back c (commands.Dealloc d) x r is lx h = nothing-back x lx
success-back c (commands.Flush f) x r is lx h = nothing-back x lx
success-back c (commands.Delete d) x r is lx h = nothing-back x lx
success-back c (commands.Status d) x r is lx h =
    ap (λ (own : List ℕ). success_in c (commands.Status d) ((own ++ data_text (commands.Status d) x) ++ r)) (none-own (is_spelled (commands.Status d))) ∙ log-back (4 * d.dwords) x r lx h
success-back c (commands.Update u) x r is lx h = nothing-back x lx
success-back c (commands.Log l) x r is lx h =
    ap (λ (own : List ℕ). success_in c (commands.Log l) ((own ++ data_text (commands.Log l) x) ++ r)) (none-own (is_spelled (commands.Log l))) ∙ log-back (4 * l.dwords) x r lx h
success-back c (commands.SetFdp d) x r is lx h = nothing-back x lx
success-back c (commands.GetFdp g) x r is lx h = nothing-back x lx
success-back c (commands.SetEvents d) x r is lx h = nothing-back x lx
success-back c (commands.Create d) x r is lx h = nothing-back x lx
success-back c (commands.Other o) x r is lx h = nothing-back x lx

by-success : (c : DriveConfig) (command : Command) (b : Bool) (x r : List ℕ) → IsBlockSize c.block → length x ≡ (if b then data_size c command else 0) → AreBytes x
    → (if b then success_in c command ((own_text c.block command ++ data_text command x) ++ r) else []) ≡ x
by-success c command true x r is lx h = success-back c command x r is lx h
by-success c command false x r is lx h = nothing-back x lx

-- the bytes of a reply are read back from its lines, behind those that the command carries
pub reply-back : (c : DriveConfig) (command : Command) (status : Status) (x r : List ℕ) → IsBlockSize c.block → length x ≡ reply_size c command status → AreBytes x
    → reply_in c command status ((own_text c.block command ++ data_text command x) ++ r) ≡ x
reply-back c command status x r is lx h = by-success c command (is_success status) x r is lx h

-- ---- two blocks

cut-row : (t : List ℕ) → HasNone 10 t → drop 2 (before_first is_line_feed (codes "  " ++ t ++ 10 ∷ [])) ≡ t
cut-row t none = ap (λ (x : List ℕ). drop 2 x) (before-is 10 (codes "  " ++ t) [] (indented t none))

pub block-line-one : (x y : List ℕ) → length x ≡ length y → AreBytes x → AreBytes y → block_line x ≡ block_line y → x ≡ y
block-line-one x y same hx hy e =
    let nx = no_feed (block_text x) (show-block x) in
    let ny = no_feed (block_text y) (show-block y) in
    let text : block_text x ≡ block_text y = sym (cut-row (block_text x) nx) ∙ ap (λ (t : List ℕ). drop 2 (before_first is_line_feed t)) e ∙ cut-row (block_text y) ny in
    sym (block-back x hx) ∙ ap (λ (n : ℕ). block_in n (block_text x)) same ∙ ap (block_in (length y)) text ∙ block-back y hy
