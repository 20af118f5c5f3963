-- Data of blocks, and where they are a pattern.
use Rattle.std.proofs.Common.{◌≡◌, ℕ, zero, suc, ◌+◌, ◌-◌, ◌*◌, ◌/◌, ◌%◌, ◌^◌, ◌<◌, ◌≤◌, true, List, [], ◌∷◌, ◌++◌, length, take, drop, refl, sym, ap, subst, ◌∙◌, arith, append_assoc, ⊎_elim}
use Rattle.std.specs.Prelude.{flat_map, ◌==◌}
use Rattle.std.specs.Int.{to_le_bytes, from_le_bytes, w32}
use Rattle.std.proofs.lemmas.Bool.{eqb-true, or_cases}
use Rattle.std.proofs.lemmas.Nat.{from_le_bytes-to_le_bytes_4}
use Rattle.std.proofs.lemmas.List.{append-nil, length-append, length-drop, length-take-le, take_at, drop_at, take-append-le}
use Rattle.std.proofs.Math.Nat.{mul-le-mul_left}
use Rattle.std.proofs.Math.Seq.{take-add}
use Rattle.std.proofs.lemmas.Grind.{flat_map-append}
use Rattle.fdp_base.specs.Geometry.{IsBlockSize}
use Rattle.fdp_base.specs.Numbers.{numbers_below, numbers_from}
use Rattle.fdp_base.specs.Pattern.{pattern_block, repeated}
use Rattle.fdp_base.proofs.Repeating.{front_repeated, length_repeated}
use Rattle.fdp_queues.proofs.Data.{numbers-next}
use Rattle.fdp_queues.specs.Data.{pattern}

whole-block : (block : ℕ) → IsBlockSize block → block / 4 * 4 ≡ block
whole-block block is =
    ⊎_elim
    (λ (e : (block == 512) ≡ true). let same : block ≡ 512 = eqb-true block 512 e in rw same refl)
    (λ (e : (block == 4096) ≡ true). let same : block ≡ 4096 = eqb-true block 4096 e in rw same refl)
    (or_cases (block == 512) (block == 4096) is)

pub block-from : (P : ℕ → Type 0) (block : ℕ) → IsBlockSize block → P 512 → P 4096 → P block
block-from P block is low high =
    ⊎_elim
    (λ (e : (block == 512) ≡ true). let same : block ≡ 512 = eqb-true block 512 e in subst P (sym same) low)
    (λ (e : (block == 4096) ≡ true). let same : block ≡ 4096 = eqb-true block 4096 e in subst P (sym same) high)
    (or_cases (block == 512) (block == 4096) is)

pub length-pattern : (block seed i : ℕ) → IsBlockSize block → length (pattern_block block seed i) ≡ block
length-pattern block seed i is =
    let four : length (to_le_bytes w32 ((seed + i) % 2 ^ 32)) ≡ 4 = refl in
    length_repeated (block / 4) (to_le_bytes w32 ((seed + i) % 2 ^ 32)) ∙ ap (λ (n : ℕ). block / 4 * n) four ∙ whole-block block is

length-blocks : (f : ℕ → List ℕ) (size first n : ℕ) → ((i : ℕ) → length (f i) ≡ size) → length (flat_map f (numbers_from first n)) ≡ n * size
unfolding numbers_from
length-blocks f size first zero each = omega arith
length-blocks f size first (suc n) each = omega (arith, length-append (f first) (flat_map f (numbers_from (first + 1) n)), each first, length-blocks f size (first + 1) n each)

pub pattern-size : (block count seed : ℕ) → IsBlockSize block → length (pattern block count seed) ≡ count * block
pattern-size block count seed is = length-blocks (pattern_block block seed) block 0 count (λ i. length-pattern block seed i is)

-- one block more
pub pattern-next : (block count seed : ℕ) → pattern block (count + 1) seed ≡ pattern block count seed ++ pattern_block block seed count
pattern-next block count seed =
    let f = pattern_block block seed in
    ap (flat_map f) (numbers-next count) ∙ flat_map-append f (numbers_below count) (count ∷ []) ∙ ap (λ (t : List ℕ). pattern block count seed ++ t) (append-nil (f count))

pub pattern-none : (block seed : ℕ) → pattern block 0 seed ≡ []
unfolding numbers_from
pattern-none block seed = refl

-- the front of a pattern, and one of its blocks
pub pattern-more : (block seed n more : ℕ) → (rest : List ℕ) × (pattern block (n + more) seed ≡ pattern block n seed ++ rest)
pattern-more block seed n zero = ([], ap (λ (k : ℕ). pattern block k seed) (omega arith) ∙ sym (append-nil (pattern block n seed)))
pattern-more block seed n (suc more) =
    let before = pattern-more block seed n more in
    let m : n + suc more ≡ (n + more) + 1 = omega arith in
    let last = pattern_block block seed (n + more) in
    (before.0 ++ last, ap (λ (k : ℕ). pattern block k seed) m ∙ pattern-next block (n + more) seed ∙ ap (λ (t : List ℕ). t ++ last) before.1 ∙ append_assoc (pattern block n seed) before.0 last)

pub pattern-block-at : (block seed count i : ℕ) → IsBlockSize block → i < count → take block (drop (i * block) (pattern block count seed)) ≡ pattern_block block seed i
pattern-block-at block seed count i is lt =
    let f = pattern_block block seed in
    let m : count ≡ (i + 1) + (count - (i + 1)) = omega arith in
    let more = pattern-more block seed (i + 1) (count - (i + 1)) in
    let whole : pattern block count seed ≡ pattern block i seed ++ (f i ++ more.0) =
    ap (λ (k : ℕ). pattern block k seed) m ∙ more.1 ∙ ap (λ (t : List ℕ). t ++ more.0) (pattern-next block i seed) ∙ append_assoc (pattern block i seed) (f i) more.0 in
    ap (λ (t : List ℕ). take block (drop (i * block) t)) whole
    ∙ ap (take block) (drop_at (pattern block i seed) (f i ++ more.0) (i * block) (pattern-size block i seed is))
    ∙ take_at (f i) more.0 block (length-pattern block seed i is)

-- what is read is a pattern, one block more
pub pattern-read : (block seed i : ℕ) (body : List ℕ) → take (i * block) body ≡ pattern block i seed → take block (drop (i * block) body) ≡ pattern_block block seed i → take ((i + 1) * block) body ≡ pattern block (i + 1) seed
pattern-read block seed i body before here =
    let m : (i + 1) * block ≡ i * block + block = omega arith in
    ap (λ (n : ℕ). take n body) m ∙ take-add (i * block) block body ∙ ap (λ (t : List ℕ). t ++ take block (drop (i * block) body)) before ∙ ap (λ (t : List ℕ). pattern block i seed ++ t) here ∙ sym (pattern-next block i seed)

-- the first word of a pattern is its seed
pub seed-first : (block count seed : ℕ) → IsBlockSize block → 1 ≤ count → seed < 2 ^ 32 → from_le_bytes w32 (take 4 (pattern block count seed)) ≡ seed
unfolding repeated
seed-first block count seed is some small =
    let f = pattern_block block seed in
    let w = to_le_bytes w32 ((seed + 0) % 2 ^ 32) in
    let enough : 4 ≤ block = block-from (λ (b : ℕ). 4 ≤ b) block is (omega arith) (omega arith) in
    let words : 1 ≤ block / 4 = omega (arith, enough) in
    let m : count ≡ 1 + (count - 1) = omega arith in
    let more = pattern-more block seed 1 (count - 1) in
    let one : pattern block 1 seed ≡ f 0 = pattern-next block 0 seed ∙ ap (λ (t : List ℕ). t ++ f 0) (pattern-none block seed) in
    let whole : pattern block count seed ≡ f 0 ++ more.0 = ap (λ (k : ℕ). pattern block k seed) m ∙ more.1 ∙ ap (λ (t : List ℕ). t ++ more.0) one in
    let room : 4 ≤ length (f 0) = omega (arith, length-pattern block seed 0 is, enough) in
    let first : take 4 (f 0) ≡ w = front_repeated 1 (block / 4) w words in
    let number : (seed + 0) % 2 ^ 32 ≡ seed = omega (arith, small) in
    ap (λ (t : List ℕ). from_le_bytes w32 (take 4 t)) whole
    ∙ ap (from_le_bytes w32) (take-append-le 4 (f 0) more.0 room ∙ first)
    ∙ ap (λ (n : ℕ). from_le_bytes w32 (to_le_bytes w32 n)) number
    ∙ from_le_bytes-to_le_bytes_4 seed small

pub pattern-first : (block seed : ℕ) (old : List ℕ) → old ≡ old ++ pattern block 0 seed
pattern-first block seed old = sym (append-nil old) ∙ ap (λ (t : List ℕ). old ++ t) (sym (pattern-none block seed))

pub pattern-pushed : (block seed n : ℕ) (old mid new : List ℕ) → mid ≡ old ++ pattern block n seed → new ≡ mid ++ pattern_block block seed n → new ≡ old ++ pattern block (n + 1) seed
pattern-pushed block seed n old mid new before pushed =
    pushed ∙ ap (λ (t : List ℕ). t ++ pattern_block block seed n) before ∙ append_assoc old (pattern block n seed) (pattern_block block seed n) ∙ ap (λ (t : List ℕ). old ++ t) (sym (pattern-next block n seed))

-- nothing is read yet
pub pattern-start : (block seed : ℕ) (body : List ℕ) → take (0 * block) body ≡ pattern block 0 seed
pattern-start block seed body = let z : 0 * block ≡ 0 = omega arith in ap (λ (k : ℕ). take k body) z ∙ sym (pattern-none block seed)

-- a block that is cut out, as the code cuts it
pub cut-block : (i block : ℕ) (body : List ℕ) → take (i * block + block - i * block) (drop (i * block) body) ≡ take block (drop (i * block) body)
cut-block i block body = let k : i * block + block - i * block ≡ block = omega arith in ap (λ (j : ℕ). take j (drop (i * block) body)) k

cut-size : (block count i : ℕ) (body : List ℕ) → length body ≡ count * block → i < count → length (take (i * block + block - i * block) (drop (i * block) body)) ≡ block
cut-size block count i body size lt =
    let most = mul-le-mul_left block (let few : i + 1 ≤ count = omega arith in few) in
    let room : block ≤ length (drop (i * block) body) = omega (arith, length-drop (i * block) body, size, most) in
    ap (λ (t : List ℕ). length t) (cut-block i block body) ∙ length-take-le block (drop (i * block) body) room

-- a block of a pattern, as the code cuts it
pub cut-is : (block count seed i : ℕ) (body : List ℕ) → IsBlockSize block → length body ≡ count * block → i < count → body ≡ pattern block count seed
    → take (i * block + block - i * block) (drop (i * block) body) ≡ pattern_block (length (take (i * block + block - i * block) (drop (i * block) body))) seed i
cut-is block count seed i body is size lt e =
    cut-block i block body
    ∙ ap (λ (t : List ℕ). take block (drop (i * block) t)) e
    ∙ pattern-block-at block seed count i is lt
    ∙ ap (λ (n : ℕ). pattern_block n seed i) (sym (cut-size block count i body size lt))

pub cut-read : (block count seed i : ℕ) (body : List ℕ) → length body ≡ count * block → i < count → take (i * block) body ≡ pattern block i seed
    → take (i * block + block - i * block) (drop (i * block) body) ≡ pattern_block (length (take (i * block + block - i * block) (drop (i * block) body))) seed i
    → take ((i + 1) * block) body ≡ pattern block (i + 1) seed
cut-read block count seed i body size lt before here =
    pattern-read block seed i body before (sym (cut-block i block body) ∙ here ∙ ap (λ (n : ℕ). pattern_block n seed i) (cut-size block count i body size lt))

-- the first word is the only seed that there can be
pub one_seed : (block count seed n : ℕ) (body word : List ℕ) → IsBlockSize block → 1 ≤ count → seed < 2 ^ 32 → word ≡ take 4 body → n ≡ from_le_bytes w32 word → body ≡ pattern block count seed → body ≡ pattern block count n
one_seed block count seed n body word is some small first number e =
    let same : seed ≡ n = sym (seed-first block count seed is some small) ∙ ap (λ (t : List ℕ). from_le_bytes w32 (take 4 t)) (sym e) ∙ ap (from_le_bytes w32) (sym first) ∙ sym number in
    e ∙ ap (pattern block count) same
