-- Numbers and their bytes.
use Rattle.std.proofs.Common.{◌≡◌, ℕ, zero, suc, ◌+◌, ◌*◌, ◌/◌, ◌%◌, ◌^◌, ◌<◌, ◌≤◌, List, [], ◌∷◌, length, get_or, take, refl, sym, ap, ◌∙◌, arith}
use Rattle.std.specs.Int.{byte_at, bytes_low_first}
use Rattle.std.proofs.Math.Nat.{div-div-eq-div-mul, pow-succ'}
use Rattle.std.proofs.Math.ListN.{replicate}
use Rattle.std.proofs.Math.Seq.{take-length}
use Rattle.byteorder.specs.Endian.{little_from}
use Rattle.fdp_layouts.specs.Frame.{any, packed, unpacked, PartsFit}
use Rattle.byteorder.specs.Numbers.{little_from-cons}

abbrev pub IsBytes : List ℕ → Type 0
IsBytes bytes = (i : ℕ) → get_or bytes i 0 < 256

-- a byte of a number is the byte below of what is left above the lowest
byte_at-suc : (i n : ℕ) → byte_at (suc i) n ≡ byte_at i (n / 256)
byte_at-suc zero n = refl
byte_at-suc (suc i) n =
    ap (λ (x : ℕ). x % 256) (ap (λ (x : ℕ). n / x) (pow-succ' 256 (suc i)) ∙ sym (div-div-eq-div-mul n 256 (256 ^ suc i)))

bytes_low_first-suc : (k i n : ℕ) → bytes_low_first (suc i) k n ≡ bytes_low_first i k (n / 256)
bytes_low_first-suc zero i n = refl
bytes_low_first-suc (suc k) i n = rw (byte_at-suc i n, bytes_low_first-suc k (suc i) n) refl

-- the bytes of the number that bytes make are those bytes
pub bytes_of_number : (k : ℕ) (xs : List ℕ) → k ≤ length xs → IsBytes xs → bytes_low_first 0 k (little_from 0 k xs) ≡ take k xs
bytes_of_number zero xs fits bytes = refl
bytes_of_number (suc k) [] fits bytes = absurd (omega arith)
bytes_of_number (suc k) (x ∷ xs) fits bytes =
    let b : x < 256 = bytes 0 in
    let m = little_from 0 k xs in
    let e : little_from 1 k (x ∷ xs) ≡ m = little_from-cons 0 k x xs in
    let rest = bytes_of_number k xs (omega arith) (λ i. bytes (suc i)) in
    let low : (x + 256 * m) % 256 ≡ x = omega arith in
    let high : (x + 256 * m) / 256 ≡ m = omega arith in
    rw (e, low, bytes_low_first-suc k 0 (x + 256 * m), high, rest) refl

-- a number is made of the bytes that it reads
pub little_from-same : (i n : ℕ) (xs ys : List ℕ) → ((k : ℕ) → i ≤ k → k < i + n → get_or xs k 0 ≡ get_or ys k 0) → little_from i n xs ≡ little_from i n ys
little_from-same i zero xs ys same = refl
little_from-same i (suc n) xs ys same =
    let here = same i (omega arith) (omega arith) in
    let rest = little_from-same (suc i) n xs ys (λ k lo hi. same k (omega arith) (omega arith)) in
    rw (here, rest) refl

-- ---- bytes that mean nothing

-- bytes as the parts of a field make the number that they spell
packed_bytes : (k : ℕ) (bs : List ℕ) → length bs ≡ k → packed (replicate k (any 8)) bs ≡ little_from 0 k bs
packed_bytes zero bs len = refl
packed_bytes (suc k) [] len = absurd (omega arith)
packed_bytes (suc zero) (b ∷ bs) len = omega arith
packed_bytes (suc (suc k)) (b ∷ bs) len =
    let rest = packed_bytes (suc k) bs (omega arith) in
    let moved = little_from-cons 0 (suc k) b bs in
    ap (λ (n : ℕ). b + 256 * n) (rest ∙ sym moved)

-- the bytes of the number that bytes make as the parts of a field
take_whole : (k : ℕ) (bs : List ℕ) → length bs ≡ k → take k bs ≡ bs
take_whole k bs len = ap (λ (n : ℕ). take n bs) (sym len) ∙ take-length bs

pub bytes_of_parts : (k : ℕ) (bs : List ℕ) → length bs ≡ k → IsBytes bs → bytes_low_first 0 k (packed (replicate k (any 8)) bs) ≡ bs
bytes_of_parts k bs len h =
    ap (bytes_low_first 0 k) (packed_bytes k bs len) ∙ bytes_of_number k bs (omega arith) h ∙ take_whole k bs len

-- the parts of the number that bytes make are those bytes
pub parts_of_bytes : (k : ℕ) (xs : List ℕ) → k ≤ length xs → IsBytes xs → unpacked (replicate k (any 8)) (little_from 0 k xs) ≡ take k xs
parts_of_bytes zero xs fits h = refl
parts_of_bytes (suc k) [] fits h = absurd (omega arith)
parts_of_bytes (suc zero) (x ∷ xs) fits h = ap (λ (n : ℕ). n ∷ []) (omega arith)
parts_of_bytes (suc (suc k)) (x ∷ xs) fits h =
    let b : x < 256 = h 0 in
    let m = little_from 0 (suc k) xs in
    let e : little_from 1 (suc k) (x ∷ xs) ≡ m = little_from-cons 0 (suc k) x xs in
    let rest = parts_of_bytes (suc k) xs (omega arith) (λ i. h (suc i)) in
    let low : (x + 256 * m) % 256 ≡ x = omega arith in
    let high : (x + 256 * m) / 256 ≡ m = omega arith in
    ap (λ (n : ℕ). unpacked (replicate (suc (suc k)) (any 8)) (x + 256 * n)) e ∙ rw (low, high, rest) refl

-- bytes fit the parts of a field of bytes
pub bytes_fit : (k : ℕ) (bs : List ℕ) → length bs ≡ k → IsBytes bs → PartsFit (replicate k (any 8)) bs
bytes_fit zero [] len h = tt
bytes_fit zero (b ∷ bs) len h = absurd (omega arith)
bytes_fit (suc k) [] len h = absurd (omega arith)
bytes_fit (suc k) (b ∷ bs) len h = (h 0, refl, bytes_fit k bs (omega arith) (λ i. h (suc i)))
