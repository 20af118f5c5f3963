-- What is read of lines of data are bytes, as many as are asked for.
use Rattle.std.proofs.Common.{◌≡◌, inl, inr, ℕ, zero, suc, ◌+◌, ◌-◌, ◌*◌, ◌/◌, ◌%◌, ◌^◌, ◌<◌, ◌≤◌, min, Bool, true, false, List, [], ◌∷◌, ◌++◌, length, drop, refl, sym, ap, subst, arith}
use Rattle.std.specs.Prelude.{if◌then◌else◌, ◌==◌}
use Rattle.std.specs.Int.{to_le_bytes, w32}
use Rattle.std.specs.List.{before_first, after_first}
use Rattle.std.proofs.lemmas.Bool.{eqb-true, or_cases}
use Rattle.std.proofs.lemmas.List.{length-append}
use Rattle.fdp_base.specs.declared.command.Command.{Command}
use Rattle.fdp_base.specs.declared.command.Command.TheVariants as commands
use Rattle.fdp_base.specs.declared.config.DriveConfig.{DriveConfig}
use Rattle.fdp_base.specs.declared.status.Status.{Status}
use Rattle.fdp_base.specs.Geometry.{IsBlockSize}
use Rattle.fdp_base.specs.Pattern.{repeated}
use Rattle.fdp_trace.specs.Reader.FrontOf.{is_line_feed}
use Rattle.fdp_prints.specs.Told.{AreBytes, data_size, is_success, reply_size}
use Rattle.fdp_prints.specs.Reader.{block_in, bytes_in, hex_number, lines_in, reply_in, success_in}

-- bytes, so many
pub record IsSized (size : ℕ) (bytes : List ℕ) : Type 0 where
  pub count : length bytes ≡ size
  pub bytes_are : AreBytes bytes

pub bytes-append : (x y : List ℕ) → AreBytes x → AreBytes y → AreBytes (x ++ y)
bytes-append [] y hx hy = hy
bytes-append (b ∷ bs) y hx hy = (hx.0, bytes-append bs y hx.1 hy)

sized-append : (m n k : ℕ) (x y : List ℕ) → IsSized m x → IsSized n y → m + n ≡ k → IsSized k (x ++ y)
sized-append m n k x y hx hy e = record { count = omega (arith, length-append x y, hx.count, hy.count, e); bytes_are = bytes-append x y hx.bytes_are hy.bytes_are }

bytes-sized : (size : ℕ) (digits : List ℕ) → IsSized size (bytes_in size digits)
unfolding bytes_in
bytes-sized zero digits = record { count = refl; bytes_are = tt }
bytes-sized (suc size) digits =
    let rest = bytes-sized size (drop 2 digits) in
    record { count = ap suc rest.count; bytes_are = (omega arith, rest.bytes_are) }

word-sized : (n : ℕ) → IsSized 4 (to_le_bytes w32 n)
word-sized n = record { count = refl; bytes_are = (omega arith, (omega arith, (omega arith, (omega arith, tt)))) }

repeated-sized : (n : ℕ) (xs : List ℕ) → IsSized 4 xs → IsSized (4 * n) (repeated n xs)
unfolding repeated
repeated-sized zero xs h = record { count = refl; bytes_are = tt }
repeated-sized (suc n) xs h = sized-append (4 * n) 4 (4 * suc n) (repeated n xs) xs (repeated-sized n xs h) h (omega arith)

by-eight : (size n : ℕ) (digits : List ℕ) (b : Bool) → size % 4 ≡ 0 → IsSized size (if b then repeated (size / 4) (to_le_bytes w32 n) else bytes_in size digits)
by-eight size n digits true whole =
    let all : 4 * (size / 4) ≡ size = omega (arith, whole) in
    subst (λ (k : ℕ). IsSized k (repeated (size / 4) (to_le_bytes w32 n))) all (repeated-sized (size / 4) (to_le_bytes w32 n) (word-sized n))
by-eight size n digits false whole = bytes-sized size digits

block-sized : (size : ℕ) (digits : List ℕ) → size % 4 ≡ 0 → IsSized size (block_in size digits)
unfolding block_in
block-sized size digits whole = by-eight size (hex_number digits % 2 ^ 32) digits (length digits == 8) whole

-- sizes that a piece may have
module _ (IsFit : ℕ → Type 0) (least : (m n : ℕ) → IsFit m → IsFit n → IsFit (min m n)) (less : (m n : ℕ) → IsFit m → IsFit n → IsFit (m - n))
    (piece : ℕ → List ℕ → List ℕ) (sized : (size : ℕ) (digits : List ℕ) → IsFit size → IsSized size (piece size digits)) where
  lines-sized : (size n left : ℕ) (text : List ℕ) → 0 < size → IsFit size → IsFit left → left ≤ n * size → IsSized left (lines_in piece size n left text)
  unfolding lines_in
  lines-sized size zero left text some whole all few =
      let none : left ≡ 0 = omega (arith, few) in
      subst (λ (k : ℕ). IsSized k []) (sym none) (record { count = refl; bytes_are = tt })
  lines-sized size (suc n) zero text some whole all few = record { count = refl; bytes_are = tt }
  lines-sized size (suc n) (suc left) text some whole all few =
      let more : suc n * size ≡ size + n * size = omega arith in
      sized-append (min size (suc left)) (suc left - size) (suc left) (piece (min size (suc left)) (drop 2 (before_first is_line_feed text))) (lines_in piece size n (suc left - size) (after_first is_line_feed text))
      (sized (min size (suc left)) (drop 2 (before_first is_line_feed text)) (least size (suc left) whole all))
      (lines-sized size n (suc left - size) (after_first is_line_feed text) some whole (less (suc left) size all whole) (omega (arith, few, more)))
      (omega arith)

least-four : (m n : ℕ) → m % 4 ≡ 0 → n % 4 ≡ 0 → min m n % 4 ≡ 0
least-four m n hm hn = omega (arith, hm, hn)

less-four : (m n : ℕ) → m % 4 ≡ 0 → n % 4 ≡ 0 → (m - n) % 4 ≡ 0
less-four m n hm hn = omega (arith, hm, hn)

block-is : (size : ℕ) → IsBlockSize size → (512 ≤ size) × (size % 4 ≡ 0)
block-is size h =
    elim (or_cases (size == 512) (size == 4096) h) [
      | inl e ↦ let same : size ≡ 512 = eqb-true size 512 e in (omega (arith, same), omega (arith, same))
      | inr e ↦ let same : size ≡ 4096 = eqb-true size 4096 e in (omega (arith, same), omega (arith, same))
    ]

times-four : (n size : ℕ) → size % 4 ≡ 0 → (n * size) % 4 ≡ 0
times-four zero size whole = let none : 0 * size ≡ 0 = omega arith in omega (arith, none)
times-four (suc n) size whole =
    let more : suc n * size ≡ size + n * size = omega arith in
    omega (arith, more, whole, times-four n size whole)

pub nothing : IsSized 0 []
nothing = record { count = refl; bytes_are = tt }

pub blocks-sized : (block count : ℕ) (text : List ℕ) → IsBlockSize block → IsSized (count * block) (lines_in block_in block count (count * block) text)
blocks-sized block count text is =
    let b = block-is block is in
    lines-sized (λ n. n % 4 ≡ 0) least-four less-four block_in block-sized block count (count * block) text (omega (arith, b.0)) b.1 (times-four count block b.1) (omega arith)

-- so many bytes of data
pub rows-sized : (size : ℕ) (text : List ℕ) → IsSized size (lines_in bytes_in 32 size size text)
rows-sized size text = lines-sized (λ n. Unit {0}) (λ m n hm hn. tt) (λ m n hm hn. tt) bytes_in (λ size digits whole. bytes-sized size digits) 32 size size text (omega arith) tt tt (omega arith)

pub dwords-sized : (dwords : ℕ) (text : List ℕ) → IsSized (4 * dwords) (lines_in bytes_in 32 (4 * dwords) (4 * dwords) text)
dwords-sized dwords text = rows-sized (4 * dwords) text

pub success-sized : (c : DriveConfig) (command : Command) (text : List ℕ) → IsBlockSize c.block → IsSized (data_size c command) (success_in c command text)
success-sized c (commands.Write w) text is = nothing
success-sized c (commands.Read r) text is = blocks-sized c.block r.count text is
success-sized c (commands.Zero z) text is = nothing
success-sized c (commands.Dealloc d) text is = nothing
success-sized c (commands.Flush f) text is = nothing
success-sized c (commands.Delete d) text is = nothing
success-sized c (commands.Status s) text is = dwords-sized s.dwords text
success-sized c (commands.Update u) text is = nothing
success-sized c (commands.Log l) text is = dwords-sized l.dwords text
success-sized c (commands.SetFdp s) text is = nothing
success-sized c (commands.GetFdp g) text is = nothing
success-sized c (commands.SetEvents s) text is = nothing
success-sized c (commands.Create create) text is = nothing
success-sized c (commands.Other o) text is = nothing

by-success : (c : DriveConfig) (command : Command) (b : Bool) (text : List ℕ) → IsBlockSize c.block → IsSized (if b then data_size c command else 0) (if b then success_in c command text else [])
by-success c command true text is = success-sized c command text is
by-success c command false text is = nothing

pub reply-sized : (c : DriveConfig) (command : Command) (status : Status) (text : List ℕ) → IsBlockSize c.block → IsSized (reply_size c command status) (reply_in c command status text)
reply-sized c command status text is = by-success c command (is_success status) text is
