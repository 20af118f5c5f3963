-- The parts of a field.
use Rattle.std.proofs.Common.{◌≡◌, ℕ, ◌+◌, ◌*◌, ◌/◌, ◌^◌, ◌<◌, List, [], ◌∷◌, refl, arith}
use Rattle.std.proofs.Math.Nat.{mul_comm}
use Rattle.std.proofs.lemmas.Nat.{mul-add-lt, div-add-mod', mod_low, shr_high, pow-add}
use Rattle.fdp_layouts.specs.Frame.{Part, bits_of, packed, unpacked, PartsFit}

-- a number is that of its parts
pub packed-unpacked : (p : Part) (ps : List Part) (n : ℕ) → packed (p ∷ ps) (unpacked (p ∷ ps) n) ≡ n
packed-unpacked p [] n = refl
packed-unpacked p (q ∷ ps) n =
    let rest = packed-unpacked q ps (n / 2 ^ p.bits) in
    let whole = div-add-mod' n (2 ^ p.bits) in
    rw rest (omega (arith, whole, mul_comm (2 ^ p.bits) (n / 2 ^ p.bits)))

-- parts that fit are read again
pub unpacked-packed : (ps : List Part) (vs : List ℕ) → PartsFit ps vs → unpacked ps (packed ps vs) ≡ vs
unpacked-packed [] [] fits = refl
unpacked-packed [] (v ∷ vs) fits = absurd fits
unpacked-packed (p ∷ ps) [] fits = absurd fits
unpacked-packed (p ∷ []) (v ∷ []) fits = refl
unpacked-packed (p ∷ []) (v ∷ w ∷ vs) fits = absurd fits.2
unpacked-packed (p ∷ q ∷ ps) (v ∷ vs) fits =
    let m = packed (q ∷ ps) vs in
    let turned : v + 2 ^ p.bits * m ≡ m * 2 ^ p.bits + v = omega (arith, mul_comm (2 ^ p.bits) m) in
    rw (turned, mod_low m p.bits v fits.0, shr_high m p.bits v fits.0, unpacked-packed (q ∷ ps) vs fits.2) refl

-- parts that fit make a number of their bits
pub packed_below : (ps : List Part) (vs : List ℕ) → PartsFit ps vs → packed ps vs < 2 ^ bits_of ps
packed_below [] [] fits = omega arith
packed_below [] (v ∷ vs) fits = absurd fits
packed_below (p ∷ ps) [] fits = absurd fits
packed_below (p ∷ []) (v ∷ vs) fits =
    let e : p.bits + 0 ≡ p.bits = omega arith in
    rw e fits.0
packed_below (p ∷ q ∷ ps) (v ∷ vs) fits =
    let rest = packed_below (q ∷ ps) vs fits.2 in
    let m = packed (q ∷ ps) vs in
    let k = bits_of (q ∷ ps) in
    let below = mul-add-lt m (2 ^ p.bits) v (2 ^ k) rest fits.0 in
    rw (pow-add 2 p.bits k) (omega (arith, below, mul_comm (2 ^ p.bits) m))
