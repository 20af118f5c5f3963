-- A truth value is known by its bit.
use Rattle.std.proofs.Common.{◌≡◌, Bool, true, false, refl, arith}
use Rattle.fdp_base.specs.EventCodes.{bit}

pub bit_apart : (a b : Bool) → bit a ≡ bit b → a ≡ b
bit_apart true true e = refl
bit_apart true false e = absurd (omega (arith, e))
bit_apart false true e = absurd (omega (arith, e))
bit_apart false false e = refl
