use Rattle.std.proofs.Common.{◌≡◌, ◌∙◌, ◌/◌, ◌%◌, ◌^◌, ◌<◌, ◌≤◌, ℕ, false, ap, sym, arith}
use Rattle.std.specs.Prelude.{◌==◌, nat_lt}
use Rattle.std.proofs.lemmas.Bool.Decides.{nat_tests}
use Rattle.std.proofs.Math.Nat.{div-eq_of_lt}
use Rattle.std.proofs.Math.Pow.{pow_mono}
use Rattle.fdp_outline.proofs.named.has_bit.Goals as goal

pub returns-else-place-lt64 : goal.returns-else-place-lt64
returns-else-place-lt64 c =
    let high : 64 ≤ c.args.place = c.if-place-lt64.false in
    let small : c.args.closed < 2 ^ c.args.place = omega (arith, c.ranges.closed.fits, pow_mono high) in
    let gone : c.args.closed / 2 ^ c.args.place ≡ 0 = div-eq_of_lt small in
    let past : nat_lt c.args.place 64 ≡ false = grind (arith, nat_tests) in
    past ∙ sym (ap (λ (n : ℕ). n % 2 == 1) gone)
