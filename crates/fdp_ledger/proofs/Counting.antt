-- Faults that stand for so many entries.
use Rattle.std.proofs.Common.{ℕ, zero, suc, ◌+◌, ◌^◌, ◌<◌, ◌≤◌, arith}
use Rattle.fdp_base.specs.Counts.{Rose}
use Rattle.fdp_calls.specs.Calls.{counted_more}

more-small : (h n : ℕ) → h < 2 ^ 64 → counted_more h n < 2 ^ 64
unfolding counted_more
more-small h zero small = small
more-small h (suc n) small = omega arith

-- a count after fewer more is no higher
pub more-mono : (h n m : ℕ) → h < 2 ^ 64 → n ≤ m → counted_more h n ≤ counted_more h m
unfolding counted_more
more-mono h zero zero small le = omega arith
more-mono h zero (suc m) small le = let rest : counted_more h 0 ≤ counted_more h m = more-mono h 0 m small (omega arith) in omega (arith, rest, more-small h m small, small)
more-mono h (suc n) zero small le = absurd (omega (arith, le))
more-mono h (suc n) (suc m) small le = let rest : counted_more h n ≤ counted_more h m = more-mono h n m small (omega (arith, le)) in omega (arith, rest)

-- faults that stand for some entries stand for as many or fewer
pub still-bound : (h n m a b : ℕ) → h < 2 ^ 64 → m ≤ n → a ≤ b → counted_more h n ≤ a → counted_more h m ≤ b
still-bound h n m a b small le up bound = let fewer = more-mono h m n small le in omega (arith, fewer, bound, up)

-- one fault more stands for one entry more
pub one-more_bound : (h n m a b : ℕ) → h < 2 ^ 64 → m ≤ n + 1 → a ≤ b → Rose a b → counted_more h n ≤ a → counted_more h m ≤ b
unfolding counted_more
one-more_bound h n zero a b small le up rose bound = still-bound h n zero a b small (omega arith) up bound
one-more_bound h n (suc m) a b small le up rose bound = let fewer = more-mono h m n small (omega (arith, le)) in omega (arith, fewer, bound, rose)
