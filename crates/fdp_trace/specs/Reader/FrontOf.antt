-- How many bytes stand in front of one that passes a test.
use Rattle.std.specs.Prelude.{◌≡◌, ◌<◌, ◌≤◌, ℕ, Bool, true, false, slice_index, ◌==◌, List, length}

-- how many bytes stand in front of the first that passes a test
pub record IsFront (test : ℕ → Bool) (bytes : List ℕ) (n : ℕ) : Type 0 where
  pub within : n ≤ length bytes
  pub before : (k : ℕ) → k < n → test (slice_index bytes k) ≡ false
  pub there : n < length bytes → test (slice_index bytes n) ≡ true

abbrev pub is_line_feed : ℕ → Bool
is_line_feed b = b == 10
