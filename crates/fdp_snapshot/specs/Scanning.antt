-- Where bytes first differ, or are not zero.
use Rattle.std.specs.Prelude.{◌≡◌, ◌≢◌, ℕ, ◌<◌, ◌≤◌, List, length, Option, Some, None, slice_index}

-- the first place at which bytes differ from others, and none where they begin with those
abbrev pub IsFirstDifference : List ℕ → List ℕ → Option ℕ → Type 0
IsFirstDifference bytes others None = (k : ℕ) → k < length others → slice_index bytes k ≡ slice_index others k
IsFirstDifference bytes others (Some at) = (at < length others) × ((k : ℕ) → k < at → slice_index bytes k ≡ slice_index others k) × (slice_index bytes at ≢ slice_index others at)

-- the first place from an offset on at which a byte is not zero, and none where all are
abbrev pub IsFirstNumber : List ℕ → ℕ → Option ℕ → Type 0
IsFirstNumber bytes from None = (k : ℕ) → from ≤ k → k < length bytes → slice_index bytes k ≡ 0
IsFirstNumber bytes from (Some at) = (from ≤ at) × (at < length bytes) × ((k : ℕ) → from ≤ k → k < at → slice_index bytes k ≡ 0) × (slice_index bytes at ≢ 0)
