-- How hosts ended together.
use Rattle.std.specs.Prelude.{◌≢◌, ℕ, ◌<◌, List, length, slice_index_or}
use Rattle.fdp_workers.specs.declared.ends.End.{End}
use Rattle.fdp_workers.specs.declared.ends.End.TheVariants as ends

-- one of them did not end whole
pub record IsSomeNotWhole (xs : List End) : Type 0 where
  pub at : ℕ
  pub low : at < length xs
  pub not_whole : (d : End) → slice_index_or xs at d ≢ ends.Whole
