-- Bytes that are told in part, and put there piece by piece.
use Rattle.std.specs.Prelude.{◌≡◌, ℕ, List, ◌++◌, drop, length, take}
use Rattle.fdp_rules.specs.LogPages.{zeros}

-- the bytes from an offset on, as many as this; bytes past the end are zero
abbrev pub part_of : ℕ → ℕ → List ℕ → List ℕ
part_of offset size bytes = take size (drop offset bytes ++ zeros size)

-- A buffer that holds the part from an offset on of any bytes that end at a place holds that of these bytes with a piece behind them.
pub record PutsPiece (offset at : ℕ) (piece old new : List ℕ) : Type 0 where
  pub size : length new ≡ length old
  pub part : (before : List ℕ) → length before ≡ at → old ≡ part_of offset (length old) before → new ≡ part_of offset (length old) (before ++ piece)
