-- The entries of all blocks, one behind another.
use Rattle.std.specs.Prelude.{ℕ, zero, suc, List, [], ◌∷◌, ◌++◌, Option}
use Rattle.fdp_snapshot.specs.Rows.{entry_of}

-- the pages of all blocks, namespace by namespace
abbrev pub all_blocks : List (List (Option ℕ)) → List (Option ℕ)
all_blocks [] = []
all_blocks (list ∷ lists) = list ++ all_blocks lists

-- the number that stands for the page of a block, by its place in a list; 0 behind its end
unfoldable pub entry_in : List (Option ℕ) → ℕ → ℕ
entry_in [] place = 0
entry_in (page ∷ pages) zero = entry_of page
entry_in (page ∷ pages) (suc place) = entry_in pages place
