-- Which units got a page since their last erase, and which erases were of units that had got none.
use Rattle.std.specs.Prelude.{ℕ, ◌+◌, Bool, not, ◌&&◌, ◌||◌, List, [], ◌∷◌, fold, if◌then◌else◌}
use Rattle.std.specs.Option.{option_map_or}
use Rattle.fdp_base.specs.declared.entry.Entry.{Entry}
use Rattle.fdp_base.specs.EntryKinds.{empties, is_unit, unit_erased, unit_filled}

-- how a run began: whether nothing was found, and which units had a page that was not blank
pub record RunStart : Type 0 where
  pub fresh : Bool
  pub had : ℕ → Bool

-- the units that got a page since their last erase, after an entry more
abbrev pub used_after : (ℕ → Bool) → Entry → ℕ → Bool
used_after used e unit = is_unit unit (unit_filled e) || used unit && not (empties unit e)

-- the units that had a page at the start, or of which one was placed or copied, and since then no Erased entry
unfoldable pub used_by : RunStart → List Entry → ℕ → Bool
used_by start es = fold used_after start.had es

-- one for an Erased entry that is idle: its unit got no page before it
abbrev pub idle_of : (ℕ → Bool) → Entry → ℕ
idle_of used e = option_map_or (λ unit. if used unit then 0 else 1) (unit_erased e) 0

unfoldable pub idle_after : (ℕ → Bool) → List Entry → ℕ
idle_after used [] = 0
idle_after used (e ∷ es) = idle_of used e + idle_after (used_after used e) es

-- how many Erased entries are idle: their unit was all blank at the start or at its Erased entry before, and no page of it was placed or
-- copied since
abbrev pub idle_erases : RunStart → List Entry → ℕ
idle_erases start es = idle_after start.had es
