-- The layout of the FDP Statistics log page.
use Rattle.std.specs.Prelude.{ℕ, List, [], ◌∷◌}
use Rattle.fdp_layouts.specs.Frame.{Field, number}
use Rattle.fdp_layouts.specs.declared.statistics.Stats.{Stats}

-- HBMW 0+16, MBMW 16+16, MBE 32+16
abbrev pub stats : List Field
stats = number 0 16 ∷ number 16 16 ∷ number 32 16 ∷ []

abbrev pub stats_numbers : Stats → List (List ℕ)
stats_numbers s = (s.hbmw ∷ []) ∷ (s.mbmw ∷ []) ∷ (s.mbe ∷ []) ∷ []
