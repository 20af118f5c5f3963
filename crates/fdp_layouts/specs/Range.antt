-- The layout of a range of a Dataset Management command.
use Rattle.std.specs.Prelude.{ℕ, List, [], ◌∷◌}
use Rattle.fdp_layouts.specs.Frame.{Field, number}
use Rattle.fdp_layouts.specs.declared.range.DsmRange.{DsmRange}

-- attributes 0+4, length 4+4, SLBA 8+8
abbrev pub dsm_range : List Field
dsm_range = number 0 4 ∷ number 4 4 ∷ number 8 8 ∷ []

abbrev pub dsm_range_numbers : DsmRange → List (List ℕ)
dsm_range_numbers r = (r.attributes ∷ []) ∷ (r.length ∷ []) ∷ (r.slba ∷ []) ∷ []
