-- The head of the file of a flash.
use Rattle.std.specs.Prelude.{ℕ, List, [], ◌∷◌}
use Rattle.fdp_base.specs.declared.config.Geometry.{Geometry}

-- the numbers of the head behind its name: the version 1, and the geometry in the order of its fields
abbrev pub head_numbers : Geometry → List ℕ
head_numbers g = 1 ∷ g.block ∷ g.unit_pages ∷ g.groups ∷ g.units ∷ g.area_units ∷ []
