-- Where the pages of a flash stand in its file.
use Rattle.std.specs.Prelude.{ℕ, ◌+◌, ◌*◌}
use Rattle.fdp_base.specs.declared.config.Geometry.{Geometry}
use Rattle.fdp_base.specs.Geometry.{all_pages}

-- the place of the state of a page: behind the head, in the order of the pages
abbrev pub state_place : ℕ → ℕ
state_place page = 32 + page

-- the place of the spare of a page, which its block follows: behind the states, in the order of the pages
abbrev pub spare_place : Geometry → ℕ → ℕ
spare_place g page = state_place (all_pages g) + page * (32 + g.block)

-- how long the file is
abbrev pub file_size : Geometry → ℕ
file_size g = spare_place g (all_pages g)
