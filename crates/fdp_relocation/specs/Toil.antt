-- What a pass has still to do, and what it wins.
use Rattle.std.specs.Prelude.{ℕ, ◌+◌}
use Rattle.fdp_keeper.specs.fdp_pages.PageTables.{PageTables, passes_at}
use Rattle.fdp_passes.specs.Room.{wanted_in}
use Rattle.fdp_units.specs.UnitTable.{toil_of}

-- the live pages of its victim that the pass under way in a group has still to copy
abbrev pub wanted_at : PageTables → ℕ → ℕ
wanted_at t rg = wanted_in (passes_at t rg) t.owners

-- the toil of a group, with a page more for each page that its pass has still to copy
abbrev pub work : PageTables → ℕ → ℕ
work t rg = toil_of t.units rg + wanted_at t rg
