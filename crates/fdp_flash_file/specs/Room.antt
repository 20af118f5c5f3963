-- What a flash over a file keeps in memory.
use Rattle.std.specs.Prelude.{◌≡◌, ◌+◌}
use Rattle.std.specs.Vec.{vec_len}
use Rattle.fdp_base.specs.declared.config.Geometry.{Geometry}
use Rattle.fdp_base.specs.Geometry.{all_pages}
use Rattle.fdp_flash_file.specs.declared.page_file.PageFile.{PageFile}

-- a state for each page, and room for the spare and the block of one
pub record HasRoom {S : Type 0} (g : Geometry) (pages : PageFile S) : Type 0 where
  pub states : vec_len pages.states ≡ all_pages g
  pub room : vec_len pages.room ≡ 32 + g.block

-- as many states and as much room as there were
pub record SameRoom {S : Type 0} (old new : PageFile S) : Type 0 where
  pub states : vec_len new.states ≡ vec_len old.states
  pub room : vec_len new.room ≡ vec_len old.room
