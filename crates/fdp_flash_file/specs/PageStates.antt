-- The byte that tells the state of a page.
use Rattle.std.specs.Prelude.{ℕ}
use Rattle.fdp_flash_file.specs.declared.page.PageState.{PageState}
use Rattle.fdp_flash_file.specs.declared.page.PageState.TheVariants.{Blank, Whole, Torn}

-- 0 is blank, 1 whole, 2 torn
abbrev pub state_code : PageState → ℕ
state_code Blank = 0
state_code Whole = 1
state_code Torn = 2
