-- The layouts of the Reclaim Unit Handle Usage log page.
use Rattle.std.specs.Prelude.{ℕ, ◌||◌, List, [], ◌∷◌, ◌==◌}
use Rattle.fdp_layouts.specs.Frame.{Part, Field, code, number}
use Rattle.fdp_layouts.specs.declared.usage.RuhUseHead.{RuhUseHead}
use Rattle.fdp_layouts.specs.declared.usage.RuhUse.{RuhUse}
use Rattle.fdp_layouts.specs.declared.usage.Usage.{Usage}
use Rattle.fdp_layouts.specs.declared.usage.Usage.TheVariants as usages

-- NRUH 0+2
abbrev pub ruh_use_head : List Field
ruh_use_head = number 0 2 ∷ []

abbrev pub ruh_use_head_numbers : RuhUseHead → List (List ℕ)
ruh_use_head_numbers h = (h.nruh ∷ []) ∷ []

abbrev pub usage_code : Usage → ℕ
usage_code usages.Unused = 0
usage_code usages.HostSpecified = 1
usage_code usages.ControllerSpecified = 2

abbrev pub usage_parts : List Part
usage_parts = code (λ n. (n == 0) || (n == 1) || (n == 2)) ∷ []

abbrev pub usage_numbers : Usage → List ℕ
usage_numbers u = usage_code u ∷ []

-- usage 0+1
abbrev pub ruh_use : List Field
ruh_use = record { at = 0; parts = usage_parts } ∷ []

abbrev pub ruh_use_numbers : RuhUse → List (List ℕ)
ruh_use_numbers r = usage_numbers r.usage ∷ []
