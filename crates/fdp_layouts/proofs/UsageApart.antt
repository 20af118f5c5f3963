-- The parts of the Reclaim Unit Handle Usage log page are known by their numbers.
use Rattle.std.proofs.Common.{◌≡◌, ℕ, ◌==◌, refl, sym, ap, ◌∙◌}
use Rattle.std.specs.Prelude.{if◌then◌else◌}
use Rattle.fdp_layouts.specs.declared.usage.RuhUseHead.{RuhUseHead}
use Rattle.fdp_layouts.specs.declared.usage.RuhUse.{RuhUse}
use Rattle.fdp_layouts.specs.declared.usage.Usage.{Usage}
use Rattle.fdp_layouts.specs.declared.usage.Usage.TheVariants as usages
use Rattle.fdp_layouts.specs.Usage.{ruh_use_head_numbers, usage_code, usage_numbers, ruh_use_numbers}

pub ruh_use_head_by_numbers : (v w : RuhUseHead) → ruh_use_head_numbers v ≡ ruh_use_head_numbers w → v ≡ w
ruh_use_head_by_numbers v w e =
    let nruh : v.nruh ≡ w.nruh = cc in
    λ i. record { nruh = nruh i }

usage_of : ℕ → Usage
usage_of n = if n == 0 then usages.Unused else (if n == 1 then usages.HostSpecified else usages.ControllerSpecified)

usage_of_code : (u : Usage) → usage_of (usage_code u) ≡ u
unfolding usage_of
usage_of_code usages.Unused = refl
usage_of_code usages.HostSpecified = refl
usage_of_code usages.ControllerSpecified = refl

usage_by_numbers : (v w : Usage) → usage_numbers v ≡ usage_numbers w → v ≡ w
usage_by_numbers v w e =
    let same : usage_code v ≡ usage_code w = cc in
    sym (usage_of_code v) ∙ ap usage_of same ∙ usage_of_code w

pub ruh_use_by_numbers : (v w : RuhUse) → ruh_use_numbers v ≡ ruh_use_numbers w → v ≡ w
ruh_use_by_numbers v w e =
    let usage = usage_by_numbers v.usage w.usage (cc) in
    λ i. record { usage = usage i }
