use Rattle.std.proofs.Common.{ℕ, ◌+◌, ◌*◌, ◌-◌, List, [], ◌∷◌, ◌++◌, length, ◌∙◌, ap}
use Rattle.std.specs.Prelude.{flat_map}
use Rattle.std.specs.Int.{to_le_bytes, w16, w32, w64}
use Rattle.fdp_base.specs.declared.config.Class.{Class}
use Rattle.fdp_base.specs.Placement.{group_bits}
use Rattle.fdp_base.specs.Codes.{class_code}
use Rattle.fdp_rules.specs.LogPages.{descriptor_size, zeros}
use Rattle.fdp_logs.proofs.Appending.{joined_3}
use Rattle.fdp_logs.proofs.configurations.push_descriptor.Goals as goal

pub returns : goal.returns
returns c =
    let config = c.args.config.now in
    let start = c.args.log.now.items in
    let n = length c.args.classes.now in
    let head : List ℕ =
    to_le_bytes w16 (descriptor_size n) ++ (128 + group_bits config.groups) ∷ 0 ∷ []
    ++ to_le_bytes w32 config.groups ++ to_le_bytes w16 n ++ to_le_bytes w16 63 ++ to_le_bytes w32 16
    ++ to_le_bytes w64 (config.unit_pages * config.block) ++ to_le_bytes w32 0 ++ zeros 36 in
    let classes : List ℕ = flat_map (λ (class : Class). class_code class ∷ zeros 3) c.args.classes.now in
    let padding = descriptor_size n - (64 + 4 * n) in
    let e1 = c.in_ok-extend_from_slice.ensures.items ∙ ap (λ (x : List ℕ). start ++ x) c.descriptor_head.ensures in
    let e2 = c.in_ok-push_classes.ensures ∙ ap (λ (x : List ℕ). x ++ classes) e1 in
    let e3 = c.in_ok-push_zeros.ensures
    ∙ ap (λ (m : ℕ). c.push_classes.new.log.items ++ zeros (m - (64 + 4 * n))) c.descriptor_size.ensures
    ∙ ap (λ (x : List ℕ). x ++ zeros padding) e2 in
    e3 ∙ joined_3 start head classes (zeros padding)
