use Rattle.std.proofs.Common.{◌≡◌, ℕ, ◌*◌, ◌<◌, ◌≤◌, List, [], ◌∷◌, ◌∙◌, ap, arith, refl}
use Rattle.fdp_base.specs.Placement.{group_bits}
use Rattle.fdp_rules.specs.LogPages.{descriptor_size}
use Rattle.fdp_layouts.specs.Configurations.{config_desc}
use Rattle.fdp_layouts.specs.Frame.{frame_of}
use Rattle.fdp_logs.proofs.Frames.{descriptor_bytes}
use Rattle.fdp_logs.proofs.configurations.descriptor_head.Goals as goal

-- the frame of a configuration with these numbers
abbrev framed : ℕ → ℕ → ℕ → ℕ → ℕ → List ℕ
framed size bits groups handles runs =
    frame_of 64 config_desc ((size ∷ []) ∷ (bits ∷ 0 ∷ 0 ∷ 1 ∷ []) ∷ (0 ∷ []) ∷ (groups ∷ []) ∷ (handles ∷ []) ∷ (63 ∷ []) ∷ (16 ∷ []) ∷ (runs ∷ []) ∷ (0 ∷ []) ∷ [])

pub returns : goal.returns
returns c =
    let k = c.args.config.now in
    let handles = c.args.handles in
    let bits : c.new.result ≡ group_bits k.groups = c.new.ensures ∙ c.group_bits.ensures.value in
    let least : c.group_bits.result ≤ 4 = c.group_bits.ensures.least 4 (omega arith) in
    let few : group_bits k.groups < 16 = omega (arith, c.group_bits.ensures.value) in
    let runs : c.from-2.result * c.from-3.result ≡ k.unit_pages * k.block = rw (c.from-2.ensures, c.from-3.ensures) refl in
    c.encode.ensures.frame
    ∙ ap (λ (n : ℕ). framed n c.new.result c.from.result handles (c.from-2.result * c.from-3.result)) c.descriptor_size.ensures
    ∙ ap (λ (n : ℕ). framed (descriptor_size handles) n c.from.result handles (c.from-2.result * c.from-3.result)) bits
    ∙ ap (λ (n : ℕ). framed (descriptor_size handles) (group_bits k.groups) n handles (c.from-2.result * c.from-3.result)) c.from.ensures
    ∙ ap (framed (descriptor_size handles) (group_bits k.groups) k.groups handles) runs
    ∙ descriptor_bytes (descriptor_size handles) (group_bits k.groups) k.groups handles (k.unit_pages * k.block) few
