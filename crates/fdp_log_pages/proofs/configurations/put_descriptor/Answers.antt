use Rattle.std.proofs.Common.{◌≡◌, ℕ, ◌+◌, ◌*◌, ◌-◌, List, [], ◌∷◌, ◌++◌, length, ◌∙◌, ap, refl, sym, subst, arith}
use Rattle.std.specs.Prelude.{flat_map}
use Rattle.std.specs.Int.{to_le_bytes, w16, w32, w64}
use Rattle.fdp_base.specs.Codes.{class_code}
use Rattle.fdp_base.specs.declared.config.Class.{Class}
use Rattle.fdp_base.specs.Placement.{group_bits}
use Rattle.fdp_rules.specs.LogPages.{descriptor, descriptor_size, zeros}
use Rattle.fdp_pieces.specs.Parts.{PutsPiece}
use Rattle.fdp_pieces.proofs.Putting.{puts_both, zeros_behind}
use Rattle.fdp_log_pages.proofs.Lengths.{descriptor_length}
use Rattle.fdp_log_pages.proofs.configurations.put_descriptor.Goals as goal

pub returns-then-is_outside : goal.returns-then-is_outside
returns-then-is_outside c =
    let config = c.args.config.now in
    let classes = c.args.classes.now in
    let long : length (descriptor config classes) ≡ c.from-bytes.result = descriptor_length config classes ∙ sym (c.from-bytes.ensures ∙ c.descriptor_size.ensures.value) in
    c.is_outside.ensures c.if-is_outside.true (descriptor config classes) c.args.into.now long refl

pub returns : goal.returns
returns c =
    let config = c.args.config.now in
    let n = length c.args.classes.now in
    let offset = c.args.offset in
    let at = c.args.at in
    let start = c.args.into.now in
    let head : List ℕ =
    to_le_bytes w16 (descriptor_size n) ++ (128 + group_bits config.groups) ∷ 0 ∷ []
    ++ to_le_bytes w32 config.groups ++ to_le_bytes w16 n ++ to_le_bytes w16 63 ++ to_le_bytes w32 16
    ++ to_le_bytes w64 (config.unit_pages * config.block) ++ to_le_bytes w32 0 ++ zeros 36 in
    let classes : List ℕ = flat_map (λ (class : Class). class_code class ∷ zeros 3) c.args.classes.now in
    let padding : List ℕ = zeros (descriptor_size n - (64 + 4 * n)) in
    let new = c.put_classes.new.into in
    let first : PutsPiece offset at head start c.put_piece.new.into = subst (λ (bytes : List ℕ). PutsPiece offset at bytes start c.put_piece.new.into) c.descriptor_head.ensures c.put_piece.ensures in
    let both = puts_both offset at head classes start c.put_piece.new.into new first c.put_classes.ensures in
    puts_both offset at (head ++ classes) padding start new new both (zeros_behind offset (at + length (head ++ classes)) (descriptor_size n - (64 + 4 * n)) new)
