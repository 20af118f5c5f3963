use Rattle.std.proofs.Common.{◌≡◌, ℕ, ◌+◌, ◌-◌, List, ◌++◌, length, ◌∙◌, ap, subst, sym}
use Rattle.std.specs.Prelude.{flat_map}
use Rattle.std.specs.Int.{to_le_bytes, w16, w32}
use Rattle.fdp_base.specs.declared.config.Class.{Class}
use Rattle.fdp_rules.specs.LogPages.{descriptor, zeros}
use Rattle.fdp_pieces.specs.Parts.{PutsPiece}
use Rattle.fdp_pieces.proofs.Putting.{puts_both}
use Rattle.fdp_log_pages.proofs.Lengths.{configurations_log_length}
use Rattle.fdp_log_pages.proofs.configurations.put_configurations.Goals as goal

pub returns : goal.returns
returns c =
    let config = c.args.config.now in
    let each : List ℕ = flat_map (descriptor config) config.fdp in
    let head : List ℕ = to_le_bytes w16 (length config.fdp - 1) ++ zeros 2 ++ to_le_bytes w32 (16 + length each) ++ zeros 8 in
    let size : c.configurations_length.result ≡ 16 + length each = c.configurations_length.ensures ∙ configurations_log_length config in
    let count : length c.as_slice.result.now ≡ length config.fdp = ap (λ (xs : List (List Class)). length xs) c.as_slice.ensures in
    let is : c.configurations_head-head.result ≡ head =
    c.configurations_head-head.ensures
    ∙ ap (λ (n : ℕ). to_le_bytes w16 (n - 1) ++ zeros 2 ++ to_le_bytes w32 c.configurations_length.result ++ zeros 8) count
    ∙ ap (λ (n : ℕ). to_le_bytes w16 (length config.fdp - 1) ++ zeros 2 ++ to_le_bytes w32 n ++ zeros 8) size in
    puts_both c.args.offset 0 head each c.args.into.now c.put_piece.new.into c.put_descriptors.new.into
    (subst (λ (bytes : List ℕ). PutsPiece c.args.offset 0 bytes c.args.into.now c.put_piece.new.into) is c.put_piece.ensures) c.put_descriptors.ensures
