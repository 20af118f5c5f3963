use Rattle.std.proofs.Common.{◌≡◌, ℕ, List, ◌∷◌, ◌++◌, ◌∙◌, ap, subst}
use Rattle.std.specs.Prelude.{flat_map}
use Rattle.std.specs.Int.{to_le_bytes, w16}
use Rattle.fdp_base.specs.Numbers.{numbers_below}
use Rattle.fdp_rules.specs.LogPages.{zeros}
use Rattle.fdp_pieces.specs.Parts.{PutsPiece}
use Rattle.fdp_pieces.proofs.Putting.{puts_both}
use Rattle.fdp_log_pages.specs.Usages.{usage_in}
use Rattle.fdp_log_pages.proofs.usages.put_usages.Goals as goal

pub returns : goal.returns
returns c =
    let n = c.args.handles in
    let head : List ℕ = to_le_bytes w16 n ++ zeros 6 in
    let rest : List ℕ = flat_map (λ ruh. usage_in c.args.places.now ruh ∷ zeros 7) (numbers_below n) in
    let is : c.usage_head.result ≡ head = c.usage_head.ensures ∙ ap (λ (m : ℕ). to_le_bytes w16 m ++ zeros 6) c.from.ensures in
    puts_both c.args.offset 0 head rest c.args.into.now c.put_piece.new.into c.put_each_usage.new.into
    (subst (λ (bytes : List ℕ). PutsPiece c.args.offset 0 bytes c.args.into.now c.put_piece.new.into) is c.put_piece.ensures) c.put_each_usage.ensures
