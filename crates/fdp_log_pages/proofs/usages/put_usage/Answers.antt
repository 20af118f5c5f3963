use Rattle.std.proofs.Common.{◌≡◌, ℕ, ◌+◌, ◌*◌, List, ◌∷◌, ◌∙◌, ap, refl, subst}
use Rattle.fdp_rules.specs.LogPages.{zeros}
use Rattle.fdp_pieces.specs.Parts.{PutsPiece}
use Rattle.fdp_log_pages.specs.Usages.{usage_in}
use Rattle.fdp_log_pages.proofs.usages.put_usage.Goals as goal

pub returns-then-is_outside : goal.returns-then-is_outside
returns-then-is_outside c =
    let piece = usage_in c.args.places.now c.args.ruh ∷ zeros 7 in
    let at : 8 + 8 * c.from.result ≡ 8 + 8 * c.args.ruh = ap (λ (n : ℕ). 8 + 8 * n) c.from.ensures in
    subst (λ (n : ℕ). PutsPiece c.args.offset n piece c.args.into.now c.args.into.now) at (c.is_outside.ensures c.if-is_outside.true piece c.args.into.now refl refl)

pub returns : goal.returns
returns c =
    let places = c.args.places.now in
    let at : 8 + 8 * c.from.result ≡ 8 + 8 * c.args.ruh = ap (λ (n : ℕ). 8 + 8 * n) c.from.ensures in
    let frame : c.usage_frame.result ≡ usage_in places c.args.ruh ∷ zeros 7 = c.usage_frame.ensures ∙ ap (λ (u : ℕ). u ∷ zeros 7) c.usage_of.ensures in
    subst (λ (n : ℕ). PutsPiece c.args.offset n (usage_in places c.args.ruh ∷ zeros 7) c.args.into.now c.put_piece.new.into) at
    (subst (λ (bytes : List ℕ). PutsPiece c.args.offset (8 + 8 * c.from.result) bytes c.args.into.now c.put_piece.new.into) frame c.put_piece.ensures)
