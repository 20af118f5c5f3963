use Rattle.std.proofs.Common.{◌≡◌, ◌∙◌, ◌+◌, ◌<◌, ◌++◌, ◌∷◌, [], ap, arith, length, set, subst, sym}
use Rattle.std.proofs.lemmas.List.{length_push}
use Rattle.fdp_plain_effects.proofs.Putting.{IsPutting, putting_next}
use Rattle.fdp_plain_effects.proofs.write.put_blocks.Goals as goal

pub loop-block-preserved : goal.loop-block-preserved
loop-block-preserved c =
    let rest = c.pop.new.self.items in
    let ys = c.loop-block.blocks in
    let y = c.in-Some.block in
    let e : c.loop-block.made.items ≡ rest ++ y ∷ [] = c.in-Some.ensures.items in
    let many : c.len.result ≡ length rest = omega (arith, c.pop.new.self.ok.0) in
    let longer : length c.loop-block.made.items ≡ length rest + 1 = ap length e ∙ length_push rest y in
    let there : c.args.slba + length rest < length ys = omega (arith, c.loop-block.invariant.fits, longer) in
    subst (IsPutting c.args.made.items c.args.slba c.args.blocks.now rest) (sym c.put.ensures)
    (subst (λ n. IsPutting c.args.made.items c.args.slba c.args.blocks.now rest (set ys (c.args.slba + n) y)) (sym many)
    (putting_next c.args.made.items c.args.slba c.args.blocks.now c.loop-block.made.items rest y ys e c.loop-block.invariant there))

pub overflow_add-place : goal.overflow_add-place
overflow_add-place c =
    let rest = c.pop.new.self.items in
    let e : c.loop-block.made.items ≡ rest ++ c.in-Some.block ∷ [] = c.in-Some.ensures.items in
    let longer : length c.loop-block.made.items ≡ length rest + 1 = ap length e ∙ length_push rest c.in-Some.block in
    omega (arith, c.len-places.ensures, c.requires, c.loop-block.invariant.fits, longer, c.len.ensures, c.pop.new.self.ok.0)
