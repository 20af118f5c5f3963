use Rattle.std.proofs.Common.{◌≡◌, ◌<◌, ◌∙◌, ◌+◌, ℕ, None, Some, ap, arith, cond, get_or, length, subst, sym}
use Rattle.std.specs.Option.{option_copied}
use Rattle.fdp_tables.specs.Blocks.{AreCounted, AreNamed, Names, lies_at}
use Rattle.fdp_tables.specs.declared.state.KeptBlock.{KeptBlock}
use Rattle.fdp_tables.proofs.Lying.{few-counted, one-counted, put_counted, row_or}
use Rattle.fdp_tables.proofs.Naming.{put_named}
use Rattle.fdp_tables.proofs.blocks.Blocks.put_made.Goals as goal

pub uncount-requires : goal.uncount-requires
uncount-requires c = λ rg low.
    let s = c.self.inside in
    let at = c.args.place in
    let there = subst (λ places. at < length places) (sym c.self.view_is) c.requires in
    let is : option_copied c.get.result ≡ get_or s.places at None = c.get.ensures ∙ row_or s.places at None there in
    omega (arith, ap {B = ℕ} (λ o. cond (lies_at rg o) 1 0) is, one-counted rg s.places at None there, c.self.invariant.0 rg low)

pub count-requires : goal.count-requires
count-requires c = λ rg low.
    let s = c.self.inside in
    omega (arith, c.uncount.ensures rg low, c.self.invariant.0 rg low, few-counted rg s.places, c.len-places.ensures.size, c.len-places.ensures.few)

pub invariant_of-self : goal.invariant_of-self
invariant_of-self c =
    let s = c.self.inside in
    let at = c.args.place in
    let there = subst (λ places. at < length places) (sym c.self.view_is) c.requires in
    let old = option_copied c.get.result in
    let counted = subst (λ (b : KeptBlock). (rg : ℕ) → rg < 16 → get_or c.count.new.counts rg 0 ≡ get_or c.uncount.new.counts rg 0 + cond (lies_at rg (Some b)) 1 0) c.block-block.ensures c.count.ensures in
    let named = subst (λ (b : KeptBlock). Names c.name.new.written c.name.new.found b.page at) c.block-block.ensures c.name.ensures.named in (
      subst (AreCounted c.count.new.counts) (sym c.put.ensures) (put_counted s.counts c.uncount.new.counts c.count.new.counts s.places at old (Some c.args.made) there (c.get.ensures ∙ row_or s.places at old there) c.self.invariant.0 c.uncount.ensures counted),
      subst (AreNamed c.name.new.written c.name.new.found) (sym c.put.ensures) (put_named s.written s.found c.name.new.written c.name.new.found s.places at (Some c.args.made) there c.self.invariant.1 c.name.ensures.written c.name.ensures.found named),
    )
