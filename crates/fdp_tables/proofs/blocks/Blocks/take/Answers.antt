use Rattle.std.proofs.Common.{◌≡◌, ◌<◌, ◌∙◌, ℕ, None, ap, arith, cond, get_or, length, subst, sym}
use Rattle.std.specs.Option.{option_copied}
use Rattle.fdp_tables.specs.Blocks.{AreCounted, AreNamed, lies_at}
use Rattle.fdp_tables.proofs.Lying.{one-counted, put_counted, row_or}
use Rattle.fdp_tables.proofs.Naming.{put_named}
use Rattle.fdp_tables.proofs.blocks.Blocks.take.Goals as goal

pub uncount-requires : goal.uncount-requires
uncount-requires c = λ rg low.
    let s = c.self.inside in
    let at = c.args.place in
    let there = subst (λ places. at < length places) (sym c.self.view_is) c.requires in
    let is : option_copied c.get.result ≡ get_or s.places at None = c.get.ensures ∙ row_or s.places at None there in
    omega (arith, ap {B = ℕ} (λ o. cond (lies_at rg o) 1 0) is, one-counted rg s.places at None there, c.self.invariant.0 rg low)

pub invariant_of-self : goal.invariant_of-self
invariant_of-self c =
    let s = c.self.inside in
    let at = c.args.place in
    let there = subst (λ places. at < length places) (sym c.self.view_is) c.requires in
    let old = option_copied c.get.result in (
      subst (AreCounted c.uncount.new.counts) (sym c.clear.ensures) (put_counted s.counts c.uncount.new.counts c.uncount.new.counts s.places at old None there (c.get.ensures ∙ row_or s.places at old there) c.self.invariant.0 c.uncount.ensures (λ rg low. omega arith)),
      subst (AreNamed s.written s.found) (sym c.clear.ensures) (put_named s.written s.found s.written s.found s.places at None there c.self.invariant.1 (λ k v h. h) (λ k v h. h) tt),
    )
