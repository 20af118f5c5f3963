use Rattle.std.proofs.Common.{◌≡◌, ◌+◌, ap, arith, cond, subst, sym, ◌∙◌}
use Rattle.fdp_make.specs.Summary.{is_as_wanted, untold}
use Rattle.fdp_make.proofs.Listing.{IsCounting, bit_bound, bit_is, counting_end, counting_next}
use Rattle.fdp_make.proofs.given.agreeing_blocks.Goals as goal

pub loop-index-preserved : goal.loop-index-preserved
loop-index-preserved c =
    let bit : c.from-count.result ≡ cond c.is_as_wanted.result 1 0 = c.from-count.ensures ∙ bit_is c.is_as_wanted.result in
    record {
      bound = omega (arith, bit, bit_bound c.is_as_wanted.result, c.loop-index.invariant.bound);
      counted = λ es tells.
          let test = is_as_wanted c.args.block untold es c.args.host.now c.args.read.now in
          let one : c.from-count.result ≡ cond (test c.loop-index.index) 1 0 = bit ∙ ap (λ b. cond b 1 0) (c.is_as_wanted.ensures es tells) in
          subst (λ n. IsCounting test c.args.read.now.count (c.loop-index.index + 1) (c.loop-index.count + n)) (sym one)
          (counting_next test c.args.read.now.count c.loop-index.index c.loop-index.count c.loop-index-test.true (c.loop-index.invariant.counted es tells));
    }

pub returns : goal.returns
returns c es tells = counting_end (is_as_wanted c.args.block untold es c.args.host.now c.args.read.now) c.args.read.now.count c.loop-index.index c.loop-index.count c.loop-index-test.false (c.loop-index.invariant.counted es tells)
