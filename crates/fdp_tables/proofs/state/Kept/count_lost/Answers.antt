use Rattle.std.proofs.Common.{◌≡◌, ℕ, ◌+◌, ◌*◌, Bool, arith, cond, subst, sym}
use Rattle.fdp_tables.specs.State.{plain_of}
use Rattle.fdp_tables.proofs.Counting.{IsCounting, byte_is, counting_end, counting_next}
use Rattle.fdp_tables.proofs.state.Kept.count_lost.Goals as goal

pub loop-i-preserved : goal.loop-i-preserved
loop-i-preserved c =
    let k = c.args.self.now in
    let test : ℕ → Bool = λ i. (plain_of k).is_lost (c.args.rg * k.config.units + i) in
    let next = counting_next test k.config.units c.loop-i.i c.loop-i.lost (omega arith) c.loop-i.invariant in
    let e : c.from-lost.result ≡ cond (test c.loop-i.i) 1 0 = rw (c.from-lost.ensures, c.is_lost.ensures, c.from.ensures) (byte_is (test c.loop-i.i)) in
    subst (λ (x : ℕ). IsCounting test k.config.units (c.loop-i.i + 1) (c.loop-i.lost + x)) (sym e) next

pub returns : goal.returns
returns c =
    let k = c.args.self.now in
    let test : ℕ → Bool = λ i. (plain_of k).is_lost (c.args.rg * k.config.units + i) in
    counting_end test k.config.units c.loop-i.i c.loop-i.lost (omega arith) c.loop-i.invariant
