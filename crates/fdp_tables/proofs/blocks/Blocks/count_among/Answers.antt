use Rattle.std.proofs.Common.{◌≡◌, ◌+◌, ℕ, ap, arith, cond, length, subst, sym}
use Rattle.fdp_tables.proofs.Counting.{byte_is}
use Rattle.fdp_tables.proofs.Lying.{IsLooking, looked-all, looking-first, looking-next, lying}
use Rattle.fdp_tables.proofs.blocks.Blocks.count_among.Goals as goal

pub loop-index-init : goal.loop-index-init
loop-index-init c = looking-first c.args.rg c.args.self.now c.args.slba c.args.count

pub loop-index-preserved : goal.loop-index-preserved
loop-index-preserved c =
    let l = c.loop-index in
    let here = lying c.args.rg c.args.self.now (c.args.slba + l.index) in
    let e : c.from-lying.result ≡ cond here 1 0 = rw (c.from-lying.ensures, c.lies_at.ensures) (byte_is here) in
    subst (λ (x : ℕ). IsLooking c.args.rg c.args.self.now c.args.slba c.args.count (l.index + 1) (l.lying + x)) (sym e)
    (looking-next c.args.rg c.args.self.now c.args.slba c.args.count l.index l.lying (omega (arith, c.loop-index-test.true, c.min-index-end.ensures)) l.invariant)

pub returns : goal.returns
returns c =
    let l = c.loop-index in
    looked-all c.args.rg c.args.self.now c.args.slba c.args.count l.index l.lying (omega (arith, c.loop-index-test.false, l.auto.index-end, c.min-index-end.ensures, c.saturating_sub-behind.ensures, c.len.ensures, ap (λ xs. length xs) c.self.view_is)) l.invariant
