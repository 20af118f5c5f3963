use Rattle.std.proofs.Common.{◌≡◌, ◌∙◌, ℕ, ap, arith}
use Rattle.fdp_map.specs.MapTable.{size_in}
use Rattle.fdp_map.proofs.Emptied.{emptied_end, emptied_next}
use Rattle.fdp_map.proofs.map.Map.empty.Goals as goal

pub remove-requires : goal.remove-requires
remove-requires c =
    let size : size_in c.loop-lba.self c.args.nsid ≡ size_in c.args.self.now c.args.nsid = ap (λ (f : ℕ → ℕ). f c.args.nsid) c.loop-lba.invariant.0.sizes in
    record { lba = omega (arith, size, c.size-lba-end.ensures.value, c.loop-lba-test.true) }

pub loop-lba-preserved : goal.loop-lba-preserved
loop-lba-preserved c = (emptied_next c.args.self.now c.loop-lba.self c.remove.new.self c.args.nsid c.loop-lba.lba c.remove.ensures.blocks c.remove.ensures.sizes c.loop-lba.invariant.0, c.remove.ensures.geometry ∙ c.loop-lba.invariant.1)

pub returns-clause-blocks : goal.returns-clause-blocks
returns-clause-blocks c = emptied_end c.args.self.now c.loop-lba.self c.args.nsid c.loop-lba.lba (omega (arith, c.size-lba-end.ensures.value, c.loop-lba-test.false)) c.loop-lba.invariant.0
