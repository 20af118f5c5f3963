use Rattle.std.proofs.Common.{◌≡◌, ◌-◌, ℕ, arith, subst}
use Rattle.fdp_base.specs.Numbers.{is_among}
use Rattle.fdp_tables.specs.Clearing.{IsCleared}
use Rattle.fdp_tables.proofs.blocks.Blocks.clear_places.Goals as goal

pub returns : goal.returns
returns c =
    let all : c.loop-lba.lba ≡ c.args.end = omega (arith, c.loop-lba.auto.lba, c.loop-lba.auto.lba-end, c.loop-lba-test.false, c.requires.in_order) in
    subst (λ (n : ℕ). IsCleared (is_among c.args.slba (n - c.args.slba)) c.args.self.now c.loop-lba.self) all c.loop-lba.invariant
