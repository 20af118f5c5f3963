use Rattle.std.proofs.Common.{◌≡◌, ◌+◌, ◌≤◌, ◌∙◌, ap, arith, length, sym}
use Rattle.fdp_tables.proofs.Clearing.{clearing_end, clearing_next, clearing_start}
use Rattle.fdp_tables.proofs.blocks.Blocks.clear.Goals as goal

pub loop-lba-init : goal.loop-lba-init
loop-lba-init c = clearing_start c.args.self.now c.args.slba c.min-end.result

pub loop-lba-preserved : goal.loop-lba-preserved
loop-lba-preserved c =
    let l = c.loop-lba in
    let made = c.clear_strip-lba in
    clearing_next c.args.self.now c.args.slba c.min-end.result l.lba l.self made.result made.new.self l.invariant made.ensures.goes_on made.ensures.ends made.ensures.cleared

pub returns-clause-rows : goal.returns-clause-rows
returns-clause-rows c =
    let l = c.loop-lba in
    let many : length c.args.self.now ≡ c.len.result = ap length (sym c.self.view_is) ∙ sym c.len.ensures.size in
    let ends : c.min-end.result ≤ c.args.slba + c.args.count = omega (arith, c.min-end.ensures, c.saturating_add.ensures) in
    clearing_end c.args.self.now c.args.slba c.min-end.result c.args.count l.lba l.self ends (λ k there low. omega (arith, there, low, many, c.min-end.ensures, c.saturating_add.ensures, c.len.ensures.few)) (omega (arith, c.loop-lba-test.false)) l.invariant
