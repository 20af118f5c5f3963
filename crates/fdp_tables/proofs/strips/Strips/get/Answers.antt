use Rattle.std.proofs.Common.{◌≡◌, ◌<◌, ◌≤◌, ◌∙◌, ap, arith, length, sym}
use Rattle.std.specs.Option.{option_flatten}
use Rattle.std.proofs.lemmas.Option.{slice_get_past}
use Rattle.fdp_tables.specs.Strips.{in_strips}
use Rattle.fdp_tables.proofs.InStrips.{length_table, strips_row}
use Rattle.fdp_tables.proofs.strips.Strips.get.Goals as goal

pub returns-then-lba-self : goal.returns-then-lba-self
returns-then-lba-self c =
    let s = c.self.inside in
    let low : c.args.lba < s.size = omega (arith, c.if-lba-self.true) in
    c.block_at.ensures ∙ sym (strips_row s.strips.items s.size c.args.lba low c.self.invariant.0 c.index.result.now c.args.self.now c.index.ensures c.self.view_is)

pub returns-else-lba-self : goal.returns-else-lba-self
returns-else-lba-self c =
    let s = c.self.inside in
    let many : length c.args.self.now ≡ s.size = ap length (sym c.self.view_is) ∙ length_table (in_strips s.strips.items) s.size in
    let past : length c.args.self.now ≤ c.args.lba = omega (arith, c.if-lba-self.false, many) in
    sym (ap option_flatten (slice_get_past c.args.self.now c.args.lba past))
