use Rattle.std.proofs.Common.{◌<◌, ◌∙◌, ap, arith, sym}
use Rattle.std.specs.Prelude.{◌%◌, option_map}
use Rattle.fdp_base.specs.Numbers.{with_at}
use Rattle.fdp_tables.specs.Blocks.{on_page}
use Rattle.fdp_tables.specs.State.{row}
use Rattle.fdp_tables.specs.Strips.{in_strip, in_strips}
use Rattle.fdp_tables.proofs.InStrips.{below_size, strip_there, strips_put, strips_row}
use Rattle.fdp_tables.proofs.strips.Strips.set_page.Goals as goal

pub index_mut-requires : goal.index_mut-requires
index_mut-requires c =
    let s = c.self.inside in
    let low : c.args.place < s.size = below_size (in_strips s.strips.items) s.size c.args.place c.args.self.now c.self.view_is c.requires in
    omega (arith, strip_there s.strips.items s.size c.args.place low c.self.invariant.0, s.strips.ok.0)

pub returns : goal.returns
returns c =
    let s = c.self.inside in
    let low : c.args.place < s.size = below_size (in_strips s.strips.items) s.size c.args.place c.args.self.now c.self.view_is c.requires in
    let was = strips_row s.strips.items s.size c.args.place low c.self.invariant.0 c.index_mut.result.now c.args.self.now c.index_mut.ensures.value c.self.view_is in
    strips_put s.strips.items s.size c.args.place low c.self.invariant.0 c.index_mut.result.now c.set_page_at.new.strip (option_map (on_page c.args.page) (row c.args.self.now c.args.place)) c.args.self.now c.index_mut.ensures.value
    (λ i. c.set_page_at.ensures i ∙ ap (λ o. with_at (in_strip c.index_mut.result.now) (c.args.place % 16) (option_map (on_page c.args.page) o) i) (sym was)) c.self.view_is
