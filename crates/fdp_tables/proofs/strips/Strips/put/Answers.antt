use Rattle.std.proofs.Common.{◌<◌, arith, Some}
use Rattle.fdp_tables.specs.Strips.{in_strips}
use Rattle.fdp_tables.proofs.InStrips.{below_size, strip_there, strips_put}
use Rattle.fdp_tables.proofs.strips.Strips.put.Goals as goal

pub index_mut-requires : goal.index_mut-requires
index_mut-requires c =
    let s = c.self.inside in
    let low : c.args.place < s.size = below_size (in_strips s.strips.items) s.size c.args.place c.args.self.now c.self.view_is c.requires in
    omega (arith, strip_there s.strips.items s.size c.args.place low c.self.invariant.0, s.strips.ok.0)

pub returns : goal.returns
returns c =
    let s = c.self.inside in
    let low : c.args.place < s.size = below_size (in_strips s.strips.items) s.size c.args.place c.args.self.now c.self.view_is c.requires in
    strips_put s.strips.items s.size c.args.place low c.self.invariant.0 c.index_mut.result.now c.put_into.new.strip (Some c.args.made) c.args.self.now c.index_mut.ensures.value c.put_into.ensures c.self.view_is
