use Rattle.std.proofs.Common.{◌<◌, arith}
use Rattle.fdp_tables.specs.Strips.{in_strips}
use Rattle.fdp_tables.proofs.InStrips.{below_size, strip_there, strips_without}
use Rattle.fdp_tables.proofs.strips.Strips.drop_strip.Goals as goal

pub index_mut-requires : goal.index_mut-requires
index_mut-requires c =
    let s = c.self.inside in
    let low : c.args.place < s.size = below_size (in_strips s.strips.items) s.size c.args.place c.args.self.now c.self.view_is c.requires.there in
    omega (arith, strip_there s.strips.items s.size c.args.place low c.self.invariant.0, s.strips.ok.0)

pub returns : goal.returns
returns c =
    let s = c.self.inside in
    let low : c.args.place < s.size = below_size (in_strips s.strips.items) s.size c.args.place c.args.self.now c.self.view_is c.requires.there in
    strips_without s.strips.items s.size c.args.place low c.self.invariant.0 c.args.self.now c.self.view_is c.requires.empty
