use Rattle.std.proofs.Common.{◌<◌, ◌∙◌, arith, sym}
use Rattle.fdp_tables.specs.Strips.{in_strips}
use Rattle.fdp_tables.proofs.InStrips.{below_size, none_there, strip_left_out, strip_there}
use Rattle.fdp_tables.proofs.strips.Strips.has_strip.Goals as goal

pub index-requires : goal.index-requires
index-requires c =
    let s = c.self.inside in
    let low : c.args.place < s.size = below_size (in_strips s.strips.items) s.size c.args.place c.args.self.now c.self.view_is c.requires in
    omega (arith, strip_there s.strips.items s.size c.args.place low c.self.invariant.0, s.strips.ok.0)

pub returns : goal.returns
returns c =
    let s = c.self.inside in
    let low : c.args.place < s.size = below_size (in_strips s.strips.items) s.size c.args.place c.args.self.now c.self.view_is c.requires in
    λ none. strip_left_out s.strips.items s.size c.args.place low c.self.invariant.0 c.index.result.now c.args.self.now c.index.ensures (none_there c.index.result.now (sym c.is_some.ensures ∙ none)) c.self.view_is
