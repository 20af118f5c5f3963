use Rattle.std.proofs.Common.{◌∙◌, ap, length, sym}
use Rattle.fdp_tables.specs.Strips.{in_strips}
use Rattle.fdp_tables.proofs.InStrips.{length_table}
use Rattle.fdp_tables.proofs.strips.Strips.len.Goals as goal

pub returns-clause-size : goal.returns-clause-size
returns-clause-size c = sym (length_table (in_strips c.self.inside.strips.items) c.self.inside.size) ∙ ap length c.self.view_is
