use Rattle.std.proofs.Common.{◌+◌, ◌/◌}
use Rattle.fdp_tables.proofs.InStrips.{strips_absent}
use Rattle.fdp_tables.proofs.strips.Strips.absent.Goals as goal

pub returns : goal.returns
returns c = strips_absent c.in_ok-absent_strips.field-0.items (c.args.size / 16 + 1) c.args.size c.in_ok-absent_strips.ensures
