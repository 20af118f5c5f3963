use Rattle.std.proofs.Common.{length}
use Rattle.fdp_book.proofs.Making.Limits.{within-most}
use Rattle.fdp_records.specs.Limits.{is_within_limits}
use Rattle.fdp_book.proofs.changes.command.cleared_change.Goals as goal

pub returns-clause-limits : goal.returns-clause-limits
unfolding is_within_limits
returns-clause-limits c = within-most 16 (length c.args.ranges.now) c.requires.0 c.requires.1
