use Rattle.std.proofs.Common.{refl}
use Rattle.fdp_records.specs.Limits.{is_within_limits}
use Rattle.fdp_book.proofs.changes.command.set_change.Goals as goal

pub returns-clause-limits : goal.returns-clause-limits
unfolding is_within_limits
returns-clause-limits c = refl
