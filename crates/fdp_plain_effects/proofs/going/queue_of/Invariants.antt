use Rattle.fdp_rules.specs.Change.{holds_ticket}
use Rattle.fdp_tables.specs.State.{plain_of}
use Rattle.fdp_tables.proofs.Walks.{IsSeekingQueue}
use Rattle.fdp_plain_effects.proofs.going.queue_of.Given as goal

abbrev pub invariant-loop-before : goal.invariant-loop-before
invariant-loop-before l = IsSeekingQueue (holds_ticket (plain_of l.kept) l.ticket) l.kept.config.queues l.before
