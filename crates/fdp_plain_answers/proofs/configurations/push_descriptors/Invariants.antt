use Rattle.fdp_rules.specs.LogPages.{descriptor}
use Rattle.fdp_logs.proofs.Appending.{IsAppendingOver}
use Rattle.fdp_plain_answers.proofs.configurations.push_descriptors.Given as goal

abbrev pub invariant-loop-index : goal.invariant-loop-index
invariant-loop-index l = IsAppendingOver (descriptor l.config) l.config.fdp l.index l.initial.log.items l.log.items
