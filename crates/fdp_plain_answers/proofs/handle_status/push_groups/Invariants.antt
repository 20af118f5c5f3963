use Rattle.fdp_rules.specs.LogPages.{status_descriptor}
use Rattle.fdp_tables.specs.State.{plain_of}
use Rattle.fdp_plain_answers.proofs.Appending.{IsAppending}
use Rattle.fdp_plain_answers.proofs.handle_status.push_groups.Given as goal

abbrev pub invariant-loop-rg : goal.invariant-loop-rg
invariant-loop-rg l = IsAppending (status_descriptor l.kept.config (plain_of l.kept) l.handle l.ruh) l.kept.config.groups l.rg l.initial.bytes.items l.bytes.items
