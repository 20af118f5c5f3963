use Rattle.std.proofs.Common.{◌∙◌, refl}
use Rattle.fdp_rules.specs.PlainState.{PageName.found}
use Rattle.fdp_tables.specs.State.{table_trail}
use Rattle.fdp_plain.proofs.Taking.{traced_same}
use Rattle.fdp_plain.proofs.commit.trace.Goals as goal

pub returns-clause-found : goal.returns-clause-found
returns-clause-found c = λ spot. c.trace.ensures.found spot ∙ traced_same c.args.kept.now.config _ (table_trail c.args.kept.now) c.args.entry.now (found spot) refl refl
