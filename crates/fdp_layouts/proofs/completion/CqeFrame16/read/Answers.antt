use Rattle.fdp_layouts.proofs.CompletionApart.{cqe_by_numbers}
use Rattle.fdp_layouts.proofs.completion.CqeFrame16.read.Goals as goal

pub returns-clause-known : goal.returns-clause-known
returns-clause-known c = cqe_by_numbers _
