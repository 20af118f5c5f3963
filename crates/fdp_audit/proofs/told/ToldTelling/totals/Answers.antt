use Rattle.std.proofs.Common.{◌∙◌}
use Rattle.fdp_plain.specs.Run.{found_of}
use Rattle.fdp_printing.proofs.Told.{totals-told}
use Rattle.fdp_audit.proofs.told.ToldTelling.totals.Goals as goal

pub returns : goal.returns
returns c = let run = c.args.self.now.plain.now in c.totals.ensures ∙ totals-told run.config (found_of run) run.entries
