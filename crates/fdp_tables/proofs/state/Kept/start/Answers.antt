use Rattle.std.proofs.Common.{◌-◌, ◌∙◌, arith}
use Rattle.fdp_tables.proofs.Running.{last_read}
use Rattle.fdp_tables.proofs.state.Kept.start.Goals as goal

pub returns-else-runs-eq0 : goal.returns-else-runs-eq0
returns-else-runs-eq0 c =
    let starts = c.args.self.now.starts in
    c.index.ensures ∙ last_read starts.items (c.len-runs.result - 1) c.index.result.now (omega (arith, c.len-runs.ensures, c.if-runs-eq0.false, starts.ok.0))
