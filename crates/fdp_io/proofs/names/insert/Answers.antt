use Rattle.std.proofs.Common.{List, string_bytes, subst, true, ℕ}
use Rattle.fdp_io.specs.BenchFile.{SetsName}
use Rattle.fdp_io.proofs.OutNames.{name_set}
use Rattle.fdp_io.proofs.names.insert.Goals as goal

pub returns-clause-ok : goal.returns-clause-ok
returns-clause-ok c =
    subst (λ (name : List ℕ). SetsName c.args.names.now c.insert.new.self name true) c.in_ok-name.ensures.ok
    (name_set (string_bytes c.in_ok-name.name) c.args.names.now c.insert.new.self true c.in_ok-insert.ensures.updates)
