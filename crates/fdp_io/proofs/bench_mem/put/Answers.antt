use Rattle.std.proofs.Common.{List, string_bytes, subst, ℕ}
use Rattle.fdp_io.specs.Berths.{SetsBerth}
use Rattle.fdp_io.proofs.Berths.{berth_set, on_err-always, same_entries}
use Rattle.fdp_io.proofs.bench_mem.put.Goals as goal

pub returns-in_err-insert-clause-err : goal.returns-in_err-insert-clause-err
returns-in_err-insert-clause-err c = on_err-always c.from_residual-in_err-insert.result (same_entries c.args.berths.now c.insert.new.self c.in_err-insert.ensures.err)

pub returns-clause-ok : goal.returns-clause-ok
returns-clause-ok c =
    subst (λ (name : List ℕ). SetsBerth c.args.berths.now c.insert.new.self name c.args.berth) c.in_ok-name.ensures.ok
    (berth_set (string_bytes c.in_ok-name.name) c.args.berths.now c.insert.new.self c.args.berth c.in_ok-insert.ensures.updates)
