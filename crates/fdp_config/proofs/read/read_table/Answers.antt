use Rattle.std.proofs.lemmas.Result.{err_from_is_err_and}
use Rattle.toml.specs.View.{table_view}
use Rattle.fdp_config.proofs.Chain.{in_order}
use Rattle.fdp_config.specs.Table.{keys}
use Rattle.fdp_config.proofs.InRange.{in_range}
use Rattle.fdp_config.proofs.read.read_table.Goals as goal

pub room_fault-requires : goal.room_fault-requires
room_fault-requires c = rw c.in_ok-config.ensures.config.0 (in_range _ c.in_ok-config.ensures.config.1)

pub returns-in_err-config-clause-first : goal.returns-in_err-config-clause-first
returns-in_err-config-clause-first c =
    let p = err_from_is_err_and c.from_residual-in_err-config.result c.from_residual-in_err-config.ensures.1 in
    rw (p.1, p.2) (in_order (table_view c.args.table.now) keys _ c.in_err-config.ensures.fault)
