use Rattle.std.proofs.Common.{arith}
use Rattle.fdp_events.proofs.MaskBits.{known_set, reports_set}
use Rattle.fdp_events.proofs.masks.set_reports.Goals as goal

pub returns-clause-kinds : goal.returns-clause-kinds
returns-clause-kinds c k kind = reports_set _ c.args.ruh c.with_kinds.result c.args.kinds c.args.on c.requires (omega arith) c.with_kinds.ensures.kinds k kind

pub returns-clause-known : goal.returns-clause-known
returns-clause-known c count h below few = known_set count _ c.args.ruh c.with_kinds.result (omega arith) below (c.with_kinds.ensures.known (h.kinds c.args.ruh) few) h
