use Rattle.std.proofs.Common.{true}
use Rattle.fdp_tables.specs.State.{going_of, point_kept}
use Rattle.fdp_plain_judge.proofs.Replying.{ends_decide, refusals_decide}
use Rattle.fdp_plain_judge.proofs.writes.is_write_reply.Goals as goal

pub returns-in-Some : goal.returns-in-Some
returns-in-Some c =
    let k = c.args.kept.now in
    ends_decide true k.config (point_kept k) c.args.queue c.args.number c.args.command.now c.args.reply.now c.args.moment (going_of c.in-Some.going.now) c.is_end.result c.in-Some.ensures c.is_end.ensures

pub returns-in_ok-refusal-in-None : goal.returns-in_ok-refusal-in-None
returns-in_ok-refusal-in-None c =
    let k = c.args.kept.now in
    refusals_decide true k.config (point_kept k) c.args.queue c.args.number c.args.command.now c.args.reply.now c.args.moment c.in_ok-refusal-in-None.refusal c.is_refused.result c.in-None.ensures c.in_ok-refusal-in-None.ensures c.is_refused.ensures
