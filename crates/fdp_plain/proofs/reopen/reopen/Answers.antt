use Rattle.fdp_plain.proofs.Reopened.{reopened, run_is}
use Rattle.fdp_plain.proofs.reopen.reopen.Goals as goal

pub returns-clause-history : goal.returns-clause-history
returns-clause-history c =
    reopened c.args.kept.now c.begin_run.new.kept c.in_ok-next.next c.requires c.in_ok-next.ensures c.begin_run.ensures.named c.begin_run.ensures.forgets c.begin_run.ensures.rows c.begin_run.ensures.rest

pub returns-clause-reopened : goal.returns-clause-reopened
returns-clause-reopened c =
    run_is c.args.kept.now c.begin_run.new.kept c.in_ok-next.next c.requires c.in_ok-next.ensures c.begin_run.ensures.named c.begin_run.ensures.forgets c.begin_run.ensures.rows c.begin_run.ensures.rest
