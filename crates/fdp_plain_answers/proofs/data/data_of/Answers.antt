use Rattle.std.proofs.Common.{◌≡◌, None, subst}
use Rattle.fdp_base.specs.declared.command.Command.{Command}
use Rattle.fdp_rules.specs.Refusal.{refusal_of}
use Rattle.fdp_tables.specs.State.{point_kept}
use Rattle.fdp_plain_answers.proofs.Accepted.{log_is_short, read_fits, status_is_short}
use Rattle.fdp_plain_answers.proofs.data.data_of.Goals as goal

pub read_data-requires : goal.read_data-requires
read_data-requires c =
    let k = c.args.kept.now in
    let P : Command → Type 0 = λ x. refusal_of k.config (point_kept k) x ≡ None in
    read_fits k.config (point_kept k) c.in-Read.read (subst P c.in-Read.is c.requires.accepted)

pub status_data-requires : goal.status_data-requires
status_data-requires c =
    let k = c.args.kept.now in
    let P : Command → Type 0 = λ x. refusal_of k.config (point_kept k) x ≡ None in
    record { few = status_is_short k.config (point_kept k) c.in-Status.status (subst P c.in-Status.is c.requires.accepted) }

pub log_data-requires : goal.log_data-requires
log_data-requires c =
    let k = c.args.kept.now in
    let P : Command → Type 0 = λ x. refusal_of k.config (point_kept k) x ≡ None in
    record { few = log_is_short k.config (point_kept k) c.in-Log.log (subst P c.in-Log.is c.requires.accepted) }

pub returns-in-Status : goal.returns-in-Status
returns-in-Status c = rw c.in-Status.is c.status_data.ensures

pub returns-in-Log : goal.returns-in-Log
returns-in-Log c = rw c.in-Log.is c.log_data.ensures
