use Rattle.std.proofs.Common.{ℕ, List, arith, subst, sym}
use Rattle.std.specs.Prelude.{Err, Ok}
use Rattle.fdp_base.specs.declared.config.DriveConfig.{DriveConfig}
use Rattle.fdp_base.specs.declared.entry.Entry.{Entry}
use Rattle.fdp_reader.specs.Record.{GivesRecord, IsRecord, IsRecordCause}
use Rattle.fdp_audit.specs.declared.fault.RunFault.{RunFault}
use Rattle.fdp_audit.specs.Steps.{IsVerdict}
use Rattle.fdp_audit.proofs.Verdicts.{begins-next, read-no}
use Rattle.fdp_audit.proofs.verdict.judge_run.Goals as goal

pub judge_read-requires-clause-only : goal.judge_read-requires-clause-only
judge_read-requires-clause-only c =
    subst (λ (d : DriveConfig). (traces : ℕ) (output : List ℕ) (entries : List (ℕ × Entry)) → IsRecord d c.args.text.now traces output entries → GivesRecord traces output entries (Ok c.in-Ok.read)) c.config.ensures.config c.in-Ok.ensures.only

pub returns-in-Err : goal.returns-in-Err
returns-in-Err c =
    let start = c.args.plain.now in
    let text = c.args.text.now in
    let first = begins-next start c.requires.begins in
    subst (λ (fault : RunFault). IsVerdict start text start (Err fault)) (sym c.from.ensures)
    (read-no start text (omega arith) (omega (arith, first, c.requires.room)) start c.in-Err.cause
    (subst (λ (d : DriveConfig). IsRecordCause d text c.in-Err.cause) c.config.ensures.config c.in-Err.ensures.fault)
    (subst (λ (d : DriveConfig). (traces : ℕ) (output : List ℕ) (entries : List (ℕ × Entry)) → IsRecord d text traces output entries → GivesRecord traces output entries (Err c.in-Err.cause)) c.config.ensures.config c.in-Err.ensures.only))
