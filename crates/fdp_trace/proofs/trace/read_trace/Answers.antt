use Rattle.std.proofs.Common.{Ok, Err}
use Rattle.std.proofs.lemmas.Result.{err_from_is_err_and}
use Rattle.fdp_trace.proofs.Answering.{fails_coming, commands_answer, cause_answer, read_answer, told_answer}
use Rattle.fdp_trace.proofs.trace.read_trace.Goals as goal

pub returns-clause-commands : goal.returns-clause-commands
returns-clause-commands c = commands_answer c.args.text.now (Ok c.read_lines.new.commands) c.in_ok-read_lines.ensures

pub returns-clause-read : goal.returns-clause-read
returns-clause-read c = read_answer c.args.text.now (Ok c.read_lines.new.commands) c.in_ok-read_lines.ensures

pub returns-clause-told : goal.returns-clause-told
returns-clause-told c = told_answer c.args.text.now (Ok c.read_lines.new.commands) c.in_ok-read_lines.ensures

pub returns-in_err-read_lines-clause-cause : goal.returns-in_err-read_lines-clause-cause
returns-in_err-read_lines-clause-cause c =
    let p = err_from_is_err_and c.from_residual.result c.from_residual.ensures.1 in
    rw (p.1, p.2) (cause_answer c.args.text.now (Err c.in_err-read_lines.field-0.0) (fails_coming c.args.text.now c.read_lines.new.commands c.in_err-read_lines.field-0.0 c.in_err-read_lines.ensures))

pub returns-in_err-read_lines-clause-read : goal.returns-in_err-read_lines-clause-read
returns-in_err-read_lines-clause-read c =
    let p = err_from_is_err_and c.from_residual.result c.from_residual.ensures.1 in
    rw (p.1, p.2) (read_answer c.args.text.now (Err c.in_err-read_lines.field-0.0) (fails_coming c.args.text.now c.read_lines.new.commands c.in_err-read_lines.field-0.0 c.in_err-read_lines.ensures))

pub returns-in_err-read_lines-clause-told : goal.returns-in_err-read_lines-clause-told
returns-in_err-read_lines-clause-told c =
    let p = err_from_is_err_and c.from_residual.result c.from_residual.ensures.1 in
    rw (p.1, p.2) (told_answer c.args.text.now (Err c.in_err-read_lines.field-0.0) (fails_coming c.args.text.now c.read_lines.new.commands c.in_err-read_lines.field-0.0 c.in_err-read_lines.ensures))
