use Rattle.fdp_binary.proofs.Advancing.{whole-next}
use Rattle.fdp_binary.proofs.next.next_frame.Goals as goal

pub returns-in_ok-command-in-Ok : goal.returns-in_ok-command-in-Ok
returns-in_ok-command-in-Ok c = whole-next c.args.block c.args.commands.now c.args.bytes.now c.in-Ok.passed c.in_ok-command-in-Ok.command c.in-Ok.ensures c.if-bytes-lt-FRONT.false c.if-bytes-len.false c.in_ok-command-in-Ok.ensures
