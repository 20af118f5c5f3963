use Rattle.std.proofs.Common.{Some, sym}
use Rattle.fdp_recovery.proofs.Judged.{judged_none, key_differs_flash}
use Rattle.fdp_recovery.proofs.area.bad_checkpoint.Goals as goal

pub returns-in-Some-clause-told : goal.returns-in-Some-clause-told
returns-in-Some-clause-told c area z bad = key_differs_flash c.args.config.now c.args.geometry.now area z c.args.page (Some c.in-Some.key) bad c.in-Some.ensures

pub returns-in-None-clause-told : goal.returns-in-None-clause-told
returns-in-None-clause-told c area z bad = judged_none c.args.config.now c.args.geometry.now area z c.args.page bad (sym c.in-None.ensures)
