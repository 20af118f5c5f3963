use Rattle.std.proofs.Common.{arith}
use Rattle.fdp_flash_file.proofs.Begun.{begun_programs}
use Rattle.fdp_flash_file.proofs.calls.FlashFileFlash.program.Goals as goal

pub returns-then-at-data_units-clause-call : goal.returns-then-at-data_units-clause-call
returns-then-at-data_units-clause-call g c = begun_programs _ _ _ _ _ _ _ _ _ c.note.ensures.call (omega arith)
