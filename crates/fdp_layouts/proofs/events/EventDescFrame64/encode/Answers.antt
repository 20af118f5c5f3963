use Rattle.fdp_layouts.proofs.events.EventDescFrame64.encode.Goals as goal

pub returns-clause-frame : goal.returns-clause-frame
returns-clause-frame c = cc
