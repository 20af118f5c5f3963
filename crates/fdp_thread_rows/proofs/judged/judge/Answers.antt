use Rattle.fdp_flash.specs.FlashMem.{state_of}
use Rattle.fdp_cli.proofs.Shown.{served-nothing, trace_served}
use Rattle.fdp_thread_rows.proofs.judged.judge.Goals as goal

pub run_session-group-requires-clause-unserved : goal.run_session-group-requires-clause-unserved
run_session-group-requires-clause-unserved g c κs within =
    served-nothing state_of c.in-Some.wanted.config c.in_ok-flash.flash c.in-Ok.group c.in-Ok.ensures

pub run_session-group-requires-clause-traces : goal.run_session-group-requires-clause-traces
run_session-group-requires-clause-traces g c κs within =
    trace_served (λ trace. trace.items) c.in-Some.wanted.config c.in-Ok.group.book.config c.in-Some.wanted.traces.items c.in-Ok.ensures.config_is c.in-Some.ensures.servable
