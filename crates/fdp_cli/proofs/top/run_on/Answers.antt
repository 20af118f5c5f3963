use Rattle.std.proofs.Common.{◌≡◌, ◌≤◌, ◌∙◌, All, arith, length, subst, sym}
use Rattle.std.specs.Prelude.{map}
use Rattle.std.proofs.lemmas.List.{length-map}
use Rattle.fdp_finding.specs.Wanted.{commands_of}
use Rattle.fdp_ranges.specs.Ranged.{IsRanged}
use Rattle.fdp_cli.proofs.Shown.{ended, not_opened, served-nothing, trace_served}
use Rattle.fdp_cli.proofs.top.run_on.Goals as goal

pub run_session-group-requires-clause-unserved : goal.run_session-group-requires-clause-unserved
run_session-group-requires-clause-unserved g c = λ κs live. served-nothing g.F.Flash.state c.args.config.now c.args.flash c.in-Ok.group c.in-Ok.ensures

pub run_session-group-requires-clause-traces : goal.run_session-group-requires-clause-traces
run_session-group-requires-clause-traces g c = λ κs live.
    trace_served (λ trace. trace.items) c.args.config.now c.in-Ok.group.book.config c.args.traces.items c.in-Ok.ensures.config_is c.requires.servable

pub returns-in-Ok-clause-ends : goal.returns-in-Ok-clause-ends
returns-in-Ok-clause-ends g c =
    let session = c.run_session-group in
    let traces = commands_of c.args.traces.items in
    let count : c.len-count.result ≡ length traces = c.len-count.ensures ∙ c.args.traces.ok.0 ∙ sym (length-map c.args.traces.items (λ trace. trace.items)) in
    let few : length traces ≤ c.args.config.now.queues = omega (arith, c.requires.queued, length-map c.args.traces.items (λ trace. trace.items)) in
    ended g.F.Flash.state c.args.form c.args.config.now traces (map (λ got. got.items) session.result.receipts.items) c.len-count.result c.args.flash c.finish-flash.result.0 c.in-Ok.group session.result.group session.result.end (g.K.Sink.state c.args.sink.now) (g.K.Sink.state c.show-status.new.sink) c.show-status.result count few
    (record { loaded = c.in-Ok.ensures; legal = c.finish-flash.ensures.legal; ranged = subst (All IsRanged) c.entries.ensures.entries c.are_ranged.ensures; cells = c.finish-flash.ensures.cells; apart = c.finish-flash.ensures.apart; reads = c.finish-flash.ensures.reads; used = c.finish-flash.ensures.used; counted = c.finish-flash.ensures.counted; worn = c.finish-flash.ensures.worn; roomy = c.finish-flash.ensures.roomy; firm = c.finish-flash.ensures.firm; stands = c.finish-flash.ensures.stands; sure = c.finish-flash.ensures.sure; doubt = c.finish-flash.ensures.doubt })
    c.finish-flash.ensures.flash session.ensures c.show-status.ensures.shows

pub returns-in-Err-clause-ends : goal.returns-in-Err-clause-ends
returns-in-Err-clause-ends g c =
    not_opened g.F.Flash.state c.args.form c.args.config.now (commands_of c.args.traces.items) c.args.flash c.in-Err.field-0.flash c.in-Err.field-0.cause (g.K.Sink.state c.args.sink.now) (g.K.Sink.state c.refuse-status.new.sink) c.refuse-status.result c.fault_of.result
    c.in-Err.ensures c.fault_of.ensures c.refuse-status.ensures.refuses
