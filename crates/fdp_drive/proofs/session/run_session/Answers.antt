use Rattle.std.proofs.Common.{◌≤◌, ◌∙◌, length, ap, arith, subst, sym}
use Rattle.std.specs.Prelude.{All, map}
use Rattle.std.proofs.lemmas.List.{length-map}
use Rattle.fdp_base.specs.declared.config.DriveConfig.{DriveConfig}
use Rattle.fdp_base.specs.Records.{CarriesNone}
use Rattle.fdp_board.specs.Board.{BoardSeen, items_of}
use Rattle.fdp_crews.specs.fdp_core.Seen.{Seen}
use Rattle.fdp_crews.specs.Crews.{IsTrace}
use Rattle.fdp_crews.specs.fdp_workers.Marks.{mark_in}
use Rattle.fdp_drive.specs.Session.{IsSession}
use Rattle.fdp_drive.proofs.Made.{ended-early, none-marked, session-made}
use Rattle.fdp_drive.proofs.session.run_session.Goals as goal

pub returns-in_default : goal.returns-in_default
returns-in_default g c = ended-early (λ got. got.items) g.F.Flash.state c.args.group c.unserved.result.group (map (λ trace. trace.items) c.args.traces.items) c.unserved.result.receipts.items c.unserved.result.end c.unserved.ensures.group c.unserved.ensures.receipts c.unserved.ensures.end c.requires.unserved

pub returns-in_default-with_capacity : goal.returns-in_default-with_capacity
returns-in_default-with_capacity g c =
    let u = c.unserved-in_default-with_capacity in
    ended-early (λ got. got.items) g.F.Flash.state c.args.group u.result.group (map (λ trace. trace.items) c.args.traces.items) u.result.receipts.items u.result.end u.ensures.group u.ensures.receipts u.ensures.end c.requires.unserved

pub returns-in_default-new : goal.returns-in_default-new
returns-in_default-new g c =
    let u = c.unserved-in_default-new in
    ended-early (λ got. got.items) g.F.Flash.state c.args.group u.result.group (map (λ trace. trace.items) c.args.traces.items) u.result.receipts.items u.result.end u.ensures.group u.ensures.receipts u.ensures.end c.requires.unserved

pub serve_traces-value-requires-clause-unmarked : goal.serve_traces-value-requires-clause-unmarked
serve_traces-value-requires-clause-unmarked g c = λ κs live.
    subst (λ (b : BoardSeen g.row.F.Denot). CarriesNone mark_in (items_of b.group)) (sym c.new-board.ensures) (none-marked c.args.group c.requires.unserved.none)

pub serve_traces-value-requires-clause-traces : goal.serve_traces-value-requires-clause-traces
serve_traces-value-requires-clause-traces g c = λ κs live.
    subst (λ (x : DriveConfig). All (λ trace. IsTrace x trace.items) c.args.traces.items) (sym (c.in-Ok.ensures ∙ c.config.ensures.config)) c.requires.traces

pub returns : goal.returns
returns g c =
    let s = c.serve_traces-value in
    let p = c.into_parts-group in
    let traces = map (λ trace. trace.items) c.args.traces.items in
    let receipts = map (λ got. got.items) s.result.receipts.items in
    let few : length traces ≤ c.new-board.result.group.book.config.queues = omega (arith, length-map c.args.traces.items (λ trace. trace.items), c.requires.queues, ap (λ (b : BoardSeen g.row.F.Denot). b.group.book.config.queues) c.new-board.ensures) in
    subst (λ (b : BoardSeen g.row.F.Denot). IsSession g.F.Flash.state b.group p.result.0 traces receipts s.result.end) c.new-board.ensures
    (subst (λ (x : Seen g.row.F.Denot). IsSession g.F.Flash.state c.new-board.result.group x traces receipts s.result.end) (sym p.ensures.group)
    (session-made g.F.Flash.state c.new-board.result s.result.value traces receipts s.result.end few s.ensures.origin s.ensures.goes_on s.ensures.shift p.ensures.safe p.ensures.roomy p.ensures.charged p.ensures.unfailing p.ensures.steps p.ensures.emptied))
