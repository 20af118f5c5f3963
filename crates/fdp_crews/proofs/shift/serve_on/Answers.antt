use Rattle.std.proofs.Common.{◌≡◌, ◌≢◌, ◌++◌, List, length, arith, ap, subst, sym, ◌∙◌}
use Rattle.std.specs.Prelude.{All, map, sum_by}
use mathlib.Core.List.{IsPrefix}
use Rattle.std.proofs.lemmas.List.{length-map}
use Rattle.std.proofs.lemmas.List.Elements.{All-head}
use Rattle.fdp_base.specs.declared.config.DriveConfig.{DriveConfig}
use Rattle.fdp_base.specs.Numbers.{numbers_from}
use Rattle.fdp_gauge.specs.Passes.{IsPassOf}
use Rattle.fdp_lock.specs.Seats.{GoesOn, HoldsNoTurn, IsSeatOf, number_of, parts_of}
use Rattle.fdp_workers.specs.declared.receipt.Receipt.{Receipt}
use Rattle.fdp_workers.specs.Hosting.{run_of}
use Rattle.fdp_workers.specs.Run.{IsHistory}
use Rattle.fdp_crews.specs.Crews.{HasServedFor, IsDueFor, IsTrace}
use Rattle.fdp_crews.specs.Shifts.{IsShift}
use Rattle.fdp_crews.proofs.Closing.{all-free, all-of-lock, all-parts, all-passes, are-back, behind-one, mapped-items, seats-of, some-traces}
use Rattle.fdp_crews.proofs.Shifting.{shift-made}
use Rattle.fdp_crews.proofs.shift.serve_on.Given.{Over}
use Rattle.fdp_crews.proofs.shift.serve_on.Goals as goal

pub hire_hosts-workers-requires-clause-traces : goal.hire_hosts-workers-requires-clause-traces
hire_hosts-workers-requires-clause-traces g c = subst (λ (x : DriveConfig). All (λ t. IsTrace x t.items) c.args.traces.items) c.requires.config c.requires.traces

pub run_crews-workers-requires-clause-due : goal.run_crews-workers-requires-clause-due
run_crews-workers-requires-clause-due g c = λ κs live.
    some-traces (λ ts w. IsDueFor g.V.Recorded.origin g.V.Steps.run c.args.lock c.args.gauge.now ts w) (map (λ t. t.items) c.args.traces.items) c.hire_hosts-workers.result.items c.hire_hosts-workers.ensures.due

-- the seats that came back
all-seats : (g : Over) (c : goal.After-dismiss_collectors g) → c.dismiss_collectors.new.seats.items ≡ seats-of g.V.Recorded.origin g.V.Recorded.entries g.V.Steps.run g.V.Steps.entry g.V.Recorded.mark c.args.lock c.args.gauge.now c.hire_collectors-sweepers.new.seat c.run_crews-workers.result.0.items c.run_crews-workers.result.1.items
all-seats g c =
    behind-one c.hire_collectors-sweepers.new.seat c.args.rooms.seats.items c.push_reserved.new.self.items c.dismiss_hosts-end.new.seats.items c.dismiss_collectors.new.seats.items (map (λ w. w.seat) c.run_crews-workers.result.0.items) (map (λ w. w.seat) c.run_crews-workers.result.1.items)
    c.requires.rooms.seats c.push_reserved.ensures.items c.dismiss_hosts-end.ensures.seats c.dismiss_collectors.ensures.seats

served : (g : Over) (c : goal.After-dismiss_collectors g) → All (λ w. HasServedFor g.V.Recorded.origin g.V.Steps.run g.V.Steps.entry g.V.Recorded.mark c.args.lock c.args.gauge.now (map (λ t. t.items) c.args.traces.items) w) c.run_crews-workers.result.0.items
served g c = c.run_crews-workers.ensures.hosts.served (map (λ t. t.items) c.args.traces.items) c.hire_hosts-workers.ensures.due

pub close-value-requires-clause-of_lock : goal.close-value-requires-clause-of_lock
close-value-requires-clause-of_lock g c =
    let h = c.hire_collectors-sweepers.ensures.head in
    subst (λ ss. All (λ s. IsSeatOf g.V.Recorded.origin c.args.lock s) ss) (sym (all-seats g c))
    (all-of-lock g.V.Recorded.origin g.V.Recorded.entries g.V.Steps.run g.V.Steps.entry g.V.Recorded.mark c.args.lock c.args.gauge.now _ _ _ (map (λ t. t.items) c.args.traces.items) c.hire_collectors-sweepers.new.seat c.run_crews-workers.result.0.items c.run_crews-workers.result.1.items h (served g c) c.run_crews-workers.ensures.collectors.swept)

pub close-value-requires-clause-no_turn : goal.close-value-requires-clause-no_turn
close-value-requires-clause-no_turn g c =
    let h = c.hire_collectors-sweepers.ensures.head in
    subst (λ ss. All (λ s. HoldsNoTurn s) ss) (sym (all-seats g c))
    (all-free g.V.Recorded.origin g.V.Recorded.entries g.V.Steps.run g.V.Steps.entry g.V.Recorded.mark c.args.lock c.args.gauge.now _ _ _ (map (λ t. t.items) c.args.traces.items) c.hire_collectors-sweepers.new.seat c.run_crews-workers.result.0.items c.run_crews-workers.result.1.items h (served g c) c.run_crews-workers.ensures.collectors.swept)

pub close-value-requires-clause-all_parts : goal.close-value-requires-clause-all_parts
close-value-requires-clause-all_parts g c =
    let sum = ap (λ ss. sum_by (λ s. parts_of s) ss) (all-seats g c)
    ∙ all-parts g.V.Recorded.origin g.V.Recorded.entries g.V.Steps.run g.V.Steps.entry g.V.Recorded.mark c.args.lock c.args.gauge.now (map (λ t. t.items) c.args.traces.items) c.hire_collectors-sweepers.new.seat c.run_crews-workers.result.0.items c.run_crews-workers.result.1.items (served g c) c.run_crews-workers.ensures.collectors.swept in
    omega (arith, sum, c.hire_hosts-workers.ensures.parts, c.hire_hosts-workers.ensures.count, c.hire_collectors-sweepers.ensures.parts, c.hire_collectors-sweepers.ensures.count, c.run_crews-workers.ensures.hosts.count, c.run_crews-workers.ensures.collectors.count, c.requires.all_parts)

pub returns-clause-goes_on : goal.returns-clause-goes_on
returns-clause-goes_on g c =
    let seats = behind-one c.hire_collectors-sweepers.new.seat c.args.rooms.seats.items c.push_reserved.new.self.items c.dismiss_hosts-end.new.seats.items c.dismiss_collectors.new.seats.items (map (λ w. w.seat) c.run_crews-workers.result.0.items) (map (λ w. w.seat) c.run_crews-workers.result.1.items)
    c.requires.rooms.seats c.push_reserved.ensures.items c.dismiss_hosts-end.ensures.seats c.dismiss_collectors.ensures.seats in
    let head = All-head (λ s. GoesOn g.V.Recorded.origin g.V.Recorded.entries g.V.Recorded.mark s c.close-value.result) c.hire_collectors-sweepers.new.seat (map (λ w. w.seat) c.run_crews-workers.result.0.items ++ map (λ w. w.seat) c.run_crews-workers.result.1.items) (subst (λ ss. All (λ s. GoesOn g.V.Recorded.origin g.V.Recorded.entries g.V.Recorded.mark s c.close-value.result) ss) seats c.close-value.ensures.goes_on) in
    subst (λ xs. IsPrefix xs (g.V.Recorded.entries c.close-value.result)) (c.hire_collectors-sweepers.ensures.head.seen_is ∙ c.hire_hosts-workers.ensures.head.seen_is) head.seen

pub returns-clause-of_gauge : goal.returns-clause-of_gauge
returns-clause-of_gauge g c =
    let passes = behind-one c.hire_collectors-sweepers.new.pass c.args.passes.items c.push_reserved-2.new.self.items c.dismiss_hosts-end.new.passes.items c.dismiss_collectors.new.passes.items (map (λ w. w.pass) c.run_crews-workers.result.0.items) (map (λ w. w.pass) c.run_crews-workers.result.1.items)
    c.requires.none c.push_reserved-2.ensures.items c.dismiss_hosts-end.ensures.passes c.dismiss_collectors.ensures.passes in
    subst (λ ps. All (λ p. IsPassOf c.args.gauge.now p) ps) (sym passes)
    (all-passes g.V.Recorded.origin g.V.Recorded.entries g.V.Steps.run g.V.Steps.entry g.V.Recorded.mark c.args.lock c.args.gauge.now (map (λ t. t.items) c.args.traces.items) c.hire_collectors-sweepers.new.pass c.run_crews-workers.result.0.items c.run_crews-workers.result.1.items c.hire_collectors-sweepers.ensures.of_gauge (c.run_crews-workers.ensures.hosts.served (map (λ t. t.items) c.args.traces.items) c.hire_hosts-workers.ensures.due) c.run_crews-workers.ensures.collectors.swept)

pub returns-clause-shift : goal.returns-clause-shift
returns-clause-shift g c =
    let seats = behind-one c.hire_collectors-sweepers.new.seat c.args.rooms.seats.items c.push_reserved.new.self.items c.dismiss_hosts-end.new.seats.items c.dismiss_collectors.new.seats.items (map (λ w. w.seat) c.run_crews-workers.result.0.items) (map (λ w. w.seat) c.run_crews-workers.result.1.items)
    c.requires.rooms.seats c.push_reserved.ensures.items c.dismiss_hosts-end.ensures.seats c.dismiss_collectors.ensures.seats in
    let traces = map (λ t. t.items) c.args.traces.items in
    let long : length traces ≡ length c.args.traces.items = length-map c.args.traces.items (λ t. t.items) in
    let ws = c.run_crews-workers.result.0.items in
    let ss = c.run_crews-workers.result.1.items in
    let value = c.close-value.result in
    let history = subst (λ o. IsHistory (g.V.Steps.run o) g.V.Steps.entry g.V.Recorded.mark (g.V.Recorded.entries value)) c.close-value.ensures.origin c.known.ensures in
    let back = are-back g.V.Recorded.origin g.V.Recorded.entries g.V.Steps.run g.V.Steps.entry g.V.Recorded.mark c.args.lock c.args.gauge.now _ _ _ traces c.hire_collectors-sweepers.new.seat c.hire_hosts-workers.result.items ws ss value c.hire_collectors-sweepers.ensures.head
    (c.hire_hosts-workers.ensures.numbers ∙ ap (numbers_from 1) (sym long)) (c.hire_hosts-workers.ensures.count ∙ sym long) c.run_crews-workers.ensures.hosts (c.run_crews-workers.ensures.hosts.served (map (λ t. t.items) c.args.traces.items) c.hire_hosts-workers.ensures.due) c.run_crews-workers.ensures.collectors.swept (subst (λ ss. All (λ s. GoesOn g.V.Recorded.origin g.V.Recorded.entries g.V.Recorded.mark s c.close-value.result) ss) seats c.close-value.ensures.goes_on)
    (λ q low all. c.close-value.ensures.no_others q low (subst (λ ss. All (λ s. number_of s ≢ q) ss) (sym seats) all)) history in
    let receipts = ap (map (λ r. r.items)) (c.dismiss_hosts-end.ensures.receipts ∙ ap (λ rs. rs ++ map (λ w. w.receipts) ws) c.requires.rooms.receipts) ∙ mapped-items ws in
    subst (λ (rs : List (List Receipt)). IsShift (run_of g.V.Recorded.origin g.V.Steps.run c.args.lock) traces rs (map g.V.Steps.entry (g.V.Recorded.entries value)) (g.V.Steps.spent value) c.end_of-end.result) (sym receipts)
    (shift-made g.V.Recorded.origin g.V.Recorded.entries g.V.Steps.run g.V.Steps.entry g.V.Recorded.mark c.args.lock c.args.gauge.now traces c.hire_collectors-sweepers.new.seat ws ss value c.dismiss_hosts-end.result c.end_of-end.result (g.V.Steps.spent value) back
    (record { whole = c.dismiss_hosts-end.ensures.whole; left = c.dismiss_hosts-end.ensures.left; end_whole = c.end_of-end.ensures.whole; end_left = c.end_of-end.ensures.left; end_spent = c.end_of-end.ensures.spent }))
