use Rattle.std.proofs.Common.{◌≡◌, ◌++◌, ◌∙◌, List, ap, arith}
use Rattle.std.specs.List.{each_same}
use Rattle.fdp_rules.specs.Events.{update_events}
use Rattle.fdp_tables.specs.declared.state.Kept.{Kept}
use Rattle.fdp_tables.specs.declared.state.KeptReference.{KeptReference}
use Rattle.fdp_plain_answers.specs.Keeping.{kept_of, references_in}
use Rattle.fdp_tables.specs.State.{plain_of, reference_at}
use Rattle.fdp_plain_answers.proofs.Closing.{closing_end, closing_next}
use Rattle.fdp_plain_answers.proofs.closings.push_closings.Goals as goal

pub loop-pid-init : goal.loop-pid-init
loop-pid-init c =
    let k = c.args.kept.now in
    let same : c.in_ok-rows.rows.items ≡ k.references.items = each_same c.tables.result.now.references.items c.in_ok-rows.rows.items c.in_ok-rows.ensures.cases.0 ∙ ap (λ (x : Kept). x.references.items) c.tables.ensures.same in
    record { whole = ap (λ (rows : List KeptReference). c.args.into.now.items ++ kept_of (plain_of k) (update_events k.config (plain_of k) c.args.nsid (references_in k.config rows) c.args.pids.now)) same }

pub loop-pid-preserved : goal.loop-pid-preserved
loop-pid-preserved c =
    let k = c.args.kept.now in
    closing_next k.config (plain_of k) c.args.nsid (reference_at k) (references_in k.config c.loop-pid.rows.items) (references_in k.config c.push_closing.new.rows.items) c.args.pids.now c.loop-pid.pid-index c.args.into.now.items c.loop-pid.into.items c.push_closing.new.into.items (omega arith) c.in_ok-push_closing.ensures.events c.in_ok-push_closing.ensures.references c.loop-pid.invariant

pub returns : goal.returns
returns c =
    let k = c.args.kept.now in
    closing_end k.config (plain_of k) c.args.nsid (reference_at k) (references_in k.config c.loop-pid.rows.items) c.args.pids.now c.loop-pid.pid-index c.args.into.now.items c.loop-pid.into.items (omega arith) c.loop-pid.invariant
