use Rattle.std.proofs.Common.{true, subst, sym}
use Rattle.std.specs.Prelude.{Decides, IfOk}
use Rattle.fdp_base.specs.declared.entry.Entry.{Entry}
use Rattle.fdp_rules.specs.Step.{Follows}
use Rattle.fdp_tables.specs.State.{point_kept}
use Rattle.fdp_plain_judge.proofs.entry.judge.Goals as goal

pub returns-in-Host : goal.returns-in-Host
unfolding Follows
returns-in-Host c =
    let k = c.args.kept.now in
    let P : Entry → Type 0 = λ e. IfOk c.is_host.result (λ answer. Decides answer (Follows true k.config (point_kept k) e)) in
    subst P (sym c.in-Host.is) c.is_host.ensures

pub returns-in-Started : goal.returns-in-Started
unfolding Follows
returns-in-Started c =
    let k = c.args.kept.now in
    let P : Entry → Type 0 = λ e. IfOk c.is_started.result (λ answer. Decides answer (Follows true k.config (point_kept k) e)) in
    subst P (sym c.in-Started.is) c.is_started.ensures

pub returns-in-Placed : goal.returns-in-Placed
unfolding Follows
returns-in-Placed c =
    let k = c.args.kept.now in
    let P : Entry → Type 0 = λ e. Decides c.is_placed.result (Follows true k.config (point_kept k) e) in
    subst P (sym c.in-Placed.is) c.is_placed.ensures

pub returns-in-Erased : goal.returns-in-Erased
unfolding Follows
returns-in-Erased c =
    let k = c.args.kept.now in
    let P : Entry → Type 0 = λ e. IfOk c.is_erasable.result (λ answer. Decides answer (Follows true k.config (point_kept k) e)) in
    subst P (sym c.in-Erased.is) c.is_erasable.ensures

pub returns-in-Retired : goal.returns-in-Retired
unfolding Follows
returns-in-Retired c =
    let k = c.args.kept.now in
    let P : Entry → Type 0 = λ e. IfOk c.is_erasable-in-Retired.result (λ answer. Decides answer (Follows true k.config (point_kept k) e)) in
    subst P (sym c.in-Retired.is) c.is_erasable-in-Retired.ensures
