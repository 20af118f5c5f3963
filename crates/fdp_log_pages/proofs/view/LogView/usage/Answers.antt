use Rattle.std.proofs.Common.{◌≡◌, ℕ, ◌<◌, Bool, true, List, length, ◌∙◌, ap, sym, subst, arith}
use Rattle.std.specs.Prelude.{Option, Some, None, nat_lt, if◌then◌else◌}
use Rattle.std.proofs.lemmas.Bool.Decides.{nat_tests}
use Rattle.fdp_rules.specs.LogPages.{usage_of}
use Rattle.fdp_rules.specs.Room.{handles_in_force}
use Rattle.fdp_snapshot.specs.declared.space.Space.{Space}
use Rattle.fdp_log_pages.proofs.Telling.{handles_told, usage_same}
use Rattle.fdp_log_pages.specs.Told.{Told}
use Rattle.fdp_log_pages.specs.Usages.{usage_in}
use Rattle.fdp_log_pages.proofs.view.LogView.usage.Goals as goal

pub returns-then-ruh-handles : goal.returns-then-ruh-handles
returns-then-ruh-handles c = λ p tells.
    let t = c.args.self.now in
    let sixteen : length t.summary.spaces ≡ 16 = sym (ap (λ (x : Told). length x.summary.spaces) c.self.view_is) ∙ c.self.invariant.places in
    let same : c.self.inside.summary.now.spaces ≡ t.summary.spaces = ap (λ (x : Told). x.summary.spaces) c.self.view_is in
    let usage : c.code.result ≡ usage_of p.state c.args.ruh =
    c.code.ensures.code ∙ c.usage_of.ensures
    ∙ ap (λ (places : List (Option Space)). usage_in places c.args.ruh) (c.as_slice.ensures ∙ same)
    ∙ usage_same p.state t.summary.spaces c.args.ruh sixteen tells.namespaces in
    let below : c.args.ruh < handles_in_force t.config p.state = subst (λ (n : ℕ). c.args.ruh < n) (c.handles.ensures ∙ handles_told t p tells) c.if-ruh-handles.true in
    let there : nat_lt c.args.ruh (handles_in_force t.config p.state) ≡ true = grind (arith, nat_tests) in
    ap Some usage ∙ ap (λ (b : Bool). if b then Some (usage_of p.state c.args.ruh) else None) (sym there)
