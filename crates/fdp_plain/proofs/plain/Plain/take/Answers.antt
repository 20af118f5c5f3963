use Rattle.std.proofs.Common.{true, ◌∙◌, subst, sym}
use Rattle.std.proofs.lemmas.Bool.{false≢true}
use Rattle.fdp_rules.specs.Step.{Follows}
use Rattle.fdp_tables.specs.declared.state.Kept.{Kept}
use Rattle.fdp_tables.specs.State.{point_kept}
use Rattle.fdp_plain.proofs.Refusing.{cause_of}
use Rattle.fdp_plain.proofs.Sound.{history_sound}
use Rattle.fdp_plain.proofs.plain.Plain.take.Goals as goal

pub new-requires : goal.new-requires
new-requires c = history_sound c.self.inside.kept c.self.invariant

pub returns-else-branch-clause-cause : goal.returns-else-branch-clause-cause
returns-else-branch-clause-cause c =
    let no : Follows true c.self.inside.kept.config (point_kept c.self.inside.kept) c.args.entry.now → ⊥ = λ f. false≢true (sym c.if-branch.false ∙ c.in_ok-judge.ensures.1 (subst (λ (k : Kept). Follows true k.config (point_kept k) c.args.entry.now) (sym c.new.ensures) f)) in
    rw (← c.self.view_is) (cause_of c.self.inside.kept c.self.invariant c.args.entry.now c.refusal.result no c.refusal.ensures)
