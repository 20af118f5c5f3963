use Rattle.std.proofs.Common.{ℕ, ◌∙◌, ◌∷◌, List, None, Option, ap, cond}
use Rattle.fdp_rules.specs.Change.{is_media_error}
use Rattle.fdp_base.specs.CommandKinds.{is_write}
use Rattle.fdp_rules.specs.Effect.{effect_of}
use Rattle.fdp_base.specs.Numbers.{with_at}
use Rattle.fdp_rules.specs.PlainState.{Going}
use Rattle.fdp_tables.specs.declared.state.Kept.{Kept}
use Rattle.fdp_tables.specs.State.{plain_of}
use Rattle.fdp_plain_effects.proofs.Completing.{completed}
use Rattle.fdp_plain_effects.proofs.completed.complete.Goals as goal

pub returns-clause-state : goal.returns-clause-state
returns-clause-state c =
    let k = c.args.kept.now in
    let s = plain_of k in
    let first = c.change_if.new.kept in
    let second = c.end_write.new.kept in
    completed
    (λ (m : List ℕ). cond (is_media_error c.args.reply.now.status) (c.args.moment ∷ m) m)
    (λ (g : ℕ → Option Going). cond (is_write c.args.command.now) (with_at g c.args.queue None) g)
    s (cond c.args.reply.now.applied (effect_of k.config s c.args.queue c.args.command.now) s) (plain_of first) (plain_of second) (plain_of c.note_error.new.kept)
    c.change_if.ensures.state c.end_write.ensures.state c.note_error.ensures.state
    (ap (λ (x : Kept). (plain_of x).going) c.change_if.ensures.rest)
    (ap (λ (x : Kept). (plain_of x).media) c.end_write.ensures.rest ∙ ap (λ (x : Kept). (plain_of x).media) c.change_if.ensures.rest)
