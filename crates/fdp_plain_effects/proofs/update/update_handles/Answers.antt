use Rattle.std.proofs.Common.{◌≡◌, ◌∙◌, ap, sym, take}
use Rattle.std.specs.Prelude.{fold}
use Rattle.std.proofs.lemmas.List.{take_all}
use Rattle.fdp_rules.specs.Effect.{References, effect_of, updated_by}
use Rattle.fdp_rules.specs.PlainState.{PlainState}
use Rattle.fdp_tables.specs.State.{plain_of, reference_at}
use Rattle.fdp_plain_effects.proofs.Sounds.{referenced_sound}
use Rattle.fdp_plain_effects.proofs.update.update_handles.Goals as goal

pub update_one-requires : goal.update_one-requires
update_one-requires c = referenced_sound c.args.kept.now c.loop-pid.kept c.loop-pid.invariant.rest c.loop-pid.invariant.rows c.requires

pub returns-clause-state : goal.returns-clause-state
unfolding effect_of
returns-clause-state c =
    let k = c.args.kept.now in
    let after = c.loop-pid.invariant in
    let all : take c.loop-pid.pid-index c.args.pids.now ≡ c.args.pids.now = take_all c.loop-pid.pid-index c.args.pids.now c.loop-pid-test.false in
    let references = sym (ap reference_at after.rest) ∙ after.updated ∙ ap (fold (updated_by k.config (plain_of k) c.args.nsid) (reference_at k)) all in
    λ queue mo. ap plain_of after.rest ∙ ap (λ (r : References). let now : PlainState = record (plain_of k) { references = r } in now) references
