use Rattle.fdp_state.proofs.Loading.{taken}
use Rattle.fdp_state.proofs.loaded.LoadedState.new.Goals as goal

pub invariant_of-result : goal.invariant_of-result
invariant_of-result c =
    taken c.args.config.now c.args.state (record { outline = c.new.result; pages = c.into_vec.result; owners = c.in_ok-owners.owners }) c.new.ensures c.into_vec.ensures c.requires.config c.requires.state c.in_ok-owners.ensures
