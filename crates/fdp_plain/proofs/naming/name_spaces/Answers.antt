use Rattle.std.proofs.Common.{arith}
use Rattle.fdp_plain.proofs.Renaming.{naming_end, naming_next, naming_start}
use Rattle.fdp_plain.proofs.naming.name_spaces.Goals as goal

pub loop-place-init : goal.loop-place-init
loop-place-init c = naming_start _ c.args.spaces.now

pub loop-place-preserved : goal.loop-place-preserved
loop-place-preserved c =
    naming_next _ c.args.spaces.now c.loop-place.spaces c.loop-place.place c.index-spaces-place.result c.name_space.new.space (omega arith) c.name_space.ensures c.loop-place.invariant

pub returns-clause-each : goal.returns-clause-each
returns-clause-each c = naming_end _ c.args.spaces.now c.loop-place.spaces c.loop-place.place (omega arith) c.loop-place.invariant
