use Rattle.std.specs.Prelude.{◌==◌}
use Rattle.fdp_reader.proofs.Places.{before-place}
use Rattle.fdp_reader.proofs.cut.before.Goals as goal

pub returns : goal.returns
returns c = before-place (λ b. b == c.args.end) c.args.bytes.now c.place_of.result c.place_of.ensures
