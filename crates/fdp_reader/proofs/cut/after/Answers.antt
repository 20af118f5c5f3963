use Rattle.std.specs.Prelude.{◌==◌}
use Rattle.fdp_reader.proofs.Places.{after-end, after-place}
use Rattle.fdp_reader.proofs.cut.after.Goals as goal

pub returns : goal.returns
returns c = after-place (λ b. b == c.args.end) c.args.bytes.now c.place_of-place.result c.place_of-place.ensures

pub returns-then-place-bytes : goal.returns-then-place-bytes
returns-then-place-bytes c = after-end (λ b. b == c.args.end) c.args.bytes.now c.place_of-place.result c.place_of-place.ensures c.if-place-bytes.true
