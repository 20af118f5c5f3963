-- A bench that is as it was.
use Rattle.std.proofs.Common.{◌≡◌}
use Rattle.fdp_io.specs.Bench.{BenchState, SameFlashes, SameTexts}

pub same_bench : (old new : BenchState) → SameTexts old new → SameFlashes old new → new.faults ≡ old.faults → new ≡ old
same_bench old new texts flashes faults = λ d. record {
  faults = faults d;
  told = texts.told_still d;
  text = texts.texts d;
  image = flashes.images d;
  is_out = flashes.out d;
}
