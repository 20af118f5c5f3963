use Rattle.std.proofs.Common.{◌≡◌, length, take}
use Rattle.fdp_flash.specs.Recorded.{replay}
use Rattle.fdp_flash.proofs.memory.image.replay.Given as goal

abbrev pub invariant-loop-call : goal.invariant-loop-call
invariant-loop-call l = record {
  cells : l.cells ≡ replay l.geometry (take l.call-index l.calls) l.initial.cells;
  size : length l.cells ≡ length l.initial.cells;
}
