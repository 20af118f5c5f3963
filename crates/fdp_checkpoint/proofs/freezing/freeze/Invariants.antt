use Rattle.std.proofs.Common.{◌≡◌, ◌*◌, length, take}
use Rattle.fdp_image.specs.Replacing.{pages_for}
use Rattle.fdp_snapshot.specs.Checkpoint.{checkpoint_of}
use Rattle.fdp_checkpoint.specs.Writing.{with_pages}
use Rattle.fdp_checkpoint.proofs.freezing.freeze.Given as goal

abbrev pub invariant-loop-number : goal.invariant-loop-number
invariant-loop-number l = record {
  size : length l.room ≡ length l.fn.room;
  so_far : take (l.number * l.geometry.block) l.room ≡ take (l.number * l.geometry.block) (checkpoint_of 1 (pages_for l.geometry.block l.summary * l.geometry.block) (with_pages l.summary l.pages));
}
