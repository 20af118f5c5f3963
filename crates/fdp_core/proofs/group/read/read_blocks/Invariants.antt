use Rattle.std.proofs.Common.{◌≡◌, ◌-◌, ◌*◌, IsTrue, length, take, drop, replicate}
use Rattle.fdp_calls.specs.Calls.{MakesCalls}
use Rattle.fdp_core.specs.Fetches.{fetches_of, pages_of}
use Rattle.fdp_calls.specs.Media.{IsReadFrom}
use Rattle.fdp_core.specs.ReadSteps.{blocks_from}
use Rattle.fdp_core.proofs.group.read.read_blocks.Given as goal

-- the blocks so far were read, and the rest of the buffer is all zeros
abbrev pub invariant-loop-index : goal.invariant-loop-index
invariant-loop-index g l = record {
  block : l.size ≡ l.book.config.block;
  read : IsReadFrom (g.F.Flash.state l.fn.flash) (g.F.Flash.state l.flash);
  made : MakesCalls (g.F.Flash.state l.fn.flash) (g.F.Flash.state l.flash) (fetches_of (pages_of l.book l.read.nsid l.read.slba l.index));
  size : length l.into ≡ l.read.count * l.book.config.block;
  done : IsTrue (g.F.Flash.state l.fn.flash).told → take (l.index * l.book.config.block) l.into ≡ blocks_from l.book l.read.nsid l.read.slba l.index;
  rest : drop (l.index * l.book.config.block) l.into ≡ replicate ((l.read.count - l.index) * l.book.config.block) 0;
}
