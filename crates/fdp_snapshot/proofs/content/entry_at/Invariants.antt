use Rattle.std.proofs.Common.{◌≡◌, drop}
use Rattle.fdp_snapshot.specs.Content.{all_blocks, entry_in}
use Rattle.fdp_snapshot.proofs.content.entry_at.Given as goal

abbrev pub invariant-loop-list : goal.invariant-loop-list
invariant-loop-list l = record { left : entry_in (all_blocks l.pages) l.place ≡ entry_in (all_blocks (drop l.list-index l.pages)) l.left }
