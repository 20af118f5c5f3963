use Rattle.std.proofs.Common.{ℕ, List, [], ◌∷◌, cond}
use Rattle.fdp_base.specs.declared.entry.BlockName.{BlockName}
use Rattle.fdp_base.specs.declared.entry.Spot.{Spot}
use Rattle.fdp_rules.specs.Room.{size_of}
use Rattle.fdp_rules.specs.Sites.{site_of, stands_at}
use Rattle.fdp_tables.specs.declared.state.Kept.{Kept}
use Rattle.fdp_tables.specs.State.{plain_of, point_kept}
use Rattle.fdp_tables.proofs.Collecting.{IsCollecting}
use Rattle.fdp_plain_judge.proofs.passes.push_blocks_in.Given as goal

-- the block at an address, where it stands at the page
abbrev pub there : Kept → Spot → ℕ → ℕ → List BlockName
there k spot nsid lba = cond (stands_at (site_of (point_kept k) nsid lba) spot) (record { nsid = nsid; lba = lba } ∷ []) []

abbrev pub invariant-loop-lba : goal.invariant-loop-lba
invariant-loop-lba l = IsCollecting (there l.kept l.spot l.nsid) (size_of (plain_of l.kept) l.nsid) l.lba l.fn.into.items l.into.items
