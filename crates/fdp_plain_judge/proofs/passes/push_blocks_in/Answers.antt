use Rattle.std.proofs.Common.{ℕ, ◌∙◌, ◌++◌, List, ap, arith, sym}
use Rattle.fdp_base.specs.declared.entry.BlockName.{BlockName}
use Rattle.fdp_base.specs.Numbers.{numbers_below}
use Rattle.fdp_rules.specs.Room.{size_of}
use Rattle.fdp_rules.specs.Sites.{site_of, stands_at}
use Rattle.fdp_tables.specs.State.{plain_of, point_kept}
use Rattle.fdp_tables.proofs.Collecting.{collecting_end, collecting_next, filtered}
use Rattle.fdp_plain_judge.proofs.passes.push_blocks_in.Invariants.{there}
use Rattle.fdp_plain_judge.proofs.passes.push_blocks_in.Goals as goal

pub loop-lba-preserved : goal.loop-lba-preserved
loop-lba-preserved c =
    collecting_next (there c.args.kept.now c.args.spot c.args.nsid) (size_of (plain_of c.args.kept.now) c.args.nsid) c.loop-lba.lba c.args.into.now.items c.loop-lba.into.items c.push_block_at.new.into.items (omega (arith, c.size_of-lba-end.ensures)) c.in_ok-push_block_at.ensures c.loop-lba.invariant

pub returns : goal.returns
returns c =
    collecting_end (there c.args.kept.now c.args.spot c.args.nsid) (size_of (plain_of c.args.kept.now) c.args.nsid) c.loop-lba.lba c.args.into.now.items c.loop-lba.into.items (omega (arith, c.size_of-lba-end.ensures)) c.loop-lba.invariant
    ∙ ap (λ (xs : List BlockName). c.args.into.now.items ++ xs)
    (sym (filtered (λ (lba : ℕ). record { nsid = c.args.nsid; lba = lba }) (λ lba. stands_at (site_of (point_kept c.args.kept.now) c.args.nsid lba) c.args.spot) (numbers_below (size_of (plain_of c.args.kept.now) c.args.nsid))))
