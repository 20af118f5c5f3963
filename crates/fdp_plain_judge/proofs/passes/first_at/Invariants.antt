use Rattle.std.proofs.Common.{◌≡◌, false}
use Rattle.fdp_base.specs.declared.entry.BlockName.{BlockName}
use Rattle.fdp_base.specs.declared.entry.Spot.{Spot}
use Rattle.fdp_rules.specs.Sites.{is_spot}
use Rattle.fdp_plain_judge.proofs.Scanning.{EachBefore}
use Rattle.fdp_plain_judge.proofs.passes.first_at.Given as goal

abbrev pub invariant-loop-block : goal.invariant-loop-block
invariant-loop-block l = EachBefore (λ (x : BlockName × Spot). is_spot l.spot x.1 ≡ false) l.standing l.block-index
