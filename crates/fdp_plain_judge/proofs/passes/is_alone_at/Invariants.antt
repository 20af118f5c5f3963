use Rattle.std.proofs.Common.{◌≡◌, true}
use Rattle.fdp_base.specs.declared.entry.BlockName.{BlockName}
use Rattle.fdp_base.specs.declared.entry.Spot.{Spot}
use Rattle.fdp_rules.specs.Sites.{is_spot}
use Rattle.fdp_plain_judge.proofs.Scanning.{EachBefore}
use Rattle.fdp_plain_judge.proofs.passes.is_alone_at.Given as goal

abbrev pub invariant-loop-other : goal.invariant-loop-other
invariant-loop-other l = EachBefore (λ (x : BlockName × Spot). is_spot l.spot x.1 ≡ true → x.0 ≡ l.block) l.standing l.other-index
