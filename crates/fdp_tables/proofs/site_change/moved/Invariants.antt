use Rattle.fdp_rules.specs.Sites.{is_spot}
use Rattle.fdp_tables.proofs.Walks.{IsSeekingCopy}
use Rattle.fdp_tables.proofs.site_change.moved.Given as goal

abbrev pub invariant-loop-from : goal.invariant-loop-from
invariant-loop-from l = IsSeekingCopy (λ x. is_spot x.from l.spot) l.pass l.from-index
