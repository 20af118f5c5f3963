use Rattle.fdp_plain_judge.proofs.Moments.{OthersBefore}
use Rattle.fdp_plain_judge.proofs.replies.is_new_moment.Given as goal

abbrev pub invariant-loop-earlier : goal.invariant-loop-earlier
invariant-loop-earlier l = OthersBefore l.earlier-items l.moment l.earlier-index
