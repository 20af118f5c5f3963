use Rattle.std.proofs.Common.{◌≤◌, inl, inr, arith}
use Rattle.std.proofs.lemmas.Bool.Decides.{nat_tests}
use Rattle.fdp_pieces.proofs.Putting.{puts_outside}
use Rattle.fdp_pieces.proofs.parts.is_outside.Goals as goal

pub returns-then-bytes-saturating_sub : goal.returns-then-bytes-saturating_sub
returns-then-bytes-saturating_sub c = λ is piece old long size.
    puts_outside c.args.offset c.args.at piece old (inl (omega (arith, long, c.saturating_sub.ensures, c.if-bytes-saturating_sub.true)))

pub returns-else-bytes-saturating_sub : goal.returns-else-bytes-saturating_sub
returns-else-bytes-saturating_sub c = λ is piece old long size.
    let past : c.args.size ≤ c.saturating_sub-else-bytes-saturating_sub.result = grind (arith, nat_tests) in
    puts_outside c.args.offset c.args.at piece old (inr (omega (arith, size, past, c.saturating_sub-else-bytes-saturating_sub.ensures)))
