use Rattle.std.proofs.Common.{[], subst, sym}
use Rattle.fdp_book.specs.Outlined.{IsOutlineAt}
use Rattle.fdp_book.proofs.Held.Fresh.{outline-fresh}
use Rattle.fdp_rules.specs.History.{fresh, point_of}
use Rattle.fdp_book.proofs.book.fresh.configured_outline.Goals as goal

pub returns : goal.returns
returns c =
    let config = c.args.config.now in
    subst (IsOutlineAt config (point_of config (fresh config) [])) (sym c.new.ensures) (outline-fresh config c.in_ok-summary.summary c.in_ok-summary.ensures.outline c.in_ok-summary.ensures.totals)
