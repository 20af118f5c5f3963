use Rattle.std.proofs.Common.{ap, ◌∙◌, ◌≡◌, []}
use Rattle.fdp_base.specs.Numbers.{with_at}
use Rattle.fdp_tables.specs.State.{copies_at}
use Rattle.fdp_plain_trail.proofs.trail.end_pass.Goals as goal

pub returns-clause-copies : goal.returns-clause-copies
returns-clause-copies c =
    let same : copies_at c.move_sites.new.kept ≡ copies_at c.args.kept.now = ap copies_at c.move_sites.ensures.rest in
    c.forget_copies.ensures.copies ∙ ap (λ copies. with_at copies c.from.result []) same ∙ ap (λ rg. with_at (copies_at c.args.kept.now) rg []) c.from.ensures
