use Rattle.std.proofs.Common.{ap, ◌∙◌, ◌≡◌, []}
use Rattle.fdp_base.specs.Numbers.{with_at}
use Rattle.fdp_rules.specs.Sites.{group_of}
use Rattle.fdp_tables.specs.State.{copies_at}
use Rattle.fdp_plain_trail.proofs.trail.empty.Goals as goal

pub returns-clause-copies : goal.returns-clause-copies
returns-clause-copies c =
    let same : copies_at c.erase_sites.new.kept ≡ copies_at c.args.kept.now = ap copies_at c.erase_sites.ensures.rest in
    let group : c.group_of.result ≡ group_of c.args.kept.now.config c.args.unit = c.group_of.ensures ∙ ap (λ k. group_of k.config c.args.unit) c.erase_sites.ensures.rest in
    c.forget_copies.ensures.copies ∙ ap (λ copies. with_at copies c.group_of.result []) same ∙ ap (λ rg. with_at (copies_at c.args.kept.now) rg []) group
