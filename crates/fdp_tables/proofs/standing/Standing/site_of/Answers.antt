use Rattle.std.proofs.Common.{◌≡◌, ◌∙◌, Some, ap, refl, subst, sym}
use Rattle.std.specs.Prelude.{option_and_then, option_map}
use Rattle.std.specs.Option.{option_copied}
use Rattle.fdp_rules.specs.PlainState.{Block}
use Rattle.fdp_tables.specs.declared.state.Kept.{Kept}
use Rattle.fdp_tables.specs.Sound.{IsSound, KnowsFound}
use Rattle.fdp_tables.specs.State.{block_at, block_of, page_of, site_at}
use Rattle.fdp_tables.proofs.Sited.{page_sited}
use Rattle.fdp_tables.proofs.standing.Standing.site_of.Goals as goal

pub returns-in-Some : goal.returns-in-Some
returns-in-Some c =
    let k = c.args.self.now in
    let b = c.in-Some.block.now in
    let known : KnowsFound k = (subst IsSound c.self.view_is c.self.invariant).found_pages in
    let first : block_at c.self.inside.kept.now c.args.nsid c.args.lba ≡ Some b = sym c.block.ensures ∙ ap option_copied c.in-Some.is in
    let there : block_at k c.args.nsid c.args.lba ≡ Some b = ap (λ (x : Kept). block_at x c.args.nsid c.args.lba) (sym c.self.view_is) ∙ first in
    c.site_of_page.ensures
    ∙ page_sited k known c.args.nsid c.args.lba (block_of b) (page_of b.page) (ap (option_map block_of) there) refl
    ∙ sym (ap (λ o. option_and_then (λ (x : Block). site_at k x.page) (option_map block_of o)) there)
