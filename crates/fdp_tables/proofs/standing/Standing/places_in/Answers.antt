use Rattle.std.proofs.Common.{◌≡◌, ◌∙◌, Some, ap, subst, sym}
use Rattle.std.specs.Option.{IsSomeAnd, option_copied}
use Rattle.fdp_base.specs.declared.entry.Spot.{Spot}
use Rattle.fdp_tables.specs.Blocks.{ListsPlaces}
use Rattle.fdp_tables.specs.Sound.{IsSound}
use Rattle.fdp_tables.specs.State.{page_of, space_at, table_site}
use Rattle.fdp_tables.proofs.Naming.{if_ok}
use Rattle.fdp_tables.proofs.Sited.{stands_in_row}
use Rattle.fdp_tables.proofs.standing.Standing.places_in.Goals as goal

pub returns-in-Some : goal.returns-in-Some
returns-in-Some c =
    let k = c.args.self.now in
    let P : Spot → Type 0 = λ spot. spot.unit ≡ c.args.unit in
    let known = (subst IsSound c.self.view_is c.self.invariant).found_pages in
    let there : space_at k c.args.nsid ≡ Some c.in-Some.space.now = sym c.space.ensures ∙ ap option_copied c.in-Some.is in
    if_ok _ _ c.places_in.result (λ places (listed : ListsPlaces c.in-Some.space.now.blocks (λ page. IsSomeAnd (table_site c.self.inside.kept.now (page_of page)) P) places.items) lba stands.
    let block = stands_in_row k P known c.args.nsid lba c.in-Some.space.now there stands in
    listed lba block.0 block.1 (subst (λ x. IsSomeAnd (table_site x (page_of block.0.page)) P) (sym c.self.view_is) block.2)) c.places_in.ensures
