use Rattle.std.proofs.Common.{◌≤◌, ◌<◌, ◌∙◌, List, Option, ap, sym, subst, ℕ}
use Rattle.std.specs.Prelude.{IfSome, option_map}
use Rattle.fdp_base.specs.declared.config.Geometry.{Geometry}
use Rattle.fdp_base.specs.Placement.{geometry_of}
use Rattle.fdp_map.specs.PageLists.{data_pages, page_at, placed_on, size_at}
use Rattle.fdp_recovery.proofs.fdp_state.Loadable.{loadable}
use Rattle.fdp_opening.proofs.Mapping.{pages-are, pages-within, sizes-few}
use Rattle.fdp_opening.proofs.taking.take_map.Goals as goal

pub of_pages-map-requires-clause-sizes : goal.of_pages-map-requires-clause-sizes
of_pages-map-requires-clause-sizes c = λ nsid. subst (λ (xs : List (List (Option ℕ))). size_at xs nsid ≤ 262144) (sym c.into_vec.ensures) (sizes-few c.args.config.now c.args.state c.requires.config c.requires.state nsid)

pub of_pages-map-requires-clause-pages : goal.of_pages-map-requires-clause-pages
of_pages-map-requires-clause-pages c = λ nsid lba.
    subst (λ (xs : List (List (Option ℕ))). IfSome (page_at xs nsid lba) (λ page. page < data_pages c.geometry.result)) (sym c.into_vec.ensures)
    (subst (λ (g : Geometry). IfSome (page_at c.args.state.pages nsid lba) (λ page. page < data_pages g)) (sym c.geometry.ensures.value) (pages-within c.args.config.now c.args.state c.requires.blocks nsid lba))

pub returns-clause-sizes : goal.returns-clause-sizes
returns-clause-sizes c = λ nsid.
    c.of_pages-map.ensures.sizes nsid
    ∙ ap (λ (xs : List (List (Option ℕ))). size_at xs nsid) c.into_vec.ensures
    ∙ (loadable c.args.state c.requires.state.writable).sizes nsid

pub returns-clause-places : goal.returns-clause-places
returns-clause-places c = λ nsid lba.
    c.of_pages-map.ensures.blocks nsid lba
    ∙ ap (λ (xs : List (List (Option ℕ))). option_map (placed_on c.geometry.result) (page_at xs nsid lba)) c.into_vec.ensures
    ∙ ap (λ (g : Geometry). option_map (placed_on g) (page_at c.args.state.pages nsid lba)) c.geometry.ensures.value
    ∙ ap (option_map (placed_on (geometry_of c.args.config.now))) (pages-are c.args.state nsid lba)
