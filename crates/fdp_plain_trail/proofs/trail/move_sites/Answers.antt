use Rattle.std.proofs.Common.{refl, map, ap, sym, ◌∙◌, ◌≡◌, length, slice_get, get_or, Some, []}
use Rattle.std.specs.Option.{option_map_or, option_map}
use Rattle.std.specs.Vec.{vec_items}
use Rattle.std.proofs.lemmas.Option.{slice_get_read}
use Rattle.fdp_rules.specs.PlainState.PageName.{found, written}
use Rattle.fdp_rules.specs.Sites.{last_run, moved_by}
use Rattle.fdp_tables.specs.Copies.{copy_of}
use Rattle.fdp_tables.specs.State.{copies_at, site_at, table_site}
use Rattle.fdp_plain_trail.proofs.Placing.{count-changed, count_at}
use Rattle.fdp_tables.proofs.Walks.{site-changed}
use Rattle.fdp_tables.specs.PageSites.{site_in}
use Rattle.fdp_plain_trail.proofs.trail.move_sites.Goals as goal

pub returns-clause-sites : goal.returns-clause-sites
returns-clause-sites c =
    let k = c.args.kept.now in
    let v = c.index.result.now in
    let at : v ≡ get_or k.copies.items c.args.rg v = cc in
    let before : slice_get k.copies.items c.args.rg ≡ Some v = slice_get_read k.copies.items (length k.copies.items) c.args.rg v refl c.requires at in
    let pass : map copy_of c.last_run-pass.result.now ≡ last_run (copies_at k c.args.rg) =
    c.last_run-pass.ensures
    ∙ ap (λ xs. last_run (map copy_of xs)) c.as_slice.ensures.value
    ∙ ap (λ o. last_run (option_map_or (λ u. map copy_of (vec_items u)) o [])) (sym before) in
    λ t i.
    ap (λ rows. site_in rows t i) c.relocate.ensures
    ∙ site-changed (option_map (moved_by (map copy_of c.last_run-pass.result.now))) k.sites.rows t i refl
    ∙ ap (λ p. option_map (moved_by p) (site_at k (written t i))) pass

pub returns-clause-found : goal.returns-clause-found
returns-clause-found c =
    let k = c.args.kept.now in
    let v = c.index.result.now in
    let at : v ≡ get_or k.copies.items c.args.rg v = cc in
    let before : slice_get k.copies.items c.args.rg ≡ Some v = slice_get_read k.copies.items (length k.copies.items) c.args.rg v refl c.requires at in
    let pass : map copy_of c.last_run-pass.result.now ≡ last_run (copies_at k c.args.rg) =
    c.last_run-pass.ensures
    ∙ ap (λ xs. last_run (map copy_of xs)) c.as_slice.ensures.value
    ∙ ap (λ o. last_run (option_map_or (λ u. map copy_of (vec_items u)) o [])) (sym before) in
    λ spot.
    ap (λ rows. site_in rows spot.unit spot.page) c.relocate-2.ensures
    ∙ site-changed (option_map (moved_by (map copy_of c.last_run-pass.result.now))) k.found.rows spot.unit spot.page refl
    ∙ ap (λ p. option_map (moved_by p) (table_site k (found spot))) pass

pub returns-clause-places : goal.returns-clause-places
returns-clause-places c =
    λ t. ap (λ rows. count_at rows t) c.relocate.ensures ∙ count-changed (option_map (moved_by (map copy_of c.last_run-pass.result.now))) c.args.kept.now.sites.rows t
