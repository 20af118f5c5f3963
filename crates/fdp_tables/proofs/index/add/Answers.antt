use Rattle.std.proofs.Common.{◌≡◌, ◌∙◌, ap, arith, get_or, map, set, sym, [], subst}
use Rattle.std.specs.Prelude.{IsTrue}
use Rattle.std.specs.Vec.{vec_items}
use Rattle.std.proofs.lemmas.List.{get_or-map, length-map, map-set}
use Rattle.fdp_tables.specs.Index.{is_listed}
use Rattle.fdp_tables.proofs.Listing.{put_added, put_kept}
use Rattle.fdp_tables.proofs.index.add.Goals as goal

pub returns-clause-kept : goal.returns-clause-kept
returns-clause-kept c = λ k v there.
    let lists = c.reach.new.lists.items in
    let list = c.index_mut.result.now in
    let new = c.put.new.list in
    let at : get_or (map vec_items lists) c.args.key [] ≡ list.items = get_or-map vec_items lists c.args.key list [] c.in_ok-reach.ensures.there ∙ ap vec_items (sym c.index_mut.ensures.value) in
    subst (λ xs. IsTrue (is_listed v (get_or xs k []))) (sym (map-set vec_items lists c.args.key new))
    (put_kept (map vec_items lists) c.args.key new.items (omega (arith, c.in_ok-reach.ensures.there, length-map lists vec_items)) (λ w is. c.put.ensures.kept w (subst (λ xs. IsTrue (is_listed w xs)) at is)) k v
    (subst (λ xs. IsTrue (is_listed v xs)) (sym (c.reach.ensures.same k)) there))

pub returns-clause-added : goal.returns-clause-added
returns-clause-added c =
    let lists = c.reach.new.lists.items in
    let new = c.put.new.list in
    put_added c.put.result (map vec_items lists) c.args.key c.args.value new.items (map vec_items (set lists c.args.key new)) (map-set vec_items lists c.args.key new) (omega (arith, c.in_ok-reach.ensures.there, length-map lists vec_items)) c.put.ensures.added
