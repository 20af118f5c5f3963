use Rattle.std.proofs.Common.{map, ap, get_or, [], ◌∙◌}
use Rattle.std.specs.Vec.{vec_items}
use Rattle.std.proofs.lemmas.List.{get_or-set_other, map-set}
use Rattle.fdp_tables.proofs.index.take.Goals as goal

pub returns-then-key-len-clause-others : goal.returns-then-key-len-clause-others
returns-then-key-len-clause-others c = λ k ne.
    let lists = c.args.lists.now.items in
    ap (λ xs. get_or xs k []) (map-set vec_items lists c.args.key c.replace.new.dest) ∙ get_or-set_other (map vec_items lists) c.args.key k (vec_items c.replace.new.dest) [] ne
