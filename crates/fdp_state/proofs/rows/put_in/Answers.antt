use Rattle.std.proofs.Common.{◌∙◌, ℕ, List, Option, ap, arith, length, length-set}
use Rattle.std.specs.Prelude.{◌==◌, if◌then◌else◌}
use Rattle.std.specs.Option.{option_and_then}
use Rattle.fdp_state.specs.Parts.{row}
use Rattle.fdp_state.proofs.Editing.{id_of_place, if_both, put_back, size_back}
use Rattle.fdp_state.proofs.Places.{read_set}
use Rattle.fdp_state.proofs.rows.put_in.Goals as goal

pub returns-clause-pages : goal.returns-clause-pages
returns-clause-pages c n l =
    put_back _ _ _ c.args.nsid _ (id_of_place c.args.lists.now.items c.args.nsid c.args.lba c.requires.within) c.requires.rows c.take_list-list.ensures.after
    (λ (k : ℕ) (o : Option ℕ). if k == c.args.lba then c.args.page else o)
    c.set_list.ensures.pages
    (λ (k : ℕ).
    ap (λ (list : List (Option ℕ)). row list k) c.from_vec.ensures
    ∙ read_set (option_and_then (λ (y : Option ℕ). y)) c.take_list-list.result.items c.args.lba c.args.page (omega (arith, c.requires.within, c.take_list-list.ensures.size)) k
    ∙ ap (λ (o : Option ℕ). if k == c.args.lba then c.args.page else o) (c.take_list-list.ensures.pages k))
    n l
    ∙ if_both (n == c.args.nsid) (l == c.args.lba) _ _

pub returns-clause-sizes : goal.returns-clause-sizes
returns-clause-sizes c n =
    size_back _ _ _ c.args.nsid _ (id_of_place c.args.lists.now.items c.args.nsid c.args.lba c.requires.within) c.requires.rows c.take_list-list.ensures.after c.set_list.ensures.sizes
    (ap length c.from_vec.ensures ∙ length-set c.take_list-list.result.items c.args.lba c.args.page ∙ c.take_list-list.ensures.size) n
