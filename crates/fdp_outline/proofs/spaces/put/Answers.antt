use Rattle.std.proofs.Common.{◌-◌, ◌∙◌, List, Option, None, ap, sym, subst, length, length-set}
use Rattle.std.specs.Prelude.{All}
use Rattle.std.specs.Option.{option_and_then}
use Rattle.std.proofs.lemmas.List.Elements.{All-set}
use Rattle.fdp_image.specs.Checkpoint.{in_place}
use Rattle.fdp_snapshot.specs.declared.space.Space.{Space}
use Rattle.fdp_snapshot.specs.Rows.{IsSpaceRow}
use Rattle.fdp_outline.proofs.Places.{id-of, place_set}
use Rattle.fdp_outline.proofs.spaces.put.Goals as goal

pub returns-clause-spaces : goal.returns-clause-spaces
returns-clause-spaces c n =
    ap (λ (xs : List (Option Space)). in_place xs n) c.set_row.ensures
    ∙ place_set (option_and_then (λ (x : Option Space). x)) None c.args.spaces.now c.args.nsid c.args.space (id-of c.args.nsid c.requires.nsid) c.requires.places n

pub returns-clause-places : goal.returns-clause-places
returns-clause-places c = ap length c.set_row.ensures ∙ length-set c.args.spaces.now (c.args.nsid - 1) c.args.space ∙ c.requires.places

pub returns-clause-rows : goal.returns-clause-rows
returns-clause-rows c = subst (λ (xs : List (Option Space)). All IsSpaceRow xs) (sym c.set_row.ensures) (All-set IsSpaceRow c.args.spaces.now (c.args.nsid - 1) c.args.space c.requires.row c.requires.rows)
