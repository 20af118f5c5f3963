use Rattle.std.proofs.Common.{◌∙◌, List, ap, refl, sym}
use Rattle.fdp_base.specs.declared.config.Class.{Class}
use Rattle.fdp_image.specs.CheckpointFields.{are_rows}
use Rattle.fdp_snapshot.specs.declared.keys.HandleRow.{HandleRow}
use Rattle.fdp_outline.proofs.Making.{keys-same}
use Rattle.fdp_outline.proofs.fresh.keys_of.Goals as goal

pub returns-clause-same : goal.returns-clause-same
returns-clause-same c = keys-same c.args.config.now _ refl refl c.from.ensures refl refl c.from-2.ensures c.from-3.ensures
    (ap (λ (rows : List HandleRow). are_rows c.args.config.now.fdp rows) c.from_vec.ensures ∙ ap (λ (xs : List (List Class)). are_rows xs c.in_ok-rows.rows.items) (sym c.as_slice.ensures) ∙ c.in_ok-rows.ensures.rows)
