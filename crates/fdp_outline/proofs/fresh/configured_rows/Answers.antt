use Rattle.std.proofs.Common.{◌≡◌, ◌∙◌, ◌<◌, [], ◌∷◌, ◌++◌, List, true, ap, arith, length, subst, sym, take}
use Rattle.std.proofs.lemmas.List.{take_more}
use Rattle.fdp_base.specs.declared.config.Class.{Class}
use Rattle.fdp_image.specs.CheckpointFields.{are_rows, is_row}
use Rattle.fdp_outline.proofs.Making.{rows-push}
use Rattle.fdp_outline.proofs.fresh.configured_rows.Goals as goal

pub loop-index-preserved : goal.loop-index-preserved
loop-index-preserved c =
    let all = c.args.configurations.now in
    let i = c.loop-index.index in
    let here = c.index-configurations-index.result in
    let low : i < length all = c.loop-index-test.true in
    let more = take_more all i here low ∙ ap (λ (x : List Class). take i all ++ x ∷ []) (sym c.index-configurations-index.is) in
    record {
      rows =
          ap (λ (xs : List (List Class)). are_rows xs c.push.new.self.items) more
          ∙ ap (are_rows (take i all ++ here ∷ [])) c.in_ok-push.ensures.items
          ∙ rows-push (take i all) c.loop-index.rows.items here c.row_of.result c.loop-index.invariant.rows (subst (λ (x : List Class). is_row x c.row_of.result ≡ true) c.as_slice.ensures c.row_of.ensures);
      count = omega (arith, c.in_ok-push.ensures.len, c.loop-index.invariant.count);
    }
