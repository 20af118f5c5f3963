use Rattle.std.proofs.Common.{arith, sym, ap, ◌∙◌, ◌+◌, ◌*◌, ℕ}
use Rattle.std.proofs.lemmas.List.Elements.{All-more}
use Rattle.std.proofs.Common.{subst}
use Rattle.fdp_records.specs.Bytes.{placed}
use Rattle.fdp_records.proofs.Laying.{placed_more, placed-nil}
use Rattle.fdp_snapshot.proofs.row.put_all.Goals as goal

pub loop-i-init : goal.loop-i-init
loop-i-init g c = record {
  so_far = sym (placed-nil c.args.at c.args.into.now (omega arith));
  fit = λ k d lt. absurd (omega arith);
}

pub loop-i-preserved : goal.loop-i-preserved
loop-i-preserved g c =
    let i = c.loop-i.i in
    let xs = c.args.rows.now in
    let x = c.index-rows-i.result in
    record {
      so_far =
          c.put.ensures.bytes
          ∙ ap (λ (n : ℕ). placed (c.args.at + n * i) (g.T.Row.bytes_of x) c.loop-i.into) c.size.ensures
          ∙ placed_more g.T.Row.bytes_of g.T.Row.width g.met.T.Row.long xs i c.args.at c.args.into.now c.loop-i.into x (omega arith) c.index-rows-i.is c.requires.room c.loop-i.invariant.so_far;
      fit = All-more g.T.Row.Fits xs i x (omega arith) c.loop-i.invariant.fit (subst g.T.Row.Fits c.index-rows-i.is c.put.ensures.fit);
    }
