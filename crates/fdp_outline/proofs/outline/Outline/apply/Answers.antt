use Rattle.std.proofs.Common.{refl, subst, sym}
use Rattle.fdp_image.specs.Applied.{applied}
use Rattle.fdp_records.specs.Borrowed.{change_of}
use Rattle.fdp_snapshot.specs.declared.state.Summary.{Summary}
use Rattle.fdp_outline.specs.Outline.{IsOutlineOf}
use Rattle.fdp_outline.proofs.Saying.{outline-totals}
use Rattle.fdp_outline.proofs.outline.Outline.apply.Goals as goal

pub returns-clause-outline : goal.returns-clause-outline
returns-clause-outline c r h lists =
    let after = applied c.args.config.now r (change_of c.args.change, c.args.totals) in
    subst (λ (x : Summary). IsOutlineOf c.args.config.now after x) (sym c.set_totals.ensures)
    (outline-totals c.args.config.now after c.make.new.self c.args.totals (c.make.ensures r c.args.totals refl h lists))
