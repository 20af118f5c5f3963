use Rattle.std.proofs.Common.{◌≡◌, ◌∙◌, ap, arith, subst}
use Rattle.fdp_base.specs.declared.entry.Totals.{Totals}
use Rattle.fdp_book.proofs.Making.Entries.{fit-names}
use Rattle.fdp_book.proofs.Outlining.{index-said}
use Rattle.fdp_image.specs.Applied.{applied}
use Rattle.fdp_image.specs.Reading.{Reading}
use Rattle.fdp_outline.specs.Outline.{IsOutlineOf}
use Rattle.fdp_outline.proofs.Naming.{names-said}
use Rattle.fdp_readings.specs.Drawn.{drawn}
use Rattle.fdp_records.specs.Borrowed.{change_of}
use Rattle.fdp_rules.specs.Next.{next, totals_with}
use Rattle.fdp_snapshot.specs.declared.state.Summary.{Summary}
use Rattle.fdp_book.specs.Changes.{totals_behind}
use Rattle.fdp_book.proofs.tables.make.Goals as goal

pub apply-requires-clause-index : goal.apply-requires-clause-index
apply-requires-clause-index c =
    let can = c.requires.can in
    omega (arith, index-said c.args.config.now can.point c.args.outline.now can.outline, can.index)

pub apply-requires-clause-fit : goal.apply-requires-clause-fit
apply-requires-clause-fit c =
    let can = c.requires.can in
    names-said c.args.config.now (drawn c.args.config.now can.point) c.args.outline.now (change_of c.args.change) can.outline.outline
    ∙ fit-names c.args.config.now can.point (change_of c.args.change) can.entry can.of_entry.fits

pub returns : goal.returns
unfolding next
returns c =
    let k = c.args.config.now in
    let change = change_of c.args.change in
    let old = c.args.outline.now in
    let totals : c.totals_behind-totals.result ≡ totals_behind old.totals change = c.totals_behind-totals.ensures ∙ ap (λ (s : Summary). totals_behind s.totals change) c.summary.ensures.summary in
    record {
      behind = λ p e at is.
          let same : c.totals_behind-totals.result ≡ totals_with p.totals e = totals ∙ ap (λ (t : Totals). totals_behind t change) at.totals ∙ is.totals in
          record {
            outline = subst (λ (r : Reading). IsOutlineOf k r c.apply.new.self) (ap (λ (t : Totals). applied k (drawn k p) (change, t)) same ∙ is.saves) (c.apply.ensures.outline (drawn k p) at.outline is.lists);
            totals = c.apply.ensures.totals ∙ same;
          };
    }
