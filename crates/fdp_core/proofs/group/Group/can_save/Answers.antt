use Rattle.std.proofs.Common.{arith, subst}
use Rattle.fdp_core.specs.Seen.{Seen}
use Rattle.fdp_relocation.specs.fdp_keeper.Keeper.{CanSave}
use Rattle.fdp_rules.specs.History.{totals_of}
use Rattle.fdp_loading.specs.fdp_survival.Books.{IsInOrder}
use Rattle.fdp_core.proofs.group.Group.can_save.Goals as goal

pub returns-clause-order : goal.returns-clause-order
returns-clause-order g c = subst (λ (s : Seen g.row.F.Denot). IsInOrder s.book) c.self.view_is (record { known = record { config = c.known.ensures.config; orderly = c.known.ensures.orderly; units = c.known.ensures.units; joined = c.known.ensures.joined; led = c.known.ensures.led; generation = c.known.ensures.generation }; standing = c.known.ensures.standing; listed = c.known.ensures.listed })

pub returns-clause-can : goal.returns-clause-can
unfolding totals_of
returns-clause-can g c =
    let old = c.self.inside in
    let whole = c.self.invariant in
    let small = c.counted.ensures.position in
    let spent = c.spent-spent.ensures.bound in
    let epochs = whole.kept.epochs in
    subst (λ (s : Seen g.row.F.Denot). CanSave s.book s.keeper (g.F.Flash.state s.flash)) c.self.view_is
    (record {
      keeper = whole.kept.keeper;
      geometry = whole.sound.geometry;
      epoch = omega (arith, small, spent, epochs);
      saver = λ told. (whole.kept.safe.at.durable told).saver;
    })
