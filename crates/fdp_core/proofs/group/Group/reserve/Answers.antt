use Rattle.std.proofs.Common.{refl, subst, sym}
use Rattle.fdp_relocation.specs.fdp_book.Book.{BookSeen}
use Rattle.fdp_core.specs.Sound.{IsWhole}
use Rattle.fdp_core.proofs.Kept.{kept-alike}
use Rattle.fdp_loading.proofs.fdp_isolation.Apart as isolation
use Rattle.fdp_loading.proofs.fdp_ledger.Alike.{ledger-alike}
use Rattle.fdp_core.proofs.group.Group.reserve.Goals as goal
use Rattle.fdp_roominess.proofs.Runs.{keeps-alike}

pub invariant_of-self : goal.invariant_of-self
invariant_of-self g c =
    let old = c.self.inside in
    let f = g.F.Flash.state old.flash in
    let so = c.self.invariant.sound in
    let now : BookSeen = record old.book { spare = c.reserve.new.self.spare } in
    subst (λ (b : BookSeen). IsWhole old.handed f b old.keeper old.block.items) (sym c.reserve.ensures.kept)
    (record {
      sound = record {
        geometry = so.geometry;
        legal = so.legal;
        stored = so.stored;
        apart = λ tells opened. isolation.alike old.book now f.cells refl refl refl refl refl (so.apart tells opened);
        ledger = ledger-alike old.handed old.book now f refl refl refl refl refl so.ledger;
        room = keeps-alike old.handed.faults f.faults f.told old.book now refl refl refl refl refl so.room;
        buffer = so.buffer;
      };
      kept = kept-alike old.handed f old.book now old.keeper refl refl refl refl refl c.self.invariant.kept.epochs c.self.invariant.kept;
    })
