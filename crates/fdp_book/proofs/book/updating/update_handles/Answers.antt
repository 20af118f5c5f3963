use Rattle.std.proofs.Common.{List, ℕ, [], ◌∷◌, subst, sym, take}
use Rattle.std.proofs.lemmas.List.{take_more}
use Rattle.fdp_book.specs.Updating.{Updates}
use Rattle.fdp_book.proofs.Updating.{can-still, updates-on}
use Rattle.fdp_book.proofs.book.updating.update_handles.Goals as goal

pub update_handle-requires : goal.update_handle-requires
update_handle-requires c = can-still c.args.config.now c.args.tables.now c.loop-pid.tables c.args.nsid _ c.requires c.loop-pid.invariant

pub loop-pid-preserved : goal.loop-pid-preserved
loop-pid-preserved c =
    subst (λ (xs : List ℕ). Updates c.args.config.now c.args.tables.now c.update_handle.new.tables c.args.nsid xs) (sym (take_more c.args.pids.now c.loop-pid.pid-index _ c.loop-pid-test.true))
    (updates-on c.args.config.now c.args.tables.now c.loop-pid.tables c.update_handle.new.tables c.args.nsid (take c.loop-pid.pid-index c.args.pids.now) (_ ∷ []) c.loop-pid.invariant c.update_handle.ensures)
