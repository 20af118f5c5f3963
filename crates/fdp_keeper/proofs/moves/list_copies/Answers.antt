use Rattle.std.proofs.Common.{List, ap, arith, get_or, length, subst, sym}
use Rattle.fdp_base.specs.declared.entry.Copied.{Copied}
use Rattle.fdp_owners.specs.OwnerTable.{IsPlace}
use Rattle.fdp_keeper.proofs.Copies.{copy-place}
use Rattle.fdp_keeper.proofs.moves.list_copies.Goals as goal

pub list_copy-requires-clause-place : goal.list_copy-requires-clause-place
list_copy-requires-clause-place c =
    let d : Copied = record { from = record { unit = 0; page = 0 }; to = record { unit = 0; page = 0 } } in
    subst (λ (xs : List Copied). IsPlace c.args.pages.now.owners (get_or xs c.loop-copy.copy-index d).from) (sym c.copies-copy-items.ensures.copies)
    (copy-place c.args.pages.now c.args.rg c.loop-copy.copy-index d c.joined.ensures c.requires.group (omega (arith, c.loop-copy-test.true, ap length c.copies-copy-items.ensures.copies)))
