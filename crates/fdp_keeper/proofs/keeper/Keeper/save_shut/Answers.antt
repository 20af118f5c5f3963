use Rattle.std.proofs.Common.{[], refl}
use Rattle.fdp_base.specs.declared.entry.Entry.TheVariants as entries
use Rattle.fdp_book.specs.Book.{point_in}
use Rattle.fdp_book.proofs.Making.Entries.{of-shut}
use Rattle.fdp_records.specs.Limits.{is_within_limits}
use Rattle.fdp_keeper.proofs.keeper.Keeper.save_shut.Goals as goal

pub save-requires-clause-limits : goal.save-requires-clause-limits
unfolding is_within_limits
save-requires-clause-limits g c = refl

pub returns : goal.returns
returns g c =
    let b = c.args.book.now in
    c.save.ensures (entries.Shut (record { rg = c.args.rg; ruh = c.args.ruh })) [] (of-shut b.config (point_in b) c.args.rg c.args.ruh c.known.ensures.orderly c.requires.handle)
