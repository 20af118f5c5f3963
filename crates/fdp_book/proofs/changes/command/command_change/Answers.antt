use Rattle.std.proofs.Common.{◌+◌, ◌∙◌, ℕ, List, ap, length, refl, subst, sym, false, true, arith}
use Rattle.std.specs.Prelude.{IsFalse, IsTrue}
use Rattle.fdp_base.specs.declared.command.Range.{Range}
use Rattle.fdp_base.specs.Geometry.{IsWithin}
use Rattle.fdp_book.specs.Book.{point_in}
use Rattle.fdp_book.proofs.Making.Accepted.{few-ranges}
use Rattle.fdp_records.specs.declared.change.Change.TheVariants as changes
use Rattle.fdp_records.specs.Limits.{is_within_limits}
use Rattle.fdp_book.proofs.changes.command.command_change.Goals as goal

not-saved : IsTrue false → ⊥
not-saved e = cc

not-other : IsFalse true → ⊥
not-other e = cc

pub cleared_change-requires : goal.cleared_change-requires
cleared_change-requires c = subst (λ (xs : List Range). IsWithin 1 16 (length xs)) (sym (c.requires.lists.zeroed c.in-Zero.zero c.in-Zero.is)) (omega arith, omega arith)

pub cleared_change-requires-in-Dealloc : goal.cleared_change-requires-in-Dealloc
cleared_change-requires-in-Dealloc c =
    let b = c.args.book.now in
    let can = rw c.in-Dealloc.is at c.requires.can in
    let few = few-ranges b.config (point_in b) c.in-Dealloc.dealloc can.accepted in
    subst (λ (xs : List Range). IsWithin 1 16 (length xs)) (sym c.as_slice.ensures) (can.formed.0, few)

pub updated_change-requires : goal.updated_change-requires
updated_change-requires c = rw c.in-Update.is at c.requires.can

pub created_change-requires-clause-can : goal.created_change-requires-clause-can
created_change-requires-clause-can c = rw c.in-Create.is at c.requires.can

pub created_change-requires-clause-handles : goal.created_change-requires-clause-handles
created_change-requires-clause-handles c = c.as_slice-in-Create.ensures.value ∙ c.requires.lists.handles c.in-Create.create c.in-Create.is

pub returns-in-Zero-clause-change : goal.returns-in-Zero-clause-change
returns-in-Zero-clause-change c = rw c.in-Zero.is (c.cleared_change.ensures.change ∙ ap (changes.Clear c.in-Zero.zero.nsid) (c.requires.lists.zeroed c.in-Zero.zero c.in-Zero.is))

pub returns-in-Dealloc-clause-change : goal.returns-in-Dealloc-clause-change
returns-in-Dealloc-clause-change c = rw c.in-Dealloc.is (c.cleared_change-in-Dealloc.ensures.change ∙ ap (changes.Clear c.in-Dealloc.dealloc.nsid) c.as_slice.ensures)

pub returns-in-Update-clause-change : goal.returns-in-Update-clause-change
returns-in-Update-clause-change c = rw c.in-Update.is c.updated_change.ensures.change

pub returns-in-Create-clause-change : goal.returns-in-Create-clause-change
returns-in-Create-clause-change c = rw c.in-Create.is c.created_change.ensures.change

pub returns-in-SetFdp-clause-change : goal.returns-in-SetFdp-clause-change
returns-in-SetFdp-clause-change c =
    rw c.in-SetFdp.is (c.set_change.ensures.change ∙ ap (λ (n : ℕ). changes.SetFdp c.in-SetFdp.set.enable c.in-SetFdp.set.index (n + 1)) c.requires.generation)

pub returns-in-SetEvents-clause-change : goal.returns-in-SetEvents-clause-change
returns-in-SetEvents-clause-change c = rw c.in-SetEvents.is c.events_change.ensures.change

pub returns-in-Delete-clause-change : goal.returns-in-Delete-clause-change
returns-in-Delete-clause-change c = rw c.in-Delete.is refl

pub returns-in-Delete-clause-limits : goal.returns-in-Delete-clause-limits
unfolding is_within_limits
returns-in-Delete-clause-limits c = refl

pub unreachable-requires : goal.unreachable-requires
unreachable-requires c = not-other (rw c.in-Write.is at c.requires.can.other)

pub unreachable-requires-in-Read : goal.unreachable-requires-in-Read
unreachable-requires-in-Read c = not-saved (rw c.in-Read.is at c.requires.can.saved)

pub unreachable-requires-in-Flush : goal.unreachable-requires-in-Flush
unreachable-requires-in-Flush c = not-saved (rw c.in-Flush.is at c.requires.can.saved)

pub unreachable-requires-in-Status : goal.unreachable-requires-in-Status
unreachable-requires-in-Status c = not-saved (rw c.in-Status.is at c.requires.can.saved)

pub unreachable-requires-in-Log : goal.unreachable-requires-in-Log
unreachable-requires-in-Log c = not-saved (rw c.in-Log.is at c.requires.can.saved)

pub unreachable-requires-in-GetFdp : goal.unreachable-requires-in-GetFdp
unreachable-requires-in-GetFdp c = not-saved (rw c.in-GetFdp.is at c.requires.can.saved)

pub unreachable-requires-in-Other : goal.unreachable-requires-in-Other
unreachable-requires-in-Other c = not-saved (rw c.in-Other.is at c.requires.can.saved)
