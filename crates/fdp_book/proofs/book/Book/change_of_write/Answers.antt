use Rattle.std.proofs.Common.{List, ℕ, length, subst, sym}
use Rattle.fdp_base.specs.Geometry.{IsWithin}
use Rattle.fdp_book.specs.Changes.{AreNumbersOf}
use Rattle.fdp_records.specs.Borrowed.{change_of}
use Rattle.fdp_book.proofs.Making.Entries.{of-write}
use Rattle.fdp_book.proofs.book.Book.change_of_write.Goals as goal

pub write_change-requires-clause-numbers : goal.write_change-requires-clause-numbers
write_change-requires-clause-numbers c going tk =
    subst (λ (ns : List ℕ). AreNumbersOf c.args.self.now going ns) (sym c.as_slice.ensures.value) (c.list_numbers.ensures.numbers going tk)

pub write_change-requires-clause-few : goal.write_change-requires-clause-few
write_change-requires-clause-few c = subst (λ (ns : List ℕ). IsWithin 1 64 (length ns)) (sym c.as_slice.ensures.value) c.list_numbers.ensures.few

pub returns-clause-entry : goal.returns-clause-entry
returns-clause-entry c g w reply moment tk command applied =
    of-write c.args.self.now c.args.ticket.now.queue c.args.ticket.now.number w reply moment g (change_of c.write_change.result) c.known.ensures.orderly c.known.ensures.standing tk.going_is command (c.requires.may g tk) (c.write_change.ensures.change g w tk command) applied
