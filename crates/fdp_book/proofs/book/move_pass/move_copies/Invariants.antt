use Rattle.std.proofs.Common.{◌≡◌, length, vec_capacity}
use Rattle.fdp_book.proofs.Relocating.Moves.{IsMovedTo}
use Rattle.fdp_readings.specs.fdp_pages.PageTables.{copies_at}
use Rattle.fdp_book.proofs.book.move_pass.move_copies.Given as goal

abbrev pub invariant-loop-index : goal.invariant-loop-index
invariant-loop-index l = record {
  moved : IsMovedTo l.fn.tables l.tables l.rg l.index l.names.items;
  room : vec_capacity l.names ≡ vec_capacity l.fn.names;
  count : l.count ≡ length (copies_at l.fn.tables.pages l.rg);
}
