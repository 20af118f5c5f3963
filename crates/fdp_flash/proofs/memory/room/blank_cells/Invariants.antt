use Rattle.std.proofs.Common.{◌≡◌, replicate}
use Rattle.std.specs.Vec.{vec_len, vec_capacity}
use Rattle.fdp_flash.specs.declared.cell.Cell.TheVariants.{Blank}
use Rattle.fdp_flash.proofs.memory.room.blank_cells.Given as goal

abbrev pub invariant-loop : goal.invariant-loop
invariant-loop l = record { cells : l.cells.items ≡ replicate l.counter Blank; count : vec_len l.cells ≡ l.counter; capacity : vec_capacity l.cells ≡ l.count }
