use Rattle.std.proofs.Common.{◌≡◌, take}
use Rattle.std.specs.Prelude.{IsTrue}
use Rattle.fdp_tables.specs.Blocks.{row_of}
use Rattle.fdp_tables.specs.Index.{is_listed}
use Rattle.fdp_tables.proofs.Naming.{IsPushing}
use Rattle.fdp_tables.proofs.places.push_rows.Given as goal

abbrev pub invariant-loop-number : goal.invariant-loop-number
invariant-loop-number l = IsPushing l.blocks (λ page. ((row_of page).is_found ≡ l.is_found) × IsTrue (is_listed (row_of page).number (take l.number-index l.numbers))) l.fn.into.items l.into.items
