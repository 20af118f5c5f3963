use Rattle.std.specs.Prelude.{option_map}
use Rattle.fdp_tables.proofs.Walks.{IsPut}
use Rattle.fdp_plain.specs.Reopening.{named_block}
use Rattle.fdp_plain.proofs.naming.name_blocks.Given as goal

abbrev pub invariant-loop-place : goal.invariant-loop-place
invariant-loop-place l = IsPut (λ lba. option_map (named_block (record { written_rows = l.sites.rows; found_rows = l.found.rows }))) l.fn.blocks l.place l.blocks
