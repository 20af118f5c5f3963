use Rattle.std.proofs.Common.{◌+◌, ap, arith, refl, subst, sym}
use Rattle.std.specs.Prelude.{option_map}
use Rattle.fdp_tables.specs.State.{row}
use Rattle.fdp_tables.proofs.Walks.{IsPut, put_end, put_next, put_start}
use Rattle.fdp_plain.specs.Reopening.{SiteTables, named_block}
use Rattle.fdp_plain.proofs.naming.name_blocks.Goals as goal

pub loop-place-init : goal.loop-place-init
loop-place-init c = put_start _ c.args.blocks.now

pub name_block-requires : goal.name_block-requires
name_block-requires c = omega (arith, c.loop-place-test.true, c.loop-place.invariant.size, c.len-place-end.ensures)

pub loop-place-preserved : goal.loop-place-preserved
loop-place-preserved c =
    let t : SiteTables = record { written_rows = c.args.sites.now.rows; found_rows = c.args.found.now.rows } in
    let l = c.loop-place in
    subst (IsPut (λ lba. option_map (named_block t)) c.args.blocks.now (l.place + 1)) (sym c.name_block.ensures)
    (put_next (λ lba. option_map (named_block t)) c.args.blocks.now l.blocks l.place (option_map (named_block t) (row l.blocks l.place)) (omega (arith, c.loop-place-test.true, l.invariant.size, c.len-place-end.ensures))
    (ap (option_map (named_block t)) (l.invariant.behind l.place (omega arith))) l.invariant)

pub returns-clause-rows : goal.returns-clause-rows
returns-clause-rows c = put_end _ c.args.blocks.now c.loop-place.blocks c.loop-place.place (omega (arith, c.loop-place-test.false, c.len-place-end.ensures)) (λ k. refl) c.loop-place.invariant
