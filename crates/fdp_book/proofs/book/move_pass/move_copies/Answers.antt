use Rattle.std.proofs.Common.{◌≡◌, ◌∙◌, ◌<◌, ◌≤◌, List, ap, arith, length, refl, subst, sym, vec_len}
use Rattle.std.specs.Prelude.{IsTrue}
use Rattle.fdp_base.specs.declared.config.Geometry.{Geometry}
use Rattle.fdp_book.proofs.Relocating.Moves.{copies-stay, moved-first, moved-next, names-below}
use Rattle.fdp_readings.specs.fdp_pages.PageTables.{copies_at, is_under_way}
use Rattle.fdp_passes.specs.GroupPasses.{GroupPasses}
use Rattle.fdp_units.specs.UnitTable.{Cut}
use Rattle.fdp_book.proofs.book.move_pass.move_copies.Goals as goal

pub loop-index-init : goal.loop-index-init
loop-index-init c = record {
  moved = moved-first c.args.tables.now c.args.rg c.args.names.now.items c.joined.ensures c.requires.empty;
  room = refl;
  count = ap length c.copies.ensures.copies;
}

pub move_copy-requires-clause-group : goal.move_copy-requires-clause-group
move_copy-requires-clause-group c = subst (λ (x : Cut). c.args.rg < x.groups) (sym c.loop-index.invariant.moved.moves.kept.pages.units.cut) c.requires.group

pub move_copy-requires-clause-pass : goal.move_copy-requires-clause-pass
move_copy-requires-clause-pass c = subst (λ (ps : List GroupPasses). IsTrue (is_under_way (record c.args.tables.now.pages { passes = ps }) c.args.rg)) (sym c.loop-index.invariant.moved.moves.kept.pages.passes) c.requires.pass

pub move_copy-requires-clause-copy : goal.move_copy-requires-clause-copy
move_copy-requires-clause-copy c =
    let same : length (copies_at c.loop-index.tables.pages c.args.rg) ≡ length (copies_at c.args.tables.now.pages c.args.rg) = ap length (copies-stay c.args.tables.now c.loop-index.tables c.args.rg c.loop-index.invariant.moved.moves.kept) in
    omega (arith, same, c.loop-index.invariant.count, c.loop-index-test.true)

pub move_copy-requires-clause-lead : goal.move_copy-requires-clause-lead
move_copy-requires-clause-lead c = (c.requires.lead.0, c.loop-index.invariant.moved.moves.kept.leads c.requires.lead.0 c.requires.lead.1)

pub move_copy-requires-clause-cut : goal.move_copy-requires-clause-cut
move_copy-requires-clause-cut c =
    let kept = c.loop-index.invariant.moved.moves.kept in
    kept.pages.units.cut ∙ c.requires.cut ∙ ap (λ (g : Geometry). record { unit_pages = g.unit_pages; group_units = g.units; groups = g.groups }) (sym kept.map.geometry)

pub loop-index-preserved : goal.loop-index-preserved
loop-index-preserved c =
    let within : c.loop-index.index < length (copies_at c.args.tables.now.pages c.args.rg) = omega (arith, c.loop-index.invariant.count, c.loop-index-test.true) in
    record {
      moved = moved-next c.args.tables.now c.loop-index.tables c.move_copy.new.tables c.args.rg c.loop-index.index c.loop-index.names.items c.move_copy.new.names.items c.requires.movable within
          c.loop-index.invariant.moved c.move_copy.ensures.tables c.move_copy.ensures.names;
      room = c.move_copy.ensures.room ∙ c.loop-index.invariant.room;
      count = c.loop-index.invariant.count;
    }

pub move_copy-requires-clause-room : goal.move_copy-requires-clause-room
move_copy-requires-clause-room c =
    let count : vec_len c.loop-index.names ≡ length c.loop-index.names.items = c.loop-index.names.ok.0 in
    let below : length c.loop-index.names.items ≤ c.loop-index.index = names-below c.args.tables.now c.loop-index.tables c.args.rg c.loop-index.index c.loop-index.names.items c.loop-index.invariant.moved in
    let few : length c.copies.result.now ≤ c.args.tables.now.pages.units.unit_pages = c.copies.ensures.few in
    let copies : length c.copies.result.now ≡ length (copies_at c.args.tables.now.pages c.args.rg) = ap length c.copies.ensures.copies in
    omega (arith, count, below, few, copies, c.loop-index.invariant.count, c.loop-index-test.true, c.requires.room, c.loop-index.invariant.room)
