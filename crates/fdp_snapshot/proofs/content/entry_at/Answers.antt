use Rattle.std.proofs.Common.{arith, ◌∙◌, refl}
use Rattle.fdp_snapshot.proofs.Words.{entry_here, entry_next, entry_none}
use Rattle.fdp_snapshot.proofs.content.entry_at.Goals as goal

pub loop-list-init : goal.loop-list-init
loop-list-init c = record { left = refl }

pub returns-then-left-entries : goal.returns-then-left-entries
returns-then-left-entries c =
    c.page_entry.ensures
    ∙ entry_here c.loop-list.list-index c.args.place c.loop-list.left c.args.pages.now c.list-item.result c.as_slice-entries.result.now _ _ (omega arith) c.list-item.is c.as_slice-entries.ensures (omega (arith, c.if-left-entries.true)) refl
    c.loop-list.invariant.left

pub loop-list-preserved : goal.loop-list-preserved
loop-list-preserved c = record {
  left =
      entry_next c.loop-list.list-index c.args.place c.loop-list.left c.args.pages.now c.list-item.result c.as_slice-entries.result.now (omega arith) c.list-item.is c.as_slice-entries.ensures (omega (arith, c.if-left-entries.false))
      c.loop-list.invariant.left;
}

pub returns : goal.returns
returns c = entry_none c.loop-list.list-index c.args.place c.loop-list.left c.args.pages.now (omega arith) c.loop-list.invariant.left
