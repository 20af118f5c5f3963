use Rattle.std.proofs.Common.{◌≡◌, ◌+◌, ◌≤◌, ℕ, ap, arith, subst}
use Rattle.std.specs.Prelude.{◌==◌}
use Rattle.fdp_base.specs.Numbers.{is_among}
use Rattle.fdp_book.specs.Clearing.{Clears}
use Rattle.fdp_book.proofs.Clearing.{clears-first, clears-next, pointers-still}
use Rattle.fdp_map.specs.MapTable.{size_in}
use Rattle.fdp_book.proofs.book.clearing.clear_blocks.Goals as goal

pub loop-index-init : goal.loop-index-init
loop-index-init c = clears-first c.args.nsid c.args.slba c.args.map.now c.args.pages.now c.joined.ensures

pub clear_block-requires-clause-within : goal.clear_block-requires-clause-within
clear_block-requires-clause-within c =
    let size : size_in c.loop-index.map c.args.nsid ≡ size_in c.args.map.now c.args.nsid = ap (λ (f : ℕ → ℕ). f c.args.nsid) c.loop-index.invariant.sizes in
    let within : c.args.slba + c.args.count ≤ size_in c.args.map.now c.args.nsid = c.requires.within (omega (arith, c.loop-index-test.true)) in
    omega (arith, size, within, c.loop-index-test.true, c.from.ensures)

pub clear_block-requires-clause-pointers : goal.clear_block-requires-clause-pointers
clear_block-requires-clause-pointers c =
    pointers-still c.args.nsid (is_among c.args.slba c.loop-index.index) c.args.map.now c.loop-index.map c.args.pages.now c.loop-index.pages c.loop-index.invariant c.requires.pointers

pub loop-index-preserved : goal.loop-index-preserved
loop-index-preserved c =
    clears-next c.args.nsid c.args.slba c.loop-index.index c.args.map.now c.loop-index.map c.clear_block.new.map c.args.pages.now c.loop-index.pages c.clear_block.new.pages c.loop-index.invariant
    (subst (λ (k : ℕ). Clears c.args.nsid (λ l. l == c.args.slba + k) c.loop-index.map c.clear_block.new.map c.loop-index.pages c.clear_block.new.pages) c.from.ensures c.clear_block.ensures)

pub returns : goal.returns
returns c =
    subst (λ (k : ℕ). Clears c.args.nsid (is_among c.args.slba k) c.args.map.now c.loop-index.map c.args.pages.now c.loop-index.pages) (omega (arith, c.loop-index.auto.index-end, c.loop-index-test.false)) c.loop-index.invariant
