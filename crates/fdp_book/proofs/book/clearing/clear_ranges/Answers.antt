use Rattle.std.proofs.Common.{◌≡◌, List, ℕ, ap, arith, subst, sym, take}
use Rattle.std.proofs.lemmas.List.{take_all, take_more}
use Rattle.std.proofs.lemmas.Option.{slice_get-get_or}
use Rattle.fdp_base.specs.declared.command.Range.{Range}
use Rattle.fdp_book.specs.Clearing.{Clears}
use Rattle.fdp_book.proofs.Clearing.{clears-none, clears-range, pointers-still}
use Rattle.fdp_map.specs.MapTable.{size_in}
use Rattle.fdp_rules.specs.Effect.{is_in_ranges}
use Rattle.fdp_book.proofs.book.clearing.clear_ranges.Goals as goal

pub loop-index-init : goal.loop-index-init
loop-index-init c = clears-none c.args.nsid c.args.map.now c.args.pages.now c.joined.ensures

pub clear_blocks-requires-clause-within : goal.clear_blocks-requires-clause-within
clear_blocks-requires-clause-within c some =
    let size : size_in c.loop-index.map c.args.nsid ≡ size_in c.args.map.now c.args.nsid = ap (λ (f : ℕ → ℕ). f c.args.nsid) c.loop-index.invariant.sizes in
    omega (arith, size, c.requires.within c.loop-index.index _ (slice_get-get_or c.args.ranges.now c.loop-index.index _ c.loop-index-test.true) some)

pub clear_blocks-requires-clause-pointers : goal.clear_blocks-requires-clause-pointers
clear_blocks-requires-clause-pointers c =
    pointers-still c.args.nsid (is_in_ranges (take c.loop-index.index c.args.ranges.now)) c.args.map.now c.loop-index.map c.args.pages.now c.loop-index.pages c.loop-index.invariant c.requires.pointers

pub loop-index-preserved : goal.loop-index-preserved
loop-index-preserved c =
    subst (λ (xs : List Range). Clears c.args.nsid (is_in_ranges xs) c.args.map.now c.clear_blocks.new.map c.args.pages.now c.clear_blocks.new.pages) (sym (take_more c.args.ranges.now c.loop-index.index _ c.loop-index-test.true))
    (clears-range c.args.nsid (take c.loop-index.index c.args.ranges.now) _ c.args.map.now c.loop-index.map c.clear_blocks.new.map c.args.pages.now c.loop-index.pages c.clear_blocks.new.pages c.loop-index.invariant c.clear_blocks.ensures)

pub returns : goal.returns
returns c =
    subst (λ (xs : List Range). Clears c.args.nsid (is_in_ranges xs) c.args.map.now c.loop-index.map c.args.pages.now c.loop-index.pages) (take_all c.loop-index.index c.args.ranges.now (omega (arith, c.loop-index-test.false))) c.loop-index.invariant
