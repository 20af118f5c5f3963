use Rattle.std.proofs.Common.{◌+◌, ◌≤◌, ℕ, None, arith, get_or, refl, subst}
use Rattle.std.proofs.lemmas.Option.{slice_get-get_or}
use Rattle.fdp_base.specs.declared.command.Range.{Range}
use Rattle.fdp_image.specs.Checkpoint.{page_in_lists, reading_of_state}
use Rattle.fdp_state.specs.Made.{HasPages}
use Rattle.fdp_state.specs.Owners.{with_row}
use Rattle.fdp_state.specs.Parts.{listed}
use Rattle.fdp_state.proofs.Making.{made-pages}
use Rattle.fdp_state.proofs.Putting.{any-default, ranges-all, ranges-next, ranges-start}
use Rattle.fdp_state.proofs.Spacing.{ranges_within}
use Rattle.fdp_state.proofs.make.clear.Goals as goal

pub clear_row-requires-clause-sound : goal.clear_row-requires-clause-sound
clear_row-requires-clause-sound c = c.loop-range.invariant.sound

pub clear_row-requires-clause-within : goal.clear_row-requires-clause-within
clear_row-requires-clause-within c some =
    let r = get_or c.args.ranges.now c.loop-range.range-index (record { slba = 0; length = 0 }) in
    let there = slice_get-get_or c.args.ranges.now c.loop-range.range-index (record { slba = 0; length = 0 }) c.loop-range-test.true in
    let fits : r.slba + r.length ≤ listed c.args.parts.now.pages.items c.args.nsid =
    ranges_within c.args.parts.now c.args.nsid c.args.ranges.now c.requires.sound c.requires.within r c.loop-range.range-index there (omega (arith, some, c.from.ensures)) in
    omega (arith, fits, c.from.ensures, c.loop-range.invariant.sizes c.args.nsid)

pub loop-range-init : goal.loop-range-init
loop-range-init c = ranges-start c.args.parts.now c.args.nsid c.args.ranges.now c.requires.sound

pub loop-range-preserved : goal.loop-range-preserved
loop-range-preserved c =
    let d : Range = record { slba = 0; length = 0 } in
    let r = get_or c.args.ranges.now c.loop-range.range-index d in
    ranges-next c.args.parts.now c.loop-range.parts c.clear_row.new.parts c.args.nsid c.args.ranges.now c.loop-range.range-index r c.loop-range-test.true
    (any-default c.args.ranges.now c.loop-range.range-index d r c.loop-range-test.true) c.loop-range.invariant
    (subst (λ (n : ℕ). HasPages c.loop-range.parts c.clear_row.new.parts (with_row (λ lba. None) (page_in_lists c.loop-range.parts.pages.items) c.args.nsid r.slba n)) c.from.ensures c.clear_row.ensures)

pub returns : goal.returns
unfolding reading_of_state
returns c = record {
  made = λ k.
      made-pages k _ c.args.parts.now c.loop-range.parts _
      (ranges-all c.args.parts.now c.loop-range.parts c.args.nsid c.args.ranges.now c.loop-range.range-index (omega (arith, c.loop-range-test.false)) c.loop-range.invariant) (λ position. refl) (λ n l. refl);
}
