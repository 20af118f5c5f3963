use Rattle.std.proofs.Common.{arith, ap, ◌∙◌, ◌+◌, ◌*◌, ◌++◌, drop, ℕ, List, Option}
use Rattle.std.specs.Prelude.{map}
use Rattle.fdp_snapshot.specs.Reading.{page_lists, size_of_row}
use Rattle.fdp_records.specs.Bytes.{items}
use Rattle.fdp_snapshot.specs.Rows.{page_in}
use Rattle.fdp_snapshot.proofs.Blocks.{blocks_next, lists_end, lists_next}
use Rattle.fdp_snapshot.proofs.reading.read_pages.Goals as goal

pub read_all-requires : goal.read_all-requires
read_all-requires c =
    let next = blocks_next c.loop-space.space-index c.args.spaces.now c.space-item.result (omega arith) c.space-item.is in
    omega (arith, next, c.loop-space.invariant.left, c.requires, c.size_of-size.ensures)

pub loop-space-preserved : goal.loop-space-preserved
loop-space-preserved c =
    let xs = c.args.spaces.now in
    let bytes = c.args.bytes.now in
    let next = blocks_next c.loop-space.space-index xs c.space-item.result (omega arith) c.space-item.is in
    record {
      left = omega (arith, next, c.loop-space.invariant.left, c.size_of-size.ensures);
      whole =
          ap (λ (ls : List (List (Option ℕ))). ls ++ page_lists (map size_of_row (drop (c.loop-space.space-index + 1) xs)) (drop (c.loop-space.at + 4 * c.size_of-size.result) bytes)) c.in_ok-push.ensures.items
          ∙ lists_next c.loop-space.space-index c.loop-space.at (c.loop-space.at + 4 * c.size_of-size.result) bytes xs c.space-item.result c.loop-space.pages.items c.in_ok-list.list _
          (omega arith) c.space-item.is (ap (λ (n : ℕ). c.loop-space.at + 4 * n) c.size_of-size.ensures)
          (c.in_ok-list.ensures ∙ ap (λ (n : ℕ). items 4 page_in n (drop c.loop-space.at bytes)) c.size_of-size.ensures) c.loop-space.invariant.whole;
    }

pub returns : goal.returns
returns c = c.from_vec.ensures ∙ lists_end c.loop-space.space-index c.loop-space.at c.args.bytes.now c.args.spaces.now c.loop-space.pages.items _ (omega arith) c.loop-space.invariant.whole
