use Rattle.std.proofs.Common.{◌≡◌, ◌+◌, ◌-◌, ◌*◌, ◌/◌, ◌<◌, ◌≤◌, ◌∙◌, ℕ, ap, drop, length, refl, sym, take, arith, rules}
use Rattle.std.proofs.lemmas.List.{length-drop, length-take, take_all}
use Rattle.fdp_image.specs.Replacing.{pages_for}
use Rattle.fdp_snapshot.specs.Checkpoint.{checkpoint_of}
use Rattle.fdp_snapshot.specs.Fixed.{fixed_of}
use Rattle.fdp_snapshot.proofs.RoundTrip.{written_long}
use Rattle.fdp_checkpoint.specs.Writing.{with_pages}
use Rattle.fdp_checkpoint.proofs.Frozen.{page_put, page_within, room_for}
use Rattle.fdp_checkpoint.proofs.SealedAnew.{pages_enough}
use Rattle.fdp_checkpoint.proofs.Steps.{block_some, fixed_size_is, put_by}
use Rattle.fdp_checkpoint.proofs.freezing.freeze.Goals as goal

pub loop-number-preserved : goal.loop-number-preserved
loop-number-preserved c =
    let inv = c.loop-number.invariant in
    let block = c.args.geometry.now.block in
    let s = with_pages c.args.summary.now c.args.pages.now in
    let n = pages_for block c.args.summary.now in
    let i = c.loop-number.number in
    let some = block_some c.args.geometry.now c.requires.valid in
    let many : length c.args.room.now / block ≡ n = room_for n block (length c.args.room.now) some c.requires.room in
    let below : i < n = omega (arith, c.loop-number-test.true, many) in
    let inside : i * block + block ≤ length c.loop-number.room = page_within n block i (length c.loop-number.room) below (inv.size ∙ c.requires.room) in
    let long : length c.put_page.new.into ≡ block = search rules in
    let start = i * block in
    let cut : length (take (start + block - start) (drop start c.loop-number.room)) ≡ block = omega (arith, length-take (start + block - start) (drop start c.loop-number.room), length-drop start c.loop-number.room, inside) in
    let fixed : c.as_slice.result.now ≡ fixed_of 1 c.args.summary.now = search rules in
    let page =
    put_by c.as_slice.result.now s c.args.pages.now _ i n block c.put_page.new.into refl cut fixed (fixed_size_is c.as_slice.result.now s c.requires.state c.put_fixed.ensures.fit fixed) c.requires.state below (pages_enough block c.args.summary.now some) c.put_page.ensures in
    let put = page_put i block c.loop-number.room c.put_page.new.into (checkpoint_of 1 (n * block) s) inside long page inv.so_far in
    record { size = put.size ∙ inv.size; so_far = put.so_far }

pub returns : goal.returns
returns c =
    let inv = c.loop-number.invariant in
    let block = c.args.geometry.now.block in
    let s = with_pages c.args.summary.now c.args.pages.now in
    let n = pages_for block c.args.summary.now in
    let i = c.loop-number.number in
    let some = block_some c.args.geometry.now c.requires.valid in
    let many : length c.args.room.now / block ≡ n = room_for n block (length c.args.room.now) some c.requires.room in
    let end : i ≡ n = omega (arith, c.loop-number-test.false, c.loop-number.auto.number-end, many) in
    let all : i * block ≡ n * block = ap (λ (k : ℕ). k * block) end in
    let whole = checkpoint_of 1 (n * block) s in
    let long = written_long 1 (n * block) s c.requires.state c.put_fixed.ensures.fit (pages_enough block c.args.summary.now some) in
    record {
      state = c.requires.state;
      fits = c.put_fixed.ensures.fit;
      is = sym (take_all (i * block) c.loop-number.room (omega (arith, inv.size, c.requires.room, all))) ∙ inv.so_far ∙ take_all (i * block) whole (omega (arith, long, all));
    }
