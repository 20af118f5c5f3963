use Rattle.std.proofs.Common.{◌≡◌, ℕ, ◌+◌, ◌*◌, ◌≤◌, ◌++◌, ◌∙◌, arith, ap, sym, drop, length, take}
use Rattle.std.proofs.lemmas.List.{take_all}
use Rattle.fdp_snapshot.specs.Checkpoint.{page_list_bytes}
use Rattle.fdp_snapshot.specs.Rows.{zeros}
use Rattle.fdp_snapshot.proofs.Words.{four_words, put_next, put_size, word_place}
use Rattle.fdp_snapshot.proofs.content.put_page.Goals as goal

pub loop-i-preserved : goal.loop-i-preserved
loop-i-preserved c =
    let i = c.loop-i.i in
    let size = length c.args.into.now in
    let four : length c.word_at-word.result ≡ 4 = omega (arith, c.word_at-word.type_inv) in
    let room : 4 * i + 4 ≤ size = omega (arith, c.loop-i-test.true, four_words size c.requires.block, c.loop-i.invariant.size) in
    record {
      size = put_size i size c.word_at-word.result c.loop-i.into c.put.new.into c.loop-i.invariant.size room four c.put.ensures;
      so_far = λ rest long.
          let whole = c.args.fixed.now ++ page_list_bytes c.args.pages.now ++ zeros rest in
          let place = word_place c.args.number size i c.requires.block in
          let next : (c.args.number + 1) * size ≡ c.args.number * size + size = omega arith in
          put_next i (c.args.number * size) size c.word_at-word.result c.loop-i.into c.put.new.into whole c.loop-i.invariant.size room four
          (c.word_at-word.ensures rest (omega (arith, place, next, room, long)) ∙ ap (λ (k : ℕ). take 4 (drop k whole)) place) (c.loop-i.invariant.so_far rest long) c.put.ensures;
    }

pub returns : goal.returns
returns c rest long =
    let i = c.loop-i.i in
    let size = length c.args.into.now in
    let whole = c.args.fixed.now ++ page_list_bytes c.args.pages.now ++ zeros rest in
    let end : 4 * i ≡ size = omega (arith, c.loop-i-test.false, c.loop-i.auto.i-end, four_words size c.requires.block) in
    sym (take_all size c.loop-i.into (omega (arith, c.loop-i.invariant.size))) ∙ ap (λ (k : ℕ). take k c.loop-i.into) (sym end) ∙ c.loop-i.invariant.so_far rest long
    ∙ ap (λ (k : ℕ). take k (drop (c.args.number * size) whole)) end
