use Rattle.std.proofs.Common.{◌≡◌, ◌+◌, ◌++◌, List, ℕ, arith, length, subst}
use Rattle.std.proofs.lemmas.List.{take_all, take_more}
use Rattle.fdp_book.specs.Answering.{IsFilled}
use Rattle.fdp_book.proofs.Answering.{put-next, put-none}
use Rattle.fdp_book.proofs.book.answering.put.Goals as goal

pub loop-index-init : goal.loop-index-init
loop-index-init c = put-none c.args.into.now c.args.at c.args.frame.now

pub loop-index-preserved : goal.loop-index-preserved
loop-index-preserved c =
    put-next c.args.into.now c.loop-index.into c.put_byte.new.into c.args.at c.loop-index.index _ c.args.frame.now (take_more c.args.frame.now c.loop-index.index _ c.loop-index-test.true) c.put_byte.ensures c.loop-index.invariant

pub returns-clause-bytes : goal.returns-clause-bytes
returns-clause-bytes c = λ bytes h.
    let all : c.loop-index.index ≡ length c.args.frame.now = omega (arith, c.loop-index.auto.index-end, c.loop-index-test.false) in
    subst (λ (n : ℕ). IsFilled c.loop-index.into (c.args.at + n) (bytes ++ c.args.frame.now)) all
    (subst (λ (xs : List ℕ). IsFilled c.loop-index.into (c.args.at + c.loop-index.index) (bytes ++ xs)) (take_all c.loop-index.index c.args.frame.now (omega (arith, all))) (c.loop-index.invariant.bytes bytes h))
