use Rattle.std.proofs.Common.{◌≡◌, ◌+◌, ◌-◌, ◌*◌, ◌++◌, List, ℕ, ap, sym, ◌∙◌, subst, length}
use Rattle.std.proofs.lemmas.List.{length-replicate}
use borrow.Rule.Slice.PartMut.{put_mid}
use Rattle.fdp_base.specs.declared.config.DriveConfig.{DriveConfig}
use Rattle.fdp_rules.specs.Answer.{read_block}
use Rattle.fdp_relocation.specs.fdp_book.Book.{state_in}
use Rattle.fdp_calls.specs.Calls.{MakesCalls}
use Rattle.fdp_core.specs.Fetches.{FailsToFetch, fetches_of, pages_of}
use Rattle.fdp_core.specs.ReadSteps.{blocks_from}
use Rattle.fdp_core.proofs.Reading.{IsFilled, all-left, at-error, blocks_from-more, blocks_from-none, fetches-cut, fetches-more, fetches-none, filled-next, none-filled, read-joined, read-none, zeros-as}
use Rattle.fdp_core.proofs.group.read.read_blocks.Goals as goal

pub loop-index-init : goal.loop-index-init
loop-index-init g c =
    let k = c.args.book.now.config.block in
    record {
      block = ap (λ (x : DriveConfig). x.block) c.config.ensures.config;
      read = read-none (g.F.Flash.state c.args.flash.now);
      made = fetches-none (g.F.Flash.state c.args.flash.now) c.args.book.now c.args.read.nsid c.args.read.slba;
      size = ap length c.requires.zeros ∙ length-replicate (c.args.read.count * k) 0;
      done = λ _. none-filled k c.args.into.now ∙ blocks_from-none c.args.book.now c.args.read.nsid c.args.read.slba;
      rest = all-left c.args.read.count k c.args.into.now c.requires.zeros;
    }

pub read_block-requires-clause-zeros : goal.read_block-requires-clause-zeros
read_block-requires-clause-zeros g c =
    zeros-as c.args.read.count c.loop-index.index c.args.book.now.config.block c.config.result.now.block c.loop-index.into c.loop-index.invariant.block c.loop-index-test.true c.loop-index.invariant.rest

pub loop-index-preserved : goal.loop-index-preserved
loop-index-preserved g c =
    let before = c.loop-index.invariant in
    let now = c.in_ok-read_block.ensures in
    let i = c.loop-index.index in
    let block = c.args.book.now.config.block in
    let one : length c.read_block.new.into ≡ block = now.size ∙ ap length (zeros-as c.args.read.count i block c.config.result.now.block c.loop-index.into before.block c.loop-index-test.true before.rest) ∙ length-replicate block 0 in
    let filled = subst (λ k. IsFilled c.args.read.count i block c.loop-index.into c.read_block.new.into (put_mid (i * k) (i * k + k - i * k) c.loop-index.into c.read_block.new.into)) (sym before.block)
    (filled-next c.args.read.count i block c.loop-index.into c.read_block.new.into c.loop-index-test.true before.size one before.rest) in
    record {
      block = before.block;
      read = read-joined (g.F.Flash.state c.args.flash.now) (g.F.Flash.state c.loop-index.flash) (g.F.Flash.state c.read_block.new.flash) before.read now.read;
      made = fetches-more (g.F.Flash.state c.args.flash.now) (g.F.Flash.state c.loop-index.flash) (g.F.Flash.state c.read_block.new.flash) c.args.book.now c.args.read.nsid c.args.read.slba i before.made
          (subst (λ n. MakesCalls (g.F.Flash.state c.loop-index.flash) (g.F.Flash.state c.read_block.new.flash) (fetches_of (pages_of c.args.book.now c.args.read.nsid (c.args.read.slba + n) 1))) c.from.ensures now.called);
      size = filled.size ∙ before.size;
      done = λ tells. filled.done ∙ ap (λ (xs : List ℕ). xs ++ c.read_block.new.into) (before.done tells)
          ∙ ap (λ (xs : List ℕ). blocks_from c.args.book.now c.args.read.nsid c.args.read.slba i ++ xs) (now.block (before.read.kept.told ∙ tells))
          ∙ ap (λ n. blocks_from c.args.book.now c.args.read.nsid c.args.read.slba i ++ read_block c.args.book.now.config (state_in c.args.book.now) c.args.read.nsid (c.args.read.slba + n)) c.from.ensures
          ∙ sym (blocks_from-more c.args.book.now c.args.read.nsid c.args.read.slba i);
      rest = filled.rest;
    }

pub returns-in_err-read_block-clause-failed : goal.returns-in_err-read_block-clause-failed
returns-in_err-read_block-clause-failed g c =
    at-error c.from_residual.result _ (fetches-cut (g.F.Flash.state c.args.flash.now) (g.F.Flash.state c.loop-index.flash) (g.F.Flash.state c.read_block.new.flash) c.args.book.now c.args.read c.loop-index.index c.loop-index-test.true c.loop-index.invariant.made
    (subst (λ n. FailsToFetch (g.F.Flash.state c.loop-index.flash) (g.F.Flash.state c.read_block.new.flash) c.args.book.now c.args.read.nsid (c.args.read.slba + n)) c.from.ensures c.in_err-read_block.ensures.failed))

pub returns-in_err-read_block-clause-read : goal.returns-in_err-read_block-clause-read
returns-in_err-read_block-clause-read g c =
    read-joined (g.F.Flash.state c.args.flash.now) (g.F.Flash.state c.loop-index.flash) (g.F.Flash.state c.read_block.new.flash) c.loop-index.invariant.read c.in_err-read_block.ensures.read
