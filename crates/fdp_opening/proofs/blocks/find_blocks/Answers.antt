use Rattle.std.proofs.Common.{List, ap, arith, subst, ℕ, ◌-◌, ◌∙◌, ◌≡◌}
use Rattle.fdp_base.proofs.Sums.{sum_from}
use Rattle.fdp_flash.specs.declared.cell.Cell.{Cell}
use Rattle.fdp_flash.proofs.OnlyReads.{before_reads, reads_fewer, reads_joined}
use Rattle.fdp_image.specs.Checkpoint.{reading_of_state}
use Rattle.fdp_recovery.specs.fdp_state.Parts.{listed}
use Rattle.fdp_opening.specs.Walking.{AreFoundBefore}
use Rattle.fdp_opening.proofs.Looking.{all-listed, listed-more, listed-most}
use Rattle.fdp_opening.specs.Found.{IsFirstAstray}
use Rattle.fdp_opening.proofs.blocks.find_blocks.Goals as goal

pub returns-in-Err-clause-looks : goal.returns-in-Err-clause-looks
returns-in-Err-clause-looks g c =
    let lists = c.args.state.now.pages in
    let more = listed-more lists c.loop-nsid.nsid (omega arith) in
    let most = listed-most lists c.loop-nsid.nsid (omega (arith, c.loop-nsid-test.true)) in
    reads_fewer _ _ _ _ (omega (arith, more, most, all-listed c.args.state.now c.requires.state)) (reads_joined _ _ _ _ _ c.loop-nsid.invariant.looks c.in-Err.ensures.looks)

pub loop-nsid-preserved : goal.loop-nsid-preserved
loop-nsid-preserved g c = record {
  looks = reads_fewer _ _ _ _ (omega (arith, listed-more c.args.state.now.pages c.loop-nsid.nsid (omega arith))) (reads_joined _ _ _ _ _ c.loop-nsid.invariant.looks c.in-Ok.ensures.looks);
  faultless = c.in-Ok.ensures.ends ∙ c.loop-nsid.invariant.faultless;
  found = c.in-Ok.ensures.found;
}

pub returns-clause-looks : goal.returns-clause-looks
returns-clause-looks g c =
    let lists = c.args.state.now.pages in
    let last : c.loop-nsid.nsid ≡ 17 = omega (arith, c.loop-nsid-test.false, c.loop-nsid.auto.nsid-end) in
    let sum : sum_from (listed lists) 1 (c.loop-nsid.nsid - 1) ≡ sum_from (listed lists) 1 16 = ap (λ (k : ℕ). sum_from (listed lists) 1 (k - 1)) last in
    reads_fewer _ _ _ _ (omega (arith, sum, all-listed c.args.state.now c.requires.state)) c.loop-nsid.invariant.looks

pub returns-clause-found : goal.returns-clause-found
returns-clause-found g c =
    let last : c.loop-nsid.nsid ≡ 17 = omega (arith, c.loop-nsid-test.false, c.loop-nsid.auto.nsid-end) in
    subst (λ (k : ℕ). AreFoundBefore c.args.config.now (reading_of_state c.args.state.now) (g.F.Flash.state c.loop-nsid.flash) k 0 c.loop-nsid.pages) last c.loop-nsid.invariant.found

pub returns-in-Err-clause-bad : goal.returns-in-Err-clause-bad
returns-in-Err-clause-bad g c page same told =
    before_reads _ _ _ (λ (cells : List Cell). IsFirstAstray c.args.config.now cells (reading_of_state c.args.state.now) page) c.loop-nsid.invariant.looks (c.in-Err.ensures.bad page same) told
