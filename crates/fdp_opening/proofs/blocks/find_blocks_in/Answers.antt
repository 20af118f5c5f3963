use Rattle.std.proofs.Common.{List, None, Option, ap, arith, length, ℕ, ◌∙◌, ◌≡◌}
use Rattle.std.specs.Option.{option_and_then}
use Rattle.std.specs.Option.{option_and_then}
use Rattle.std.proofs.lemmas.Option.{slice_get-get_or}
use Rattle.fdp_flash.specs.declared.cell.Cell.{Cell}
use Rattle.fdp_flash.proofs.OnlyReads.{before_reads, reads_fewer, reads_joined}
use Rattle.fdp_image.specs.Checkpoint.{reading_of_state}
use Rattle.fdp_recovery.proofs.Kept.{entry_is, past_list, rows_of}
use Rattle.fdp_recovery.specs.fdp_state.Parts.{listed}
use Rattle.fdp_opening.proofs.Owning.{found-row}
use Rattle.fdp_opening.specs.Found.{IsFirstAstray}
use Rattle.fdp_opening.proofs.blocks.find_blocks_in.Goals as goal

pub find_entry-requires-clause-entry : goal.find_entry-requires-clause-entry
find_entry-requires-clause-entry g c =
    let list = c.list_at-list.result.now in
    let rows = rows_of c.args.state.now c.args.nsid c.as_slice.result.now list c.list_at-list.ensures.rows c.as_slice.ensures c.loop-lba.lba in
    entry_is c.args.state.now c.args.nsid c.loop-lba.lba list rows ∙ ap (option_and_then (λ (x : Option ℕ). x)) (slice_get-get_or list c.loop-lba.lba None c.loop-lba-test.true)

pub returns-in-Err-clause-looks : goal.returns-in-Err-clause-looks
returns-in-Err-clause-looks g c =
    let size : length c.list_at-list.result.now ≡ listed c.args.state.now.pages c.args.nsid = c.list_at-list.ensures.size ∙ ap (λ (xs : List (List (Option ℕ))). listed xs c.args.nsid) c.as_slice.ensures in
    reads_fewer _ _ _ _ (omega (arith, size, c.loop-lba-test.true)) (reads_joined _ _ _ _ _ c.loop-lba.invariant.looks c.in-Err.ensures.looks)

pub loop-lba-preserved : goal.loop-lba-preserved
loop-lba-preserved g c = record {
  looks = reads_joined _ _ _ _ _ c.loop-lba.invariant.looks c.in-Ok.ensures.looks;
  faultless = c.in-Ok.ensures.ends ∙ c.loop-lba.invariant.faultless;
  found = c.in-Ok.ensures.found;
}

pub returns-clause-found : goal.returns-clause-found
returns-clause-found g c =
    let none = past_list c.args.state.now c.args.nsid c.loop-lba.lba c.list_at-list.result.now (rows_of c.args.state.now c.args.nsid c.as_slice.result.now c.list_at-list.result.now c.list_at-list.ensures.rows c.as_slice.ensures) (omega (arith, c.loop-lba-test.false)) in
    found-row c.args.config.now (reading_of_state c.args.state.now) (g.F.Flash.state c.loop-lba.flash) c.args.nsid c.loop-lba.lba c.loop-lba.pages none c.loop-lba.invariant.found

pub returns-in-Err-clause-bad : goal.returns-in-Err-clause-bad
returns-in-Err-clause-bad g c page same told =
    before_reads _ _ _ (λ (cells : List Cell). IsFirstAstray c.args.config.now cells (reading_of_state c.args.state.now) page) c.loop-lba.invariant.looks (c.in-Err.ensures.bad page same) told
