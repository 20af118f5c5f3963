use Rattle.std.proofs.Common.{◌∙◌, ◌+◌, List, Ok, ap, arith, refl, sym, subst}
use Rattle.fdp_base.specs.declared.config.Geometry.{Geometry}
use Rattle.fdp_flash.specs.declared.cell.Cell.{Cell}
use Rattle.fdp_image.specs.Checkpoint.{reading_of_state}
use Rattle.fdp_recovery.specs.Walking.{AreKeptBefore, TellsUpTo}
use Rattle.fdp_recovery.proofs.Ends.{told_before}
use Rattle.fdp_recovery.proofs.Kept.{entry_is, kept-row, marks-row, past_list, rows_of}
use Rattle.fdp_recovery.proofs.Marking.{looks_marked, looks_of, no_look_marked}
use Rattle.fdp_recovery.proofs.blocks.find_unkept_in.Goals as goal

pub check_entry-requires-clause-entry : goal.check_entry-requires-clause-entry
check_entry-requires-clause-entry g c =
    entry_is c.args.state.now c.args.nsid c.loop-lba.lba c.list_at-list.result.now (rows_of c.args.state.now c.args.nsid c.as_slice.result.now c.list_at-list.result.now c.list_at-list.ensures.rows c.as_slice.ensures c.loop-lba.lba)
    ∙ sym c.entry_at-entry.ensures

pub returns-in-Ok-Some-clause-looks : goal.returns-in-Ok-Some-clause-looks
returns-in-Ok-Some-clause-looks g c = looks_marked _ _ _ _ _ _ c.loop-lba.invariant.looks c.in-Ok-Some.ensures.looks

pub returns-in-Err-clause-looks : goal.returns-in-Err-clause-looks
returns-in-Err-clause-looks g c = looks_marked _ _ _ _ _ _ c.loop-lba.invariant.looks c.in-Err.ensures.looks

pub returns-in-Ok-Some-clause-told : goal.returns-in-Ok-Some-clause-told
returns-in-Ok-Some-clause-told g c told before =
    let a = g.F.Flash.state c.args.flash.now in
    let b = g.F.Flash.state c.loop-lba.flash in
    let r = reading_of_state c.args.state.now in
    let Fact : Geometry → List Cell → Type 0 = λ (x : Geometry) (cells : List Cell).
    AreKeptBefore c.args.config.now cells r c.args.nsid c.loop-lba.lba → TellsUpTo c.args.config.now cells r c.args.nsid (c.loop-lba.lba + 1) c.in-Ok-Some.field-0 in
    let first = told_before a b Fact (looks_of _ _ a b c.loop-lba.invariant.looks) c.in-Ok-Some.ensures.told told (c.loop-lba.invariant.kept told before) in
    subst (TellsUpTo c.args.config.now a.cells r c.args.nsid (c.loop-lba.lba + 1)) c.in-Ok-Some.field-0-is first

pub loop-lba-init : goal.loop-lba-init
loop-lba-init g c = record { looks = no_look_marked _ _; faultless = refl; marks = c.requires.marks; kept = λ told before. before }

pub loop-lba-preserved : goal.loop-lba-preserved
loop-lba-preserved g c =
    let a = g.F.Flash.state c.args.flash.now in
    let b = g.F.Flash.state c.loop-lba.flash in
    let r = reading_of_state c.args.state.now in
    let Fact : Geometry → List Cell → Type 0 = λ (x : Geometry) (cells : List Cell).
    AreKeptBefore c.args.config.now cells r c.args.nsid c.loop-lba.lba → TellsUpTo c.args.config.now cells r c.args.nsid (c.loop-lba.lba + 1) c.in-Ok-None.field-0 in
    record {
      looks = looks_marked _ _ _ _ _ _ c.loop-lba.invariant.looks c.in-Ok-None.ensures.looks;
      faultless = c.in-Ok-None.ensures.ends ∙ c.loop-lba.invariant.faultless;
      marks = c.in-Ok-None.ensures.marks (ap Ok c.in-Ok-None.field-0-is);
      kept = λ told before.
          let first = told_before a b Fact (looks_of _ _ a b c.loop-lba.invariant.looks) c.in-Ok-None.ensures.told told (c.loop-lba.invariant.kept told before) in
          subst (TellsUpTo c.args.config.now a.cells r c.args.nsid (c.loop-lba.lba + 1)) c.in-Ok-None.field-0-is first;
    }

pub returns-clause-told : goal.returns-clause-told
returns-clause-told g c told before =
    let a = g.F.Flash.state c.args.flash.now in
    let r = reading_of_state c.args.state.now in
    let none = past_list c.args.state.now c.args.nsid c.loop-lba.lba c.list_at-list.result.now (rows_of c.args.state.now c.args.nsid c.as_slice.result.now c.list_at-list.result.now c.list_at-list.ensures.rows c.as_slice.ensures) (omega arith) in
    kept-row c.args.config.now a.cells r c.args.nsid c.loop-lba.lba none (c.loop-lba.invariant.kept told before)

pub returns-clause-marks : goal.returns-clause-marks
returns-clause-marks g c done =
    let r = reading_of_state c.args.state.now in
    let none = past_list c.args.state.now c.args.nsid c.loop-lba.lba c.list_at-list.result.now (rows_of c.args.state.now c.args.nsid c.as_slice.result.now c.list_at-list.result.now c.list_at-list.ensures.rows c.as_slice.ensures) (omega arith) in
    marks-row c.args.config.now r c.args.nsid c.loop-lba.lba c.loop-lba.marks none c.loop-lba.invariant.marks
