use Rattle.std.proofs.Common.{◌∙◌, ◌+◌, subst, sym}
use Rattle.fdp_image.specs.Checkpoint.{reading_of_state}
use Rattle.fdp_recovery.specs.Walking.{AreMarks}
use Rattle.fdp_recovery.proofs.Kept.{first-here, kept-here, marks-more, page-within, unkept-again}
use Rattle.fdp_recovery.proofs.Marking.{one_marked}
use Rattle.fdp_recovery.proofs.blocks.check_entry.Goals as goal

pub returns-then-not-mark-clause-told : goal.returns-then-not-mark-clause-told
returns-then-not-mark-clause-told g c told before =
    let r = reading_of_state c.args.state.now in
    let a = g.F.Flash.state c.args.flash.now in
    let again = unkept-again c.args.config.now a.cells r c.args.nsid c.args.lba c.in-Some.number c.args.marks.now c.requires.marks before (c.mark.ensures.again c.if-not-mark.true) in
    first-here c.args.config.now a.cells r c.args.nsid c.args.lba c.in-Some.number before (c.requires.entry ∙ c.in-Some.is) again

pub is_kept-requires-clause-number : goal.is_kept-requires-clause-number
is_kept-requires-clause-number g c =
    page-within c.args.config.now (reading_of_state c.args.state.now) c.args.nsid c.args.lba c.in-Some.number c.args.marks.now c.requires.marks (c.mark.ensures.first c.if-not-mark.false)

pub returns-in-Ok-true-clause-looks : goal.returns-in-Ok-true-clause-looks
returns-in-Ok-true-clause-looks g c =
    one_marked c.args.marks.now c.mark.new.marks c.in-Some.number _ _ (c.mark.ensures.first c.if-not-mark.false) (c.mark.ensures.marked c.if-not-mark.false) c.in-Ok-true.ensures.looks

pub returns-in-Ok-true-clause-told : goal.returns-in-Ok-true-clause-told
returns-in-Ok-true-clause-told g c told before =
    let r = reading_of_state c.args.state.now in
    let a = g.F.Flash.state c.args.flash.now in
    kept-here c.args.config.now a.cells r c.args.nsid c.args.lba c.in-Some.number before (c.requires.entry ∙ c.in-Some.is) (sym (c.in-Ok-true.ensures.told told) ∙ c.in-Ok-true.field-0-test)

pub returns-in-Ok-true-clause-marks : goal.returns-in-Ok-true-clause-marks
returns-in-Ok-true-clause-marks g c none =
    let r = reading_of_state c.args.state.now in
    subst (AreMarks c.args.config.now r c.args.nsid (c.args.lba + 1)) (sym (c.mark.ensures.marked c.if-not-mark.false))
    (marks-more c.args.config.now r c.args.nsid c.args.lba c.in-Some.number c.args.marks.now (c.requires.entry ∙ c.in-Some.is) (c.mark.ensures.first c.if-not-mark.false) c.requires.marks)

pub returns-in-Ok-false-clause-looks : goal.returns-in-Ok-false-clause-looks
returns-in-Ok-false-clause-looks g c =
    one_marked c.args.marks.now c.mark.new.marks c.in-Some.number _ _ (c.mark.ensures.first c.if-not-mark.false) (c.mark.ensures.marked c.if-not-mark.false) c.in-Ok-false.ensures.looks

pub returns-in-Ok-false-clause-told : goal.returns-in-Ok-false-clause-told
returns-in-Ok-false-clause-told g c told before =
    let r = reading_of_state c.args.state.now in
    let a = g.F.Flash.state c.args.flash.now in
    first-here c.args.config.now a.cells r c.args.nsid c.args.lba c.in-Some.number before (c.requires.entry ∙ c.in-Some.is) (sym (c.in-Ok-false.ensures.told told) ∙ c.in-Ok-false.field-0-test)

pub returns-in-Err-clause-looks : goal.returns-in-Err-clause-looks
returns-in-Err-clause-looks g c =
    one_marked c.args.marks.now c.mark.new.marks c.in-Some.number _ _ (c.mark.ensures.first c.if-not-mark.false) (c.mark.ensures.marked c.if-not-mark.false) c.in-Err.ensures.looks
