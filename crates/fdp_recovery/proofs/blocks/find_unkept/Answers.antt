use Rattle.std.proofs.Common.{◌∙◌, ◌+◌, List, Ok, ap, arith, refl, subst}
use Rattle.fdp_base.specs.declared.config.Geometry.{Geometry}
use Rattle.fdp_flash.specs.declared.cell.Cell.{Cell}
use Rattle.fdp_image.specs.Areas.{data_pages}
use Rattle.fdp_base.specs.Placement.{geometry_of}
use Rattle.fdp_image.specs.Checkpoint.{reading_of_state}
use Rattle.fdp_recovery.specs.Walking.{AreKeptBefore, TellsUpTo}
use Rattle.fdp_recovery.proofs.Ends.{told_before}
use Rattle.fdp_recovery.proofs.Kept.{kept-all, kept-first, marks-all, marks-first}
use Rattle.fdp_recovery.proofs.Marking.{looks_marked, looks_of, looks_within, no_look_marked}
use Rattle.fdp_recovery.proofs.blocks.find_unkept.Goals as goal

pub loop-nsid-init : goal.loop-nsid-init
loop-nsid-init g c = record {
  looks = no_look_marked _ _;
  faultless = refl;
  marks = marks-first c.args.config.now c.args.state.now c.args.marks.now c.requires.marks;
  kept = λ told. kept-first c.args.config.now (g.F.Flash.state c.args.flash.now).cells c.args.state.now;
}

pub loop-nsid-preserved : goal.loop-nsid-preserved
loop-nsid-preserved g c =
    let a = g.F.Flash.state c.args.flash.now in
    let b = g.F.Flash.state c.loop-nsid.flash in
    let r = reading_of_state c.args.state.now in
    let Fact : Geometry → List Cell → Type 0 = λ (x : Geometry) (cells : List Cell).
    AreKeptBefore c.args.config.now cells r c.loop-nsid.nsid 0 → TellsUpTo c.args.config.now cells r (c.loop-nsid.nsid + 1) 0 c.in-Ok-None.field-0 in
    record {
      looks = looks_marked _ _ _ _ _ _ c.loop-nsid.invariant.looks c.in-Ok-None.ensures.looks;
      faultless = c.in-Ok-None.ensures.ends ∙ c.loop-nsid.invariant.faultless;
      marks = c.in-Ok-None.ensures.marks (ap Ok c.in-Ok-None.field-0-is);
      kept = λ told.
          let first = told_before a b Fact (looks_of _ _ a b c.loop-nsid.invariant.looks) c.in-Ok-None.ensures.told told (c.loop-nsid.invariant.kept told) in
          subst (TellsUpTo c.args.config.now a.cells r (c.loop-nsid.nsid + 1) 0) c.in-Ok-None.field-0-is first;
    }

pub returns-in-Ok-Some-clause-looks : goal.returns-in-Ok-Some-clause-looks
returns-in-Ok-Some-clause-looks g c =
    looks_within (data_pages (geometry_of c.args.config.now)) c.args.marks.now c.find_unkept_in.new.marks _ _ c.requires.marks (c.find_unkept_in.auto.marks ∙ c.loop-nsid.auto.marks)
    (looks_marked _ _ _ _ _ _ c.loop-nsid.invariant.looks c.in-Ok-Some.ensures.looks)

pub returns-in-Ok-Some-clause-told : goal.returns-in-Ok-Some-clause-told
returns-in-Ok-Some-clause-told g c told =
    let a = g.F.Flash.state c.args.flash.now in
    let b = g.F.Flash.state c.loop-nsid.flash in
    let r = reading_of_state c.args.state.now in
    let Fact : Geometry → List Cell → Type 0 = λ (x : Geometry) (cells : List Cell).
    AreKeptBefore c.args.config.now cells r c.loop-nsid.nsid 0 → TellsUpTo c.args.config.now cells r (c.loop-nsid.nsid + 1) 0 c.in-Ok-Some.field-0 in
    let first = told_before a b Fact (looks_of _ _ a b c.loop-nsid.invariant.looks) c.in-Ok-Some.ensures.told told (c.loop-nsid.invariant.kept told) in
    subst (TellsUpTo c.args.config.now a.cells r (c.loop-nsid.nsid + 1) 0) c.in-Ok-Some.field-0-is first

pub returns-in-Err-clause-looks : goal.returns-in-Err-clause-looks
returns-in-Err-clause-looks g c =
    looks_within (data_pages (geometry_of c.args.config.now)) c.args.marks.now c.find_unkept_in.new.marks _ _ c.requires.marks (c.find_unkept_in.auto.marks ∙ c.loop-nsid.auto.marks)
    (looks_marked _ _ _ _ _ _ c.loop-nsid.invariant.looks c.in-Err.ensures.looks)

pub returns-clause-looks : goal.returns-clause-looks
returns-clause-looks g c =
    looks_within (data_pages (geometry_of c.args.config.now)) c.args.marks.now c.loop-nsid.marks _ _ c.requires.marks c.loop-nsid.auto.marks c.loop-nsid.invariant.looks

pub returns-clause-told : goal.returns-clause-told
returns-clause-told g c told = kept-all c.args.config.now (g.F.Flash.state c.args.flash.now).cells c.args.state.now c.loop-nsid.nsid (omega arith) (c.loop-nsid.invariant.kept told)

pub returns-clause-apart : goal.returns-clause-apart
returns-clause-apart g c done = marks-all c.args.config.now c.args.state.now c.loop-nsid.nsid c.loop-nsid.marks (omega arith) c.loop-nsid.invariant.marks
