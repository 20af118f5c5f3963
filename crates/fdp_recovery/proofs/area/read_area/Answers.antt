use Rattle.std.proofs.Common.{◌≡◌, List, Some, arith, length}
use Rattle.std.proofs.lemmas.Grind.{common_steps}
use Rattle.std.specs.Prelude.{IfOk}
use Rattle.fdp_checkpoint.specs.fdp_areas.Seals.{IsCurrentSeal, LiesIn}
use Rattle.fdp_base.specs.declared.config.Geometry.{Geometry}
use Rattle.fdp_base.specs.Geometry.{area_pages}
use Rattle.fdp_flash.specs.declared.cell.Cell.{Cell}
use Rattle.fdp_flash.specs.OnlyReads.{ReadsOnly}
use Rattle.fdp_flash.proofs.OnlyReads.{reads_joined}
use Rattle.fdp_image.specs.Areas.{Sealed, current_area}
use Rattle.fdp_recovery.specs.Reading.{SaysState, TellsArea}
use Rattle.fdp_recovery.specs.Ready.{IsReady}
use Rattle.fdp_recovery.proofs.Ends.{cut_after, cut_before, ends_behind, looked, told_after, told_before}
use Rattle.fdp_recovery.proofs.Passing.{fault_of_area}
use Rattle.fdp_recovery.proofs.area.read_area.Goals as goal

pub read_journal-requires-clause-inside : goal.read_journal-requires-clause-inside
read_journal-requires-clause-inside g c =
    cut_after (g.F.Flash.state c.args.flash.now) (g.F.Flash.state c.read_checkpoint.new.flash) (λ (x : Geometry). LiesIn x c.args.current.now) (looked _ _ _ c.in-Ok.ensures.looks) c.requires.inside

pub read_journal-requires-clause-room : goal.read_journal-requires-clause-room
read_journal-requires-clause-room g c =
    cut_after (g.F.Flash.state c.args.flash.now) (g.F.Flash.state c.read_checkpoint.new.flash) (λ (x : Geometry). length c.read_checkpoint.new.page ≡ x.block) (looked _ _ _ c.in-Ok.ensures.looks) (grind (arith, common_steps))

pub read_journal-requires-clause-current : goal.read_journal-requires-clause-current
read_journal-requires-clause-current g c =
    told_after (g.F.Flash.state c.args.flash.now) (g.F.Flash.state c.read_checkpoint.new.flash) (λ (x : Geometry) (cells : List Cell). IsCurrentSeal x cells c.args.current.now) (looked _ _ _ c.in-Ok.ensures.looks) c.requires.current

pub read_journal-requires-clause-ready : goal.read_journal-requires-clause-ready
read_journal-requires-clause-ready g c =
    cut_after (g.F.Flash.state c.args.flash.now) (g.F.Flash.state c.read_checkpoint.new.flash) (λ (x : Geometry). IsReady c.args.config.now x c.in-Ok.state) (looked _ _ _ c.in-Ok.ensures.looks) c.in-Ok.ensures.ready

pub read_journal-requires-clause-says : goal.read_journal-requires-clause-says
read_journal-requires-clause-says g c =
    told_after (g.F.Flash.state c.args.flash.now) (g.F.Flash.state c.read_checkpoint.new.flash)
    (λ (x : Geometry) (cells : List Cell). (z : Sealed) → current_area x cells ≡ Some (c.args.current.now.area, z) → SaysState c.args.config.now x z c.in-Ok.state) (looked _ _ _ c.in-Ok.ensures.looks) c.in-Ok.ensures.told

pub returns-in-Ok-clause-looks : goal.returns-in-Ok-clause-looks
returns-in-Ok-clause-looks g c =
    let s = g.F.Flash.state c.args.flash.now in
    let b = g.F.Flash.state c.read_checkpoint.new.flash in
    let pages = cut_before s b (λ (x : Geometry). ReadsOnly (area_pages x) b (g.F.Flash.state c.read_journal.new.flash)) (looked _ _ _ c.in-Ok.ensures.looks) c.read_journal.ensures.looks in
    reads_joined _ _ s b _ c.in-Ok.ensures.looks pages

pub returns-in-Ok-clause-told : goal.returns-in-Ok-clause-told
returns-in-Ok-clause-told g c =
    told_before (g.F.Flash.state c.args.flash.now) (g.F.Flash.state c.read_checkpoint.new.flash)
    (λ (x : Geometry) (cells : List Cell). (z : Sealed) → current_area x cells ≡ Some (c.args.current.now.area, z) → TellsArea c.args.config.now x c.args.current.now.area z c.read_journal.result) (looked _ _ _ c.in-Ok.ensures.looks) c.read_journal.ensures.told

pub returns-in-Ok-clause-ends : goal.returns-in-Ok-clause-ends
returns-in-Ok-clause-ends g c = ends_behind _ _ _ c.read_journal.result (looked _ _ _ c.in-Ok.ensures.looks) c.in-Ok.ensures.ends c.read_journal.ensures.ends

pub returns-in-Ok-clause-ready : goal.returns-in-Ok-clause-ready
returns-in-Ok-clause-ready g c =
    cut_before (g.F.Flash.state c.args.flash.now) (g.F.Flash.state c.read_checkpoint.new.flash) (λ (x : Geometry). IfOk c.read_journal.result (IsReady c.args.config.now x)) (looked _ _ _ c.in-Ok.ensures.looks) c.read_journal.ensures.ready

pub returns-in-Err-clause-told : goal.returns-in-Err-clause-told
returns-in-Err-clause-told g c told z current = fault_of_area c.args.config.now _ c.args.current.now.area z c.in-Err.fault (c.in-Err.ensures.told told z current)
