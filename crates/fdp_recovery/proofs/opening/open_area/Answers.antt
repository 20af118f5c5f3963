use Rattle.std.proofs.Common.{◌≡◌, ◌∙◌, List, Ok, ap, arith, length, subst, sym}
use Rattle.std.proofs.lemmas.Grind.{common_steps}
use Rattle.fdp_base.specs.declared.config.Geometry.{Geometry}
use Rattle.fdp_base.specs.Placement.{geometry_of}
use Rattle.fdp_flash.specs.declared.cell.Cell.{Cell}
use Rattle.fdp_flash.specs.OnlyReads.{ReadsOnly}
use Rattle.fdp_flash.proofs.OnlyReads.{reads_joined}
use Rattle.fdp_image.specs.Areas.{data_pages}
use Rattle.fdp_image.specs.Checkpoint.{reading_of_state}
use Rattle.fdp_recovery.specs.Blocks.{TellsBlocks}
use Rattle.fdp_recovery.proofs.Ends.{cut_after, ends_quiet, if_ok, looked, told_before}
use Rattle.fdp_recovery.proofs.Passing.{bad_block, fault_opened, left_so}
use Rattle.fdp_recovery.proofs.opening.open_area.Goals as goal

pub find_unkept-requires-clause-cut : goal.find_unkept-requires-clause-cut
find_unkept-requires-clause-cut g c =
    cut_after (g.F.Flash.state c.args.flash.now) (g.F.Flash.state c.read_area.new.flash) (λ (x : Geometry). x ≡ geometry_of c.args.config.now) (looked _ _ _ c.in-Ok.ensures.looks) c.in-Ok.ensures.ready.cut

pub find_unkept-requires-clause-room : goal.find_unkept-requires-clause-room
find_unkept-requires-clause-room g c =
    cut_after (g.F.Flash.state c.args.flash.now) (g.F.Flash.state c.read_area.new.flash) (λ (x : Geometry). length c.read_area.new.page ≡ x.block) (looked _ _ _ c.in-Ok.ensures.looks) (grind (arith, common_steps))

pub returns-in-Err-clause-told : goal.returns-in-Err-clause-told
returns-in-Err-clause-told g c told =
    let s = g.F.Flash.state c.args.flash.now in
    let is = c.requires.current told in
    fault_opened c.args.config.now s.geometry s.cells c.args.current.now.area is.area c.in-Err.fault is.current (c.in-Err.ensures.told told is.area is.current)

pub returns-in-Ok-None-clause-told : goal.returns-in-Ok-None-clause-told
returns-in-Ok-None-clause-told g c told =
    let s = g.F.Flash.state c.args.flash.now in
    let b = g.F.Flash.state c.read_area.new.flash in
    let is = c.requires.current told in
    let first = told_before s b (λ (x : Geometry) (cells : List Cell). TellsBlocks c.args.config.now cells (reading_of_state c.in-Ok.state) c.in-Ok-None.field-0) (looked _ _ _ c.in-Ok.ensures.looks) c.in-Ok-None.ensures.told told in
    let blocks = subst (TellsBlocks c.args.config.now s.cells (reading_of_state c.in-Ok.state)) c.in-Ok-None.field-0-is first in
    c.found.ensures.told c.args.config.now s.geometry s.cells (left_so c.args.config.now s.geometry s.cells c.args.current.now is.area c.in-Ok.state c.in-Ok.ensures.ready.state.good is is.current (c.in-Ok.ensures.told told is.area is.current) blocks)

pub returns-in-Ok-Some-clause-told : goal.returns-in-Ok-Some-clause-told
returns-in-Ok-Some-clause-told g c told =
    let s = g.F.Flash.state c.args.flash.now in
    let b = g.F.Flash.state c.read_area.new.flash in
    let is = c.requires.current told in
    let first = told_before s b (λ (x : Geometry) (cells : List Cell). TellsBlocks c.args.config.now cells (reading_of_state c.in-Ok.state) c.in-Ok-Some.field-0) (looked _ _ _ c.in-Ok.ensures.looks) c.in-Ok-Some.ensures.told told in
    let block = subst (TellsBlocks c.args.config.now s.cells (reading_of_state c.in-Ok.state)) c.in-Ok-Some.field-0-is first in
    bad_block c.args.config.now s.geometry s.cells c.args.current.now.area is.area c.in-Ok.state _ is.current (c.in-Ok.ensures.told told is.area is.current) block

pub returns-in-Ok-None-clause-looks : goal.returns-in-Ok-None-clause-looks
returns-in-Ok-None-clause-looks g c =
    let s = g.F.Flash.state c.args.flash.now in
    let b = g.F.Flash.state c.read_area.new.flash in
    reads_joined _ _ s b _ c.in-Ok.ensures.looks (subst (λ (x : Geometry). ReadsOnly (data_pages x) b (g.F.Flash.state c.find_unkept.new.flash)) (sym c.in-Ok.ensures.ready.cut) c.in-Ok-None.ensures.looks)

pub returns-in-Ok-Some-clause-looks : goal.returns-in-Ok-Some-clause-looks
returns-in-Ok-Some-clause-looks g c =
    let s = g.F.Flash.state c.args.flash.now in
    let b = g.F.Flash.state c.read_area.new.flash in
    reads_joined _ _ s b _ c.in-Ok.ensures.looks (subst (λ (x : Geometry). ReadsOnly (data_pages x) b (g.F.Flash.state c.find_unkept.new.flash)) (sym c.in-Ok.ensures.ready.cut) c.in-Ok-Some.ensures.looks)

pub returns-in-Ok-None-clause-ends : goal.returns-in-Ok-None-clause-ends
returns-in-Ok-None-clause-ends g c = ends_quiet _ _ c.found.result c.found.ensures.quiet (c.in-Ok-None.ensures.ends ∙ c.in-Ok.ensures.ends)

pub returns-in-Err-find_unkept-clause-looks : goal.returns-in-Err-find_unkept-clause-looks
returns-in-Err-find_unkept-clause-looks g c =
    let s = g.F.Flash.state c.args.flash.now in
    let b = g.F.Flash.state c.read_area.new.flash in
    reads_joined _ _ s b _ c.in-Ok.ensures.looks (subst (λ (x : Geometry). ReadsOnly (data_pages x) b (g.F.Flash.state c.find_unkept.new.flash)) (sym c.in-Ok.ensures.ready.cut) c.in-Err-find_unkept.ensures.looks)

pub returns-in-Ok-None-clause-goes_on : goal.returns-in-Ok-None-clause-goes_on
returns-in-Ok-None-clause-goes_on g c = c.found.ensures.goes_on c.args.config.now c.in-Ok.ensures.ready.state (c.in-Ok-None.ensures.apart (ap Ok c.in-Ok-None.field-0-is))

pub returns-in-Ok-None-clause-cut : goal.returns-in-Ok-None-clause-cut
returns-in-Ok-None-clause-cut g c = if_ok c.found.result c.in-Ok.ensures.ready.cut
