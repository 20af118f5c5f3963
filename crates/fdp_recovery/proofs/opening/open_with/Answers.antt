use Rattle.std.proofs.Common.{◌≡◌, ◌+◌, List, Option, None, arith, length, subst}
use Rattle.std.specs.Prelude.{IfOk, IfSome}
use Rattle.std.proofs.lemmas.Grind.{common_steps}
use Rattle.fdp_checkpoint.specs.fdp_areas.declared.seal.Current.{Current}
use Rattle.fdp_checkpoint.specs.fdp_areas.Seals.{IsCurrentSeal, LiesIn, TellsCurrent}
use Rattle.fdp_base.specs.declared.config.Geometry.{Geometry}
use Rattle.fdp_flash.specs.declared.cell.Cell.{Cell}
use Rattle.fdp_base.specs.Geometry.{area_pages}
use Rattle.fdp_base.specs.Placement.{geometry_of}
use Rattle.fdp_flash.specs.OnlyReads.{ReadsOnly}
use Rattle.fdp_flash.proofs.OnlyReads.{reads_fewer, reads_joined}
use Rattle.fdp_image.specs.Areas.{current_area, data_pages}
use Rattle.fdp_recovery.specs.Opened.{TellsOpened}
use Rattle.fdp_recovery.proofs.Ends.{cut_after, cut_before, ends_behind, looked, told_after, told_before}
use Rattle.fdp_recovery.proofs.opening.open_with.Goals as goal

pub open_area-requires-clause-inside : goal.open_area-requires-clause-inside
open_area-requires-clause-inside g c =
    let a = g.F.Flash.state c.args.flash.now in
    let b = g.F.Flash.state c.find_current.new.flash in
    cut_after a b (λ (x : Geometry). LiesIn x c.in-Ok-Some.current) (looked _ a b c.in-Ok-Some.ensures.looks) (subst (λ (o : Option Current). IfSome o (LiesIn a.geometry)) c.in-Ok-Some.field-0-is c.in-Ok-Some.ensures.inside)

pub open_area-requires-clause-room : goal.open_area-requires-clause-room
open_area-requires-clause-room g c =
    let a = g.F.Flash.state c.args.flash.now in
    let b = g.F.Flash.state c.find_current.new.flash in
    cut_after a b (λ (x : Geometry). length c.find_current.new.page ≡ x.block) (looked _ a b c.in-Ok-Some.ensures.looks) (grind (arith, common_steps))

pub open_area-requires-clause-current : goal.open_area-requires-clause-current
open_area-requires-clause-current g c =
    let a = g.F.Flash.state c.args.flash.now in
    let b = g.F.Flash.state c.find_current.new.flash in
    told_after a b (λ (x : Geometry) (cells : List Cell). IsCurrentSeal x cells c.in-Ok-Some.current) (looked _ a b c.in-Ok-Some.ensures.looks)
    (λ told. subst (TellsCurrent a.geometry a.cells) c.in-Ok-Some.field-0-is (c.in-Ok-Some.ensures.found told))

pub returns-in-Ok-Some-clause-looks : goal.returns-in-Ok-Some-clause-looks
returns-in-Ok-Some-clause-looks g c =
    let a = g.F.Flash.state c.args.flash.now in
    let b = g.F.Flash.state c.find_current.new.flash in
    let pages = cut_before a b (λ (x : Geometry). ReadsOnly (area_pages x + area_pages x + data_pages x) b (g.F.Flash.state c.open_area.new.flash)) (looked _ a b c.in-Ok-Some.ensures.looks) c.open_area.ensures.looks in
    reads_fewer _ _ a _ (omega arith) (reads_joined _ _ a b _ c.in-Ok-Some.ensures.looks pages)

pub returns-in-Ok-Some-clause-told : goal.returns-in-Ok-Some-clause-told
returns-in-Ok-Some-clause-told g c =
    let a = g.F.Flash.state c.args.flash.now in
    let b = g.F.Flash.state c.find_current.new.flash in
    told_before a b (λ (x : Geometry) (cells : List Cell). TellsOpened c.args.config.now x cells c.open_area.result) (looked _ a b c.in-Ok-Some.ensures.looks) c.open_area.ensures.told

pub returns-in-Ok-Some-clause-ends : goal.returns-in-Ok-Some-clause-ends
returns-in-Ok-Some-clause-ends g c = ends_behind _ _ _ c.open_area.result (looked _ _ _ c.in-Ok-Some.ensures.looks) c.in-Ok-Some.ensures.ends c.open_area.ensures.ends

pub open_unsealed-requires-clause-room : goal.open_unsealed-requires-clause-room
open_unsealed-requires-clause-room g c =
    let a = g.F.Flash.state c.args.flash.now in
    let b = g.F.Flash.state c.find_current.new.flash in
    cut_after a b (λ (x : Geometry). length c.find_current.new.page ≡ x.block) (looked _ a b c.in-Ok-None.ensures.looks) (grind (arith, common_steps))

pub open_unsealed-requires-clause-unsealed : goal.open_unsealed-requires-clause-unsealed
open_unsealed-requires-clause-unsealed g c =
    let a = g.F.Flash.state c.args.flash.now in
    let b = g.F.Flash.state c.find_current.new.flash in
    told_after a b (λ (x : Geometry) (cells : List Cell). current_area x cells ≡ None) (looked _ a b c.in-Ok-None.ensures.looks)
    (λ told. subst (TellsCurrent a.geometry a.cells) c.in-Ok-None.field-0-is (c.in-Ok-None.ensures.found told))

pub returns-in-Ok-None-clause-looks : goal.returns-in-Ok-None-clause-looks
returns-in-Ok-None-clause-looks g c =
    let a = g.F.Flash.state c.args.flash.now in
    let b = g.F.Flash.state c.find_current.new.flash in
    let pages = cut_before a b (λ (x : Geometry). ReadsOnly (data_pages x) b (g.F.Flash.state c.open_unsealed.new.flash)) (looked _ a b c.in-Ok-None.ensures.looks) c.open_unsealed.ensures.looks in
    reads_fewer _ _ a _ (omega arith) (reads_joined _ _ a b _ c.in-Ok-None.ensures.looks pages)

pub returns-in-Ok-None-clause-told : goal.returns-in-Ok-None-clause-told
returns-in-Ok-None-clause-told g c =
    let a = g.F.Flash.state c.args.flash.now in
    let b = g.F.Flash.state c.find_current.new.flash in
    told_before a b (λ (x : Geometry) (cells : List Cell). TellsOpened c.args.config.now x cells c.open_unsealed.result) (looked _ a b c.in-Ok-None.ensures.looks) c.open_unsealed.ensures.told

pub returns-in-Ok-None-clause-ends : goal.returns-in-Ok-None-clause-ends
returns-in-Ok-None-clause-ends g c = ends_behind _ _ _ c.open_unsealed.result (looked _ _ _ c.in-Ok-None.ensures.looks) c.in-Ok-None.ensures.ends c.open_unsealed.ensures.ends

pub returns-in-Ok-Some-clause-cut : goal.returns-in-Ok-Some-clause-cut
returns-in-Ok-Some-clause-cut g c =
    cut_before (g.F.Flash.state c.args.flash.now) (g.F.Flash.state c.find_current.new.flash) (λ (x : Geometry). IfOk c.open_area.result (λ opened. x ≡ geometry_of c.args.config.now)) (looked _ _ _ c.in-Ok-Some.ensures.looks) c.open_area.ensures.cut

pub returns-in-Ok-None-clause-cut : goal.returns-in-Ok-None-clause-cut
returns-in-Ok-None-clause-cut g c =
    cut_before (g.F.Flash.state c.args.flash.now) (g.F.Flash.state c.find_current.new.flash) (λ (x : Geometry). IfOk c.open_unsealed.result (λ opened. x ≡ geometry_of c.args.config.now)) (looked _ _ _ c.in-Ok-None.ensures.looks) c.open_unsealed.ensures.cut
