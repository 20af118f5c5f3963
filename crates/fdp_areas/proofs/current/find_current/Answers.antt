use Rattle.std.proofs.Common.{◌+◌, ◌<◌, List, subst}
use Rattle.std.specs.Prelude.{IfSome}
use Rattle.fdp_base.specs.declared.config.Geometry.{Geometry}
use Rattle.fdp_base.specs.Geometry.{area_pages}
use Rattle.fdp_flash.specs.declared.cell.Cell.{Cell}
use Rattle.fdp_image.specs.Areas.{area_of}
use Rattle.fdp_areas.specs.Seals.{Tells}
use Rattle.fdp_flash.proofs.OnlyReads.{before_reads}
use Rattle.fdp_areas.proofs.Walking.{current_told, later_lies}
use Rattle.fdp_areas.proofs.current.find_current.Goals as goal

pub returns-in-Ok-find_seal-clause-found : goal.returns-in-Ok-find_seal-clause-found
returns-in-Ok-find_seal-clause-found g c told =
    let a = g.F.Flash.state c.args.flash.now in
    let b = g.F.Flash.state c.find_seal.new.flash in
    let second = before_reads _ _ _ (λ (cells : List Cell). Tells (area_of b.geometry 1 cells) c.in-Ok-find_seal.second) c.in-Ok.ensures.looks c.in-Ok-find_seal.ensures.found told in
    rw c.later_of.ensures
    (current_told a.geometry a.cells _ _ (c.in-Ok.ensures.found told)
    (subst (λ (x : Geometry). Tells (area_of x 1 a.cells) c.in-Ok-find_seal.second) c.in-Ok.ensures.looks.held.run.geometry second))

pub returns-in-Ok-find_seal-clause-inside : goal.returns-in-Ok-find_seal-clause-inside
returns-in-Ok-find_seal-clause-inside g c =
    let a = g.F.Flash.state c.args.flash.now in
    rw c.later_of.ensures
    (later_lies a.geometry _ _ c.in-Ok.ensures.inside
    (subst (λ (x : Geometry). IfSome c.in-Ok-find_seal.second (λ s. s.checkpoint + s.before < area_pages x)) c.in-Ok.ensures.looks.held.run.geometry c.in-Ok-find_seal.ensures.inside))
