use Rattle.std.proofs.Common.{◌≡◌, ◌≤◌, ◌∙◌, Err, List, ap, length, replicate, sym, subst}
use Rattle.fdp_base.specs.declared.config.Class.{Class}
use Rattle.fdp_base.specs.declared.config.Geometry.{Geometry}
use Rattle.fdp_flash.specs.declared.cell.Cell.{Cell}
use Rattle.fdp_flash.proofs.OnlyReads.{before_reads, reads_joined}
use Rattle.fdp_handles.specs.HandleTable.{blank}
use Rattle.fdp_image.specs.Checkpoint.{reading_of_state}
use Rattle.fdp_pages.specs.PageTables.{no_targets}
use Rattle.fdp_opening.specs.Found.{IsFirstAstray}
use Rattle.fdp_opening.specs.declared.fault.PagesFault.TheVariants as faults
use Rattle.fdp_recovery.proofs.fdp_state.Loadable.{loadable}
use Rattle.fdp_opening.proofs.Owning.{classes-are, found-all, found-first, index-known, some-classes}
use Rattle.fdp_opening.proofs.Ways.{none-astray}
use Rattle.fdp_opening.proofs.opening.find_pages.Goals as goal

pub classes-classes-requires : goal.classes-classes-requires
classes-classes-requires g c = index-known c.args.config.now c.args.state.now c.requires.state.good

pub new-requires-clause-some : goal.new-requires-clause-some
new-requires-clause-some g c =
    subst (λ (xs : List Class). 1 ≤ length xs) (sym c.classes-classes.ensures)
    (some-classes c.args.config.now c.requires.config c.args.state.now.summary.enabled c.args.state.now.summary.index (index-known c.args.config.now c.args.state.now c.requires.state.good))

pub find_blocks-requires-clause-state : goal.find_blocks-requires-clause-state
find_blocks-requires-clause-state g c = loadable c.args.state.now c.requires.state.writable

pub find_blocks-requires-clause-tables : goal.find_blocks-requires-clause-tables
find_blocks-requires-clause-tables g c =
    let cut = c.geometry.ensures.value in
    found-first c.args.config.now c.args.state.now (g.F.Flash.state c.find_units.new.flash) c.in-Ok.pages c.find_units.new.pages
    (record {
      cut = c.in-Ok.ensures.cut ∙ ap (λ (x : Geometry). record { unit_pages = x.unit_pages; group_units = x.units; groups = x.groups }) cut;
      classes = c.in-Ok.ensures.classes ∙ c.classes-classes.ensures ∙ classes-are c.args.config.now c.args.state.now;
      references = λ rg ruh. c.in-Ok.ensures.handles rg ruh ∙ ap (λ (x : Geometry). blank x.unit_pages) cut;
      passes = c.in-Ok.ensures.passes ∙ ap (λ (x : Geometry). replicate x.groups (no_targets x.unit_pages)) cut;
      worn = c.in-Ok.ensures.worn;
    })
    c.in-Ok.ensures.owners c.in-Ok-find_units.ensures.found

pub returns-in-Ok-find_blocks-clause-looks : goal.returns-in-Ok-find_blocks-clause-looks
returns-in-Ok-find_blocks-clause-looks g c = reads_joined _ _ _ _ _ c.in-Ok-find_units.ensures.looks c.in-Ok-find_blocks.ensures.looks

pub returns-in-Ok-find_blocks-clause-found : goal.returns-in-Ok-find_blocks-clause-found
returns-in-Ok-find_blocks-clause-found g c = found-all c.args.config.now c.args.state.now (g.F.Flash.state c.find_blocks.new.flash) c.find_blocks.new.pages c.in-Ok-find_blocks.ensures.found

pub returns-in-Err-find_blocks-clause-looks : goal.returns-in-Err-find_blocks-clause-looks
returns-in-Err-find_blocks-clause-looks g c = reads_joined _ _ _ _ _ c.in-Ok-find_units.ensures.looks c.in-Err-find_blocks.ensures.looks

pub returns-in-Err-find_blocks-clause-bad : goal.returns-in-Err-find_blocks-clause-bad
returns-in-Err-find_blocks-clause-bad g c page same told =
    let bad : c.in-Err-find_blocks.fault ≡ faults.BadImage page = cc in
    before_reads _ _ _ (λ (cells : List Cell). IsFirstAstray c.args.config.now cells (reading_of_state c.args.state.now) page) c.in-Ok-find_units.ensures.looks (c.in-Err-find_blocks.ensures.bad page (ap Err bad)) told

pub returns-in-Err-find_blocks-clause-kept : goal.returns-in-Err-find_blocks-clause-kept
returns-in-Err-find_blocks-clause-kept g c keeps page same =
    let bad : c.in-Err-find_blocks.fault ≡ faults.BadImage page = cc in
    none-astray c.args.config.now (g.F.Flash.state c.args.flash.now).cells (reading_of_state c.args.state.now) page keeps.kept keeps.ways
    (before_reads _ _ _ (λ (cells : List Cell). IsFirstAstray c.args.config.now cells (reading_of_state c.args.state.now) page) c.in-Ok-find_units.ensures.looks (c.in-Err-find_blocks.ensures.bad page (ap Err bad)) keeps.told)
