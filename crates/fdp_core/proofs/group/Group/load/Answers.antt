use Rattle.std.proofs.Common.{subst, sym}
use Rattle.fdp_loading.specs.fdp_ledger.declared.counts.Counts.{Counts}
use Rattle.fdp_core.specs.Seen.{Seen}
use Rattle.fdp_core.specs.Sound.{IsWhole}
use Rattle.fdp_core.proofs.Loading.{group-loaded, whole-loaded}
use Rattle.fdp_core.proofs.group.Group.load.Goals as goal

pub invariant_of-result : goal.invariant_of-result
invariant_of-result g c =
    let old = g.F.Flash.state c.args.flash in
    let new = g.F.Flash.state c.load.new.flash in
    let made = c.in-Ok-load_drive.field-0 in
    subst (λ (handed : Counts). IsWhole handed new made.book made.keeper c.in-Ok.block.items) (sym c.counts_of-handed.ensures)
    (whole-loaded c.args.config.now old new made.book made.keeper c.in-Ok.block.items c.in-Ok-load_drive.ensures.loaded c.in-Ok.ensures)

pub returns-in-Ok-load_drive : goal.returns-in-Ok-load_drive
returns-in-Ok-load_drive g c =
    let made = c.in-Ok-load_drive.field-0 in
    let group : Seen g.row.F.Denot = record { book = made.book; keeper = made.keeper; handed = c.counts_of-handed.result; flash = c.load.new.flash } in
    group-loaded g.F.Flash.state c.args.config.now c.args.flash group c.in-Ok-load_drive.ensures.loaded c.counts_of-handed.ensures
