use Rattle.fdp_pages.specs.PageTables.{PageTables}
use Rattle.fdp_pages.proofs.Classed.{classed-by}
use Rattle.fdp_pages.proofs.pages.Pages.set_classes.Goals as goal

pub invariant_of-self : goal.invariant_of-self
invariant_of-self c =
    let t : PageTables = record { handles = c.self.inside.handles; units = c.self.inside.units; owners = c.self.inside.owners; passes = c.self.inside.passes.items } in
    (classed-by c.args.self.now c.leave_groups.new.self t c.args.classes.now c.set_classes.new.self c.self.view_is c.self.invariant c.requires.some c.requires.few c.requires.unowned c.leave_groups.ensures c.set_classes.ensures).joined

pub returns : goal.returns
returns c =
    let t : PageTables = record { handles = c.self.inside.handles; units = c.self.inside.units; owners = c.self.inside.owners; passes = c.self.inside.passes.items } in
    (classed-by c.args.self.now c.leave_groups.new.self t c.args.classes.now c.set_classes.new.self c.self.view_is c.self.invariant c.requires.some c.requires.few c.requires.unowned c.leave_groups.ensures c.set_classes.ensures).sets
