use Rattle.fdp_pages.specs.PageTables.{PageTables}
use Rattle.fdp_pages.proofs.Fresh.{fresh-joined}
use Rattle.fdp_pages.proofs.pages.Pages.new.Goals as goal

pub invariant_of-result : goal.invariant_of-result
invariant_of-result c =
    let t : PageTables = record { handles = c.in_ok-handles.handles; units = c.in_ok-units.units; owners = c.in_ok-owners.owners; passes = c.in_ok-passes.passes.items } in
    fresh-joined t c.args.classes.now c.args.geometry c.requires.geometry c.requires.some c.requires.few (record {
      classes_are = c.in_ok-handles.ensures.classes;
      references = c.in_ok-handles.ensures.references;
      handle_pages = c.in_ok-handles.ensures.unit_pages;
      handle_groups = c.in_ok-handles.ensures.groups;
      units = c.in_ok-units.ensures.units;
      unused = c.in_ok-units.ensures.unused;
      cut = c.in_ok-units.ensures.cut;
      owners = c.in_ok-owners.ensures.owners;
      owner_pages = c.in_ok-owners.ensures.unit_pages;
      all_pages = c.in_ok-owners.ensures.pages;
      passes = c.in_ok-passes.ensures;
    })
