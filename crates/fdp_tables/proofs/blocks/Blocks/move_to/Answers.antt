use Rattle.std.proofs.Common.{◌<◌, length, subst, sym}
use Rattle.std.specs.Prelude.{option_map}
use Rattle.fdp_tables.specs.Blocks.{AreCounted, AreNamed, on_page}
use Rattle.fdp_tables.specs.State.{row}
use Rattle.fdp_tables.proofs.Lying.{paged_counted}
use Rattle.fdp_tables.proofs.Naming.{paged, put_named}
use Rattle.fdp_tables.proofs.blocks.Blocks.move_to.Goals as goal

pub invariant_of-self : goal.invariant_of-self
invariant_of-self c =
    let s = c.self.inside in
    let at = c.args.place in
    let there = subst (λ places. at < length places) (sym c.self.view_is) c.requires in (
      subst (AreCounted s.counts) (sym c.set_page.ensures) (paged_counted s.counts s.places at c.args.page there c.self.invariant.0),
      subst (AreNamed c.name.new.written c.name.new.found) (sym c.set_page.ensures)
          (put_named s.written s.found c.name.new.written c.name.new.found s.places at (option_map (on_page c.args.page) (row s.places at)) there c.self.invariant.1 c.name.ensures.written c.name.ensures.found (paged c.name.new.written c.name.new.found at c.args.page (row s.places at) c.name.ensures.named)),
    )
