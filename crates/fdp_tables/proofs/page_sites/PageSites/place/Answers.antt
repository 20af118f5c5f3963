use Rattle.std.proofs.Common.{◌≡◌, ap, length, map, subst, sym, ◌<◌}
use Rattle.std.specs.Vec.{vec_items}
use Rattle.fdp_tables.specs.Index.{Lists}
use Rattle.fdp_tables.specs.PageSites.{AreListed, SiteRows}
use Rattle.fdp_tables.proofs.Siting.{placed_listed}
use Rattle.fdp_tables.proofs.page_sites.PageSites.place.Goals as goal

pub invariant_of-self : goal.invariant_of-self
invariant_of-self c =
    let rows = map vec_items c.self.inside.rows.items in
    let view : c.args.self.now.rows ≡ rows = sym (ap (λ (s : SiteRows). s.rows) c.self.view_is) in
    subst (λ xs. AreListed xs c.add.new.self) (sym c.put.ensures)
    (placed_listed rows c.self.inside.tickets c.add.new.self c.args.ticket c.args.index c.args.spot c.self.invariant (subst (λ xs. c.args.ticket < length xs) view c.requires.ticket) c.add.ensures.kept (subst (λ u. Lists c.add.new.self u c.args.ticket) c.from.ensures c.add.ensures.added))
