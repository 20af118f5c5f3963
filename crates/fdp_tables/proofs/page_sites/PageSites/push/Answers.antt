use Rattle.std.proofs.Common.{ap, subst, sym, ◌∙◌, map, ◌∷◌, []}
use Rattle.std.specs.Vec.{vec_items}
use Rattle.std.proofs.lemmas.List.{map-append}
use Rattle.fdp_tables.specs.PageSites.{AreListed}
use Rattle.fdp_tables.proofs.Siting.{pushed_listed}
use Rattle.fdp_tables.proofs.page_sites.PageSites.push.Goals as goal

pub invariant_of-self : goal.invariant_of-self
invariant_of-self c =
    let rows = map vec_items c.self.inside.rows.items in
    let now = ap (map vec_items) c.push_reserved.ensures.items ∙ map-append vec_items c.self.inside.rows.items (c.args.pages ∷ []) in
    subst (λ xs. AreListed xs c.self.inside.tickets) (sym now) (pushed_listed rows c.self.inside.tickets c.args.pages.items c.self.invariant c.requires.blank)
