use Rattle.std.proofs.Common.{◌<◌, ◌≤◌, ℕ, not, subst, sym, ◌∙◌}
use Rattle.fdp_core.specs.Seen.{Seen}
use Rattle.fdp_relocation.proofs.Toil.Moved.{tallied-of}
use Rattle.fdp_relocation.specs.fdp_trails.Toil.{is_live, is_stale, pages_where}
use Rattle.fdp_units.specs.UnitTable.{Cut, IsGroup}
use Rattle.fdp_core.proofs.group.Group.toil.Given.{Over}
use Rattle.fdp_core.proofs.group.Group.toil.Goals as goal

-- the group is there
there : (g : Over) (c : goal.After-from g) → IsGroup c.self.inside.book.pages.units c.args.rg
there g c =
    subst (λ (k : Cut). c.args.rg < k.groups) (sym c.known.ensures.units.cut) (subst (λ (s : Seen g.row.F.Denot). c.args.rg < s.book.config.groups) (sym c.self.view_is) c.requires)

pub returns-clause-least : goal.returns-clause-least
returns-clause-least g c =
    let t = c.self.inside.book.pages in
    subst (λ (s : Seen g.row.F.Denot). pages_where s.book.pages.units c.args.rg (is_stale s.book.pages.units s.book.pages.owners) ≤ c.from.result) c.self.view_is
    (subst (λ (n : ℕ). pages_where t.units c.args.rg (is_stale t.units t.owners) ≤ n) (sym (c.from.ensures ∙ c.toil.ensures))
    (c.toil_is_what_can_be_won.ensures.least t.units t.owners c.args.rg (there g c) (tallied-of t c.known.ensures.joined)))

pub returns-clause-most : goal.returns-clause-most
returns-clause-most g c =
    let t = c.self.inside.book.pages in
    subst (λ (s : Seen g.row.F.Denot). c.from.result ≤ pages_where s.book.pages.units c.args.rg (λ spot. not (is_live s.book.pages.owners spot))) c.self.view_is
    (subst (λ (n : ℕ). n ≤ pages_where t.units c.args.rg (λ spot. not (is_live t.owners spot))) (sym (c.from.ensures ∙ c.toil.ensures))
    (c.toil_is_what_can_be_won.ensures.most t.units t.owners c.args.rg (there g c) (tallied-of t c.known.ensures.joined)))
