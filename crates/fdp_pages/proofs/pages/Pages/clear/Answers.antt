use Rattle.std.proofs.Common.{ap, sym, ◌∙◌, subst, Option}
use Rattle.std.specs.Prelude.{IsSome}
use Rattle.fdp_base.specs.declared.entry.Spot.{Spot}
use Rattle.fdp_owners.specs.declared.owner.Owner.{Owner}
use Rattle.fdp_owners.specs.OwnerTable.{owner_at}
use Rattle.fdp_pages.specs.PageTables.{PageTables}
use Rattle.fdp_pages.specs.Steps.{ChangesOwners, HasSize, Recounts}
use Rattle.fdp_pages.proofs.Owning.{from-joined}
use Rattle.fdp_pages.proofs.Recounting.{changes-of, cleared-from, live-unit, lowered-recounts, sized-same}
use Rattle.fdp_pages.proofs.pages.Pages.clear.Goals as goal

pub lower-requires-clause-page : goal.lower-requires-clause-page
lower-requires-clause-page c = live-unit c.self.inside.units c.self.inside.owners c.args.spot c.self.invariant.live (subst (λ (t : PageTables). IsSome (owner_at t.owners c.args.spot)) (sym c.self.view_is) c.requires)

pub invariant_of-self : goal.invariant_of-self
invariant_of-self c =
    let t : PageTables = record { handles = c.self.inside.handles; units = c.self.inside.units; owners = c.self.inside.owners; passes = c.self.inside.passes.items } in
    let some : IsSome (owner_at t.owners c.args.spot) = subst (λ (x : PageTables). IsSome (owner_at x.owners c.args.spot)) (sym c.self.view_is) c.requires in
    let size : HasSize t.owners c.clear.new.self = sized-same t.owners c.clear.new.self c.clear.ensures.rest c.clear.ensures.size in
    let counts : Recounts t.units c.lower.new.self c.clear.new.self = lowered-recounts t.units c.lower.new.self t.owners c.clear.new.self c.args.spot.unit c.self.invariant.live (c.self.invariant.live.there c.args.spot some) c.lower.ensures.unit c.lower.ensures.worn c.clear.ensures.live in
    from-joined t c.lower.new.self c.clear.new.self c.self.invariant counts size (λ at x e. cleared-from (owner_at t.owners) c.args.spot at x (sym (ap (λ (f : Spot → Option Owner). f at) c.clear.ensures.owners) ∙ e))

pub returns-clause-rest : goal.returns-clause-rest
returns-clause-rest c =
    let t : PageTables = record { handles = c.self.inside.handles; units = c.self.inside.units; owners = c.self.inside.owners; passes = c.self.inside.passes.items } in
    let some : IsSome (owner_at t.owners c.args.spot) = subst (λ (x : PageTables). IsSome (owner_at x.owners c.args.spot)) (sym c.self.view_is) c.requires in
    let size : HasSize t.owners c.clear.new.self = sized-same t.owners c.clear.new.self c.clear.ensures.rest c.clear.ensures.size in
    let counts : Recounts t.units c.lower.new.self c.clear.new.self = lowered-recounts t.units c.lower.new.self t.owners c.clear.new.self c.args.spot.unit c.self.invariant.live (c.self.invariant.live.there c.args.spot some) c.lower.ensures.unit c.lower.ensures.worn c.clear.ensures.live in
    subst (λ (x : PageTables). ChangesOwners x (record t { units = c.lower.new.self; owners = c.clear.new.self })) c.self.view_is (changes-of t c.lower.new.self c.clear.new.self counts size)
