use Rattle.std.proofs.Common.{ap, sym, ◌∙◌, subst, Option}
use Rattle.fdp_base.specs.declared.entry.Spot.{Spot}
use Rattle.fdp_owners.specs.declared.owner.Owner.{Owner}
use Rattle.fdp_owners.specs.OwnerTable.{owner_at}
use Rattle.fdp_pages.specs.PageTables.{PageTables}
use Rattle.fdp_pages.specs.Steps.{ChangesOwners, HasSize, Recounts}
use Rattle.fdp_pages.proofs.Owning.{from-joined}
use Rattle.fdp_pages.proofs.Recounting.{changes-of, handed-from, same-recounts, sized-same}
use Rattle.fdp_pages.proofs.pages.Pages.hand_over.Goals as goal

pub invariant_of-self : goal.invariant_of-self
invariant_of-self c =
    let t : PageTables = record { handles = c.self.inside.handles; units = c.self.inside.units; owners = c.self.inside.owners; passes = c.self.inside.passes.items } in
    let size : HasSize t.owners c.hand_over.new.self = sized-same t.owners c.hand_over.new.self c.hand_over.ensures.rest c.hand_over.ensures.size in
    let counts : Recounts t.units t.units c.hand_over.new.self = same-recounts t.units t.owners c.hand_over.new.self c.self.invariant.live c.hand_over.ensures.live in
    from-joined t t.units c.hand_over.new.self c.self.invariant counts size (λ at x e. handed-from (owner_at t.owners) c.args.spot at c.args.holder x (sym (ap (λ (f : Spot → Option Owner). f at) c.hand_over.ensures.owners) ∙ e))

pub returns-clause-rest : goal.returns-clause-rest
returns-clause-rest c =
    let t : PageTables = record { handles = c.self.inside.handles; units = c.self.inside.units; owners = c.self.inside.owners; passes = c.self.inside.passes.items } in
    let size : HasSize t.owners c.hand_over.new.self = sized-same t.owners c.hand_over.new.self c.hand_over.ensures.rest c.hand_over.ensures.size in
    let counts : Recounts t.units t.units c.hand_over.new.self = same-recounts t.units t.owners c.hand_over.new.self c.self.invariant.live c.hand_over.ensures.live in
    subst (λ (x : PageTables). ChangesOwners x (record t { owners = c.hand_over.new.self })) c.self.view_is (changes-of t t.units c.hand_over.new.self counts size)
