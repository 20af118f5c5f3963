use Rattle.std.proofs.Common.{◌≡◌, ◌<◌, ap, sym, ◌∙◌, subst, Option, None, Some, get_or, length}
use Rattle.std.specs.Prelude.{IfSome, slice_get}
use Rattle.fdp_base.specs.declared.entry.Copied.{Copied}
use Rattle.fdp_base.specs.declared.entry.Spot.{Spot}
use Rattle.fdp_owners.specs.declared.owner.Owner.{Owner}
use Rattle.fdp_owners.specs.OwnerTable.{owner_at, with_owner}
use Rattle.fdp_pages.specs.PageTables.{PageTables, copies_at}
use Rattle.fdp_pages.specs.Steps.{ChangesOwners, moved}
use Rattle.fdp_pages.proofs.Moving.{IsReadCopy, copy-place, may-move-read, moved-live, read-copy}
use Rattle.fdp_units.specs.UnitTable.{IsGroup}
use Rattle.fdp_pages.proofs.pages.Pages.move_copy.Goals as goal

pub get-owner-requires : goal.get-owner-requires
get-owner-requires c =
    let t : PageTables = record { handles = c.self.inside.handles; units = c.self.inside.units; owners = c.self.inside.owners; passes = c.self.inside.passes.items } in
    let d : Copied = record { from = record { unit = 0; page = 0 }; to = record { unit = 0; page = 0 } } in
    let copy : Copied = get_or c.copies.result.now c.args.index d in
    let there : IsGroup t.units c.args.rg = subst (λ (x : PageTables). IsGroup x.units c.args.rg) (sym c.self.view_is) c.requires.group in
    let low : c.args.index < length (copies_at t c.args.rg) = subst (λ (x : PageTables). c.args.index < length (copies_at x c.args.rg)) (sym c.self.view_is) c.requires.copy in
    let is : IsReadCopy t c.args.rg c.args.index copy = read-copy t c.args.rg c.args.index c.index-passes.result.now c.copies.result.now d c.self.invariant there c.index-passes.ensures c.copies.ensures.copies low in
    copy-place t c.args.rg c.args.index copy c.self.invariant is

pub fill-requires : goal.fill-requires
fill-requires c =
    let t : PageTables = record { handles = c.self.inside.handles; units = c.self.inside.units; owners = c.self.inside.owners; passes = c.self.inside.passes.items } in
    let d : Copied = record { from = record { unit = 0; page = 0 }; to = record { unit = 0; page = 0 } } in
    let copy : Copied = get_or c.copies.result.now c.args.index d in
    let there : IsGroup t.units c.args.rg = subst (λ (x : PageTables). IsGroup x.units c.args.rg) (sym c.self.view_is) c.requires.group in
    let low : c.args.index < length (copies_at t c.args.rg) = subst (λ (x : PageTables). c.args.index < length (copies_at x c.args.rg)) (sym c.self.view_is) c.requires.copy in
    let is : IsReadCopy t c.args.rg c.args.index copy = read-copy t c.args.rg c.args.index c.index-passes.result.now c.copies.result.now d c.self.invariant there c.index-passes.ensures c.copies.ensures.copies low in
    let owned : owner_at t.owners copy.from ≡ Some c.in-Some.owner = sym c.get-owner.ensures ∙ c.in-Some.is in
    let rest : ChangesOwners t c.clear.new.self = subst (λ (x : PageTables). ChangesOwners x c.clear.new.self) (sym c.self.view_is) c.clear.ensures.rest in
    let cleared : owner_at c.clear.new.self.owners ≡ with_owner (owner_at t.owners) copy.from None = subst (λ (x : PageTables). owner_at c.clear.new.self.owners ≡ with_owner (owner_at x.owners) copy.from None) (sym c.self.view_is) c.clear.ensures.owners in
    may-move-read t c.clear.new.self c.args.rg c.args.index copy c.in-Some.owner c.self.invariant is owned rest cleared

pub returns-in-Some-clause-owner : goal.returns-in-Some-clause-owner
returns-in-Some-clause-owner c =
    let t : PageTables = record { handles = c.self.inside.handles; units = c.self.inside.units; owners = c.self.inside.owners; passes = c.self.inside.passes.items } in
    let d : Copied = record { from = record { unit = 0; page = 0 }; to = record { unit = 0; page = 0 } } in
    let copy : Copied = get_or c.copies.result.now c.args.index d in
    let there : IsGroup t.units c.args.rg = subst (λ (x : PageTables). IsGroup x.units c.args.rg) (sym c.self.view_is) c.requires.group in
    let low : c.args.index < length (copies_at t c.args.rg) = subst (λ (x : PageTables). c.args.index < length (copies_at x c.args.rg)) (sym c.self.view_is) c.requires.copy in
    let is : IsReadCopy t c.args.rg c.args.index copy = read-copy t c.args.rg c.args.index c.index-passes.result.now c.copies.result.now d c.self.invariant there c.index-passes.ensures c.copies.ensures.copies low in
    let owned : owner_at t.owners copy.from ≡ Some c.in-Some.owner = sym c.get-owner.ensures ∙ c.in-Some.is in
    let told : IfSome (slice_get (copies_at t c.args.rg) c.args.index) (λ (k : Copied). Some c.in-Some.owner ≡ owner_at t.owners k.from) = subst (λ (o : Option Copied). IfSome o (λ (k : Copied). Some c.in-Some.owner ≡ owner_at t.owners k.from)) (sym is.read) (sym owned) in
    subst (λ (x : PageTables). IfSome (slice_get (copies_at x c.args.rg) c.args.index) (λ (k : Copied). Some c.in-Some.owner ≡ owner_at x.owners k.from)) c.self.view_is told

pub returns-in-Some-clause-owners : goal.returns-in-Some-clause-owners
returns-in-Some-clause-owners c =
    let t : PageTables = record { handles = c.self.inside.handles; units = c.self.inside.units; owners = c.self.inside.owners; passes = c.self.inside.passes.items } in
    let d : Copied = record { from = record { unit = 0; page = 0 }; to = record { unit = 0; page = 0 } } in
    let copy : Copied = get_or c.copies.result.now c.args.index d in
    let there : IsGroup t.units c.args.rg = subst (λ (x : PageTables). IsGroup x.units c.args.rg) (sym c.self.view_is) c.requires.group in
    let low : c.args.index < length (copies_at t c.args.rg) = subst (λ (x : PageTables). c.args.index < length (copies_at x c.args.rg)) (sym c.self.view_is) c.requires.copy in
    let is : IsReadCopy t c.args.rg c.args.index copy = read-copy t c.args.rg c.args.index c.index-passes.result.now c.copies.result.now d c.self.invariant there c.index-passes.ensures c.copies.ensures.copies low in
    let owned : owner_at t.owners copy.from ≡ Some c.in-Some.owner = sym c.get-owner.ensures ∙ c.in-Some.is in
    let cleared : owner_at c.clear.new.self.owners ≡ with_owner (owner_at t.owners) copy.from None = subst (λ (x : PageTables). owner_at c.clear.new.self.owners ≡ with_owner (owner_at x.owners) copy.from None) (sym c.self.view_is) c.clear.ensures.owners in
    let now : owner_at c.fill.new.self.owners ≡ moved (owner_at t.owners) copy = c.fill.ensures.owners ∙ ap (λ (f : Spot → Option Owner). with_owner f copy.to (Some c.in-Some.owner)) cleared ∙ sym (moved-live (owner_at t.owners) copy c.in-Some.owner owned) in
    let told : IfSome (slice_get (copies_at t c.args.rg) c.args.index) (λ (k : Copied). owner_at c.fill.new.self.owners ≡ moved (owner_at t.owners) k) = subst (λ (o : Option Copied). IfSome o (λ (k : Copied). owner_at c.fill.new.self.owners ≡ moved (owner_at t.owners) k)) (sym is.read) now in
    subst (λ (x : PageTables). IfSome (slice_get (copies_at x c.args.rg) c.args.index) (λ (k : Copied). owner_at c.fill.new.self.owners ≡ moved (owner_at x.owners) k)) c.self.view_is told
