use Rattle.std.proofs.Common.{◌≡◌, ◌∙◌, List, None, Some, ap, refl, slice_get, subst, sym}
use Rattle.std.proofs.lemmas.Option.{get_or_from_slice_get}
use Rattle.fdp_base.specs.declared.entry.Copied.{Copied}
use Rattle.fdp_book.specs.declared.tables.Tables.{Tables}
use Rattle.fdp_book.specs.Moving.{IsMoved, StaysIn}
use Rattle.fdp_book.proofs.Relocating.Leads.{copy-moved, copy-passed, page-there}
use Rattle.fdp_book.proofs.Relocating.Moves.{copy-at, of-copy}
use Rattle.fdp_book.proofs.Relocating.Staying.{stays-in}
use Rattle.fdp_owners.specs.declared.owner.Owner.{Owner}
use Rattle.fdp_owners.specs.Owned.{page_of}
use Rattle.fdp_owners.specs.OwnerTable.{owner_at}
use Rattle.fdp_readings.specs.fdp_pages.Steps.{moved}
use Rattle.fdp_book.proofs.book.move_pass.move_copy.Goals as goal

pub put_owned-requires-clause-page : goal.put_owned-requires-clause-page
put_owned-requires-clause-page c =
    let t : Tables = c.args.tables.now in
    let k = copy-at t.pages c.args.rg c.args.index c.joined.ensures c.requires.group c.requires.copy in
    let x : Owner = c.in-Some.owner in
    let was : owner_at t.pages.owners k.copy.from ≡ Some x = sym (of-copy t.pages c.args.rg c.args.index k (λ (y : Copied). c.move_copy.result ≡ owner_at t.pages.owners y.from) c.move_copy.ensures.owner) ∙ c.in-Some.is in
    page-there c.requires.lead.0 t.map t.flights.items c.requires.lead.1.at x.holder x.spare (page_of k.copy.from x) c.requires.lead.1.leads (c.requires.lead.1.owned.led k.copy.from x was)

pub put_owned-requires-clause-group : goal.put_owned-requires-clause-group
put_owned-requires-clause-group c =
    let t : Tables = c.args.tables.now in
    let k = copy-at t.pages c.args.rg c.args.index c.joined.ensures c.requires.group c.requires.copy in
    let x : Owner = c.in-Some.owner in
    let was : owner_at t.pages.owners k.copy.from ≡ Some x = sym (of-copy t.pages c.args.rg c.args.index k (λ (y : Copied). c.move_copy.result ≡ owner_at t.pages.owners y.from) c.move_copy.ensures.owner) ∙ c.in-Some.is in
    subst (λ (y : Copied). StaysIn t.map x.holder x.spare y.to) (sym (get_or_from_slice_get c.copies.result.now c.args.index k.copy _ (ap (λ (xs : List Copied). slice_get xs c.args.index) c.copies.ensures.copies ∙ k.copy_is)))
    (stays-in c.requires.lead.0 t.map t.flights.items c.requires.lead.1.at t.pages c.args.rg k.copy x.holder x.spare (page_of k.copy.from x) c.requires.cut k.lies c.placed.ensures.places c.requires.lead.1.leads (c.requires.lead.1.owned.led k.copy.from x was) refl)

pub returns-in-Some-name_of-clause-tables : goal.returns-in-Some-name_of-clause-tables
returns-in-Some-name_of-clause-tables c =
    let t : Tables = c.args.tables.now in
    let new : Tables = record t { map = c.put_owned.new.map; flights = c.put_owned.new.flights; pages = c.move_copy.new.self } in
    let k = copy-at t.pages c.args.rg c.args.index c.joined.ensures c.requires.group c.requires.copy in
    let x : Owner = c.in-Some.owner in
    let was : owner_at t.pages.owners k.copy.from ≡ Some x = sym (of-copy t.pages c.args.rg c.args.index k (λ (y : Copied). c.move_copy.result ≡ owner_at t.pages.owners y.from) c.move_copy.ensures.owner) ∙ c.in-Some.is in
    record {
      owners = c.move_copy.ensures.owners;
      kept = copy-moved t new k.copy (of-copy t.pages c.args.rg c.args.index k (λ (y : Copied). owner_at new.pages.owners ≡ moved (owner_at t.pages.owners) y) c.move_copy.ensures.owners) c.move_copy.ensures.rest x was (k.free x was)
          (page-there c.requires.lead.0 t.map t.flights.items c.requires.lead.1.at x.holder x.spare (page_of k.copy.from x) c.requires.lead.1.leads (c.requires.lead.1.owned.led k.copy.from x was))
          (subst (λ (y : Copied). IsMoved t.map new.map t.flights.items new.flights.items x y.to) (get_or_from_slice_get c.copies.result.now c.args.index k.copy _ (ap (λ (xs : List Copied). slice_get xs c.args.index) c.copies.ensures.copies ∙ k.copy_is)) c.put_owned.ensures)
          refl;
    }

pub returns-in_default-name_of-clause-tables : goal.returns-in_default-name_of-clause-tables
returns-in_default-name_of-clause-tables c =
    let t : Tables = c.args.tables.now in
    let new : Tables = record t { map = c.put_owned.new.map; flights = c.put_owned.new.flights; pages = c.move_copy.new.self } in
    let k = copy-at t.pages c.args.rg c.args.index c.joined.ensures c.requires.group c.requires.copy in
    let x : Owner = c.in-Some.owner in
    let was : owner_at t.pages.owners k.copy.from ≡ Some x = sym (of-copy t.pages c.args.rg c.args.index k (λ (y : Copied). c.move_copy.result ≡ owner_at t.pages.owners y.from) c.move_copy.ensures.owner) ∙ c.in-Some.is in
    record {
      owners = c.move_copy.ensures.owners;
      kept = copy-moved t new k.copy (of-copy t.pages c.args.rg c.args.index k (λ (y : Copied). owner_at new.pages.owners ≡ moved (owner_at t.pages.owners) y) c.move_copy.ensures.owners) c.move_copy.ensures.rest x was (k.free x was)
          (page-there c.requires.lead.0 t.map t.flights.items c.requires.lead.1.at x.holder x.spare (page_of k.copy.from x) c.requires.lead.1.leads (c.requires.lead.1.owned.led k.copy.from x was))
          (subst (λ (y : Copied). IsMoved t.map new.map t.flights.items new.flights.items x y.to) (get_or_from_slice_get c.copies.result.now c.args.index k.copy _ (ap (λ (xs : List Copied). slice_get xs c.args.index) c.copies.ensures.copies ∙ k.copy_is)) c.put_owned.ensures)
          refl;
    }

pub returns-in_default-clause-tables : goal.returns-in_default-clause-tables
returns-in_default-clause-tables c =
    let t : Tables = c.args.tables.now in
    let new : Tables = record t { pages = c.move_copy.new.self } in
    let k = copy-at t.pages c.args.rg c.args.index c.joined.ensures c.requires.group c.requires.copy in
    let was : owner_at t.pages.owners k.copy.from ≡ None = sym (of-copy t.pages c.args.rg c.args.index k (λ (y : Copied). c.move_copy.result ≡ owner_at t.pages.owners y.from) c.move_copy.ensures.owner) ∙ c.in_default.is in
    record {
      owners = c.move_copy.ensures.owners;
      kept = copy-passed t new k.copy (of-copy t.pages c.args.rg c.args.index k (λ (y : Copied). owner_at new.pages.owners ≡ moved (owner_at t.pages.owners) y) c.move_copy.ensures.owners) c.move_copy.ensures.rest was refl;
    }
