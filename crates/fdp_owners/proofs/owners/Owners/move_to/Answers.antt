use Rattle.std.proofs.Common.{◌≡◌, ◌∙◌, None, Option, ap, true}
use Rattle.std.specs.Prelude.{is_some}
use Rattle.fdp_owners.specs.declared.owner.Owner.{Owner}
use Rattle.fdp_owners.specs.OwnerTable.{OwnerTable, live_in, owner_at, with_owner}
use Rattle.fdp_owners.proofs.Tables.{live-moved, owners-moved, with_page}
use Rattle.fdp_owners.proofs.owners.Owners.move_to.Goals as goal

pub returns-clause-owners : goal.returns-clause-owners
returns-clause-owners c =
    let t : OwnerTable = c.args.self.now in
    let table : c.set-2.new.self ≡ with_page (with_page t c.args.from None) c.args.to c.get-owner.result = c.set-2.ensures ∙ ap (λ (x : OwnerTable). with_page x c.args.to c.get-owner.result) c.set.ensures in
    ap owner_at table
    ∙ owners-moved t c.args.from c.args.to c.requires.from c.requires.to c.get-owner.result
    ∙ ap (λ (o : Option Owner). with_owner (with_owner (owner_at t) c.args.from None) c.args.to o) c.get-owner.ensures

pub returns-clause-live : goal.returns-clause-live
returns-clause-live c =
    let t : OwnerTable = c.args.self.now in
    let table : c.set-2.new.self ≡ with_page (with_page t c.args.from None) c.args.to c.get-owner.result = c.set-2.ensures ∙ ap (λ (x : OwnerTable). with_page x c.args.to c.get-owner.result) c.set.ensures in
    let moves : is_some c.get-owner.result ≡ true = ap is_some c.get-owner.ensures ∙ c.requires.owned in
    ap live_in table ∙ live-moved t c.args.from c.args.to c.requires.from c.requires.to c.get-owner.result c.requires.owned moves c.requires.free
