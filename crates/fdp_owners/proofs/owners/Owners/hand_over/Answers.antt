use Rattle.std.proofs.Common.{◌≡◌, ◌∙◌, Option, ap}
use Rattle.std.specs.Prelude.{option_map}
use Rattle.fdp_owners.specs.declared.owner.Owner.{Owner}
use Rattle.fdp_owners.specs.OwnerTable.{held_by, live_in, owner_at, with_owner}
use Rattle.fdp_owners.proofs.Tables.{live-handed, owner-set, with_page}
use Rattle.fdp_owners.proofs.owners.Owners.hand_over.Goals as goal

pub returns-clause-owners : goal.returns-clause-owners
returns-clause-owners c =
    let value : c.in_hands-owner.result ≡ option_map (held_by c.args.holder) (owner_at c.args.self.now c.args.spot) = c.in_hands-owner.ensures ∙ ap (option_map (held_by c.args.holder)) c.get.ensures in
    ap owner_at c.set.ensures
    ∙ (λ d s. owner-set c.args.self.now c.args.spot c.in_hands-owner.result c.requires.place s d)
    ∙ ap (λ (o : Option Owner). with_owner (owner_at c.args.self.now) c.args.spot o) value

pub returns-clause-live : goal.returns-clause-live
returns-clause-live c =
    let value : c.in_hands-owner.result ≡ option_map (held_by c.args.holder) (owner_at c.args.self.now c.args.spot) = c.in_hands-owner.ensures ∙ ap (option_map (held_by c.args.holder)) c.get.ensures in
    ap live_in c.set.ensures
    ∙ ap (λ (o : Option Owner). live_in (with_page c.args.self.now c.args.spot o)) value
    ∙ live-handed c.args.self.now c.args.spot c.args.holder c.requires.place
