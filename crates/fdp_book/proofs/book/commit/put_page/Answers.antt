use Rattle.std.proofs.Common.{◌≢◌, ◌∙◌, ap, Option}
use Rattle.std.specs.Prelude.{IsSome, is_some, option_map}
use Rattle.fdp_base.specs.declared.entry.Spot.{Spot}
use Rattle.fdp_book.proofs.Committing.PutPages.{cleared-other, if-both}
use Rattle.fdp_map.specs.MapTable.{mapped_at}
use Rattle.fdp_owners.specs.declared.owner.Holder.TheVariants.{Block}
use Rattle.fdp_owners.specs.declared.owner.Owner.{Owner}
use Rattle.fdp_owners.specs.OwnerTable.{held_by, owner_at, with_owner}
use Rattle.fdp_book.proofs.book.commit.put_page.Goals as goal

pub clear_old-requires : goal.clear_old-requires
clear_old-requires c = (if-both (λ m. IsSome (owner_at c.args.pages.now.owners m.spot)) (λ m. m.spot ≢ c.args.spot) (mapped_at c.args.map.now c.args.nsid c.args.lba) c.requires.old).0

pub hand_over-requires : goal.hand_over-requires
hand_over-requires c =
    let other = (if-both (λ m. IsSome (owner_at c.args.pages.now.owners m.spot)) (λ m. m.spot ≢ c.args.spot) (mapped_at c.args.map.now c.args.nsid c.args.lba) c.requires.old).1 in
    ap (λ (o : Option Owner). is_some o) (ap (λ (f : Spot → Option Owner). f c.args.spot) c.clear_old.ensures.owners ∙ cleared-other (owner_at c.args.pages.now.owners) (mapped_at c.args.map.now c.args.nsid c.args.lba) c.args.spot other) ∙ c.requires.new

pub returns-clause-owners : goal.returns-clause-owners
returns-clause-owners c =
    c.hand_over.ensures.owners ∙ ap (λ (f : Spot → Option Owner). with_owner f c.args.spot (option_map (held_by Block) (f c.args.spot))) c.clear_old.ensures.owners
