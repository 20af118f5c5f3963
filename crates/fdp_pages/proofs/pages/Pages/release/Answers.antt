use Rattle.std.proofs.Common.{◌≡◌, ◌<◌, ap, arith, sym, ◌∙◌, Option, get_or, length, None}
use Rattle.std.specs.Prelude.{is_some}
use Rattle.std.proofs.lemmas.List.Elements.{Contains-get_or}
use Rattle.fdp_base.specs.declared.entry.Spot.{Spot}
use Rattle.fdp_owners.specs.declared.owner.Owner.{Owner}
use Rattle.fdp_owners.specs.OwnerTable.{owner_at, with_owner}
use Rattle.fdp_pages.proofs.Recounting.{changes-on}
use Rattle.fdp_pages.proofs.Released.{still-owned, without-more}
use Rattle.fdp_pages.proofs.pages.Pages.release.Goals as goal

pub clear-requires : goal.clear-requires
clear-requires c =
    let d : Spot = record { unit = 0; page = 0 } in
    let low : c.loop-spot.spot-index < length c.args.spots.now = omega arith in
    let spot : Spot = get_or c.args.spots.now c.loop-spot.spot-index d in
    let now : owner_at c.loop-spot.self.owners spot ≡ owner_at c.args.self.now.owners spot =
    ap (λ (f : Spot → Option Owner). f spot) c.loop-spot.invariant.owners ∙ still-owned (owner_at c.args.self.now.owners) c.args.spots.now c.loop-spot.spot-index d low c.requires.differ in
    ap is_some now ∙ c.requires.owned spot (Contains-get_or c.args.spots.now c.loop-spot.spot-index d low)

pub loop-spot-preserved : goal.loop-spot-preserved
loop-spot-preserved c =
    let d : Spot = record { unit = 0; page = 0 } in
    let low : c.loop-spot.spot-index < length c.args.spots.now = omega arith in
    let spot : Spot = get_or c.args.spots.now c.loop-spot.spot-index d in
    record {
      owners = c.clear.ensures.owners ∙ ap (λ (f : Spot → Option Owner). with_owner f spot None) c.loop-spot.invariant.owners ∙ sym (without-more (owner_at c.args.self.now.owners) c.args.spots.now c.loop-spot.spot-index d low);
      rest = changes-on c.args.self.now c.loop-spot.self c.clear.new.self c.loop-spot.invariant.rest c.clear.ensures.rest;
    }
