use Rattle.std.proofs.Common.{◌∙◌, ap, eq-eqb, sym}
use Rattle.std.proofs.lemmas.Bool.{eqb-true}
use Rattle.fdp_owners.specs.OwnerTable.{owner_at}
use Rattle.fdp_collector.specs.Ready.{lane_at}
use Rattle.fdp_pages.specs.Finding.{lane_of_handle}
use Rattle.fdp_pages.proofs.Found.{from-found, go-with}
use Rattle.fdp_pages.proofs.Inside.{slot-one}
use Rattle.fdp_passes.specs.GroupPasses.{slot_of}
use Rattle.fdp_pages.proofs.pages.Pages.goes_with.Goals as goal

pub slot-requires : goal.slot-requires
slot-requires c =
    let found = from-found (owner_at c.args.self.now.owners) c.args.unit c.first_owner.result c.in-Some.owner c.in-Some.is c.first_owner.ensures in
    c.joined.ensures.lanes.handles found.0 c.in-Some.owner found.2

pub returns-in-Some : goal.returns-in-Some
returns-in-Some c =
    let t = c.args.self.now in
    let x = c.in-Some.owner in
    let found = from-found (owner_at t.owners) c.args.unit c.first_owner.result x c.in-Some.is c.first_owner.ensures in (
      λ same. go-with t c.args.unit c.args.ruh found.0 x c.joined.ensures found.1 found.2 (slot-one (lane_at t.handles.classes x) (lane_of_handle t.handles.classes c.args.ruh) (sym c.slot.ensures ∙ eqb-true c.slot.result c.slot-in-Some.result same ∙ c.slot-in-Some.ensures)),
      λ all. eq-eqb c.slot.result c.slot-in-Some.result (c.slot.ensures ∙ ap slot_of (all found.0 x found.1 found.2) ∙ sym c.slot-in-Some.ensures),
    )
