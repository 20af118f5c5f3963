use Rattle.std.proofs.Common.{◌≡◌, take}
use Rattle.fdp_owners.specs.OwnerTable.{owner_at}
use Rattle.fdp_pages.specs.Steps.{ChangesOwners, without}
use Rattle.fdp_pages.proofs.pages.Pages.release.Given as goal

abbrev pub invariant-loop-spot : goal.invariant-loop-spot
invariant-loop-spot l = record {
  owners : owner_at l.self.owners ≡ without (owner_at l.fn.self.owners) (take l.spot-index l.spots);
  rest : ChangesOwners l.fn.self l.self;
}
