use Rattle.std.proofs.Common.{◌∙◌, None, ap}
use Rattle.fdp_owners.specs.OwnerTable.{live_in, owner_at}
use Rattle.fdp_owners.proofs.Tables.{live-cleared, owner-set}
use Rattle.fdp_owners.proofs.owners.Owners.clear.Goals as goal

pub returns-clause-owners : goal.returns-clause-owners
returns-clause-owners c = ap owner_at c.set.ensures ∙ (λ d s. owner-set c.args.self.now c.args.spot None c.requires.place s d)

pub returns-clause-live : goal.returns-clause-live
returns-clause-live c = ap live_in c.set.ensures ∙ live-cleared c.args.self.now c.args.spot c.requires.place c.requires.owned
