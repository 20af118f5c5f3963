use Rattle.std.proofs.Common.{◌≡◌, ℕ}
use Rattle.fdp_state.specs.Owners.{AreOwners, Pages, pages_before}
use Rattle.fdp_state.specs.Parts.{row}
use Rattle.fdp_state.proofs.index.claim_list.Given as goal

abbrev pub invariant-loop-lba : goal.invariant-loop-lba
invariant-loop-lba l = (pages : Pages) → ((lba : ℕ) → row l.list lba ≡ pages l.nsid lba) → AreOwners (pages_before pages l.nsid 0) l.initial.owners.items → AreOwners (pages_before pages l.nsid l.lba) l.owners.items
