use Rattle.std.proofs.Common.{ℕ, not, ◌&&◌, ◌==◌}
use Rattle.fdp_base.specs.Numbers.{count_below, is_among}
use Rattle.fdp_rules.specs.Room.{lies_in, size_of}
use Rattle.fdp_tables.specs.declared.state.Kept.{Kept}
use Rattle.fdp_tables.specs.State.{plain_of}
use Rattle.fdp_commands.proofs.Summing.{IsSummedOver}
use Rattle.fdp_tables.proofs.state.Kept.stored_outside.Given as goal

-- what one namespace has of it
abbrev pub others_in : Kept → (rg except slba count nsid : ℕ) → ℕ
others_in k rg except slba count nsid = count_below (size_of (plain_of k) nsid) (λ lba. lies_in rg ((plain_of k).blocks nsid lba) && not (nsid == except && is_among slba count lba))

abbrev pub invariant-loop-nsid : goal.invariant-loop-nsid
invariant-loop-nsid l = IsSummedOver (others_in l.self l.rg l.except l.slba l.count) l.nsid-items l.nsid-index l.stored
