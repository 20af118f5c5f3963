-- Histories in which the generated load is served.
use Rattle.std.specs.Prelude.{◌≡◌, ℕ, ◌<◌, List, [], length}
use Rattle.fdp_base.specs.declared.config.DriveConfig.{DriveConfig}
use Rattle.fdp_base.specs.declared.entry.Entry.{Entry}
use Rattle.fdp_base.specs.Geometry.{IsWithin}
use Rattle.fdp_rules.specs.Answer.{read_block}
use Rattle.fdp_rules.specs.History.{Found, state_of}
use Rattle.fdp_rules.specs.Queue.{IsSilent, KeepsQueueOrder}
use Rattle.fdp_make.specs.Load.{make_trace}

-- queues 1 to 4 have completed beginnings of their traces, in order, each command once; no later queue completed anything
pub record ServesLoad (number : ℕ) (es : List Entry) : Type 0 where
  pub orders : (queue : ℕ) → IsWithin 1 4 queue → KeepsQueueOrder queue (make_trace number queue) es
  pub others : (queue : ℕ) → 4 < queue → IsSilent queue es

-- each block that a run found has as many bytes as a block
abbrev pub FindsWholeBlocks : DriveConfig → Found → Type 0
FindsWholeBlocks c f = (nsid lba : ℕ) → length (read_block c (state_of c f []) nsid lba) ≡ c.block
