-- Which queues take part in a step.
use Rattle.std.specs.Prelude.{◌≢◌, ℕ, ◌<◌, List}
use Rattle.fdp_base.specs.declared.entry.Entry.{Entry}
use Rattle.fdp_rules.specs.Queue.{IsSilent}

-- all other queues are silent in these entries: they complete nothing, and let no write go
abbrev pub OthersStaySilent : ℕ → List Entry → Type 0
OthersStaySilent queue es = (other : ℕ) → 0 < other → other ≢ queue → IsSilent other es
