-- How far a queue has come in a history.
use Rattle.std.specs.Prelude.{◌≡◌, ℕ, ◌+◌, ◌==◌, IfSome, List, [], ◌∷◌, ◌++◌, Option, Some, None, filter_map, take, if◌then◌else◌, option_and_then, option_map}
use mathlib.Core.List.{Sublist}
use Rattle.std.specs.List.{cons_option, enumerate_from}
use Rattle.fdp_base.specs.declared.command.Command.{Command}
use Rattle.fdp_base.specs.declared.entry.Entry.{Entry}
use Rattle.fdp_base.specs.declared.entry.Host.{Host}
use Rattle.fdp_base.specs.EntryKinds.{host_of}
use Rattle.fdp_rules.specs.History.{Found}
use Rattle.fdp_rules.specs.PlainState.{Going}
use Rattle.fdp_rules.specs.Queue.{completed, numbered, started_by, HoldsWhole, KeepsQueueOrder, StartsOwn}
use Rattle.fdp_workers.specs.declared.receipt.Receipt.{Receipt}
use Rattle.fdp_workers.specs.Run.{Run, state_by}

-- the receipt of a command that a queue completed, by the entry at a position
abbrev pub receipt_in : ℕ → ℕ × Entry → Option Receipt
receipt_in queue x = option_and_then (λ (h : Host). if h.queue == queue then Some (record { number = h.number; position = x.0 }) else None) (host_of x.1)

-- the receipts of all that a queue completed, in order
abbrev pub receipts_of : Found → ℕ → List Entry → List Receipt
receipts_of f queue es = filter_map (receipt_in queue) (enumerate_from (f.totals.position + 1) es)

-- what a queue has done: the commands that it completed, by number, with their receipts; which write is going
pub record Progress : Type 0 where
  pub commands : List (ℕ × Command)
  pub receipts : List Receipt
  pub going : Option Going

-- the commands that a queue completed, and the write that is going
abbrev pub begun_by : Progress → List (ℕ × Command)
begun_by p = p.commands ++ cons_option (option_map (λ (g : Going). (g.number, g.command)) p.going) []

-- no write is going but that of the command with this number
abbrev pub NoOtherGoes : ℕ → Command → Option Going → Type 0
NoOtherGoes number command going = IfSome going (λ (g : Going). (g.number ≡ number) × (g.command ≡ command))

-- what a queue has once it completed a command, by the entry at a position
abbrev pub ended : Progress → ℕ → Command → ℕ → Progress
ended p number command position = record { commands = p.commands ++ (number, command) ∷ []; receipts = p.receipts ++ record { number = number; position = position } ∷ []; going = None }

-- what a queue has that started a write of which so many pages are placed
abbrev pub flying : Progress → Going → ℕ → Progress
flying p g count = record p { going = Some (record g { placed = count }) }

-- what a queue has of a trace of which so many commands were served
abbrev pub so_far : List Command → ℕ → List Receipt → Progress
so_far trace count receipts = record { commands = numbered (take count trace); receipts = receipts; going = None }

-- a history has just that of a queue, which let go no write but of these commands, in their order
pub record Has (run : Run) (queue : ℕ) (p : Progress) (es : List Entry) : Type 0 where
  pub commands : completed queue es ≡ p.commands
  pub receipts : receipts_of run.found queue es ≡ p.receipts
  pub starts : Sublist (started_by queue es) (begun_by p)
  pub going : (state_by run es).going queue ≡ p.going

-- a queue has completed a beginning of its trace, in order, each command once, with these receipts, and each write that it let go is the command of the
-- trace with that number
pub record Serves (run : Run) (queue : ℕ) (trace : List Command) (receipts : List Receipt) (es : List Entry) : Type 0 where
  pub order : KeepsQueueOrder queue trace es
  pub receipts_are : receipts_of run.found queue es ≡ receipts
  pub starts : StartsOwn queue trace es

-- it has completed the whole, and no write is going
pub record ServesWhole (run : Run) (queue : ℕ) (trace : List Command) (es : List Entry) : Type 0 where
  pub whole : HoldsWhole queue trace es
  pub idle : (state_by run es).going queue ≡ None
