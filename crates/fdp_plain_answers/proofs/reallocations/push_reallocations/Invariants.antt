use Rattle.std.proofs.Common.{ℕ, List}
use Rattle.std.specs.Prelude.{filter}
use Rattle.fdp_base.specs.declared.entry.BlockName.{BlockName}
use Rattle.fdp_base.specs.declared.event.Event.{Event}
use Rattle.fdp_rules.specs.Events.{is_of_handle, reallocated}
use Rattle.fdp_rules.specs.Room.{handles_in_force}
use Rattle.fdp_tables.specs.declared.state.Kept.{Kept}
use Rattle.fdp_plain_answers.specs.Keeping.{kept_of}
use Rattle.fdp_tables.specs.State.{plain_of}
use Rattle.fdp_tables.proofs.Collecting.{IsCollecting}
use Rattle.fdp_plain_answers.proofs.reallocations.push_reallocations.Given as goal

-- the event of the moved blocks of a handle, if it is kept
abbrev pub of_handle : Kept → ℕ → List BlockName → ℕ → List Event
of_handle k rg blocks ruh = kept_of (plain_of k) (reallocated (plain_of k) rg ruh (filter (is_of_handle (plain_of k) ruh) blocks))

abbrev pub invariant-loop-ruh : goal.invariant-loop-ruh
invariant-loop-ruh l = IsCollecting (of_handle l.kept l.rg l.blocks) (handles_in_force l.kept.config (plain_of l.kept)) l.ruh l.fn.into.items l.into.items
