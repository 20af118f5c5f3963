-- Histories in which nothing is lost, and replies that tell of a want of capacity.
use Rattle.std.specs.Prelude.{ℕ, Bool, false, ◌||◌, IsFalse}
use Rattle.std.specs.Option.{option_map_or}
use Rattle.fdp_base.specs.declared.entry.Entry.{Entry}
use Rattle.fdp_base.specs.declared.entry.Host.{Host}
use Rattle.fdp_base.specs.declared.status.TheConstants.Status as statuses
use Rattle.fdp_base.specs.EntryKinds.{host_of, loses_unit, wears_group}
use Rattle.fdp_rules.specs.Change.{is_status}
use Rattle.fdp_rules.specs.PlainState.{PlainState}

-- an entry tells that a unit was lost, or that a group was worn
abbrev pub tells_loss : Entry → Bool
tells_loss e = loses_unit e || wears_group e

-- no unit is lost, and no group worn
pub record IsWhole (s : PlainState) : Type 0 where
  pub lost : (unit : ℕ) → IsFalse (s.is_lost unit)
  pub worn : (rg : ℕ) → IsFalse (s.is_worn rg)

-- an entry completes a command with Capacity Exceeded
abbrev pub exceeds_capacity : Entry → Bool
exceeds_capacity e = option_map_or (λ (h : Host). is_status h.reply.status statuses.CAPACITY_EXCEEDED) (host_of e) false
