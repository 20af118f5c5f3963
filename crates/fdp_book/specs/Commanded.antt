-- A command other than a write whose change is saved, and what it does to the pages of data.
use Rattle.std.specs.Prelude.{◌≡◌, ◌⊎◌, ℕ, Bool, true, IsFalse, IsTrue, [], None, if◌then◌else◌}
use Rattle.fdp_base.specs.declared.command.Command.{Command}
use Rattle.fdp_base.specs.declared.command.Command.TheVariants as commands
use Rattle.fdp_base.specs.declared.config.DriveConfig.{DriveConfig}
use Rattle.fdp_base.specs.declared.entry.Reply.{Reply}
use Rattle.fdp_base.specs.declared.entry.Spot.{Spot}
use Rattle.fdp_base.specs.declared.status.Status.{Status}
use Rattle.fdp_base.specs.declared.status.TheConstants.Status as statuses
use Rattle.fdp_base.specs.CommandKinds.{IsWellFormed, is_saved, is_write}
use Rattle.fdp_base.specs.Placement.{classes_of}
use Rattle.fdp_book.specs.Book.{BookSeen, point_in}
use Rattle.fdp_owners.specs.OwnerTable.{owner_at}
use Rattle.fdp_readings.specs.fdp_pages.PageTables.{PageTables}
use Rattle.fdp_readings.specs.fdp_pages.Steps.{ChangesOwners, LeavesUnits, SetsClasses}
use Rattle.fdp_rules.specs.Answer.{dword0_of}
use Rattle.fdp_rules.specs.Change.{is_status}
use Rattle.fdp_rules.specs.PlainState.{PlainState}
use Rattle.fdp_rules.specs.Refusal.{refusal_of}
use Rattle.fdp_rules.specs.Step.{IsQueue}

-- a command other than a write may take effect in a queue: it is not refused, and is one that is saved
pub record MayTakeEffect (b : BookSeen) (queue : ℕ) (command : Command) : Type 0 where
  pub queue_is : IsQueue b.config queue
  pub formed : IsWellFormed b.config command
  pub accepted : refusal_of b.config (point_in b) command ≡ None
  pub saved : IsTrue (is_saved command)
  pub other : IsFalse (is_write command)

-- the answer to a command whose change is made: its success, or Write Fault where the saving of the change failed
abbrev pub applied_reply : PlainState → Command → Status → Reply
applied_reply s command status = record {
  status = status;
  dw0 = if is_status status statuses.SUCCESS then dword0_of s command else 0;
  bytes = [];
  applied = true;
}

-- each page has the owner that it had, or none any more
abbrev pub OnlyLetsGo : PageTables → PageTables → Type 0
OnlyLetsGo old new = (spot : Spot) → (owner_at new.owners spot ≡ owner_at old.owners spot) ⊎ (owner_at new.owners spot ≡ None)

-- pages are let go, and nothing else changes
pub record LetsGo (old new : PageTables) : Type 0 where
  pub changes : ChangesOwners old new
  pub only : OnlyLetsGo old new

-- handles are left without their units; relocation stays as it is, and so do the classes of the handles
pub record LeavesHandles (old new : PageTables) : Type 0 where
  pub leaves : LeavesUnits old new
  pub passes : new.passes ≡ old.passes
  pub classes : new.handles.classes ≡ old.handles.classes

-- a placement setting comes into force: each handle and each target is left without its unit, there are the handles of the setting, and no
-- page has an owner, before or after
pub record SetsPlacement (c : DriveConfig) (enabled : Bool) (index : ℕ) (old new : PageTables) : Type 0 where
  pub sets : SetsClasses old new (classes_of c enabled index)
  pub old_owners : (spot : Spot) → owner_at old.owners spot ≡ None
  pub new_owners : (spot : Spot) → owner_at new.owners spot ≡ None

-- what a command that takes effect does to the pages
abbrev pub AppliesTo : DriveConfig → Command → PageTables → PageTables → Type 0
AppliesTo c (commands.Write w) old new = ChangesOwners old new
AppliesTo c (commands.Read r) old new = new ≡ old
AppliesTo c (commands.Zero z) old new = LetsGo old new
AppliesTo c (commands.Dealloc d) old new = LetsGo old new
AppliesTo c (commands.Flush f) old new = new ≡ old
AppliesTo c (commands.Delete d) old new = LetsGo old new
AppliesTo c (commands.Status s) old new = new ≡ old
AppliesTo c (commands.Update u) old new = LeavesHandles old new
AppliesTo c (commands.Log l) old new = new ≡ old
AppliesTo c (commands.SetFdp set) old new = SetsPlacement c set.enable set.index old new
AppliesTo c (commands.GetFdp g) old new = new ≡ old
AppliesTo c (commands.SetEvents set) old new = new ≡ old
AppliesTo c (commands.Create create) old new = new ≡ old
AppliesTo c (commands.Other o) old new = new ≡ old
