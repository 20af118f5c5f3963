-- What a command comes to first, with its cause.
use Rattle.std.specs.Prelude.{◌≡◌, ◌+◌, ◌<◌, ◌^◌, Bool, true, false, not, IsFalse, IsTrue, None, Some}
use Rattle.fdp_base.specs.declared.command.Command.{Command}
use Rattle.fdp_base.specs.declared.command.Command.TheVariants as commands
use Rattle.fdp_base.specs.declared.command.GetLog.{GetLog}
use Rattle.fdp_base.specs.declared.command.Read.{Read}
use Rattle.fdp_base.specs.declared.command.Write.{Write}
use Rattle.fdp_base.specs.CommandKinds.{is_saved, is_write}
use Rattle.fdp_rules.specs.Refusal.{refusal_of}
use Rattle.fdp_commands.specs.declared.admission.Admission.{Admission}
use Rattle.fdp_commands.specs.Admissions.{Admits}
use Rattle.fdp_book.specs.declared.first_step.FirstStep.{FirstStep}
use Rattle.fdp_book.specs.declared.first_step.FirstStep.TheVariants as first
use Rattle.fdp_book.specs.Book.{BookSeen, point_in}

-- a command is a write that is accepted for its target, with the group that has most room
pub record IsAdmitted (b : BookSeen) (command : Command) (a : Admission) : Type 0 where
  pub write : Write
  pub command_is : command ≡ commands.Write write
  pub admits : Admits b.config (point_in b) write a

-- a command is a read that is accepted
pub record IsReadable (b : BookSeen) (command : Command) (read : Read) : Type 0 where
  pub command_is : command ≡ commands.Read read
  pub accepted : refusal_of b.config (point_in b) command ≡ None
  pub range : read.slba + read.count < 2 ^ 64

-- a command that changes nothing, and is neither a read nor a log; one that is not served is always refused
abbrev pub is_answered : Command → Bool
is_answered (commands.Write w) = false
is_answered (commands.Read r) = false
is_answered (commands.Zero z) = false
is_answered (commands.Dealloc d) = not d.deallocate
is_answered (commands.Flush f) = true
is_answered (commands.Delete d) = false
is_answered (commands.Status s) = true
is_answered (commands.Update u) = false
is_answered (commands.Log l) = false
is_answered (commands.SetFdp s) = false
is_answered (commands.GetFdp g) = true
is_answered (commands.SetEvents s) = false
is_answered (commands.Create c) = false
is_answered (commands.Other o) = false

-- a command that changes nothing so is accepted
pub record IsAnswerable (b : BookSeen) (command : Command) : Type 0 where
  pub accepted : refusal_of b.config (point_in b) command ≡ None
  pub answered : IsTrue (is_answered command)

-- a command is a log that is accepted
pub record IsLogOf (b : BookSeen) (command : Command) (log : GetLog) : Type 0 where
  pub command_is : command ≡ commands.Log log
  pub accepted : refusal_of b.config (point_in b) command ≡ None

-- a command other than a write is accepted, and its change is saved
pub record IsSavable (b : BookSeen) (command : Command) : Type 0 where
  pub accepted : refusal_of b.config (point_in b) command ≡ None
  pub saved : IsTrue (is_saved command)
  pub other : IsFalse (is_write command)

-- a command comes to this first: its refusal, or what it is that is accepted
abbrev pub ComesFirstTo : BookSeen → Command → FirstStep → Type 0
ComesFirstTo b command (first.Refused status) = refusal_of b.config (point_in b) command ≡ Some status
ComesFirstTo b command (first.Read read) = IsReadable b command read
ComesFirstTo b command (first.Write admission) = IsAdmitted b command admission
ComesFirstTo b command first.Answered = IsAnswerable b command
ComesFirstTo b command first.Saved = IsSavable b command
ComesFirstTo b command (first.Log log) = IsLogOf b command log
