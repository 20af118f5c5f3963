-- Which bytes are the frame of which command.
use Rattle.std.specs.Prelude.{◌≡◌, ℕ, List, ◌++◌, length}
use Rattle.fdp_base.specs.declared.command.Command.{Command}
use Rattle.fdp_binary.specs.declared.encode.NotCarried.{NotCarried}
use Rattle.fdp_binary.specs.declared.encode.NotCarried.TheVariants.{NoMemory, Uncarried}
use Rattle.fdp_binary.specs.declared.front.Front.{Front}
use Rattle.fdp_binary.specs.Front.{IsSound, front_bytes}
use Rattle.fdp_binary.specs.Saying.{Says}

-- the bytes are a frame of the command: a head, an entry, and as many bytes of data as the head says, which say the command
pub record IsFrame (block : ℕ) (bytes : List ℕ) (command : Command) : Type 0 where
  pub front : Front
  pub body : List ℕ
  pub sound : IsSound front
  pub sized : length body ≡ front.len
  pub whole : bytes ≡ front_bytes front ++ body
  pub says : Says block front.admin front.entry body command

-- a frame of the command was appended
abbrev pub AddsFrame : ℕ → Command → List ℕ → List ℕ → Type 0
AddsFrame block command old new = (frame : List ℕ) × (new ≡ old ++ frame) × IsFrame block frame command

-- a command is refused that no bytes are a frame of; want of memory comes freely
abbrev pub IsRefused : ℕ → Command → NotCarried → Type 0
IsRefused block command Uncarried = (frame : List ℕ) → IsFrame block frame command → ⊥
IsRefused block command NoMemory = Unit {0}
