-- The answer to a command that changes nothing.
use Rattle.std.specs.Prelude.{◌≡◌, ℕ, Bool, List, ◌++◌, length, take}
use Rattle.fdp_base.specs.declared.command.Command.{Command}
use Rattle.fdp_book.specs.declared.room.Replies.{Replies}
use Rattle.fdp_book.specs.Book.{BookSeen, point_in}
use Rattle.fdp_rules.specs.Answer.{IsSuccess}
use Rattle.fdp_rules.specs.LogPages.{zeros}

-- the success of a command, twice: once for the record and once for the answer
pub record IsAnswer (b : BookSeen) (command : Command) (r : Replies) : Type 0 where
  pub success : (told : Bool) → IsSuccess told b.config (point_in b) command r.history
  pub same : r.answer ≡ r.history

-- so many bytes of these, and zeros behind them
abbrev pub filled : ℕ → List ℕ → List ℕ
filled size bytes = take size (bytes ++ zeros size)

-- a buffer holds these bytes as far as it reaches, and zeros behind them, from a place on
pub record IsFilled (buffer : List ℕ) (at : ℕ) (bytes : List ℕ) : Type 0 where
  pub buffer_is : buffer ≡ filled (length buffer) bytes
  pub place_is : at ≡ length bytes
