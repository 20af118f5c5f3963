-- The change of a command other than a write, in the tables.
use Rattle.std.specs.Prelude.{◌≡◌, ℕ, IsFalse, IsTrue, List, [], ◌∷◌, ◌++◌, None, Option}
use Rattle.fdp_base.specs.declared.command.Command.{Command}
use Rattle.fdp_base.specs.declared.config.DriveConfig.{DriveConfig}
use Rattle.fdp_base.specs.declared.entry.Entry.{Entry}
use Rattle.fdp_base.specs.declared.entry.Entry.TheVariants as entries
use Rattle.fdp_base.specs.declared.entry.Spot.{Spot}
use Rattle.fdp_base.specs.declared.status.TheConstants.Status as statuses
use Rattle.fdp_base.specs.CommandKinds.{IsWellFormed, is_saved, is_write}
use Rattle.fdp_book.specs.declared.tables.Tables.{Tables}
use Rattle.fdp_book.specs.Commanded.{applied_reply}
use Rattle.fdp_book.specs.Held.{IsHeld}
use Rattle.fdp_book.specs.Outlined.{IsOutlineBehind}
use Rattle.fdp_readings.specs.fdp_locations.Written.{Written}
use Rattle.fdp_rules.specs.History.{Found, point_of}
use Rattle.fdp_rules.specs.Refusal.{refusal_of}
use Rattle.fdp_rules.specs.Step.{IsQueue}
use Rattle.fdp_snapshot.specs.declared.state.Summary.{Summary}

-- the entry of a command that succeeds, in a queue under a number, with a moment
abbrev pub success_entry : DriveConfig → Found → List Entry → ℕ → ℕ → Command → ℕ → Entry
success_entry c found es queue number command moment = entries.Host (record {
  queue = queue;
  number = number;
  command = command;
  reply = applied_reply (point_of c found es).state command statuses.SUCCESS;
  moment = moment;
})

-- a history for which tables stand, and behind which a command may take effect
pub record IsBehind (c : DriveConfig) (found : Found) (first : Spot → Option Written) (es : List Entry) (t : Tables) (command : Command) : Type 0 where
  pub held : IsHeld c found first es t
  pub formed : IsWellFormed c command
  pub accepted : refusal_of c (point_of c found es) command ≡ None

-- tables stand for such a history
pub record MayChange (c : DriveConfig) (t : Tables) (command : Command) : Type 0 where
  pub found : Found
  pub first : Spot → Option Written
  pub entries : List Entry
  pub behind : IsBehind c found first entries t command
  pub saved : IsTrue (is_saved command)
  pub other : IsFalse (is_write command)

-- tables stand for each such history with this command more, which succeeds, once they have the outline behind it
abbrev pub StandBehind : DriveConfig → Command → Tables → Tables → Type 0
StandBehind c command old new =
    (found : Found) (first : Spot → Option Written) (es : List Entry) (queue number moment : ℕ) (outline : Summary)
    → IsBehind c found first es old command → IsQueue c queue → IsOutlineBehind c found es (success_entry c found es queue number command moment) outline
    → IsHeld c found first (es ++ success_entry c found es queue number command moment ∷ []) (record new { outline = outline })
