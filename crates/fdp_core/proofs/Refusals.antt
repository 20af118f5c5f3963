-- A command that is refused, or fails, completes no change.
use Rattle.std.proofs.Common.{◌≡◌, Bool, true, false, ◌&&◌, refl}
use Rattle.std.specs.Prelude.{IsFalse}
use Rattle.fdp_base.specs.declared.command.Command.{Command}
use Rattle.fdp_base.specs.declared.entry.Reply.{Reply}
use Rattle.fdp_base.specs.declared.status.TheConstants.Status as statuses
use Rattle.fdp_image.specs.Kept.{is_completed}
use Rattle.fdp_rules.specs.Change.{is_status}

-- without Success no change is completed
pub uncompleted : (command : Command) (reply : Reply) → is_status reply.status statuses.SUCCESS ≡ false → IsFalse (is_completed command reply)
uncompleted command reply none = neither _ _ none where
  neither : (a b : Bool) → b ≡ false → (a && b) ≡ false
  neither true b e = e
  neither false b e = refl
