-- The length of the log that a command asks for.
use Rattle.std.specs.Prelude.{◌≡◌, ℕ, length}
use Rattle.fdp_base.specs.declared.command.Command.{Command}
use Rattle.fdp_base.specs.declared.command.Command.TheVariants as commands
use Rattle.fdp_base.specs.declared.config.DriveConfig.{DriveConfig}
use Rattle.fdp_rules.specs.LogPages.{log_page}
use Rattle.fdp_rules.specs.Point.{Point}

-- so many bytes has the log that a command asks for; of another command it may be any number
abbrev pub IsLogLength : DriveConfig → Point → Command → ℕ → Type 0
IsLogLength c p (commands.Write w) bytes = Unit {0}
IsLogLength c p (commands.Read r) bytes = Unit {0}
IsLogLength c p (commands.Zero z) bytes = Unit {0}
IsLogLength c p (commands.Dealloc d) bytes = Unit {0}
IsLogLength c p (commands.Flush f) bytes = Unit {0}
IsLogLength c p (commands.Delete d) bytes = Unit {0}
IsLogLength c p (commands.Status s) bytes = Unit {0}
IsLogLength c p (commands.Update u) bytes = Unit {0}
IsLogLength c p (commands.Log l) bytes = bytes ≡ length (log_page c p l.lid l.lsp)
IsLogLength c p (commands.SetFdp s) bytes = Unit {0}
IsLogLength c p (commands.GetFdp g) bytes = Unit {0}
IsLogLength c p (commands.SetEvents s) bytes = Unit {0}
IsLogLength c p (commands.Create create) bytes = Unit {0}
IsLogLength c p (commands.Other o) bytes = Unit {0}
