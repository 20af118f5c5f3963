-- What a command that takes effect does to the pages of data, by the form of its change.
use Rattle.std.proofs.Common.{◌≡◌}
use Rattle.fdp_base.specs.declared.command.Command.{Command}
use Rattle.fdp_base.specs.declared.command.Command.TheVariants as commands
use Rattle.fdp_base.specs.declared.command.SetFdp.{SetFdp}
use Rattle.fdp_base.specs.declared.command.Write.{Write}
use Rattle.fdp_base.specs.declared.config.DriveConfig.{DriveConfig}
use Rattle.fdp_book.specs.Commanded.{AppliesTo, LeavesHandles, LetsGo, SetsPlacement}
use Rattle.fdp_readings.specs.fdp_pages.PageTables.{PageTables}
use Rattle.fdp_readings.specs.fdp_pages.Steps.{ChangesOwners}

-- what is shown of each form of a change, for the commands that make it
pub record ShownOfPages (c : DriveConfig) (P : Command → PageTables → PageTables → Type 0) : Type 0 where
  pub written : (w : Write) (old new : PageTables) → ChangesOwners old new → P (commands.Write w) old new
  pub still : (command : Command) (old new : PageTables) → new ≡ old → P command old new
  pub gone : (command : Command) (old new : PageTables) → LetsGo old new → P command old new
  pub left : (command : Command) (old new : PageTables) → LeavesHandles old new → P command old new
  pub set : (s : SetFdp) (old new : PageTables) → SetsPlacement c s.enable s.index old new → P (commands.SetFdp s) old new

pub by-pages : (c : DriveConfig) (P : Command → PageTables → PageTables → Type 0) → ShownOfPages c P → (command : Command) (old new : PageTables) → AppliesTo c command old new → P command old new
by-pages c P shown (commands.Write w) old new h = shown.written w old new h
by-pages c P shown (commands.Zero z) old new h = shown.gone (commands.Zero z) old new h
by-pages c P shown (commands.Dealloc d) old new h = shown.gone (commands.Dealloc d) old new h
by-pages c P shown (commands.Delete d) old new h = shown.gone (commands.Delete d) old new h
by-pages c P shown (commands.Update u) old new h = shown.left (commands.Update u) old new h
by-pages c P shown (commands.SetFdp s) old new h = shown.set s old new h
by-pages c P shown (commands.Read r) old new h = shown.still (commands.Read r) old new h
by-pages c P shown (commands.Flush f) old new h = shown.still (commands.Flush f) old new h
by-pages c P shown (commands.Status status) old new h = shown.still (commands.Status status) old new h
by-pages c P shown (commands.Log l) old new h = shown.still (commands.Log l) old new h
by-pages c P shown (commands.GetFdp g) old new h = shown.still (commands.GetFdp g) old new h
by-pages c P shown (commands.SetEvents s) old new h = shown.still (commands.SetEvents s) old new h
by-pages c P shown (commands.Create create) old new h = shown.still (commands.Create create) old new h
by-pages c P shown (commands.Other o) old new h = shown.still (commands.Other o) old new h
