-- What a command answers that is not refused.
use Rattle.std.specs.Prelude.{◌≡◌, ℕ, ◌+◌, ◌*◌, Bool, not, ◌||◌, IsTrue, List, [], length, if◌then◌else◌, unwrap_or, flat_map}
use Rattle.std.specs.Option.{option_map_or}
use Rattle.fdp_base.specs.declared.command.Command.{Command}
use Rattle.fdp_base.specs.declared.command.Command.TheVariants as commands
use Rattle.fdp_base.specs.declared.config.DriveConfig.{DriveConfig}
use Rattle.fdp_base.specs.declared.entry.Reply.{Reply}
use Rattle.fdp_base.specs.declared.status.Status.{Status}
use Rattle.fdp_base.specs.declared.status.TheConstants.Status as statuses
use Rattle.fdp_base.specs.CommandKinds.{is_read, is_saved}
use Rattle.fdp_rules.specs.Effect.{lowest_free}
use Rattle.fdp_rules.specs.LogPages.{handle_status, log_page, transfer_of, zeros}
use Rattle.fdp_base.specs.Numbers.{numbers_from}
use Rattle.fdp_rules.specs.PlainState.{Block, PlainState}
use Rattle.fdp_rules.specs.Point.{Point}

-- what a block reads as
abbrev pub read_block : DriveConfig → PlainState → ℕ → ℕ → List ℕ
read_block c s nsid lba = option_map_or (λ (b : Block). b.bytes) (s.blocks nsid lba) (zeros c.block)

-- the data of a success: of a read the blocks; of a status or a log so much of it as was asked for
abbrev pub data_of : DriveConfig → Point → Command → List ℕ
data_of c p (commands.Write w) = []
data_of c p (commands.Read r) = flat_map (read_block c p.state r.nsid) (numbers_from r.slba r.count)
data_of c p (commands.Zero z) = []
data_of c p (commands.Dealloc d) = []
data_of c p (commands.Flush f) = []
data_of c p (commands.Delete d) = []
data_of c p (commands.Status s) = transfer_of 0 s.dwords (handle_status c p.state s.nsid)
data_of c p (commands.Update u) = []
data_of c p (commands.Log l) = transfer_of l.offset l.dwords (log_page c p l.lid l.lsp)
data_of c p (commands.SetFdp s) = []
data_of c p (commands.GetFdp g) = []
data_of c p (commands.SetEvents s) = []
data_of c p (commands.Create create) = []
data_of c p (commands.Other o) = []

-- dword 0 of a success: of a create the identifier; of Get Features whether placement is enabled, and its index
abbrev pub dword0_of : PlainState → Command → ℕ
dword0_of s (commands.Write w) = 0
dword0_of s (commands.Read r) = 0
dword0_of s (commands.Zero z) = 0
dword0_of s (commands.Dealloc d) = 0
dword0_of s (commands.Flush f) = 0
dword0_of s (commands.Delete d) = 0
dword0_of s (commands.Status status) = 0
dword0_of s (commands.Update u) = 0
dword0_of s (commands.Log l) = 0
dword0_of s (commands.SetFdp set) = 0
dword0_of s (commands.GetFdp g) = (if s.enabled then 1 else 0) + 256 * s.index
dword0_of s (commands.SetEvents set) = 0
dword0_of s (commands.Create c) = unwrap_or (lowest_free s) 0
dword0_of s (commands.Other o) = 0

-- a success; the bytes of a read are told only over a flash that tells what it holds
pub record IsSuccess (told : Bool) (c : DriveConfig) (p : Point) (command : Command) (reply : Reply) : Type 0 where
  pub status : reply.status ≡ statuses.SUCCESS
  pub dword0 : reply.dw0 ≡ dword0_of p.state command
  pub size : length reply.bytes ≡ length (data_of c p command)
  pub bytes_are : IsTrue (told || not (is_read command)) → reply.bytes ≡ data_of c p command
  pub applied : reply.applied ≡ is_saved command

-- an answer without data, whose change is made or not
abbrev pub bare : Status → Bool → Reply
bare status applied = record { status = status; dw0 = 0; bytes = []; applied = applied }
