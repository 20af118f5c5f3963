-- The lines of a trace: the words of each, and the command that it spells.
use Rattle.std.specs.Prelude.{ℕ, ◌-◌, ◌^◌, ◌≤◌, Bool, true, not, ◌==◌, List, [], ◌∷◌, length, map, flat_map, codes}
use Rattle.fdp_base.specs.declared.command.Command.{Command}
use Rattle.fdp_base.specs.declared.command.Command.TheVariants as commands
use Rattle.fdp_base.specs.declared.command.Range.{Range}
use Rattle.fdp_base.specs.Codes.{directive_code, receive_code, send_code}
use Rattle.fdp_base.specs.declared.codes.Directive.TheVariants as directives
use Rattle.fdp_base.specs.declared.codes.ReceiveOperation.TheVariants as receives
use Rattle.fdp_base.specs.declared.codes.SendOperation.TheVariants as sends
use Rattle.fdp_base.specs.declared.payload.Payload.TheVariants.{Pattern}
use Rattle.fdp_output.specs.CommandText.{on_word}
use Rattle.fdp_trace.specs.declared.limits.TheConstants.{MOST_AMOUNT}

-- a word of a line: one that is fixed, or a number with its least and its greatest value
pub data Part : Type 0 where
  Fixed : List ℕ → Part
  Number : (low high n : ℕ) → Part

-- a number of so many bits
abbrev pub bits : ℕ → ℕ → Part
bits k n = Number 0 (2 ^ k - 1) n

-- a number of blocks or dwords
abbrev pub amount : ℕ → Part
amount n = Number 1 MOST_AMOUNT n

-- a range in two words
abbrev pub range_parts : Range → List Part
range_parts r = bits 64 r.slba ∷ bits 32 r.length ∷ []

-- the lines, one case each
pub data IsLine : List Part → Command → Type 0 where
  write : (nsid slba count seed : ℕ)
      → IsLine (Fixed (codes "write") ∷ bits 32 nsid ∷ bits 64 slba ∷ amount count ∷ bits 32 seed ∷ []) (commands.Write (record { nsid = nsid; slba = slba; count = count; dtype = directive_code directives.Absent; dspec = 0; payload = Pattern seed }))
  write_placed : (nsid slba count seed pid : ℕ)
      → IsLine (Fixed (codes "write") ∷ bits 32 nsid ∷ bits 64 slba ∷ amount count ∷ bits 32 seed ∷ Fixed (codes "pid") ∷ bits 16 pid ∷ []) (commands.Write (record { nsid = nsid; slba = slba; count = count; dtype = directive_code directives.DataPlacement; dspec = pid; payload = Pattern seed }))
  read : (nsid slba count : ℕ) → IsLine (Fixed (codes "read") ∷ bits 32 nsid ∷ bits 64 slba ∷ amount count ∷ []) (commands.Read (record { nsid = nsid; slba = slba; count = count }))
  zeroes : (nsid slba count : ℕ) → IsLine (Fixed (codes "zero") ∷ bits 32 nsid ∷ bits 64 slba ∷ amount count ∷ []) (commands.Zero (record { nsid = nsid; slba = slba; count = count }))
  dealloc : (nsid : ℕ) (ranges : List Range) → 1 ≤ length ranges → length ranges ≤ 256
      → IsLine (Fixed (codes "dealloc") ∷ bits 32 nsid ∷ flat_map range_parts ranges) (commands.Dealloc (record { nsid = nsid; deallocate = true; ranges = ranges }))
  flush : (nsid : ℕ) → IsLine (Fixed (codes "flush") ∷ bits 32 nsid ∷ []) (commands.Flush (record { nsid = nsid }))
  status : (nsid dwords : ℕ) → IsLine (Fixed (codes "status") ∷ bits 32 nsid ∷ amount dwords ∷ []) (commands.Status (record { nsid = nsid; mo = receive_code receives.HandleStatus; dwords = dwords }))
  update : (nsid : ℕ) (pids : List ℕ) → 1 ≤ length pids → length pids ≤ 256
      → IsLine (Fixed (codes "update") ∷ bits 32 nsid ∷ map (bits 16) pids) (commands.Update (record { nsid = nsid; mo = send_code sends.HandleUpdate; pids = pids }))
  log : (lid offset dwords : ℕ) → IsLine (Fixed (codes "log") ∷ bits 8 lid ∷ bits 64 offset ∷ amount dwords ∷ []) (commands.Log (record { lid = lid; lsp = 0; group = 1; offset = offset; dwords = dwords }))
  log_ctrl : (lid offset dwords : ℕ)
      → IsLine (Fixed (codes "log") ∷ bits 8 lid ∷ bits 64 offset ∷ amount dwords ∷ Fixed (codes "ctrl") ∷ []) (commands.Log (record { lid = lid; lsp = 0; group = 1; offset = offset; dwords = dwords }))
  log_host : (lid offset dwords : ℕ)
      → IsLine (Fixed (codes "log") ∷ bits 8 lid ∷ bits 64 offset ∷ amount dwords ∷ Fixed (codes "host") ∷ []) (commands.Log (record { lid = lid; lsp = 1; group = 1; offset = offset; dwords = dwords }))
  set_fdp : (enable : Bool) (index : ℕ) → IsLine (Fixed (codes "set-fdp") ∷ Fixed (on_word enable) ∷ bits 8 index ∷ []) (commands.SetFdp (record { group = 1; enable = enable; index = index }))
  get_fdp : IsLine (Fixed (codes "get-fdp") ∷ []) (commands.GetFdp (record { group = 1 }))
  set_events : (nsid handle : ℕ) (enable : Bool) (types : List ℕ) → 1 ≤ length types → length types ≤ 6
      → IsLine (Fixed (codes "set-events") ∷ bits 32 nsid ∷ bits 16 handle ∷ Fixed (on_word enable) ∷ map (bits 8) types) (commands.SetEvents (record { nsid = nsid; handle = handle; enable = enable; types = types }))
  create : (blocks : ℕ) (handles : List ℕ) → length handles ≤ 32
      → IsLine (Fixed (codes "create") ∷ bits 64 blocks ∷ map (bits 16) handles) (commands.Create (record { size = blocks; given = not (length handles == 0); list = handles }))
  delete : (nsid : ℕ) → IsLine (Fixed (codes "delete") ∷ bits 32 nsid ∷ []) (commands.Delete (record { nsid = nsid }))
