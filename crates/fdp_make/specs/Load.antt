-- The generated load: the drive that serves it, and its four traces.
use Rattle.std.specs.Prelude.{ℕ, zero, suc, ◌+◌, ◌-◌, ◌*◌, ◌/◌, ◌%◌, ◌^◌, ◌==◌, ◌≤◌, true, All, List, [], ◌∷◌, Some, length, map, if◌then◌else◌}
use Rattle.fdp_base.specs.declared.codes.Directive.TheVariants.{DataPlacement}
use Rattle.fdp_base.specs.declared.command.Command.{Command}
use Rattle.fdp_base.specs.declared.command.Command.TheVariants as commands
use Rattle.fdp_base.specs.declared.config.Class.TheVariants.{Initial, Persistent}
use Rattle.fdp_base.specs.declared.config.DriveConfig.{DriveConfig}
use Rattle.fdp_base.specs.declared.limits.TheConstants.{MOST_TRACE_COMMANDS}
use Rattle.fdp_base.specs.declared.payload.Payload.TheVariants.{Pattern}
use Rattle.fdp_base.specs.Codes.{directive_code}
use Rattle.fdp_base.specs.CommandKinds.{IsWellFormed}
use Rattle.fdp_base.specs.Numbers.{numbers_below}
use Rattle.fdp_rules.specs.Target.{pid_of}

-- two groups of 128 units of 64 pages; four queues; four handles, the last two persistently isolated; one namespace of 12,288
-- blocks with all four handles; two collectors
abbrev pub make_config : DriveConfig
make_config = record {
  block = 4096;
  unit_pages = 64;
  groups = 2;
  units = 128;
  area_units = 1;
  queues = 4;
  blocks_per_command = 64;
  fdp = (Initial ∷ Initial ∷ Persistent ∷ Persistent ∷ []) ∷ [];
  enabled = true;
  index = 0;
  namespaces = record { blocks = 12288; handles = Some (0 ∷ 1 ∷ 2 ∷ 3 ∷ []) } ∷ [];
  queue_depth = 64;
  collectors = 2;
  turns = 4096;
}

-- the number that follows in a trace's row of numbers, of 64 bits each
abbrev pub following : ℕ → ℕ
following x = (x * 6364136223846793005 + 1442695040888963407) % 2 ^ 64

-- the row of numbers of a trace: it starts with the trace's own number
unfoldable pub number_at : ℕ → ℕ → ℕ
number_at trace zero = trace
number_at trace (suc k) = following (number_at trace k)

-- the address that a number of the row gives: one of 384 places, eight blocks apart, in the trace's own 3,072 blocks
abbrev pub address : ℕ → ℕ → ℕ
address trace x = 3072 * (trace - 1) + 8 * (x / 2 ^ 32 % 384)

-- the placement identifier of a trace's writes: the groups take turns, and each trace has a placement handle of its own
abbrev pub directed_to : ℕ → ℕ
directed_to trace = pid_of make_config ((trace - 1) % 2) (trace - 1)

-- eight blocks of a trace's command k, with a seed of its own
abbrev pub write_at : ℕ → ℕ → ℕ → Command
write_at trace k lba = commands.Write (record {
  nsid = 1;
  slba = lba;
  count = 8;
  dtype = directive_code DataPlacement;
  dspec = directed_to trace;
  payload = Pattern (2 ^ 24 * trace + k);
})

-- four blocks
abbrev pub read_at : ℕ → Command
read_at lba = commands.Read (record { nsid = 1; slba = lba; count = 4 })

-- a command of a trace at an address: every fourth is a read, the others are writes
abbrev pub command_at : ℕ → ℕ → ℕ → Command
command_at trace k lba = if k % 4 == 3 then read_at lba else write_at trace k lba

-- command k of a trace, from 0; the number of the row is taken before each command
abbrev pub make_command : ℕ → ℕ → Command
make_command trace k = command_at trace k (address trace (number_at trace (k + 1)))

-- a trace of so many commands
unfoldable pub make_trace : ℕ → ℕ → List Command
make_trace number trace = map (make_command trace) (numbers_below number)

-- the four traces, from 1, of so many commands each
abbrev pub make_traces : ℕ → List (List Command)
make_traces number = map (make_trace number) (1 ∷ 2 ∷ 3 ∷ 4 ∷ [])

-- a trace that a drive of any configuration can serve: each command is well formed, and they are no more than a trace may have
pub record CanBeServed (trace : List Command) : Type 0 where
  pub formed : (c : DriveConfig) → All (IsWellFormed c) trace
  pub few : length trace ≤ MOST_TRACE_COMMANDS
