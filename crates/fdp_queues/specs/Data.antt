-- The data behind the entry of a command.
use Rattle.std.specs.Prelude.{ℕ, List, [], flat_map}
use Rattle.std.specs.Int.{to_le_bytes, w16}
use Rattle.fdp_base.specs.declared.command.Command.{Command}
use Rattle.fdp_base.specs.declared.command.Command.TheVariants as commands
use Rattle.fdp_base.specs.declared.command.Range.{Range}
use Rattle.fdp_base.specs.declared.payload.Payload.{Payload}
use Rattle.fdp_base.specs.declared.payload.Payload.TheVariants as payloads
use Rattle.fdp_base.specs.Numbers.{numbers_below}
use Rattle.fdp_base.specs.Pattern.{pattern_block}
use Rattle.fdp_layouts.specs.declared.range.DsmRange.{DsmRange}
use Rattle.fdp_layouts.specs.Frame.{frame_of}
use Rattle.fdp_layouts.specs.Range.{dsm_range, dsm_range_numbers}

-- so many blocks of the pattern with this seed
abbrev pub pattern : ℕ → ℕ → ℕ → List ℕ
pattern block count seed = flat_map (pattern_block block seed) (numbers_below count)

-- the data of a payload
abbrev pub payload_data : ℕ → ℕ → Payload → List ℕ
payload_data block count (payloads.Pattern seed) = pattern block count seed
payload_data block count (payloads.Bytes bytes) = bytes

-- a range with these attributes
abbrev pub with_attributes : ℕ → Range → DsmRange
with_attributes attributes range = record { attributes = attributes; length = range.length; slba = range.slba }

abbrev pub range_bytes : DsmRange → List ℕ
range_bytes range = frame_of 16 dsm_range (dsm_range_numbers range)

-- the data of ranges, without attributes
abbrev pub ranges_data : List Range → List ℕ
ranges_data ranges = flat_map (λ range. range_bytes (with_attributes 0 range)) ranges

-- the data of placement identifiers, low byte first
abbrev pub pids_data : List ℕ → List ℕ
pids_data pids = flat_map (to_le_bytes w16) pids

-- the data behind the entry of a command, with blocks of so many bytes
abbrev pub data_of : ℕ → Command → List ℕ
data_of block (commands.Write w) = payload_data block w.count w.payload
data_of block (commands.Read r) = []
data_of block (commands.Zero z) = []
data_of block (commands.Dealloc d) = ranges_data d.ranges
data_of block (commands.Flush f) = []
data_of block (commands.Delete d) = []
data_of block (commands.Status s) = []
data_of block (commands.Update u) = pids_data u.pids
data_of block (commands.Log l) = []
data_of block (commands.SetFdp s) = []
data_of block (commands.GetFdp g) = []
data_of block (commands.SetEvents s) = s.types
data_of block (commands.Create c) = []
data_of block (commands.Other o) = []
