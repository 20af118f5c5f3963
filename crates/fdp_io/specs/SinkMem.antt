-- What contracts see of a sink in memory.
use Rattle.std.specs.Prelude.{◌≡◌, ℕ, ◌-◌, ◌<◌, ◌≤◌, ◌↔◌, ◌⊎◌, min, true, IsTrue, if◌then◌else◌, List, [], length}
use Rattle.std.specs.List.{Contains}
use Rattle.fdp_io.specs.declared.sink_mem.SinkMem.{SinkMem}
use Rattle.fdp_io.specs.Sink.{SinkState, write_failed}
use Rattle.fdp_io.specs.Calls.{CallsState, calls_of, faults_of}
use Rattle.fdp_base.specs.Counts.{counted}
use Rattle.fdp_io.specs.declared.sink.SinkEnd.{SinkEnd}
use Rattle.fdp_io.specs.declared.sink.SinkEnd.TheVariants.{Took}

abbrev pub sink_state : SinkMem → SinkState
sink_state sink = record { faults = faults_of sink.calls; told = true; bytes = sink.bytes.items }

-- its calls
abbrev pub sink_calls : SinkMem → CallsState
sink_calls sink = calls_of sink.calls

-- how many bytes it has room for, in all
abbrev pub room_of : SinkMem → ℕ
room_of sink = sink.room

-- it has no room for even one byte of a piece that is not empty
pub record IsFullFor (sink : SinkMem) (piece : List ℕ) : Type 0 where
  pub full : room_of sink ≤ length (sink_state sink).bytes
  pub some : 0 < length piece

-- a write fails exactly where it was to or the sink is full, just that is counted, and it takes as many bytes as fit
pub record WritesAsPlanned (old new : SinkMem) (piece : List ℕ) (end : SinkEnd) : Type 0 where
  pub made : (sink_calls new).made ≡ counted (sink_calls old).made
  pub plan : (sink_calls new).failing ≡ (sink_calls old).failing
  pub room : room_of new ≡ room_of old
  pub fails : IsTrue (write_failed end) ↔ (Contains (sink_calls old).failing (sink_calls new).made ⊎ IsFullFor old piece)
  pub counts : (sink_state new).faults ≡ (if write_failed end then counted (sink_state old).faults else (sink_state old).faults)
  pub fits : (count : ℕ) → end ≡ Took count → count ≡ min (length piece) (room_of old - length (sink_state old).bytes)

-- it holds nothing yet
pub record IsEmptySink (s : SinkState) : Type 0 where
  pub tells : s.told ≡ true
  pub no_faults : s.faults ≡ 0
  pub empty : s.bytes ≡ []
