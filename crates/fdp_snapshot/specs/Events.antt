-- Events in the 64 bytes of log page 23h.
use Rattle.std.specs.Prelude.{◌≡◌, ◌⊎◌, ℕ, ◌/◌, ◌%◌, List, ◌==◌, if◌then◌else◌, find, slice_index, unwrap_or}
use Rattle.fdp_base.specs.declared.event.Event.{Event}
use Rattle.fdp_base.specs.declared.event.EventFlags.{EventFlags}
use Rattle.fdp_base.specs.declared.event.EventKind.{EventKind}
use Rattle.fdp_base.specs.declared.event.EventKind.TheVariants as kinds
use Rattle.fdp_base.specs.EventCodes.{event_kinds, kind_code}
use Rattle.fdp_records.specs.Bytes.{◌⊕◌, value}

-- the kind of event with this code, or the first kind
abbrev pub kind_or_first : ℕ → EventKind
kind_or_first code = unwrap_or (find (λ kind. kind_code kind == code) event_kinds) kinds.NotFullyWritten

-- which fields of an event mean something, by their bits
abbrev pub flags_at : ℕ → EventFlags
flags_at n = record { pid_valid = n % 2 == 1; nsid_valid = n / 2 % 2 == 1; location_valid = n / 4 % 2 == 1 }

-- the number in a field that only an event of moved blocks has
abbrev pub if_moved : ℕ → ℕ → ℕ
if_moved code n = if code == 0x80 then n else 0

-- the fields of an event
abbrev pub event_at : List ℕ → Event
event_at bytes = record {
  kind = kind_or_first (slice_index bytes 0);
  flags = flags_at (slice_index bytes 1);
  pid = value (2 ⊕ 2) bytes;
  position = value (4 ⊕ 8) bytes;
  nsid = value (12 ⊕ 4) bytes;
  moved = if_moved (slice_index bytes 0) (value (18 ⊕ 2) bytes);
  lba = if_moved (slice_index bytes 0) (value (20 ⊕ 8) bytes);
  rg = value (32 ⊕ 2) bytes;
  ruh = slice_index bytes 34;
}

-- an event of moved blocks says how many and where; the others say nothing of it
pub record IsPlain (e : Event) : Type 0 where
  pub moved : (kind_code e.kind ≡ 0x80) ⊎ (e.moved ≡ 0)
  pub lba : (kind_code e.kind ≡ 0x80) ⊎ (e.lba ≡ 0)
