-- The layouts of the FDP Events log page.
use Rattle.std.specs.Prelude.{ℕ, ◌||◌, Bool, true, List, [], ◌∷◌, ◌==◌, if◌then◌else◌, nat_lt, replicate}
use Rattle.fdp_base.specs.declared.event.Event.{Event}
use Rattle.fdp_base.specs.declared.event.EventFlags.{EventFlags}
use Rattle.fdp_base.specs.declared.event.EventKind.{EventKind}
use Rattle.fdp_base.specs.EventCodes.{bit, flags_code, kind_code}
use Rattle.fdp_layouts.specs.Frame.{Part, Field, any, zeros, code, number, opaque, frame_of}
use Rattle.fdp_layouts.specs.declared.events.EventHead.{EventHead}
use Rattle.fdp_layouts.specs.declared.events.EventDesc.{EventDesc}
use Rattle.fdp_layouts.specs.declared.events.ReallocatedDesc.{ReallocatedDesc}

-- count 0+4
abbrev pub event_head : List Field
event_head = number 0 4 ∷ []

abbrev pub event_head_numbers : EventHead → List (List ℕ)
event_head_numbers h = (h.events ∷ []) ∷ []

abbrev pub kind_parts : List Part
kind_parts = code (λ n. (n == 0x00) || (n == 0x01) || (n == 0x02) || (n == 0x03) || (n == 0x80) || (n == 0x81)) ∷ []

abbrev pub kind_numbers : EventKind → List ℕ
kind_numbers k = kind_code k ∷ []

-- the three flags, bits 2:0; bits 7:3 zero
abbrev pub event_flags_parts : List Part
event_flags_parts = code (λ n. nat_lt n 8) ∷ []

abbrev pub event_flags_numbers : EventFlags → List ℕ
event_flags_numbers f = flags_code f ∷ []

-- type 0+1, flags 1+1, PID 2+2, timestamp 4+8, NSID 12+4, type specific 16+16, RG 32+2, RUHID 34+1, vendor 40+24
abbrev pub event_desc : List Field
event_desc =
    record { at = 0; parts = kind_parts } ∷ record { at = 1; parts = event_flags_parts } ∷ number 2 2 ∷ number 4 8
    ∷ number 12 4 ∷ opaque 16 16 ∷ number 32 2 ∷ number 34 1 ∷ opaque 40 24 ∷ []

abbrev pub event_desc_numbers : EventDesc → List (List ℕ)
event_desc_numbers e =
    kind_numbers e.kind ∷ event_flags_numbers e.flags ∷ (e.pid ∷ []) ∷ (e.timestamp ∷ []) ∷ (e.nsid ∷ []) ∷ e.specific ∷ (e.rg ∷ []) ∷ (e.ruhid ∷ []) ∷ e.vendor ∷ []

-- a flag in bit 0; bits 7:1 zero
abbrev pub flag_parts : List Part
flag_parts = any 1 ∷ zeros 7 ∷ []

abbrev pub flag_numbers : Bool → List ℕ
flag_numbers b = bit b ∷ 0 ∷ []

-- LBA valid 0+1, NLBAM 2+2, LBA 4+8
abbrev pub reallocated_desc : List Field
reallocated_desc = record { at = 0; parts = flag_parts } ∷ number 2 2 ∷ number 4 8 ∷ []

abbrev pub reallocated_desc_numbers : ReallocatedDesc → List (List ℕ)
reallocated_desc_numbers r = flag_numbers r.lba_valid ∷ (r.nlbam ∷ []) ∷ (r.lba ∷ []) ∷ []

-- ---- the drive's own events

-- the type specific bytes: of reallocated media its blocks, the first by a valid address; else zeros
abbrev pub specific_of : Event → List ℕ
specific_of e =
    if kind_code e.kind == 0x80
    then frame_of 16 reallocated_desc (reallocated_desc_numbers (record { lba_valid = true; nlbam = e.moved; lba = e.lba }))
    else replicate 16 0

-- an event of the drive: the position of its entry stands in place of a time, and there are no vendor bytes
abbrev pub described : Event → EventDesc
described e = record {
  kind = e.kind;
  flags = e.flags;
  pid = e.pid;
  timestamp = e.position;
  nsid = e.nsid;
  specific = specific_of e;
  rg = e.rg;
  ruhid = e.ruh;
  vendor = replicate 24 0;
}
