-- What the bytes of a checkpoint say.
use Rattle.std.specs.Prelude.{ℕ, ◌+◌, ◌*◌, List, [], ◌∷◌, drop, ◌==◌, map, min, Option, slice_index}
use Rattle.std.specs.Option.{option_map_or}
use Rattle.fdp_base.specs.declared.entry.Totals.{Totals}
use Rattle.fdp_records.specs.Bytes.{◌⊕◌, items, part, value}
use Rattle.fdp_snapshot.specs.declared.keys.Keys.{Keys}
use Rattle.fdp_snapshot.specs.declared.space.Space.{Space}
use Rattle.fdp_snapshot.specs.declared.state.State.{State}
use Rattle.fdp_snapshot.specs.declared.state.Summary.{Summary}
use Rattle.fdp_snapshot.specs.Events.{event_at}
use Rattle.fdp_snapshot.specs.Fixed.{fixed_size}
use Rattle.fdp_snapshot.specs.Rows.{configuration_in, page_in, space_in}

abbrev pub keys_in : List ℕ → Keys
keys_in bytes = record {
  block = value (64 ⊕ 4) bytes;
  unit_pages = value (68 ⊕ 4) bytes;
  groups = value (72 ⊕ 4) bytes;
  units = value (76 ⊕ 4) bytes;
  area_units = value (80 ⊕ 4) bytes;
  queues = value (84 ⊕ 4) bytes;
  blocks_per_command = value (88 ⊕ 4) bytes;
  configurations = items 4 configuration_in (min (value (92 ⊕ 4) bytes) 4) (drop 96 bytes);
}

abbrev pub totals_in : List ℕ → Totals
totals_in bytes = record {
  position = value (16 ⊕ 8) bytes;
  host_blocks = value (24 ⊕ 8) bytes;
  media_blocks = value (32 ⊕ 8) bytes;
  erases = value (40 ⊕ 8) bytes;
}

-- what the fixed part says; of each list no more than there is room for
unfoldable pub summary_in : List ℕ → Summary
summary_in bytes = record {
  keys = keys_in bytes;
  totals = totals_in bytes;
  enabled = slice_index bytes 48 == 1;
  index = slice_index bytes 49;
  generation = value (12 ⊕ 4) bytes;
  masks = part (112 ⊕ 16) bytes;
  spaces = items 40 space_in 16 (drop 128 bytes);
  host_events = items 64 event_at (min (slice_index bytes 768) 32) (drop 832 bytes);
  controller_events = items 64 event_at (min (slice_index bytes 769) 32) (drop 2880 bytes);
}

-- how many blocks a place for a namespace has
abbrev pub size_of_row : Option Space → ℕ
size_of_row space = option_map_or (λ (x : Space). x.size) space 0

-- how many blocks the namespaces have
unfoldable pub blocks_in : List (Option Space) → ℕ
blocks_in [] = 0
blocks_in (x ∷ xs) = size_of_row x + blocks_in xs

-- how many blocks each namespace has
abbrev pub sizes_of : Summary → List ℕ
sizes_of s = map size_of_row s.spaces

-- lists of pages, of so many each, one behind another
unfoldable pub page_lists : List ℕ → List ℕ → List (List (Option ℕ))
page_lists [] bytes = []
page_lists (n ∷ ns) bytes = items 4 page_in n bytes ∷ page_lists ns (drop (4 * n) bytes)

-- what a checkpoint says
unfoldable pub state_in : List ℕ → State
state_in bytes = record {
  summary = summary_in bytes;
  pages = page_lists (sizes_of (summary_in bytes)) (drop fixed_size bytes);
}
