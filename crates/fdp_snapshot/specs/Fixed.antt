-- The fixed part of a checkpoint, 5,120 bytes: what a state is but for the pages of its blocks.
use Rattle.std.specs.Prelude.{◌≡◌, ℕ, ◌≤◌, List, [], ◌∷◌, ◌++◌, length, All, codes, flat_map}
use Rattle.std.specs.Int.{to_le_bytes, w32, w64}
use Rattle.fdp_rules.specs.LogPages.{event_bytes}
use Rattle.fdp_records.specs.Bytes.{Piece, laid, piece}
use Rattle.fdp_records.specs.Records.{truth_bytes}
use Rattle.fdp_snapshot.specs.declared.keys.Keys.{Keys}
use Rattle.fdp_snapshot.specs.declared.state.Summary.{Summary}
use Rattle.fdp_snapshot.specs.Rows.{IsSpaceRow, configuration_bytes, space_bytes, zeros}

-- the bytes before the pages of the blocks
abbrev pub fixed_size : ℕ
fixed_size = 5120

-- text, version, generation; position and the three sums; enabled, index
abbrev pub head_pieces : ℕ → Summary → List Piece
head_pieces version s =
    piece 0 (codes "FDPDRV01") ∷ piece 8 (to_le_bytes w32 version) ∷ piece 12 (to_le_bytes w32 s.generation)
    ∷ piece 16 (to_le_bytes w64 s.totals.position) ∷ piece 24 (to_le_bytes w64 s.totals.host_blocks)
    ∷ piece 32 (to_le_bytes w64 s.totals.media_blocks) ∷ piece 40 (to_le_bytes w64 s.totals.erases)
    ∷ piece 48 (truth_bytes s.enabled) ∷ piece 49 (s.index ∷ []) ∷ []

-- the sizes of the drive; how many configurations, and each
abbrev pub key_pieces : Keys → List Piece
key_pieces k =
    piece 64 (to_le_bytes w32 k.block) ∷ piece 68 (to_le_bytes w32 k.unit_pages) ∷ piece 72 (to_le_bytes w32 k.groups)
    ∷ piece 76 (to_le_bytes w32 k.units) ∷ piece 80 (to_le_bytes w32 k.area_units) ∷ piece 84 (to_le_bytes w32 k.queues)
    ∷ piece 88 (to_le_bytes w32 k.blocks_per_command) ∷ piece 92 (to_le_bytes w32 (length k.configurations))
    ∷ piece 96 (flat_map configuration_bytes k.configurations) ∷ []

-- the event masks of the handles; the namespaces; how many events of hosts and of the controller, and each
abbrev pub list_pieces : Summary → List Piece
list_pieces s =
    piece 112 s.masks ∷ piece 128 (flat_map space_bytes s.spaces)
    ∷ piece 768 (length s.host_events ∷ []) ∷ piece 769 (length s.controller_events ∷ [])
    ∷ piece 832 (flat_map event_bytes s.host_events) ∷ piece 2880 (flat_map event_bytes s.controller_events) ∷ []

-- the fixed part in this version; what no field has is zero
unfoldable pub fixed_of : ℕ → Summary → List ℕ
fixed_of version s = laid (head_pieces version s ++ key_pieces s.keys ++ list_pieces s) (zeros fixed_size)

-- a state that the fixed part has room for: at most four configurations, sixteen places for namespaces, at most 32 events of each class
pub record IsSummary (s : Summary) : Type 0 where
  pub configurations : length s.keys.configurations ≤ 4
  pub places : length s.spaces ≡ 16
  pub spaces : All IsSpaceRow s.spaces
  pub host_count : length s.host_events ≤ 32
  pub controller_count : length s.controller_events ≤ 32
