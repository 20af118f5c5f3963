-- The checkpoint of a state: the fixed part, the pages of its blocks by namespace and address, and zeros.
use Rattle.std.specs.Prelude.{◌≡◌, ◌≢◌, ◌⊎◌, ℕ, ◌+◌, ◌-◌, ◌*◌, ◌<◌, ◌≤◌, Bool, ◌&&◌, List, ◌++◌, length, take, drop, nat_le, All, bytes_eq, flat_map, map, Option, slice_index}
use Rattle.fdp_snapshot.specs.declared.state.State.{State}
use Rattle.fdp_snapshot.specs.declared.state.Summary.{Summary}
use Rattle.fdp_snapshot.specs.Events.{IsPlain}
use Rattle.fdp_snapshot.specs.Fixed.{IsSummary, fixed_of, fixed_size}
use Rattle.fdp_snapshot.specs.Reading.{blocks_in, sizes_of, summary_in}
use Rattle.fdp_snapshot.specs.Rows.{IsEntry, page_bytes, zeros}

-- the pages of all blocks
abbrev pub page_list_bytes : List (List (Option ℕ)) → List ℕ
page_list_bytes pages = flat_map (λ (list : List (Option ℕ)). flat_map page_bytes list) pages

-- how many bytes a checkpoint has, without the zeros that fill its last page
unfoldable pub checkpoint_size : Summary → ℕ
checkpoint_size s = fixed_size + 4 * blocks_in s.spaces

-- the checkpoint of a state in this version, in so many bytes
unfoldable pub checkpoint_of : ℕ → ℕ → State → List ℕ
checkpoint_of version len s = fixed_of version s.summary ++ page_list_bytes s.pages ++ zeros (len - checkpoint_size s.summary)

-- a state that a checkpoint has room for: a page list for each namespace, as long as that has blocks
pub record IsState (s : State) : Type 0 where
  pub summary : IsSummary s.summary
  pub host_events : All IsPlain s.summary.host_events
  pub controller_events : All IsPlain s.summary.controller_events
  pub sizes : map length s.pages ≡ sizes_of s.summary
  pub pages : All (λ list. All IsEntry list) s.pages

-- the bytes are a checkpoint: they have room for the blocks, the fixed part is that of what it says, and behind the blocks is nothing
unfoldable pub is_checkpoint : ℕ → List ℕ → Bool
is_checkpoint version bytes =
    let size = checkpoint_size (summary_in bytes) in
    nat_le size (length bytes) && bytes_eq (fixed_of version (summary_in bytes)) (take fixed_size bytes)
    && bytes_eq (zeros (length bytes - size)) (drop size bytes)

-- Bytes are no checkpoint, as is shown by the one at an offset: they have no room for a fixed part, and it is the last, or there is none
pub record IsShort (bytes : List ℕ) (at : ℕ) : Type 0 where
  pub short : length bytes < fixed_size
  pub last : at ≡ length bytes - 1

-- it is the first byte of the fixed part that is not the one by what the bytes say
pub record DiffersInFixed (version : ℕ) (bytes : List ℕ) (at : ℕ) : Type 0 where
  pub long : fixed_size ≤ length bytes
  pub within : at < fixed_size
  pub before : (k : ℕ) → k < at → slice_index bytes k ≡ slice_index (fixed_of version (summary_in bytes)) k
  pub here : slice_index bytes at ≢ slice_index (fixed_of version (summary_in bytes)) at

-- the fixed part stands, and the blocks of the namespaces do not end within the bytes, of which it is the last
pub record IsCutOff (version : ℕ) (bytes : List ℕ) (at : ℕ) : Type 0 where
  pub fixed : take fixed_size bytes ≡ fixed_of version (summary_in bytes)
  pub short : length bytes < checkpoint_size (summary_in bytes)
  pub last : at + 1 ≡ length bytes

-- the fixed part stands and the blocks end, and it is the first byte behind them that is not zero
pub record IsFilledAt (version : ℕ) (bytes : List ℕ) (at : ℕ) : Type 0 where
  pub fixed : take fixed_size bytes ≡ fixed_of version (summary_in bytes)
  pub behind : checkpoint_size (summary_in bytes) ≤ at
  pub within : at < length bytes
  pub zeros_before : (k : ℕ) → checkpoint_size (summary_in bytes) ≤ k → k < at → slice_index bytes k ≡ 0
  pub here : slice_index bytes at ≢ 0

abbrev pub IsBadAt : ℕ → List ℕ → ℕ → Type 0
IsBadAt version bytes at = IsShort bytes at ⊎ DiffersInFixed version bytes at ⊎ IsCutOff version bytes at ⊎ IsFilledAt version bytes at
