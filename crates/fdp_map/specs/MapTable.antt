-- Where the blocks of the namespaces stand, as a table.
use Rattle.std.specs.Prelude.{◌≡◌, ℕ, ◌/◌, ◌≤◌, ◌<◌, ◌==◌, Bool, false, List, [], Option, length, count_by, sum_by, slice_get, slice_index, slice_index_or, IfSome}
use Rattle.std.specs.Option.{option_flatten, option_map_or}
use Rattle.fdp_base.specs.declared.config.Geometry.{Geometry}
use Rattle.fdp_base.specs.declared.entry.Spot.{Spot}
use Rattle.fdp_base.specs.Geometry.{IsValidGeometry, data_units}
use Rattle.fdp_base.specs.Numbers.{count_below, numbers_from, with_at}
use Rattle.fdp_rules.specs.PlainState.{PlainState}
use Rattle.fdp_rules.specs.Room.{lies_in, namespace_ids, size_of}
use Rattle.fdp_map.specs.declared.mapped.Mapped.{Mapped}

-- a place for each block, by identifier and address; no namespace has identifier 0
pub record MapTable : Type 0 where
  -- the cut of the flash
  pub geometry : Geometry
  pub rows : List (List (Option Mapped))

-- the places of a namespace
abbrev pub row : MapTable → ℕ → List (Option Mapped)
row m nsid = slice_index_or m.rows nsid []

-- the size of a namespace in blocks, 0 where it is not there
abbrev pub size_in : MapTable → ℕ → ℕ
size_in m nsid = length (row m nsid)

-- the block at an address of a row
abbrev pub block_in : List (Option Mapped) → ℕ → Option Mapped
block_in places lba = option_flatten (slice_get places lba)

-- the block at an address
abbrev pub mapped_at : MapTable → ℕ → ℕ → Option Mapped
mapped_at m nsid lba = block_in (row m nsid) lba

-- the blocks by identifier and address, with another value at one place
abbrev pub with_mapped : (ℕ → ℕ → Option Mapped) → ℕ → ℕ → Option Mapped → ℕ → ℕ → Option Mapped
with_mapped table nsid lba value = with_at table nsid (with_at (table nsid) lba value)

-- a block on a page, with the group of its unit
abbrev pub mapped_on : Geometry → Spot → Mapped
mapped_on g spot = record { spot = spot; rg = spot.unit / g.units }

-- a page of a data unit
pub record IsPageOf (g : Geometry) (spot : Spot) : Type 0 where
  pub unit : spot.unit < data_units g
  pub page : spot.page < g.unit_pages

-- a block on a page of a data unit, with the group of that
pub record IsPlaced (g : Geometry) (x : Mapped) : Type 0 where
  pub page : IsPageOf g x.spot
  pub group : x.rg ≡ x.spot.unit / g.units

-- a block lies in a group
abbrev pub is_mapped_in : ℕ → Option Mapped → Bool
is_mapped_in rg mapped = option_map_or (λ x. x.rg == rg) mapped false

-- how many of so many addresses of a row hold a block of a group
abbrev pub stored_in_row : List (Option Mapped) → ℕ → ℕ → ℕ → ℕ
stored_in_row places rg slba count = count_by (λ lba. is_mapped_in rg (block_in places lba)) (numbers_from slba count)

-- how many of so many addresses of a namespace hold a block of a group
abbrev pub stored_from : MapTable → ℕ → ℕ → ℕ → ℕ → ℕ
stored_from m rg nsid slba count = stored_in_row (row m nsid) rg slba count

-- how many blocks a group stores
abbrev pub stored_in : MapTable → ℕ → ℕ
stored_in m rg = sum_by (λ nsid. count_below (size_in m nsid) (λ lba. is_mapped_in rg (mapped_at m nsid lba))) namespace_ids

-- in a state the namespaces have these sizes, and the blocks of a group are where they are in the table
pub record Agrees (m : MapTable) (rg : ℕ) (s : PlainState) : Type 0 where
  pub sizes : (nsid : ℕ) → size_of s nsid ≡ size_in m nsid
  pub blocks : (nsid lba : ℕ) → lies_in rg (s.blocks nsid lba) ≡ is_mapped_in rg (mapped_at m nsid lba)

-- a flash of which a map may tell: at most sixteen groups, with a unit each
pub record IsCut (g : Geometry) : Type 0 where
  pub valid : IsValidGeometry g
  pub groups : g.groups ≤ 16
  pub units : 1 ≤ g.units

-- a row for each identifier, with at most 262,144 blocks, each on a page of a data unit; of each group it is counted what it stores
pub record IsCounted (m : MapTable) (counts : List ℕ) : Type 0 where
  pub cut : IsCut m.geometry
  pub rows : length m.rows ≡ 17
  pub first : size_in m 0 ≡ 0
  pub sizes : (nsid : ℕ) → size_in m nsid ≤ 262144
  pub places : (nsid lba : ℕ) → IfSome (mapped_at m nsid lba) (IsPlaced m.geometry)
  pub length : length counts ≡ 16
  pub stored : (rg : ℕ) → rg < 16 → slice_index counts rg ≡ stored_in m rg
