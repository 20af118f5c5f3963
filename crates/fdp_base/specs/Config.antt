-- Which configurations a drive can be made with.
use Rattle.std.specs.Prelude.{◌≢◌, ℕ, ◌<◌, ◌≤◌, List, length, All, slice_index, IsTrue}
use Rattle.std.specs.Option.{ForSome}
use Rattle.fdp_base.specs.declared.config.DriveConfig.{DriveConfig}
use Rattle.fdp_base.specs.declared.config.NamespaceConfig.{NamespaceConfig}
use Rattle.fdp_base.specs.declared.limits.TheConstants.{MOST_COMMAND_BLOCKS, MOST_HANDLES, MOST_NAMESPACES, MOST_PAGES, MOST_QUEUE_DEPTH}
use Rattle.fdp_base.specs.Geometry.{IsBlockSize, IsWithin, all_pages, area_pages}
use Rattle.fdp_base.specs.Placement.{geometry_of, handle_count, full_budget, needed_area_pages, namespace_blocks}

-- no number stands twice in the list
abbrev pub HasNoRepeat : List ℕ → Type 0
HasNoRepeat xs = (i k : ℕ) → i < k → k < length xs → slice_index xs i ≢ slice_index xs k

-- a list of handles that a namespace may have, of so many: one to sixteen of them, each once
pub record IsHandleList (count : ℕ) (handles : List ℕ) : Type 0 where
  pub number : IsWithin 1 MOST_HANDLES (length handles)
  pub known : All (λ ruh. ruh < count) handles
  pub distinct : HasNoRepeat handles

-- a namespace of at least one block; it has a list of handles only while placement is enabled
pub record IsValidNamespace (c : DriveConfig) (n : NamespaceConfig) : Type 0 where
  pub blocks : 1 ≤ n.blocks
  pub handles : ForSome n.handles (λ list. IsTrue c.enabled × IsHandleList (handle_count c c.enabled c.index) list)

-- each value is in its range
pub record IsInRange (c : DriveConfig) : Type 0 where
  pub block : IsBlockSize c.block
  pub unit_pages : IsWithin 2 256 c.unit_pages
  pub groups : IsWithin 1 16 c.groups
  pub units : IsWithin 1 131072 c.units
  pub pages : all_pages (geometry_of c) ≤ MOST_PAGES
  pub area_units : IsWithin 1 65536 c.area_units
  pub queues : IsWithin 1 16 c.queues
  pub blocks_per_command : IsWithin 1 MOST_COMMAND_BLOCKS c.blocks_per_command
  pub command_in_unit : c.blocks_per_command ≤ c.unit_pages
  pub configurations : IsWithin 1 4 (length c.fdp)
  pub handles : All (λ classes. IsWithin 1 MOST_HANDLES (length classes)) c.fdp
  pub index : c.index < length c.fdp
  pub namespaces : length c.namespaces ≤ MOST_NAMESPACES
  pub each_namespace : All (IsValidNamespace c) c.namespaces
  pub queue_depth : IsWithin 2 MOST_QUEUE_DEPTH c.queue_depth
  pub collectors : IsWithin 0 8 c.collectors
  pub turns : IsWithin 0 4294967295 c.turns

-- there is room for the blocks of the namespaces, and in a system area for a checkpoint
pub record HasRoom (c : DriveConfig) : Type 0 where
  pub namespaces : namespace_blocks c ≤ full_budget c (handle_count c c.enabled c.index)
  pub area : needed_area_pages c ≤ area_pages (geometry_of c)

-- a drive can be made with it
pub record IsValidConfig (c : DriveConfig) : Type 0 where
  pub ranges : IsInRange c
  pub room : HasRoom c
