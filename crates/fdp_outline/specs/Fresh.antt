-- The places of the namespaces that a drive is made with.
use Rattle.std.specs.Prelude.{◌≡◌, ℕ, ◌<◌, ◌≤◌, All, List, None, Option, length, option_map, slice_get, slice_index_or}
use Rattle.std.specs.Option.{ForSome}
use Rattle.fdp_base.specs.declared.config.NamespaceConfig.{NamespaceConfig}
use Rattle.fdp_image.specs.Checkpoint.{namespace_of}
use Rattle.fdp_rules.specs.History.{made_namespace}
use Rattle.fdp_rules.specs.PlainState.{Namespace}
use Rattle.fdp_snapshot.specs.declared.space.Space.{Space}
use Rattle.fdp_snapshot.specs.Rows.{IsSpaceRow}

-- a configured namespace as one that is there
abbrev pub made_as : NamespaceConfig → Namespace
made_as x = (made_namespace (0, x)).namespace

-- a namespace of at least one block, with at most sixteen handles, each below sixteen
pub record HasFewHandles (x : NamespaceConfig) : Type 0 where
  pub blocks : 1 ≤ x.blocks
  pub few : ForSome x.handles (λ list. length list ≤ 16)
  pub known : ForSome x.handles (λ list. All (λ ruh. ruh < 16) list)

-- so many places have the namespaces that a drive is made with, in order, and none behind them
pub record ArePlaced (made : List NamespaceConfig) (count : ℕ) (rows : List (Option Space)) : Type 0 where
  pub size : length rows ≡ count
  pub each : (k : ℕ) → k < count → option_map namespace_of (slice_index_or rows k None) ≡ option_map made_as (slice_get made k)
  pub fit : All IsSpaceRow rows
