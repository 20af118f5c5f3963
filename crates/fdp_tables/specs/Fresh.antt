-- A machine whose run has no entry yet.
use Rattle.std.specs.Prelude.{◌≡◌, ℕ, ◌+◌, ◌*◌, false, [], ◌∷◌, List, None, Option, length, map, option_map, replicate}
use Rattle.std.specs.List.{enumerate_from}
use Rattle.std.specs.Vec.{vec_items}
use Rattle.fdp_base.specs.declared.config.DriveConfig.{DriveConfig}
use Rattle.fdp_base.specs.declared.config.NamespaceConfig.{NamespaceConfig}
use Rattle.fdp_rules.specs.History.{fresh, made_namespace, namespace_in, point_of}
use Rattle.fdp_tables.specs.declared.state.Kept.{Kept}
use Rattle.fdp_tables.specs.declared.state.KeptReference.{KeptReference}
use Rattle.fdp_tables.specs.declared.state.Space.{Space}
use Rattle.fdp_tables.specs.Reports.{no_reports}
use Rattle.fdp_tables.specs.Sound.{IsSound}
use Rattle.fdp_tables.specs.Spaces.{block_in}
use Rattle.fdp_tables.specs.State.{namespace_of, point_kept, row}

-- the namespaces that a drive is made with, by identifier; each of their blocks is absent
pub record AreFirst (made : List NamespaceConfig) (rows : List (Option Space)) : Type 0 where
  pub count : length rows ≡ 17
  pub namespaces : (nsid : ℕ) → option_map namespace_of (row rows nsid) ≡ namespace_in (map made_namespace (enumerate_from 1 made)) nsid
  pub empty : (nsid lba : ℕ) → block_in (row rows nsid) lba ≡ None

-- a handle without a unit
abbrev pub whole_reference : DriveConfig → KeptReference
whole_reference c = record { unit = None; left = c.unit_pages }

-- each table has its rows, and nothing was written
pub record IsBlank (c : DriveConfig) (k : Kept) : Type 0 where
  pub config : k.config ≡ c
  pub entries : k.entries.items ≡ []
  pub starts : k.starts.items ≡ []
  pub enabled : k.enabled ≡ c.enabled
  pub index : k.index ≡ c.index
  pub generation : k.generation ≡ 0
  pub reports : k.reports.items ≡ replicate 16 no_reports
  pub spaces : AreFirst c.namespaces k.spaces.items
  pub references : k.references.items ≡ replicate (16 * c.groups) (whole_reference c)
  pub going : k.going.items ≡ replicate (c.queues + 1) None
  pub lost : k.lost.items ≡ replicate (c.groups * c.units) false
  pub worn : k.worn.items ≡ replicate c.groups false
  pub media : k.media.items ≡ []
  pub sites : k.sites.rows ≡ [] ∷ []
  pub found : k.found.rows ≡ []
  pub copies : map vec_items k.copies.items ≡ replicate c.groups []
  pub host_blocks : k.host_blocks ≡ 0
  pub media_blocks : k.media_blocks ≡ 0
  pub erases : k.erases ≡ 0
  pub events : k.events.items ≡ []

-- what stands where a run begins fresh, before its first entry
pub record IsFresh (c : DriveConfig) (k : Kept) : Type 0 where
  pub config : k.config ≡ c
  pub point : point_kept k ≡ point_of c (fresh c) []
  pub sound : IsSound k
  pub starts : k.starts.items ≡ []
