-- The namespaces that a drive is made with.
use Rattle.std.specs.Prelude.{◌≡◌, ◌≤◌, ℕ, List, None, Option, map, replicate}
use Rattle.std.specs.List.{enumerate_from}
use Rattle.std.specs.Option.{option_map_or}
use Rattle.fdp_base.specs.declared.config.DriveConfig.{DriveConfig}
use Rattle.fdp_base.specs.declared.config.NamespaceConfig.{NamespaceConfig}
use Rattle.fdp_rules.specs.History.{fresh, made_namespace, namespace_in}
use Rattle.fdp_origin.specs.Opening.{Opening}
use Rattle.fdp_base.specs.Geometry.{all_pages}
use Rattle.fdp_base.specs.Placement.{geometry_of}
use Rattle.fdp_flash.specs.declared.cell.Cell.TheVariants.{Blank}
use Rattle.fdp_rules.specs.PlainState.{Namespace}
use Rattle.fdp_map.specs.MapTable.{MapTable, mapped_at, size_in}

-- the namespaces of these configurations, with the identifiers from one on
abbrev pub namespaces_from : ℕ → List NamespaceConfig → ℕ → Option Namespace
namespaces_from first xs nsid = namespace_in (map made_namespace (enumerate_from first xs)) nsid

-- the size of a namespace that may be there, 0 where it is not
abbrev pub size_of_some : Option Namespace → ℕ
size_of_some o = option_map_or (λ x. x.size) o 0

-- the table has a place for each of their blocks, and no block
pub record IsConfiguredMap (c : DriveConfig) (x : MapTable) : Type 0 where
  pub geometry : x.geometry ≡ geometry_of c
  pub sizes : (nsid : ℕ) → size_in x nsid ≡ size_of_some (namespaces_from 1 c.namespaces nsid)
  pub most : (nsid : ℕ) → size_in x nsid ≤ 262144
  pub absent : (nsid lba : ℕ) → mapped_at x nsid lba ≡ None

-- what the run of a drive begins with as the configuration makes it: nothing was found, in a blank flash
abbrev pub fresh_opening : DriveConfig → Opening
fresh_opening c = record { found = fresh c; cells = replicate (all_pages (geometry_of c)) Blank }
