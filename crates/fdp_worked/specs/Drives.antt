-- Two small drives.
use Rattle.std.specs.Prelude.{ℕ, true, [], ◌∷◌, Some, List}
use Rattle.fdp_base.specs.declared.config.Class.TheVariants.{Initial, Persistent}
use Rattle.fdp_base.specs.declared.config.DriveConfig.{DriveConfig}
use Rattle.fdp_base.specs.declared.config.NamespaceConfig.{NamespaceConfig}

-- a namespace of so many blocks with these handles
abbrev pub namespace : ℕ → List ℕ → NamespaceConfig
namespace blocks handles = record { blocks = blocks; handles = Some handles }

-- drive S: one group of 12 units of 8 pages, one handle, one namespace that is as large as the budget of 52 blocks
abbrev pub drive_s : DriveConfig
drive_s = record {
  block = 512;
  unit_pages = 8;
  groups = 1;
  units = 12;
  area_units = 4;
  queues = 1;
  blocks_per_command = 4;
  fdp = (Initial ∷ []) ∷ [];
  enabled = true;
  index = 0;
  namespaces = namespace 52 (0 ∷ []) ∷ [];
  queue_depth = 64;
  collectors = 0;
  turns = 0;
}

-- drive T: two groups of 20 units of 8 pages, three handles, two queues, and a namespace of 8 blocks with handle 2, then handle 0
abbrev pub drive_t : DriveConfig
drive_t = record {
  block = 512;
  unit_pages = 8;
  groups = 2;
  units = 20;
  area_units = 4;
  queues = 2;
  blocks_per_command = 4;
  fdp = (Initial ∷ Initial ∷ Persistent ∷ []) ∷ [];
  enabled = true;
  index = 0;
  namespaces = namespace 8 (2 ∷ 0 ∷ []) ∷ [];
  queue_depth = 64;
  collectors = 0;
  turns = 0;
}
