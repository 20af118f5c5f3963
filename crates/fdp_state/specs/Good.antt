-- What an image may say of a drive, whatever stands on the pages that it names.
use Rattle.std.specs.Prelude.{◌≡◌, ℕ, ◌+◌, ◌^◌, ◌<◌, ◌≤◌, IsTrue, length, Some}
use Rattle.fdp_base.specs.declared.config.DriveConfig.{DriveConfig}
use Rattle.fdp_base.specs.Placement.{full_budget}
use Rattle.fdp_rules.specs.PlainState.{Namespace}
use Rattle.fdp_image.specs.CheckpointRows.{is_namespace_id}
use Rattle.fdp_image.specs.Reading.{Reading}
use Rattle.fdp_image.specs.Valid.{IsGoodNamespace}
use Rattle.fdp_image.specs.Fits.{blocks_of_all, handles_in}

-- a block lies within a namespace that is there
pub record LiesWithin (r : Reading) (nsid lba : ℕ) : Type 0 where
  pub namespace : Namespace
  pub there : r.namespaces nsid ≡ Some namespace
  pub within : lba < namespace.size

-- the index is one of the configuration's; each namespace is one that there may be with the handles in force, and together they have
-- room; each block lies within its namespace
pub record IsGood (c : DriveConfig) (r : Reading) : Type 0 where
  pub index : r.index < length c.fdp
  pub identifiers : (nsid : ℕ) (x : Namespace) → r.namespaces nsid ≡ Some x → IsTrue (is_namespace_id nsid)
  pub namespaces : (nsid : ℕ) (x : Namespace) → r.namespaces nsid ≡ Some x → IsGoodNamespace (handles_in c r) r.totals.position x
  pub room : blocks_of_all r ≤ full_budget c (handles_in c r)
  pub blocks : (nsid lba page : ℕ) → r.pages nsid lba ≡ Some page → LiesWithin r nsid lba

-- a checkpoint has room for the numbers of the pages
pub record IsSayable (r : Reading) : Type 0 where
  pub pages : (nsid lba page : ℕ) → r.pages nsid lba ≡ Some page → page + 1 < 2 ^ 32
