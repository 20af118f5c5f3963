-- The configuration that a run finds, or why it finds none.
use Rattle.std.specs.Prelude.{◌≡◌, ℕ, ◌<◌, ◌≤◌, IsTrue, List, length, Option, Some, None}
use Rattle.fdp_base.specs.declared.config.DriveConfig.{DriveConfig}
use Rattle.fdp_base.specs.declared.limits.TheConstants.{LONGEST_CONFIG}
use Rattle.toml.specs.Data.{Members}
use Rattle.fdp_config.specs.declared.fault.ConfigFault.{ConfigFault}
use Rattle.fdp_config.specs.declared.fault.NoConfig.{NoConfig}
use Rattle.fdp_config.specs.declared.fault.NoConfig.TheVariants.{Absent, TooLong, Faulty}
use Rattle.fdp_config.specs.Document.{IsDocument}
use Rattle.fdp_config.specs.Faults.{IsFaultOf, IsInByteOrder}
use Rattle.fdp_config.specs.Spelling.{IsConfigText}
use Rattle.fdp_io.specs.Bench.{BenchState}

-- a text that may be there is there, of at most 65,536 bytes, and is that of a configuration
pub record IsTextOf (found : Option (List ℕ)) (c : DriveConfig) : Type 0 where
  pub text : List ℕ
  pub there : found ≡ Some text
  pub short : length text ≤ LONGEST_CONFIG
  pub spells : IsConfigText text c

-- it is there, and longer
pub record IsTooLong (found : Option (List ℕ)) : Type 0 where
  pub text : List ℕ
  pub there : found ≡ Some text
  pub long : LONGEST_CONFIG < length text

-- it is there, and this is its first fault; of unknown keys the first in byte order
pub record IsFaulty (found : Option (List ℕ)) (fault : ConfigFault) : Type 0 where
  pub text : List ℕ
  pub there : found ≡ Some text
  pub short : length text ≤ LONGEST_CONFIG
  pub first : IsFaultOf text fault
  pub in_order : (doc : Members) → IsDocument text doc → IsInByteOrder doc fault

-- why a text that may be there is that of no configuration
abbrev pub IsNoConfig : Option (List ℕ) → NoConfig → Type 0
IsNoConfig found Absent = found ≡ None
IsNoConfig found TooLong = IsTooLong found
IsNoConfig found (Faulty fault) = IsFaulty found fault

-- where the bench tells its texts, the text of this name is that of this configuration
abbrev pub ReadsConfig : BenchState → List ℕ → DriveConfig → Type 0
ReadsConfig bench name c = IsTrue bench.told → IsTextOf (bench.text name) c

-- where the bench tells its texts, the text of this name is that of no configuration, for this cause
abbrev pub ReadsNoConfig : BenchState → List ℕ → NoConfig → Type 0
ReadsNoConfig bench name cause = IsTrue bench.told → IsNoConfig (bench.text name) cause
