-- Why a text is that of no configuration.
use Rattle.std.proofs.Common.{◌≡◌, ◌≢◌, ◌≤◌, IsTrue, ℕ, List, length, Some}
use Rattle.toml.specs.Data.{Members}
use Rattle.fdp_base.specs.declared.limits.TheConstants.{LONGEST_CONFIG}
use Rattle.fdp_config.specs.declared.fault.ConfigFault.{ConfigFault}
use Rattle.fdp_config.specs.declared.fault.ConfigFault.TheVariants as configs
use Rattle.fdp_config.specs.Document.{IsDocument}
use Rattle.fdp_config.specs.Faults.{IsFaultOf, IsInByteOrder}
use Rattle.fdp_io.specs.Bench.{BenchState}
use Rattle.fdp_finding.specs.Faults.{of_config}
use Rattle.fdp_finding.specs.Wanted.{ConfigLacks, CountsSource}

-- a fault of the text that was read is one of the run
pub config_lacks : (old new : BenchState) (name text : List ℕ) (fault : ConfigFault) → length text ≤ LONGEST_CONFIG → (IsTrue old.told → old.text name ≡ Some text) → (fault ≢ configs.NoMemory → IsFaultOf text fault) → ((doc : Members) → IsDocument text doc → IsInByteOrder doc fault) → ConfigLacks old new name (of_config fault)
config_lacks old new name text configs.NotToml short there first order = λ told. record { text = text; there = there told; short = short; first = first (λ e. absurd (cc)); in_order = order }
config_lacks old new name text (configs.Unknown key) short there first order = λ told. record { text = text; there = there told; short = short; first = first (λ e. absurd (cc)); in_order = order }
config_lacks old new name text (configs.Missing key) short there first order = λ told. record { text = text; there = there told; short = short; first = first (λ e. absurd (cc)); in_order = order }
config_lacks old new name text (configs.Kind key) short there first order = λ told. record { text = text; there = there told; short = short; first = first (λ e. absurd (cc)); in_order = order }
config_lacks old new name text (configs.Range key value) short there first order = λ told. record { text = text; there = there told; short = short; first = first (λ e. absurd (cc)); in_order = order }
config_lacks old new name text (configs.NoRoom needed budget) short there first order = λ told. record { text = text; there = there told; short = short; first = first (λ e. absurd (cc)); in_order = order }
config_lacks old new name text configs.NoMemory short there first order = tt

-- a fault of a text that was read counts nothing
pub config_counts : (old new : ℕ) (fault : ConfigFault) → new ≡ old → CountsSource old new (of_config fault)
config_counts old new configs.NotToml still = still
config_counts old new (configs.Unknown key) still = still
config_counts old new (configs.Missing key) still = still
config_counts old new (configs.Kind key) still = still
config_counts old new (configs.Range key value) still = still
config_counts old new (configs.NoRoom needed budget) still = still
config_counts old new configs.NoMemory still = still
