-- The words for a fault of a configuration.
use Rattle.std.specs.Prelude.{ℕ, List, ◌++◌, codes}
use Rattle.fdp_config.specs.declared.fault.ConfigFault.{ConfigFault}
use Rattle.fdp_config.specs.declared.fault.ConfigFault.TheVariants.{NotToml, Unknown, Missing, Kind, Range, NoRoom, NoMemory}
use Rattle.fdp_config.specs.declared.fault.NoConfig.{NoConfig}
use Rattle.fdp_config.specs.declared.fault.NoConfig.TheVariants.{Absent, TooLong, Faulty}
use Rattle.fdp_config.specs.Table.{row_of}

-- the words for a fault, with the key that it names
abbrev pub fault_words : ConfigFault → List ℕ
fault_words NotToml = codes "config toml"
fault_words (Unknown key) = codes "config unknown " ++ key
fault_words (Missing key) = codes "config missing " ++ (row_of key).word
fault_words (Kind key) = codes "config kind " ++ (row_of key).word
fault_words (Range key value) = codes "config range " ++ (row_of key).word
fault_words (NoRoom needed budget) = codes "config room"
fault_words NoMemory = codes "out of memory"

-- the words where a drive has no configuration
abbrev pub no_config_words : NoConfig → List ℕ
no_config_words Absent = codes "config absent"
no_config_words TooLong = codes "config long"
no_config_words (Faulty fault) = fault_words fault
