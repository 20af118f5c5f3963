-- The limits that the definitions name, with their numbers: those of a queue entry as the public standard's fields have them, the others as
-- docs/REFERENCE.md, docs/DRIVE.md and docs/FORMATS.md give them.
use Rattle.std.specs.Prelude.{◌≡◌, ◌-◌, ◌^◌}
use Rattle.fdp_base.specs.declared.limits.TheConstants as limits
use Rattle.fdp_config.specs.declared.limits.TheConstants as configs
use Rattle.fdp_finding.specs.declared.asked.TheConstants as words
use Rattle.fdp_trace.specs.declared.limits.TheConstants as traces

-- fields of a queue entry: NLB of 16 bits, NR of 8, both zero-based (NVM Command Set Specification 1.1, "Read command", "Dataset Management
-- command"); MOS of 16 bits, zero-based (Base Specification 2.1, "I/O Management Send command"); a number of event types of 8 bits (the same,
-- "Flexible Data Placement Events")
pub record AreTheEntryLimits : Type 0 where
  pub blocks : limits.MOST_ENTRY_BLOCKS ≡ 2 ^ 16
  pub ranges : limits.MOST_ENTRY_RANGES ≡ 2 ^ 8
  pub identifiers : limits.MOST_ENTRY_PIDS ≡ 2 ^ 16
  pub event_types : limits.MOST_ENTRY_EVENT_TYPES ≡ 2 ^ 8 - 1

-- what a drive serves, and what it may be made with (docs/DRIVE.md, "What it serves"; docs/FORMATS.md, "Entries of commands"; docs/REFERENCE.md,
-- "Configurations")
pub record AreTheDriveLimits : Type 0 where
  pub command_blocks : limits.MOST_COMMAND_BLOCKS ≡ 64
  pub ranges : limits.MOST_RANGES ≡ 16
  pub identifiers : limits.MOST_PIDS ≡ 64
  pub dwords : limits.MOST_DWORDS ≡ 1024
  pub queue_depth : limits.MOST_QUEUE_DEPTH ≡ 1024
  pub namespaces : limits.MOST_NAMESPACES ≡ 16
  pub handles : limits.MOST_HANDLES ≡ 16
  pub pages : limits.MOST_PAGES ≡ 262144
  pub unit_pages : configs.MOST_UNIT_PAGES ≡ 256
  pub groups : configs.MOST_GROUPS ≡ 16
  pub units : configs.MOST_UNITS ≡ 131072
  pub area_units : configs.MOST_AREA_UNITS ≡ 65536
  pub queues : configs.MOST_QUEUES ≡ 16
  pub configurations : configs.MOST_CONFIGURATIONS ≡ 4
  pub collectors : configs.MOST_COLLECTORS ≡ 8

-- texts, words and runs (docs/REFERENCE.md, "The words of a run", "Configurations", "Traces", "Statuses of a run, and its faults")
pub record AreTheRunLimits : Type 0 where
  pub config_bytes : limits.LONGEST_CONFIG ≡ 65536
  pub trace_bytes : limits.LONGEST_TRACE ≡ 2 ^ 24
  pub line_bytes : limits.LONGEST_LINE ≡ 4096
  pub amount : traces.MOST_AMOUNT ≡ 65536
  pub commands : limits.MOST_TRACE_COMMANDS ≡ 8192
  pub blocks_read : limits.MOST_TRACE_BLOCKS ≡ 8192
  pub traces : words.MOST_TRACES ≡ 16
  pub records : words.MOST_RECORDS ≡ 16
  pub number_digits : words.LONGEST_NUMBER ≡ 4
  pub number : words.MOST_NUMBER ≡ 8192
  pub steps : limits.MOST_STEPS ≡ 2 ^ 30

pub record AreTheLimits : Type 0 where
  pub entry : AreTheEntryLimits
  pub drive : AreTheDriveLimits
  pub run : AreTheRunLimits
