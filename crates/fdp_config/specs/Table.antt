-- The table of a configuration text: for each key its word, and what stands there.
use Rattle.std.specs.Prelude.{ℕ, ◌-◌, List, [], ◌∷◌, codes}
use Rattle.fdp_base.specs.declared.limits.TheConstants.{MOST_COMMAND_BLOCKS, MOST_QUEUE_DEPTH}
use Rattle.fdp_config.specs.declared.limits.TheConstants.{MOST_AREA_UNITS, MOST_COLLECTORS, MOST_CONFIGURATIONS, MOST_GROUPS, MOST_QUEUES, MOST_UNITS, MOST_UNIT_PAGES}
use Rattle.fdp_config.specs.declared.key.Key.{Key}
use Rattle.fdp_config.specs.declared.key.Key.TheVariants.{Block, UnitPages, Groups, Units, AreaUnits, Queues, BlocksPerCommand, Fdp, Enabled, Index, Namespaces as NamespacesKey, QueueDepth, Collectors, Turns}
use Rattle.fdp_config.specs.declared.key.Shape.{Shape}
use Rattle.fdp_config.specs.declared.key.Shape.TheVariants.{Number, Truth, Configurations, Namespaces}

-- a row of the table
pub record Row : Type 0 where
  pub word : List ℕ
  pub shape : Shape

-- the row of a key; a number stands with its lowest and its highest value
abbrev pub row_of : Key → Row
row_of Block = record { word = codes "block"; shape = Number 512 4096 }
row_of UnitPages = record { word = codes "unit_pages"; shape = Number 2 MOST_UNIT_PAGES }
row_of Groups = record { word = codes "groups"; shape = Number 1 MOST_GROUPS }
row_of Units = record { word = codes "units"; shape = Number 1 MOST_UNITS }
row_of AreaUnits = record { word = codes "area_units"; shape = Number 1 MOST_AREA_UNITS }
row_of Queues = record { word = codes "queues"; shape = Number 1 MOST_QUEUES }
row_of BlocksPerCommand = record { word = codes "blocks_per_command"; shape = Number 1 MOST_COMMAND_BLOCKS }
row_of Fdp = record { word = codes "fdp"; shape = Configurations }
row_of Enabled = record { word = codes "enabled"; shape = Truth }
row_of Index = record { word = codes "index"; shape = Number 0 (MOST_CONFIGURATIONS - 1) }
row_of NamespacesKey = record { word = codes "namespaces"; shape = Namespaces }
row_of QueueDepth = record { word = codes "queue_depth"; shape = Number 2 MOST_QUEUE_DEPTH }
row_of Collectors = record { word = codes "collectors"; shape = Number 0 MOST_COLLECTORS }
row_of Turns = record { word = codes "turns"; shape = Number 0 4294967295 }

-- all keys, in order
abbrev pub keys : List Key
keys = Block ∷ UnitPages ∷ Groups ∷ Units ∷ AreaUnits ∷ Queues ∷ BlocksPerCommand ∷ Fdp ∷ Enabled ∷ Index ∷ NamespacesKey ∷ QueueDepth ∷ Collectors ∷ Turns ∷ []

-- the place of a key among them, from 0
abbrev pub place_of : Key → ℕ
place_of Block = 0
place_of UnitPages = 1
place_of Groups = 2
place_of Units = 3
place_of AreaUnits = 4
place_of Queues = 5
place_of BlocksPerCommand = 6
place_of Fdp = 7
place_of Enabled = 8
place_of Index = 9
place_of NamespacesKey = 10
place_of QueueDepth = 11
place_of Collectors = 12
place_of Turns = 13
