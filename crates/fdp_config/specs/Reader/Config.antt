-- The configuration that a document reads as, whatever the kinds and the ranges of its values.
use Rattle.std.specs.Prelude.{ℕ, List, [], ◌∷◌, map, Option, Some, None, unwrap_or}
use Rattle.fdp_base.specs.declared.config.Class.{Class}
use Rattle.fdp_base.specs.declared.config.Class.TheVariants.{Initial}
use Rattle.fdp_base.specs.declared.config.DriveConfig.{DriveConfig}
use Rattle.fdp_base.specs.declared.config.NamespaceConfig.{NamespaceConfig}
use Rattle.toml.specs.Data.{Data, Members, get}
use Rattle.fdp_config.specs.declared.key.Key.TheVariants.{Block, UnitPages, Groups, Units, AreaUnits, Queues, BlocksPerCommand, Fdp, Enabled, Index, Namespaces, QueueDepth, Collectors, Turns}
use Rattle.fdp_config.specs.Document.{value_at, elements, elements_of, truth_of, amount_of, amount_at}
use Rattle.fdp_config.specs.Kinds.{blocks_word, handles_word}
use Rattle.fdp_config.specs.Ranges.{class_of}

-- the classes that the words of an array name
abbrev pub classes_in : Data → List Class
classes_in d = map (λ word. unwrap_or (class_of word) Initial) (elements d)

-- an empty list counts as none
abbrev pub given : List ℕ → Option (List ℕ)
given [] = None
given (ruh ∷ rest) = Some (ruh ∷ rest)

-- the namespace that an entry describes
abbrev pub namespace_in : Data → NamespaceConfig
namespace_in d = record {
  blocks = amount_of (get blocks_word d);
  handles = given (map (λ ruh. amount_of (Some ruh)) (elements_of (get handles_word d)));
}

-- key by key
abbrev pub config_in : Members → DriveConfig
config_in doc = record {
  block = amount_at doc Block;
  unit_pages = amount_at doc UnitPages;
  groups = amount_at doc Groups;
  units = amount_at doc Units;
  area_units = amount_at doc AreaUnits;
  queues = amount_at doc Queues;
  blocks_per_command = amount_at doc BlocksPerCommand;
  fdp = map classes_in (elements_of (value_at doc Fdp));
  enabled = truth_of (value_at doc Enabled);
  index = amount_at doc Index;
  namespaces = map namespace_in (elements_of (value_at doc Namespaces));
  queue_depth = amount_at doc QueueDepth;
  collectors = amount_at doc Collectors;
  turns = amount_at doc Turns;
}
