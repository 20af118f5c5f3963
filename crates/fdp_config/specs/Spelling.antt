-- How a document spells a configuration.
use Rattle.std.specs.Prelude.{◌≡◌, ℕ, pos, List, [], map, IsTrue, ◌⊎◌, Option, Some, None, codes}
use Rattle.std.specs.List.{AllZip, list_all}
use Rattle.fdp_base.specs.declared.config.Class.{Class}
use Rattle.fdp_base.specs.declared.config.Class.TheVariants.{Initial, Persistent}
use Rattle.fdp_base.specs.declared.config.DriveConfig.{DriveConfig}
use Rattle.fdp_base.specs.declared.config.NamespaceConfig.{NamespaceConfig}
use Rattle.fdp_base.specs.Config.{IsValidConfig}
use Rattle.toml.specs.Data.{Data, string, integer, boolean, array, table, Members, get_member}
use Rattle.toml.specs.View.{items_of}
use Rattle.fdp_config.specs.declared.key.Key.{Key}
use Rattle.fdp_config.specs.declared.key.Key.TheVariants.{Block, UnitPages, Groups, Units, AreaUnits, Queues, BlocksPerCommand, Fdp, Enabled, Index, Namespaces, QueueDepth, Collectors, Turns}
use Rattle.fdp_config.specs.Document.{IsDocument, value_at, words_in}
use Rattle.fdp_config.specs.Kinds.{is_key, is_namespace_key, blocks_word, handles_word}

-- a number of a document
abbrev pub number : ℕ → Data
number n = integer (pos n)

-- an array of a document
abbrev pub array_of : List Data → Data
array_of ds = array (items_of ds)

-- the word for a class
abbrev pub class_word : Class → Data
class_word Initial = string (codes "initial")
class_word Persistent = string (codes "persistent")

-- an FDP configuration is the array of the words of its classes
abbrev pub classes_array : List Class → Data
classes_array classes = array_of (map class_word classes)

-- a list of handles is an array; none is written as an empty array or not at all
abbrev pub SpellsHandles : Option (List ℕ) → Option Data → Type 0
SpellsHandles None v = (v ≡ None) ⊎ (v ≡ Some (array_of []))
SpellsHandles (Some handles) v = v ≡ Some (array_of (map number handles))

-- a namespace is a table with the keys `blocks` and `handles`
pub record SpellsNamespace (d : Data) (n : NamespaceConfig) : Type 0 where
  pub members : Members
  pub is_table : d ≡ table members
  pub known : IsTrue (list_all is_namespace_key (words_in members))
  pub blocks : get_member blocks_word members ≡ Some (number n.blocks)
  pub handles : SpellsHandles n.handles (get_member handles_word members)

-- the namespaces are an array of them; none may be left out
abbrev pub SpellsNamespaces : List NamespaceConfig → Option Data → Type 0
SpellsNamespaces namespaces None = namespaces ≡ []
SpellsNamespaces namespaces (Some d) = (ds : List Data) × (d ≡ array_of ds) × AllZip SpellsNamespace ds namespaces

-- what stands at a key
abbrev pub Spells : DriveConfig → Key → Option Data → Type 0
Spells c Block v = v ≡ Some (number c.block)
Spells c UnitPages v = v ≡ Some (number c.unit_pages)
Spells c Groups v = v ≡ Some (number c.groups)
Spells c Units v = v ≡ Some (number c.units)
Spells c AreaUnits v = v ≡ Some (number c.area_units)
Spells c Queues v = v ≡ Some (number c.queues)
Spells c BlocksPerCommand v = v ≡ Some (number c.blocks_per_command)
Spells c Fdp v = v ≡ Some (array_of (map classes_array c.fdp))
Spells c Enabled v = v ≡ Some (boolean c.enabled)
Spells c Index v = v ≡ Some (number c.index)
Spells c Namespaces v = SpellsNamespaces c.namespaces v
Spells c QueueDepth v = v ≡ Some (number c.queue_depth)
Spells c Collectors v = v ≡ Some (number c.collectors)
Spells c Turns v = v ≡ Some (number c.turns)

-- the document has the keys of a configuration and no other, each with its value, and a drive can be made with it
pub record IsConfigOf (doc : Members) (c : DriveConfig) : Type 0 where
  pub known : IsTrue (list_all is_key (words_in doc))
  pub spelled : (key : Key) → Spells c key (value_at doc key)
  pub valid : IsValidConfig c

-- the text reads as such a document
abbrev pub IsConfigText : List ℕ → DriveConfig → Type 0
IsConfigText text c = (doc : Members) × IsDocument text doc × IsConfigOf doc c
