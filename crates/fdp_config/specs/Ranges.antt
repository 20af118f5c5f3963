-- Where a value is out of its range, and the value that is told: the number, or, where it is no number or below 0, the
-- position in the array that holds it.
use Rattle.std.specs.Prelude.{ℕ, ℤ, pos, negsuc, ◌+◌, ◌-◌, Bool, false, not, ◌&&◌, ◌||◌, ◌==◌, nat_le, nat_lt, List, [], ◌∷◌, length, map, Option, Some, None, is_some, option_and_then, codes, if◌then◌else◌, slice_index_or}
use Rattle.std.specs.List.{list_all}
use Rattle.std.specs.Str.{bytes_eq}
use Rattle.std.specs.Option.{option_or, option_map_or}
use Rattle.fdp_base.specs.declared.config.Class.{Class}
use Rattle.fdp_base.specs.declared.config.Class.TheVariants.{Initial, Persistent}
use Rattle.fdp_base.specs.declared.config.DriveConfig.{DriveConfig}
use Rattle.fdp_base.specs.declared.limits.TheConstants.{MOST_HANDLES, MOST_NAMESPACES, MOST_PAGES}
use Rattle.fdp_base.specs.Geometry.{all_pages}
use Rattle.fdp_base.specs.Numbers.{has_repeat}
use Rattle.fdp_base.specs.Placement.{geometry_of}
use Rattle.toml.specs.Data.{Data, Members, get, as_str}
use Rattle.fdp_config.specs.declared.key.Key.{Key}
use Rattle.fdp_config.specs.declared.key.Key.TheVariants.{Block, UnitPages, Groups, Units, AreaUnits, Queues, BlocksPerCommand, Fdp, Enabled, Index, Namespaces as NamespacesKey, QueueDepth, Collectors, Turns}
use Rattle.fdp_config.specs.declared.limits.TheConstants.{MOST_CONFIGURATIONS}
use Rattle.fdp_config.specs.declared.key.Shape.{Shape}
use Rattle.fdp_config.specs.declared.key.Shape.TheVariants.{Number, Truth, Configurations, Namespaces}
use Rattle.fdp_config.specs.Document.{value_at, elements, elements_of, number_of, natural, amount_of, amount_at}
use Rattle.fdp_config.specs.Kinds.{blocks_word, handles_word}
use Rattle.fdp_config.specs.Table.{row_of}

-- a number from low to high
abbrev pub is_within : ℕ → ℕ → ℕ → Bool
is_within low high n = nat_le low n && nat_le n high

-- a number that is not from low to high
abbrev pub outside : ℕ → ℕ → ℕ → ℤ → Option ℕ
outside low high place (pos n) = if is_within low high n then None else Some n
outside low high place (negsuc n) = Some place

-- a number above the limit
abbrev pub above : ℕ → ℕ → Option ℕ
above limit n = if nat_le n limit then None else Some n

-- the first fault of the elements, each with its place, from one place on
unfoldable pub first_of : (ℕ → Data → Option ℕ) → ℕ → List Data → Option ℕ
first_of fault place [] = None
first_of fault place (d ∷ ds) = option_or (fault place d) (first_of fault (place + 1) ds)

-- the class with this word
abbrev pub class_named : List ℕ → Option Class
class_named word =
    if bytes_eq word (codes "initial") then Some Initial
    else if bytes_eq word (codes "persistent") then Some Persistent
    else None

-- the class that a text names
abbrev pub class_of : Data → Option Class
class_of d = option_and_then class_named (as_str d)

-- a word that is no class
abbrev pub class_fault : ℕ → Data → Option ℕ
class_fault place d = if is_some (class_of d) then None else Some place

-- an FDP configuration has one to sixteen handles
abbrev pub classes_fault : ℕ → Data → Option ℕ
classes_fault place d = if is_within 1 MOST_HANDLES (length (elements d)) then first_of class_fault 0 (elements d) else Some place

-- there are one to four FDP configurations
abbrev pub configurations_fault : List Data → Option ℕ
configurations_fault ds = if is_within 1 MOST_CONFIGURATIONS (length ds) then first_of classes_fault 0 ds else Some 0

-- a namespace has at least one block
abbrev pub blocks_fault : ℕ → ℤ → Option ℕ
blocks_fault place (pos n) = if nat_le 1 n then None else Some n
blocks_fault place (negsuc n) = Some place

-- a handle below the count
abbrev pub is_handle : ℕ → Data → Bool
is_handle count d = option_map_or (λ ruh. nat_lt ruh count) (natural (number_of (Some d))) false

-- a list of handles that a namespace may have: at most sixteen, each known, none twice
abbrev pub is_handle_list : ℕ → List Data → Bool
is_handle_list count ds =
    nat_le (length ds) MOST_HANDLES && list_all (is_handle count) ds && not (has_repeat (map (λ d. amount_of (Some d)) ds))

-- a list of handles that the entry at this place may not have
abbrev pub handles_fault : ℕ → ℕ → List Data → Option ℕ
handles_fault count place ds = if is_handle_list count ds then None else Some place

-- an entry with too few blocks, or with such a list
abbrev pub namespace_fault : ℕ → ℕ → Data → Option ℕ
namespace_fault count place d =
    option_or (blocks_fault place (number_of (get blocks_word d))) (handles_fault count place (elements_of (get handles_word d)))

-- there are at most sixteen namespaces
abbrev pub namespaces_fault : ℕ → List Data → Option ℕ
namespaces_fault count ds = if nat_le (length ds) MOST_NAMESPACES then first_of (namespace_fault count) 0 ds else Some 0

-- how many handles a namespace can list: none while placement is disabled
abbrev pub listable : DriveConfig → ℕ
listable c = if c.enabled then length (slice_index_or c.fdp c.index []) else 0

-- a value of the shape that is out of its range
abbrev pub shape_fault : DriveConfig → Option Data → Shape → Option ℕ
shape_fault c v (Number low high) = outside low high 0 (number_of v)
shape_fault c v Truth = None
shape_fault c v Configurations = configurations_fault (elements_of v)
shape_fault c v Namespaces = namespaces_fault (listable c) (elements_of v)

-- what more some keys owe, beside the keys before them: a block of 512 or 4,096 bytes, at most 262,144 pages in all, no
-- command larger than a unit, and an index of an FDP configuration
abbrev pub further_fault : Members → DriveConfig → Key → Option ℕ
further_fault doc c Block = if amount_at doc Block == 512 || amount_at doc Block == 4096 then None else Some (amount_at doc Block)
further_fault doc c UnitPages = None
further_fault doc c Groups = None
further_fault doc c Units = above MOST_PAGES (all_pages (geometry_of (record c { units = amount_at doc Units; area_units = amount_at doc AreaUnits })))
further_fault doc c AreaUnits = None
further_fault doc c Queues = None
further_fault doc c BlocksPerCommand = above c.unit_pages (amount_at doc BlocksPerCommand)
further_fault doc c Fdp = None
further_fault doc c Enabled = None
further_fault doc c Index = above (length c.fdp - 1) (amount_at doc Index)
further_fault doc c NamespacesKey = None
further_fault doc c QueueDepth = None
further_fault doc c Collectors = None
further_fault doc c Turns = None

-- the value that is told where a key is out of its range, beside the keys before it, whose values are those of a configuration
unfoldable pub range_fault : Members → DriveConfig → Key → Option ℕ
range_fault doc c key = option_or (shape_fault c (value_at doc key) (row_of key).shape) (further_fault doc c key)
