-- Which fault is told of a text: the first that holds.
use Rattle.std.specs.Prelude.{◌≡◌, ℕ, ◌<◌, ◌≤◌, Contains, IsTrue, false, List, ◌⊎◌, Some, None, Result, Ok, Err, MatchResult, ◌≢◌}
use Rattle.std.specs.Cmp.Lexicographic.{slice_cmp}
use Rattle.std.specs.List.{find, list_all}
use Rattle.std.specs.Ordering.{nat_cmp}
use Rattle.std.specs.declared.cmp.Ordering.TheVariants.{Greater}
use Rattle.fdp_base.specs.declared.config.DriveConfig.{DriveConfig}
use Rattle.fdp_base.specs.Config.{IsInRange}
use Rattle.fdp_base.specs.Geometry.{area_pages}
use Rattle.fdp_base.specs.Placement.{geometry_of, handle_count, full_budget, namespace_blocks, needed_area_pages}
use Rattle.toml.specs.Data.{Members}
use Rattle.fdp_config.specs.declared.fault.ConfigFault.{ConfigFault}
use Rattle.fdp_config.specs.declared.fault.ConfigFault.TheVariants.{NotToml, Unknown, Missing, Kind, Range, NoRoom, NoMemory}
use Rattle.fdp_config.specs.declared.key.Key.{Key}
use Rattle.fdp_config.specs.Document.{IsDocument, value_at, words_in}
use Rattle.fdp_config.specs.Kinds.{is_key, is_unknown, is_missing, is_of_other_kind}
use Rattle.fdp_config.specs.Ranges.{range_fault}
use Rattle.fdp_config.specs.Spelling.{Spells}
use Rattle.fdp_config.specs.Table.{keys, place_of}

-- the document has no unknown key, no key is missing, and no value is of another kind
pub record HasKinds (doc : Members) : Type 0 where
  pub known : find is_unknown (words_in doc) ≡ None
  pub there : find (is_missing doc) keys ≡ None
  pub kinds : find (is_of_other_kind doc) keys ≡ None

-- the keys before this one have the values of a configuration, each in its range
pub record IsReadTo (doc : Members) (c : DriveConfig) (key : Key) : Type 0 where
  pub spelled : (earlier : Key) → place_of earlier < place_of key → Spells c earlier (value_at doc earlier)
  pub ranged : (earlier : Key) → place_of earlier < place_of key → range_fault doc c earlier ≡ None

-- the first key whose value is out of its range, and the value that is told
abbrev pub IsOutOfRange : Members → Key → ℕ → Type 0
IsOutOfRange doc key told = (c : DriveConfig) × IsReadTo doc c key × (range_fault doc c key ≡ Some told)

-- the document has the keys of a configuration and no other, each with its value, which is in its range
pub record IsRanged (doc : Members) (c : DriveConfig) : Type 0 where
  pub known : IsTrue (list_all is_key (words_in doc))
  pub spelled : (key : Key) → Spells c key (value_at doc key)
  pub ranges : IsInRange c

-- the namespaces have more blocks than the budgets
pub record LacksBlocks (c : DriveConfig) (needed budget : ℕ) : Type 0 where
  pub blocks : needed ≡ namespace_blocks c
  pub budgets : budget ≡ full_budget c (handle_count c c.enabled c.index)
  pub more : budget < needed

-- they have no more, but a system area has too few pages
pub record LacksPages (c : DriveConfig) (needed pages : ℕ) : Type 0 where
  pub fit : namespace_blocks c ≤ full_budget c (handle_count c c.enabled c.index)
  pub asked : needed ≡ needed_area_pages c
  pub there : pages ≡ area_pages (geometry_of c)
  pub fewer : pages < needed

-- the fault of a document: an unknown key, a missing key, a value of another kind, one out of its range, no room
abbrev pub IsFaultIn : Members → ConfigFault → Type 0
IsFaultIn doc NotToml = ⊥
IsFaultIn doc (Unknown word) = find is_unknown (words_in doc) ≡ Some word
IsFaultIn doc (Missing key) = (find is_unknown (words_in doc) ≡ None) × (find (is_missing doc) keys ≡ Some key)
IsFaultIn doc (Kind key) = (find is_unknown (words_in doc) ≡ None) × (find (is_missing doc) keys ≡ None) × (find (is_of_other_kind doc) keys ≡ Some key)
IsFaultIn doc (Range key told) = HasKinds doc × IsOutOfRange doc key told
IsFaultIn doc (NoRoom needed budget) = (c : DriveConfig) × IsRanged doc c × (LacksBlocks c needed budget ⊎ LacksPages c needed budget)
IsFaultIn doc NoMemory = ⊥

-- the fault that is told of a text
abbrev pub IsFaultOf : List ℕ → ConfigFault → Type 0
IsFaultOf text fault = ((fault ≡ NotToml) × ((doc : Members) → ¬ IsDocument text doc)) ⊎ ((doc : Members) × IsDocument text doc × IsFaultIn doc fault)

-- a word of the document that is no key; no other such word comes before it in byte order
pub record IsFirstUnknown (doc : Members) (word : List ℕ) : Type 0 where
  pub there : Contains (words_in doc) word
  pub unknown : is_key word ≡ false
  pub first : (other : List ℕ) → Contains (words_in doc) other → is_key other ≡ false → slice_cmp nat_cmp word other ≢ Greater

-- an unknown key that is told is the first in byte order
abbrev pub IsInByteOrder : Members → ConfigFault → Type 0
IsInByteOrder doc (Unknown word) = IsFirstUnknown doc word
IsInByteOrder doc NotToml = Unit {0}
IsInByteOrder doc (Missing key) = Unit {0}
IsInByteOrder doc (Kind key) = Unit {0}
IsInByteOrder doc (Range key value) = Unit {0}
IsInByteOrder doc (NoRoom needed budget) = Unit {0}
IsInByteOrder doc NoMemory = Unit {0}

-- what was expected, unless memory ran out
abbrev pub Gives : {A : Type 0} → Result A ConfigFault → Result A ConfigFault → Type 0
Gives result expected = MatchResult result (λ x. expected ≡ Ok x) (λ fault. fault ≢ NoMemory → expected ≡ Err fault)
