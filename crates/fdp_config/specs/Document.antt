-- Looking into a document.
use Rattle.std.specs.Prelude.{◌≡◌, ℕ, ℤ, pos, negsuc, Bool, false, List, [], ◌∷◌, Option, Some, None, unwrap_or, option_and_then, IsUtf8}
use Rattle.std.specs.Option.{option_map_or}
use Rattle.toml.specs.Data.{Data, Items, no_items, item, Members, no_members, member, get_member, as_integer, as_bool, as_array}
use Rattle.toml.specs.Parse.{parse_document}
use Rattle.fdp_config.specs.declared.key.Key.{Key}
use Rattle.fdp_config.specs.Table.{row_of}

-- the text is UTF-8 and reads as this document
abbrev pub IsDocument : List ℕ → Members → Type 0
IsDocument text doc = IsUtf8 text × (parse_document text ≡ Some doc)

-- the keys of a table
abbrev pub words_in : Members → List (List ℕ)
words_in no_members = []
words_in (member word d ms) = word ∷ words_in ms

-- what stands at a key
abbrev pub value_at : Members → Key → Option Data
value_at doc key = get_member (row_of key).word doc

-- the items as a list
abbrev pub items_list : Items → List Data
items_list no_items = []
items_list (item d ds) = d ∷ items_list ds

-- the elements of an array; none of another value
abbrev pub elements : Data → List Data
elements d = option_map_or items_list (as_array d) []

-- the elements of an array that is there
abbrev pub elements_of : Option Data → List Data
elements_of v = option_map_or elements v []

-- a number; 0 of another value
abbrev pub number_of : Option Data → ℤ
number_of v = unwrap_or (option_and_then as_integer v) (pos 0)

-- a truth value; false of another value
abbrev pub truth_of : Option Data → Bool
truth_of v = unwrap_or (option_and_then as_bool v) false

-- the number, unless it is below 0
abbrev pub natural : ℤ → Option ℕ
natural (pos n) = Some n
natural (negsuc n) = None

-- a number; 0 of another value and of a number below 0
abbrev pub amount_of : Option Data → ℕ
amount_of v = unwrap_or (natural (number_of v)) 0

-- the number at a key
abbrev pub amount_at : Members → Key → ℕ
amount_at doc key = amount_of (value_at doc key)
