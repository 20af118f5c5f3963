-- What a document lacks, and where something of another kind stands.
use Rattle.std.specs.Prelude.{ℕ, Bool, true, false, not, ◌&&◌, List, [], ◌∷◌, is_some, is_none, codes}
use Rattle.std.specs.List.{list_any, list_all}
use Rattle.std.specs.Option.{option_map_or}
use Rattle.std.specs.Str.{bytes_eq}
use Rattle.toml.specs.Data.{Data, Members, get_member, as_integer, as_bool, as_str, as_array, as_table}
use Rattle.fdp_config.specs.declared.key.Key.{Key}
use Rattle.fdp_config.specs.declared.key.Shape.{Shape}
use Rattle.fdp_config.specs.declared.key.Shape.TheVariants.{Number, Truth, Configurations, Namespaces}
use Rattle.fdp_config.specs.Document.{value_at, words_in, items_list}
use Rattle.fdp_config.specs.Table.{row_of, keys}

-- the word is that of a key
abbrev pub is_key : List ℕ → Bool
is_key word = list_any (λ key. bytes_eq word (row_of key).word) keys

-- the word is that of no key
abbrev pub is_unknown : List ℕ → Bool
is_unknown word = not (is_key word)

-- the key may be left out
abbrev pub is_optional : Shape → Bool
is_optional (Number low high) = false
is_optional Truth = false
is_optional Configurations = false
is_optional Namespaces = true

-- the key has to be there, and is not
abbrev pub is_missing : Members → Key → Bool
is_missing doc key = is_none (value_at doc key) && not (is_optional (row_of key).shape)

-- a number without a fraction
abbrev pub is_number : Data → Bool
is_number d = is_some (as_integer d)

-- a text
abbrev pub is_text : Data → Bool
is_text d = is_some (as_str d)

-- an array whose elements all pass
abbrev pub is_array_of : (Data → Bool) → Data → Bool
is_array_of test d = option_map_or (λ ds. list_all test (items_list ds)) (as_array d) false

-- the word for the blocks of a namespace
abbrev pub blocks_word : List ℕ
blocks_word = codes "blocks"

-- the word for its handles
abbrev pub handles_word : List ℕ
handles_word = codes "handles"

-- one of the two
abbrev pub is_namespace_key : List ℕ → Bool
is_namespace_key word = list_any (bytes_eq word) (blocks_word ∷ handles_word ∷ [])

-- a table with a number `blocks`, perhaps an array of numbers `handles`, and nothing else
abbrev pub describes_namespace : Members → Bool
describes_namespace ms =
    list_all is_namespace_key (words_in ms)
    && option_map_or is_number (get_member blocks_word ms) false
    && option_map_or (is_array_of is_number) (get_member handles_word ms) true

-- a table that describes a namespace
abbrev pub is_namespace : Data → Bool
is_namespace d = option_map_or describes_namespace (as_table d) false

-- the value is one of the shape's kind
abbrev pub has_kind : Shape → Data → Bool
has_kind (Number low high) d = is_number d
has_kind Truth d = is_some (as_bool d)
has_kind Configurations d = is_array_of (is_array_of is_text) d
has_kind Namespaces d = is_array_of is_namespace d

-- a value of another kind stands at the key, or inside its value
abbrev pub is_of_other_kind : Members → Key → Bool
is_of_other_kind doc key = option_map_or (λ d. not (has_kind (row_of key).shape d)) (value_at doc key) false
