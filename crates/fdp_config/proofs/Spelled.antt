-- A document without a fault spells the configuration that it reads as.
use Rattle.std.proofs.Common.{◌≡◌, ℕ, pos, negsuc, ◌+◌, ◌≤◌, nat_le, Bool, true, false, not, ◌&&◌, nat_lt, List, [], ◌∷◌, length, map, Option, Some, None, unwrap_or, is_some, is_none, option_map, codes, refl, sym, ap, ◌∙◌, arith, rules, if◌then◌else◌, inl, inr}
use Rattle.std.proofs.lemmas.Bool.{and_parts}
use Rattle.std.proofs.lemmas.Bool.Decides.{nat_tests}
use Rattle.std.proofs.lemmas.Slice.Eq.{bytes_eq-Decides}
use Rattle.std.specs.List.{AllZip, find, list_all}
use Rattle.std.specs.Option.{option_map_or, option_or}
use Rattle.std.specs.Str.{bytes_eq}
use Rattle.fdp_base.specs.declared.config.Class.TheVariants.{Initial, Persistent}
use Rattle.fdp_base.specs.declared.config.DriveConfig.{DriveConfig}
use Rattle.fdp_base.specs.Config.{HasRoom}
use Rattle.toml.specs.Data.{Data, string, integer, float, boolean, datetime, array, table, Items, no_items, item, Members, get_member, as_bool}
use Rattle.toml.specs.View.{items_of}
use Rattle.fdp_config.proofs.Chain.{AllPast, fdp_range, namespaces_range, past_all}
use Rattle.fdp_config.proofs.InRange.{handle_list_parts, if_then, in_range, option_or_none, unless}
use Rattle.fdp_config.specs.Document.{elements_of, items_list, number_of, truth_of, value_at, words_in}
use Rattle.fdp_config.specs.Reader.First.{fault_of, first_range_fault, room_fault}
use Rattle.fdp_config.specs.Kinds.{blocks_word, handles_word, is_array_of, is_key, is_missing, is_namespace, is_namespace_key, is_number, is_of_other_kind, is_text}
use Rattle.fdp_config.specs.Ranges.{blocks_fault, class_fault, classes_fault, configurations_fault, first_of, handles_fault, is_handle, is_handle_list, is_within, listable, namespace_fault, namespaces_fault, outside, further_fault, range_fault}
use Rattle.fdp_config.specs.Reader.Checks.{own_fault, read_fault}
use Rattle.fdp_config.specs.Document.{amount_of}
use Rattle.fdp_config.specs.Ranges.{class_named, class_of}
use Rattle.fdp_config.specs.Reader.Config.{classes_in, config_in, given, namespace_in}
use Rattle.fdp_config.specs.Spelling.{IsConfigOf, Spells, SpellsHandles, SpellsNamespace, SpellsNamespaces, array_of, class_word, classes_array, number}
use Rattle.fdp_config.specs.Table.{keys, row_of}
use Rattle.fdp_config.specs.declared.fault.ConfigFault.{ConfigFault}
use Rattle.fdp_config.specs.declared.key.Key.{Key}
use Rattle.fdp_config.specs.declared.key.Key.TheVariants.{Block, UnitPages, Groups, Units, AreaUnits, Queues, BlocksPerCommand, Fdp, Enabled, Index, Namespaces, QueueDepth, Collectors, Turns}
use Rattle.fdp_config.specs.declared.key.Shape.TheVariants.{Number}

-- none fails, so all pass
pub all_pass : {X : Type 0} (test : X → Bool) (xs : List X) → find (λ x. not (test x)) xs ≡ None → list_all test xs ≡ true
all_pass test [] none = refl
all_pass test (x ∷ xs) none =
    elim (test x) as (λ b. (if not b then Some x else find (λ y. not (test y)) xs) ≡ None → (b && list_all test xs) ≡ true) [
      | true ↦ λ rest. all_pass test xs rest
      | false ↦ λ found. absurd (cc)
    ] none

-- none passes
abbrev pub AllFail : {X : Type 0} → (X → Bool) → List X → Type 0
AllFail test [] = Unit {0}
AllFail test (x ∷ xs) = (test x ≡ false) × AllFail test xs

found_none : {X : Type 0} (b : Bool) (x : X) (rest : Option X) → (if b then Some x else rest) ≡ None → (b ≡ false) × (rest ≡ None)
found_none true x rest is = absurd (cc)
found_none false x rest is = (refl, is)

pub all_fail : {X : Type 0} (test : X → Bool) (xs : List X) → find test xs ≡ None → AllFail test xs
all_fail test [] none = tt
all_fail test (x ∷ xs) none = let (here, rest) = found_none (test x) x (find test xs) none in (here, all_fail test xs rest)

-- what fails at all keys fails at each
pub at_key : (test : Key → Bool) → AllFail test keys → (key : Key) → test key ≡ false
at_key test f Block = f.0
at_key test f UnitPages = f.1.0
at_key test f Groups = f.1.1.0
at_key test f Units = f.1.1.1.0
at_key test f AreaUnits = f.1.1.1.1.0
at_key test f Queues = f.1.1.1.1.1.0
at_key test f BlocksPerCommand = f.1.1.1.1.1.1.0
at_key test f Fdp = f.1.1.1.1.1.1.1.0
at_key test f Enabled = f.1.1.1.1.1.1.1.1.0
at_key test f Index = f.1.1.1.1.1.1.1.1.1.0
at_key test f Namespaces = f.1.1.1.1.1.1.1.1.1.1.0
at_key test f QueueDepth = f.1.1.1.1.1.1.1.1.1.1.1.0
at_key test f Collectors = f.1.1.1.1.1.1.1.1.1.1.1.1.0
at_key test f Turns = f.1.1.1.1.1.1.1.1.1.1.1.1.1.0

-- a value that is there, of its kind and in its range is the number that was read
number_there : (low high : ℕ) (v : Option Data) → (is_none v && true) ≡ false → option_map_or (λ d. not (is_number d)) v false ≡ false
    → outside low high 0 (number_of v) ≡ None → v ≡ Some (number (amount_of v))
number_there low high None there kind range = absurd (cc)
number_there low high (Some (integer (pos n))) there kind range = refl
number_there low high (Some (integer (negsuc n))) there kind range = absurd (cc)
number_there low high (Some (string s)) there kind range = absurd (cc)
number_there low high (Some (float x)) there kind range = absurd (cc)
number_there low high (Some (boolean b)) there kind range = absurd (cc)
number_there low high (Some (datetime dt)) there kind range = absurd (cc)
number_there low high (Some (array ds)) there kind range = absurd (cc)
number_there low high (Some (table ms)) there kind range = absurd (cc)

truth_there : (v : Option Data) → (is_none v && true) ≡ false → option_map_or (λ d. not (is_some (as_bool d))) v false ≡ false → v ≡ Some (boolean (truth_of v))
truth_there None there kind = absurd (cc)
truth_there (Some (boolean b)) there kind = refl
truth_there (Some (integer z)) there kind = absurd (cc)
truth_there (Some (string s)) there kind = absurd (cc)
truth_there (Some (float x)) there kind = absurd (cc)
truth_there (Some (datetime dt)) there kind = absurd (cc)
truth_there (Some (array ds)) there kind = absurd (cc)
truth_there (Some (table ms)) there kind = absurd (cc)

pub items_again : (items : Items) → items_of (items_list items) ≡ items
items_again no_items = refl
items_again (item d ds) = ap (item d) (items_again ds)

two : {A B : Type 0} (f : A → List B → List B) (a b : A) (x y : List B) → a ≡ b → x ≡ y → f a x ≡ f b y
two f a b x y p q = rw (p, q) refl

-- where each element is spelled, so is the list
each_spelled : {A : Type 0} (f : Data → A) (g : A → Data) (test : Data → Bool) (fault : ℕ → Data → Option ℕ) (place : ℕ) (ds : List Data)
    → ((j : ℕ) (d : Data) → test d ≡ true → fault j d ≡ None → d ≡ g (f d)) → list_all test ds ≡ true → first_of fault place ds ≡ None → ds ≡ map g (map f ds)
unfolding first_of
each_spelled f g test fault place [] each all none = refl
each_spelled f g test fault place (d ∷ ds) each all none =
    let (here, rest) = and_parts (test d) (list_all test ds) all in
    let (free, more) = option_or_none (fault place d) (first_of fault (place + 1) ds) none in
    two (λ x xs. x ∷ xs) _ _ _ _ (each place d here free) (each_spelled f g test fault (place + 1) ds each rest more)

same_bytes : (xs ys : List ℕ) → bytes_eq xs ys ≡ true → xs ≡ ys
same_bytes xs ys is = search (rules, bytes_eq-Decides)

named : (s : List ℕ) (initial persistent : Bool) → (initial ≡ true → s ≡ codes "initial") → (persistent ≡ true → s ≡ codes "persistent")
    → is_some (if initial then Some Initial else if persistent then Some Persistent else None) ≡ true
    → string s ≡ class_word (unwrap_or (if initial then Some Initial else if persistent then Some Persistent else None) Initial)
named s true persistent first second known = ap string (first refl)
named s false true first second known = ap string (second refl)
named s false false first second known = absurd (cc)

word_spelled : (place : ℕ) (d : Data) → is_text d ≡ true → class_fault place d ≡ None → d ≡ class_word (unwrap_or (class_of d) Initial)
word_spelled place (string s) text free =
    named s (bytes_eq s (codes "initial")) (bytes_eq s (codes "persistent")) (same_bytes s (codes "initial")) (same_bytes s (codes "persistent")) (unless (is_some (class_named s)) place free)
word_spelled place (integer z) text free = absurd (cc)
word_spelled place (float x) text free = absurd (cc)
word_spelled place (boolean b) text free = absurd (cc)
word_spelled place (datetime dt) text free = absurd (cc)
word_spelled place (array ds) text free = absurd (cc)
word_spelled place (table ms) text free = absurd (cc)

classes_spelled : (place : ℕ) (d : Data) → is_array_of is_text d ≡ true → classes_fault place d ≡ None → d ≡ classes_array (classes_in d)
classes_spelled place (array ds) texts free =
    let (_, first) = if_then (is_within 1 16 (length (items_list ds))) (first_of class_fault 0 (items_list ds)) place free in
    ap array (sym (items_again ds)) ∙ ap array_of (each_spelled (λ w. unwrap_or (class_of w) Initial) class_word is_text class_fault 0 (items_list ds) word_spelled texts first)
classes_spelled place (string s) texts free = absurd (cc)
classes_spelled place (integer z) texts free = absurd (cc)
classes_spelled place (float x) texts free = absurd (cc)
classes_spelled place (boolean b) texts free = absurd (cc)
classes_spelled place (datetime dt) texts free = absurd (cc)
classes_spelled place (table ms) texts free = absurd (cc)

not_false : (b : Bool) → not b ≡ false → b ≡ true
not_false true is = refl
not_false false is = absurd (cc)

configurations_there : (v : Option Data) → (is_none v && true) ≡ false → option_map_or (λ d. not (is_array_of (is_array_of is_text) d)) v false ≡ false
    → configurations_fault (elements_of v) ≡ None → v ≡ Some (array_of (map classes_array (map classes_in (elements_of v))))
configurations_there None there kind free = absurd (cc)
configurations_there (Some (array ds)) there kind free =
    let texts = not_false (list_all (is_array_of is_text) (items_list ds)) kind in
    let (_, first) = if_then (is_within 1 4 (length (items_list ds))) (first_of classes_fault 0 (items_list ds)) 0 free in
    ap (λ is. Some (array is)) (sym (items_again ds)) ∙ ap (λ es. Some (array_of es)) (each_spelled classes_in classes_array (is_array_of is_text) classes_fault 0 (items_list ds) classes_spelled texts first)
configurations_there (Some (string s)) there kind free = absurd (cc)
configurations_there (Some (integer z)) there kind free = absurd (cc)
configurations_there (Some (float x)) there kind free = absurd (cc)
configurations_there (Some (boolean b)) there kind free = absurd (cc)
configurations_there (Some (datetime dt)) there kind free = absurd (cc)
configurations_there (Some (table ms)) there kind free = absurd (cc)

blocks_there : (place : ℕ) (v : Option Data) → option_map_or is_number v false ≡ true → blocks_fault place (number_of v) ≡ None → v ≡ Some (number (amount_of v))
blocks_there place None kind free = absurd (cc)
blocks_there place (Some (integer (pos n))) kind free = refl
blocks_there place (Some (integer (negsuc n))) kind free = absurd (cc)
blocks_there place (Some (string s)) kind free = absurd (cc)
blocks_there place (Some (float x)) kind free = absurd (cc)
blocks_there place (Some (boolean b)) kind free = absurd (cc)
blocks_there place (Some (datetime dt)) kind free = absurd (cc)
blocks_there place (Some (array ds)) kind free = absurd (cc)
blocks_there place (Some (table ms)) kind free = absurd (cc)

handle_spelled : (count : ℕ) (d : Data) → is_number d ≡ true → is_handle count d ≡ true → d ≡ number (amount_of (Some d))
handle_spelled count (integer (pos n)) kind known = refl
handle_spelled count (integer (negsuc n)) kind known = absurd (cc)
handle_spelled count (string s) kind known = absurd (cc)
handle_spelled count (float x) kind known = absurd (cc)
handle_spelled count (boolean b) kind known = absurd (cc)
handle_spelled count (datetime dt) kind known = absurd (cc)
handle_spelled count (array ds) kind known = absurd (cc)
handle_spelled count (table ms) kind known = absurd (cc)

numbers_spelled : (count : ℕ) (ds : List Data) → list_all is_number ds ≡ true → list_all (is_handle count) ds ≡ true → ds ≡ map number (map (λ d. amount_of (Some d)) ds)
numbers_spelled count [] kinds known = refl
numbers_spelled count (d ∷ ds) kinds known =
    let (kind, more) = and_parts (is_number d) (list_all is_number ds) kinds in
    let (here, rest) = and_parts (is_handle count d) (list_all (is_handle count) ds) known in
    two (λ x xs. x ∷ xs) _ _ _ _ (handle_spelled count d kind here) (numbers_spelled count ds more rest)

handles_there : (count place : ℕ) (v : Option Data) → option_map_or (is_array_of is_number) v true ≡ true → handles_fault count place (elements_of v) ≡ None
    → SpellsHandles (given (map (λ d. amount_of (Some d)) (elements_of v))) v
handles_there count place None kind free = inl refl
handles_there count place (Some (array no_items)) kind free = inr refl
handles_there count place (Some (array (item d ds))) kind free =
    let (_, known, _) = handle_list_parts count (d ∷ items_list ds) (unless (is_handle_list count (d ∷ items_list ds)) place free) in
    ap (λ is. Some (array is)) (sym (items_again (item d ds))) ∙ ap (λ es. Some (array_of es)) (numbers_spelled count (d ∷ items_list ds) kind known)
handles_there count place (Some (string s)) kind free = absurd (cc)
handles_there count place (Some (integer z)) kind free = absurd (cc)
handles_there count place (Some (float x)) kind free = absurd (cc)
handles_there count place (Some (boolean b)) kind free = absurd (cc)
handles_there count place (Some (datetime dt)) kind free = absurd (cc)
handles_there count place (Some (table ms)) kind free = absurd (cc)

namespace_spelled : (count place : ℕ) (d : Data) → is_namespace d ≡ true → namespace_fault count place d ≡ None → SpellsNamespace d (namespace_in d)
namespace_spelled count place (table ms) kind free =
    let (front, handles) = and_parts (list_all is_namespace_key (words_in ms) && option_map_or is_number (get_member blocks_word ms) false) (option_map_or (is_array_of is_number) (get_member handles_word ms) true) kind in
    let (known, blocks) = and_parts (list_all is_namespace_key (words_in ms)) (option_map_or is_number (get_member blocks_word ms) false) front in
    let (some, listed) = option_or_none (blocks_fault place (number_of (get_member blocks_word ms))) (handles_fault count place (elements_of (get_member handles_word ms))) free in
    record {
      members = ms;
      is_table = refl;
      known = known;
      blocks = blocks_there place (get_member blocks_word ms) blocks some;
      handles = handles_there count place (get_member handles_word ms) handles listed;
    }
namespace_spelled count place (string s) kind free = absurd (cc)
namespace_spelled count place (integer z) kind free = absurd (cc)
namespace_spelled count place (float x) kind free = absurd (cc)
namespace_spelled count place (boolean b) kind free = absurd (cc)
namespace_spelled count place (datetime dt) kind free = absurd (cc)
namespace_spelled count place (array ds) kind free = absurd (cc)

all_spelled : (count place : ℕ) (ds : List Data) → list_all is_namespace ds ≡ true → first_of (namespace_fault count) place ds ≡ None → AllZip SpellsNamespace ds (map namespace_in ds)
unfolding first_of
all_spelled count place [] kinds free = tt
all_spelled count place (d ∷ ds) kinds free =
    let (here, rest) = and_parts (is_namespace d) (list_all is_namespace ds) kinds in
    let (first, more) = option_or_none (namespace_fault count place d) (first_of (namespace_fault count) (place + 1) ds) free in
    (namespace_spelled count place d here first, all_spelled count (place + 1) ds rest more)

namespaces_there : (count : ℕ) (v : Option Data) → option_map_or (λ d. not (is_array_of is_namespace d)) v false ≡ false → namespaces_fault count (elements_of v) ≡ None
    → SpellsNamespaces (map namespace_in (elements_of v)) v
namespaces_there count None kind free = refl
namespaces_there count (Some (array ds)) kind free =
    let kinds = not_false (list_all is_namespace (items_list ds)) kind in
    let (_, first) = if_then (nat_le (length (items_list ds)) 16) (first_of (namespace_fault count) 0 (items_list ds)) 0 free in
    (items_list ds, ap array (sym (items_again ds)), all_spelled count 0 (items_list ds) kinds first)
namespaces_there count (Some (string s)) kind free = absurd (cc)
namespaces_there count (Some (integer z)) kind free = absurd (cc)
namespaces_there count (Some (float x)) kind free = absurd (cc)
namespaces_there count (Some (boolean b)) kind free = absurd (cc)
namespaces_there count (Some (datetime dt)) kind free = absurd (cc)
namespaces_there count (Some (table ms)) kind free = absurd (cc)

-- the range of a row of numbers
own_range : (doc : Members) (key : Key) (low high : ℕ) → (row_of key).shape ≡ Number low high → read_fault doc key ≡ None → outside low high 0 (number_of (value_at doc key)) ≡ None
unfolding range_fault
own_range doc key low high shape none =
    let (own, _) = option_or_none (own_fault doc key) (further_fault doc (config_in doc) key) none in rw shape at own

-- a key that is there, of its kind and in its range has the value that was read
pub spelled_at : (doc : Members) → AllFail (is_missing doc) keys → AllFail (is_of_other_kind doc) keys → (key : Key) → read_fault doc key ≡ None → Spells (config_in doc) key (value_at doc key)
spelled_at doc m k Block r = number_there 512 4096 (value_at doc Block) m.0 k.0 (own_range doc Block 512 4096 refl r)
spelled_at doc m k UnitPages r = number_there 2 256 (value_at doc UnitPages) m.1.0 k.1.0 (own_range doc UnitPages 2 256 refl r)
spelled_at doc m k Groups r = number_there 1 16 (value_at doc Groups) m.1.1.0 k.1.1.0 (own_range doc Groups 1 16 refl r)
spelled_at doc m k Units r = number_there 1 131072 (value_at doc Units) m.1.1.1.0 k.1.1.1.0 (own_range doc Units 1 131072 refl r)
spelled_at doc m k AreaUnits r = number_there 1 65536 (value_at doc AreaUnits) m.1.1.1.1.0 k.1.1.1.1.0 (own_range doc AreaUnits 1 65536 refl r)
spelled_at doc m k Queues r = number_there 1 16 (value_at doc Queues) m.1.1.1.1.1.0 k.1.1.1.1.1.0 (own_range doc Queues 1 16 refl r)
spelled_at doc m k BlocksPerCommand r = number_there 1 64 (value_at doc BlocksPerCommand) m.1.1.1.1.1.1.0 k.1.1.1.1.1.1.0 (own_range doc BlocksPerCommand 1 64 refl r)
spelled_at doc m k Fdp r = configurations_there (value_at doc Fdp) m.1.1.1.1.1.1.1.0 k.1.1.1.1.1.1.1.0 (sym (fdp_range doc) ∙ r)
spelled_at doc m k Enabled r = truth_there (value_at doc Enabled) m.1.1.1.1.1.1.1.1.0 k.1.1.1.1.1.1.1.1.0
spelled_at doc m k Index r = number_there 0 3 (value_at doc Index) m.1.1.1.1.1.1.1.1.1.0 k.1.1.1.1.1.1.1.1.1.0 (own_range doc Index 0 3 refl r)
spelled_at doc m k Namespaces r = namespaces_there (listable (config_in doc)) (value_at doc Namespaces) k.1.1.1.1.1.1.1.1.1.1.0 (sym (namespaces_range doc _ refl) ∙ r)
spelled_at doc m k QueueDepth r = number_there 2 1024 (value_at doc QueueDepth) m.1.1.1.1.1.1.1.1.1.1.1.0 k.1.1.1.1.1.1.1.1.1.1.1.0 (own_range doc QueueDepth 2 1024 refl r)
spelled_at doc m k Collectors r = number_there 0 8 (value_at doc Collectors) m.1.1.1.1.1.1.1.1.1.1.1.1.0 k.1.1.1.1.1.1.1.1.1.1.1.1.0 (own_range doc Collectors 0 8 refl r)
spelled_at doc m k Turns r = number_there 0 4294967295 (value_at doc Turns) m.1.1.1.1.1.1.1.1.1.1.1.1.1.0 k.1.1.1.1.1.1.1.1.1.1.1.1.1.0 (own_range doc Turns 0 4294967295 refl r)

-- where all keys are in their ranges, each is
past_at : (doc : Members) → AllPast doc keys → (key : Key) → read_fault doc key ≡ None
past_at doc past Block = past.0
past_at doc past UnitPages = past.1.0
past_at doc past Groups = past.1.1.0
past_at doc past Units = past.1.1.1.0
past_at doc past AreaUnits = past.1.1.1.1.0
past_at doc past Queues = past.1.1.1.1.1.0
past_at doc past BlocksPerCommand = past.1.1.1.1.1.1.0
past_at doc past Fdp = past.1.1.1.1.1.1.1.0
past_at doc past Enabled = past.1.1.1.1.1.1.1.1.0
past_at doc past Index = past.1.1.1.1.1.1.1.1.1.0
past_at doc past Namespaces = past.1.1.1.1.1.1.1.1.1.1.0
past_at doc past QueueDepth = past.1.1.1.1.1.1.1.1.1.1.1.0
past_at doc past Collectors = past.1.1.1.1.1.1.1.1.1.1.1.1.0
past_at doc past Turns = past.1.1.1.1.1.1.1.1.1.1.1.1.1.0

-- where all keys are in their ranges, all are spelled
pub spelled_all : (doc : Members) → AllFail (is_missing doc) keys → AllFail (is_of_other_kind doc) keys → first_range_fault doc keys ≡ None → (key : Key) → Spells (config_in doc) key (value_at doc key)
spelled_all doc missing others free key = spelled_at doc missing others key (past_at doc (past_all doc keys free) key)

pub either_none : {X : Type 0} (a b : Option X) → option_or a b ≡ None → (a ≡ None) × (b ≡ None)
either_none None b is = (refl, is)
either_none (Some x) b is = absurd (cc)

pub map_none : {X Y : Type 0} (f : X → Y) (o : Option X) → option_map f o ≡ None → o ≡ None
map_none f None is = refl
map_none f (Some x) is = absurd (cc)

room_parts : (blocks area : Bool) (x y : ConfigFault) → (if blocks then Some x else if area then Some y else None) ≡ None → (blocks ≡ false) × (area ≡ false)
room_parts true area x y is = absurd (cc)
room_parts false true x y is = absurd (cc)
room_parts false false x y is = (refl, refl)

not_below : (a b : ℕ) → nat_lt a b ≡ false → b ≤ a
not_below a b is = grind (arith, nat_tests)

room_there : (c : DriveConfig) → room_fault c ≡ None → HasRoom c
room_there c is =
    let (blocks, area) = room_parts _ _ _ _ is in record { namespaces = not_below _ _ blocks; area = not_below _ _ area }

-- a document without a fault spells what it reads as
pub spelled : (doc : Members) → fault_of doc ≡ None → IsConfigOf doc (config_in doc)
spelled doc none =
    let (unknown, r1) = either_none _ _ none in
    let (missing, r2) = either_none _ _ r1 in
    let (kind, r3) = either_none _ _ r2 in
    let (range, room) = either_none _ _ r3 in
    record {
      known = all_pass is_key (words_in doc) (map_none _ _ unknown);
      spelled = spelled_all doc (all_fail (is_missing doc) keys (map_none _ _ missing)) (all_fail (is_of_other_kind doc) keys (map_none _ _ kind)) range;
      valid = record { ranges = in_range doc range; room = room_there (config_in doc) room };
    }
