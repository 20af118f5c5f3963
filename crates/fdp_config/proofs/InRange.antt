-- Where no fault of range is told, each value of the configuration is in its range.
use Rattle.std.proofs.Common.{◌≡◌, ◌≢◌, ℕ, zero, suc, ℤ, pos, negsuc, ◌+◌, ◌-◌, ◌<◌, ◌≤◌, Bool, true, false, not, ◌&&◌, ◌||◌, ◌==◌, nat_le, nat_lt, List, [], ◌∷◌, length, map, Option, Some, None, unwrap_or, refl, sym, ◌∙◌, arith, if◌then◌else◌, get_or, slice_index_or, All, IsTrue}
use Rattle.std.proofs.lemmas.Bool.{and_parts, false≢true}
use Rattle.std.proofs.lemmas.Bool.Decides.{nat_tests}
use Rattle.std.proofs.lemmas.List.{length-map}
use Rattle.std.specs.List.{list_any, list_all}
use Rattle.std.specs.Option.{option_or, option_map_or, ForSome}
use Rattle.fdp_base.specs.declared.config.Class.{Class}
use Rattle.fdp_base.specs.declared.config.Class.TheVariants.{Initial}
use Rattle.fdp_base.specs.declared.config.DriveConfig.{DriveConfig}
use Rattle.fdp_base.specs.Config.{HasNoRepeat, IsHandleList, IsInRange, IsValidNamespace}
use Rattle.fdp_base.specs.Geometry.{IsWithin, all_pages}
use Rattle.fdp_base.specs.Placement.{geometry_of, handle_count}
use Rattle.toml.specs.Data.{Data, Members, get}
use Rattle.fdp_config.proofs.Chain.{fdp_range, namespaces_range, past_all}
use Rattle.fdp_config.specs.Document.{elements, elements_of, natural, number_of, value_at}
use Rattle.fdp_config.specs.Reader.First.{first_range_fault}
use Rattle.fdp_config.specs.Kinds.{blocks_word, handles_word}
use Rattle.fdp_base.specs.Numbers.{has_repeat}
use Rattle.fdp_config.specs.Ranges.{above, blocks_fault, class_fault, classes_fault, configurations_fault, first_of, handles_fault, is_handle, is_handle_list, is_within, listable, namespace_fault, namespaces_fault, outside, range_fault, further_fault}
use Rattle.fdp_config.specs.Reader.Checks.{own_fault, read_fault}
use Rattle.fdp_config.specs.Document.{amount_at, amount_of}
use Rattle.fdp_config.specs.Reader.Config.{classes_in, config_in, given, namespace_in}
use Rattle.fdp_config.specs.Table.{keys, row_of}
use Rattle.fdp_config.specs.declared.key.Key.{Key}
use Rattle.fdp_config.specs.declared.key.Key.TheVariants.{Block, UnitPages, Groups, Units, AreaUnits, Queues, BlocksPerCommand, Fdp, Index, Namespaces, QueueDepth, Collectors, Turns}
use Rattle.fdp_config.specs.declared.key.Shape.TheVariants.{Number}

pub option_or_none : (a b : Option ℕ) → option_or a b ≡ None → (a ≡ None) × (b ≡ None)
option_or_none None b is = (refl, is)
option_or_none (Some told) b is = absurd (cc)

pub unless : (b : Bool) (told : ℕ) → (if b then None else Some told) ≡ None → b ≡ true
unless true told is = refl
unless false told is = absurd (cc)

pub if_then : (b : Bool) (x : Option ℕ) (told : ℕ) → (if b then x else Some told) ≡ None → (b ≡ true) × (x ≡ None)
if_then true x told is = (refl, is)
if_then false x told is = absurd (cc)

within : (low high n : ℕ) → is_within low high n ≡ true → IsWithin low high n
within low high n is = grind (arith, nat_tests)

inside : (low high place : ℕ) (z : ℤ) → outside low high place z ≡ None → IsWithin low high (unwrap_or (natural z) 0)
inside low high place (pos n) is = within low high n (unless (is_within low high n) n is)
inside low high place (negsuc n) is = absurd (cc)

-- a number of the document that is in the range of its row
number_range : (doc : Members) (key : Key) (low high : ℕ) → (row_of key).shape ≡ Number low high → read_fault doc key ≡ None
    → IsWithin low high (amount_at doc key) × (further_fault doc (config_in doc) key ≡ None)
unfolding range_fault
number_range doc key low high shape none =
    let (own, more) = option_or_none (own_fault doc key) (further_fault doc (config_in doc) key) none in
    let alone : outside low high 0 (number_of (value_at doc key)) ≡ None = rw shape at own in
    (inside low high 0 (number_of (value_at doc key)) alone, more)

at_most : (limit n : ℕ) → above limit n ≡ None → n ≤ limit
at_most limit n is = let test = unless (nat_le n limit) n is in grind (arith, nat_tests)

all_cons : {X : Type 0} (P : X → Type 0) (x : X) (xs : List X) → P x → All P xs → All P (x ∷ xs)
all_cons P x xs here rest zero d below = here
all_cons P x xs here rest (suc k) d below = rest k d (omega arith)

-- what holds of each element without a fault holds of all
all_free : {X : Type 0} (P : X → Type 0) (f : Data → X) (fault : ℕ → Data → Option ℕ) (place : ℕ) (ds : List Data)
    → ((j : ℕ) (d : Data) → fault j d ≡ None → P (f d)) → first_of fault place ds ≡ None → All P (map f ds)
unfolding first_of
all_free P f fault place [] each none = λ k d below. absurd (omega arith)
all_free P f fault place (x ∷ ds) each none =
    let (here, rest) = option_or_none (fault place x) (first_of fault (place + 1) ds) none in
    all_cons P (f x) (map f ds) (each place x here) (all_free P f fault (place + 1) ds each rest)

classes_inside : (place : ℕ) (d : Data) → classes_fault place d ≡ None → IsWithin 1 16 (length (classes_in d))
classes_inside place d is =
    let (count, _) = if_then (is_within 1 16 (length (elements d))) (first_of class_fault 0 (elements d)) place is in
    rw (length-map (elements d) _) (within 1 16 (length (elements d)) count)

pub configurations_inside : (ds : List Data) → configurations_fault ds ≡ None → IsWithin 1 4 (length (map classes_in ds)) × All (λ classes. IsWithin 1 16 (length classes)) (map classes_in ds)
configurations_inside ds is =
    let (count, first) = if_then (is_within 1 4 (length ds)) (first_of classes_fault 0 ds) 0 is in (
      rw (length-map ds classes_in) (within 1 4 (length ds) count),
      all_free (λ classes. IsWithin 1 16 (length classes)) classes_in classes_fault 0 ds classes_inside first,
    )

below_of : (o : Option ℕ) (count : ℕ) → option_map_or (λ ruh. nat_lt ruh count) o false ≡ true → unwrap_or o 0 < count
below_of None count is = absurd (false≢true is)
below_of (Some ruh) count is = grind (arith, nat_tests)

-- a handle is below the count
pub handle_below : (count : ℕ) (d : Data) → is_handle count d ≡ true → amount_of (Some d) < count
handle_below count d is = below_of (natural (number_of (Some d))) count is

handles_below : (count : ℕ) (ds : List Data) → list_all (is_handle count) ds ≡ true → All (λ ruh. ruh < count) (map (λ d. amount_of (Some d)) ds)
handles_below count [] all = λ k d below. absurd (omega arith)
handles_below count (x ∷ ds) all =
    let (here, rest) = and_parts (is_handle count x) (list_all (is_handle count) ds) all in
    all_cons (λ ruh. ruh < count) (amount_of (Some x)) (map (λ d. amount_of (Some d)) ds) (handle_below count x here) (handles_below count ds rest)

or_parts : (a b : Bool) → (a || b) ≡ false → (a ≡ false) × (b ≡ false)
or_parts true b is = absurd (cc)
or_parts false b is = (refl, is)

not_equal : (x : ℕ) (xs : List ℕ) (k : ℕ) → list_any (λ y. y == x) xs ≡ false → k < length xs → x ≢ get_or xs k 0
not_equal x [] k none below = absurd (omega arith)
not_equal x (y ∷ ys) zero none below = let (here, _) = or_parts (y == x) (list_any (λ z. z == x) ys) none in grind (arith, nat_tests)
not_equal x (y ∷ ys) (suc k) none below = let (_, rest) = or_parts (y == x) (list_any (λ z. z == x) ys) none in not_equal x ys k rest (omega arith)

-- a list without a repeat has no number twice
distinct : (xs : List ℕ) → has_repeat xs ≡ false → HasNoRepeat xs
unfolding has_repeat
distinct [] none i k before below = absurd (omega arith)
distinct (x ∷ xs) none zero zero before below = absurd (omega arith)
distinct (x ∷ xs) none zero (suc k) before below = let (here, _) = or_parts (list_any (λ y. y == x) xs) (has_repeat xs) none in not_equal x xs k here (omega arith)
distinct (x ∷ xs) none (suc i) zero before below = absurd (omega arith)
distinct (x ∷ xs) none (suc i) (suc k) before below = let (_, rest) = or_parts (list_any (λ y. y == x) xs) (has_repeat xs) none in distinct xs rest i k (omega arith) (omega arith)

-- where a handle can be listed, placement is enabled and the handles are those in force
listable_count : (enabled : Bool) (classes : List Class) (single : List Class) (ruh : ℕ) → ruh < (if enabled then length classes else 0)
    → (enabled ≡ true) × ((if enabled then length classes else 0) ≡ length (if enabled then classes else single))
listable_count true classes single ruh below = (refl, refl)
listable_count false classes single ruh below = absurd (omega arith)

not_true : (b : Bool) → not b ≡ true → b ≡ false
not_true true is = absurd (cc)
not_true false is = refl

-- the parts of a list of handles
pub handle_list_parts : (count : ℕ) (ds : List Data) → is_handle_list count ds ≡ true
    → (length ds ≤ 16) × (list_all (is_handle count) ds ≡ true) × (has_repeat (map (λ d. amount_of (Some d)) ds) ≡ false)
handle_list_parts count ds is =
    let (front, distinct) = and_parts (nat_le (length ds) 16 && list_all (is_handle count) ds) (not (has_repeat (map (λ d. amount_of (Some d)) ds))) is in
    let (few, known) = and_parts (nat_le (length ds) 16) (list_all (is_handle count) ds) front in
    (few_of (length ds) few, known, not_true (has_repeat (map (λ d. amount_of (Some d)) ds)) distinct)
  where
    few_of : (n : ℕ) → nat_le n 16 ≡ true → n ≤ 16
    few_of n few = grind (arith, nat_tests)

some_same : {X : Type 0} (x y : X) → Some x ≡ Some y → x ≡ y
some_same x y same = cc

handles_valid : (c : DriveConfig) (ds : List Data) → is_handle_list (listable c) ds ≡ true
    → ForSome (given (map (λ d. amount_of (Some d)) ds)) (λ list. IsTrue c.enabled × IsHandleList (handle_count c c.enabled c.index) list)
handles_valid c [] is list given_is = absurd (cc)
handles_valid c (d ∷ ds) is list given_is =
    let (few, known, once) = handle_list_parts (listable c) (d ∷ ds) is in
    let (first, _) = and_parts (is_handle (listable c) d) (list_all (is_handle (listable c)) ds) known in
    let (enabled, same) = listable_count c.enabled (slice_index_or c.fdp c.index []) (Initial ∷ []) (amount_of (Some d)) (handle_below (listable c) d first) in
    let below = handles_below (listable c) (d ∷ ds) known in
    let many : length (map (λ x. amount_of (Some x)) (d ∷ ds)) ≡ length (d ∷ ds) = length-map (d ∷ ds) (λ x. amount_of (Some x)) in
    let whole : IsTrue c.enabled × IsHandleList (handle_count c c.enabled c.index) (map (λ x. amount_of (Some x)) (d ∷ ds)) =
    (enabled, record { number = (omega arith, omega arith); known = rw same at below; distinct = distinct (map (λ x. amount_of (Some x)) (d ∷ ds)) once }) in
    rw (← some_same _ list given_is) whole

some_blocks : (place : ℕ) (z : ℤ) → blocks_fault place z ≡ None → 1 ≤ unwrap_or (natural z) 0
some_blocks place (pos n) is = let test = unless (nat_le 1 n) n is in grind (arith, nat_tests)
some_blocks place (negsuc n) is = absurd (cc)

namespace_valid : (c : DriveConfig) (place : ℕ) (d : Data) → namespace_fault (listable c) place d ≡ None → IsValidNamespace c (namespace_in d)
namespace_valid c place d is =
    let (blocks, handles) = option_or_none (blocks_fault place (number_of (get blocks_word d))) (handles_fault (listable c) place (elements_of (get handles_word d))) is in
    record {
      blocks = some_blocks place (number_of (get blocks_word d)) blocks;
      handles = handles_valid c (elements_of (get handles_word d)) (unless (is_handle_list (listable c) (elements_of (get handles_word d))) place handles);
    }

namespaces_valid : (c : DriveConfig) (ds : List Data) → namespaces_fault (listable c) ds ≡ None → (length (map namespace_in ds) ≤ 16) × All (IsValidNamespace c) (map namespace_in ds)
namespaces_valid c ds is =
    let (few, first) = if_then (nat_le (length ds) 16) (first_of (namespace_fault (listable c)) 0 ds) 0 is in
    let at_most : length ds ≤ 16 = grind (arith, nat_tests) in
    (rw (length-map ds namespace_in) at_most, all_free (IsValidNamespace c) namespace_in (namespace_fault (listable c)) 0 ds (namespace_valid c) first)

index_below : (index count : ℕ) → 1 ≤ count → above (count - 1) index ≡ None → index < count
index_below index count some is = let last = at_most (count - 1) index is in omega arith

-- each value is in its range
pub in_range : (doc : Members) → first_range_fault doc keys ≡ None → IsInRange (config_in doc)
in_range doc none =
    let past = past_all doc keys none in
    let (_, block_more) = number_range doc Block 512 4096 refl past.0 in
    let (unit_pages, _) = number_range doc UnitPages 2 256 refl past.1.0 in
    let (groups, _) = number_range doc Groups 1 16 refl past.1.1.0 in
    let (units, units_more) = number_range doc Units 1 131072 refl past.1.1.1.0 in
    let (area_units, _) = number_range doc AreaUnits 1 65536 refl past.1.1.1.1.0 in
    let (queues, _) = number_range doc Queues 1 16 refl past.1.1.1.1.1.0 in
    let (blocks_per_command, command_more) = number_range doc BlocksPerCommand 1 64 refl past.1.1.1.1.1.1.0 in
    let (configurations, handles) = configurations_inside (elements_of (value_at doc Fdp)) (sym (fdp_range doc) ∙ past.1.1.1.1.1.1.1.0) in
    let (_, index_more) = number_range doc Index 0 3 refl past.1.1.1.1.1.1.1.1.1.0 in
    let (few, each) = namespaces_valid (config_in doc) (elements_of (value_at doc Namespaces)) (sym (namespaces_range doc _ refl) ∙ past.1.1.1.1.1.1.1.1.1.1.0) in
    let (queue_depth, _) = number_range doc QueueDepth 2 1024 refl past.1.1.1.1.1.1.1.1.1.1.1.0 in
    let (collectors, _) = number_range doc Collectors 0 8 refl past.1.1.1.1.1.1.1.1.1.1.1.1.0 in
    let (turns, _) = number_range doc Turns 0 4294967295 refl past.1.1.1.1.1.1.1.1.1.1.1.1.1.0 in
    record {
      block = unless ((config_in doc).block == 512 || (config_in doc).block == 4096) (config_in doc).block block_more;
      unit_pages = unit_pages;
      groups = groups;
      units = units;
      pages = at_most 262144 (all_pages (geometry_of (config_in doc))) units_more;
      area_units = area_units;
      queues = queues;
      blocks_per_command = blocks_per_command;
      command_in_unit = at_most (config_in doc).unit_pages (config_in doc).blocks_per_command command_more;
      configurations = configurations;
      handles = handles;
      index = index_below (config_in doc).index (length (config_in doc).fdp) configurations.0 index_more;
      namespaces = few;
      each_namespace = each;
      queue_depth = queue_depth;
      collectors = collectors;
      turns = turns;
    }
