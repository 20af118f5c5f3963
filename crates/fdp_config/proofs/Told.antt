-- A document that spells a configuration reads as it, and has no fault.
use Rattle.std.proofs.Common.{◌≡◌, ◌≢◌, ℕ, suc, ◌+◌, ◌-◌, ◌<◌, ◌≤◌, nat_le, le-leb, Bool, true, false, not, ◌&&◌, ◌||◌, ◌==◌, nat_lt, List, [], ◌∷◌, length, map, get_or, Option, Some, None, unwrap_or, is_some, is_none, option_map, refl, sym, ap, ◌∙◌, arith, if◌then◌else◌, inl, inr, All, IsTrue}
use Rattle.std.proofs.lemmas.Bool.Decides.{nat_tests}
use Rattle.std.proofs.lemmas.List.{length-map}
use Rattle.std.specs.List.{AllZip, find, list_all, list_any}
use Rattle.std.specs.Option.{option_map_or, option_or, ForSome}
use Rattle.fdp_base.specs.declared.config.Class.{Class}
use Rattle.fdp_base.specs.declared.config.Class.TheVariants.{Initial, Persistent}
use Rattle.fdp_base.specs.declared.config.DriveConfig.{DriveConfig}
use Rattle.fdp_base.specs.declared.config.NamespaceConfig.{NamespaceConfig}
use Rattle.fdp_base.specs.Config.{HasNoRepeat, HasRoom, IsHandleList, IsInRange, IsValidNamespace}
use Rattle.fdp_base.specs.Geometry.{IsWithin, all_pages}
use Rattle.fdp_base.specs.Placement.{geometry_of, handle_count}
use Rattle.toml.specs.Data.{Data, boolean, Members, get_member, get, as_bool}
use Rattle.toml.specs.View.{items_of}
use Rattle.fdp_config.proofs.Chain.{all_past}
use Rattle.fdp_config.proofs.Views.{counted}
use Rattle.fdp_config.specs.Document.{elements, elements_of, items_list, number_of, truth_of, value_at, words_in}
use Rattle.fdp_config.specs.Faults.{HasKinds, IsRanged}
use Rattle.fdp_config.specs.Reader.First.{fault_of, first_range_fault, room_fault}
use Rattle.fdp_config.specs.Kinds.{blocks_word, handles_word, is_array_of, is_key, is_missing, is_namespace, is_number, is_of_other_kind, is_text}
use Rattle.fdp_base.specs.Numbers.{has_repeat}
use Rattle.fdp_config.specs.Ranges.{above, blocks_fault, class_fault, classes_fault, configurations_fault, first_of, handles_fault, is_handle, is_within, listable, namespace_fault, namespaces_fault, outside, range_fault}
use Rattle.fdp_config.specs.Document.{amount_of}
use Rattle.fdp_config.specs.Ranges.{class_of}
use Rattle.fdp_config.specs.Reader.Config.{classes_in, config_in, given, namespace_in}
use Rattle.fdp_config.specs.Spelling.{IsConfigOf, SpellsHandles, SpellsNamespace, SpellsNamespaces, array_of, class_word, classes_array, number}
use Rattle.fdp_config.specs.Table.{keys}
use Rattle.fdp_config.specs.declared.key.Key.{Key}
use Rattle.fdp_config.specs.declared.key.Key.TheVariants.{Block, UnitPages, Groups, Units, AreaUnits, Queues, BlocksPerCommand, Fdp, Enabled, Index, Namespaces, QueueDepth, Collectors, Turns}

-- Reading back.

items_of-list : (ds : List Data) → items_list (items_of ds) ≡ ds
items_of-list [] = refl
items_of-list (d ∷ ds) = ap (λ es. d ∷ es) (items_of-list ds)

map_back : {A : Type 0} (f : Data → A) (g : A → Data) (xs : List A) → ((x : A) → f (g x) ≡ x) → map f (map g xs) ≡ xs
map_back f g [] back = refl
map_back f g (x ∷ xs) back = rw (back x, map_back f g xs back) refl

pub amount_back : (v : Option Data) (n : ℕ) → v ≡ Some (number n) → amount_of v ≡ n
amount_back v n is = rw is refl

class_back : (x : Class) → unwrap_or (class_of (class_word x)) Initial ≡ x
class_back Initial = refl
class_back Persistent = refl

classes_back : (xs : List Class) → classes_in (classes_array xs) ≡ xs
classes_back xs = ap (map (λ w. unwrap_or (class_of w) Initial)) (items_of-list (map class_word xs)) ∙ map_back (λ w. unwrap_or (class_of w) Initial) class_word xs class_back

pub configurations_back : (v : Option Data) (fdp : List (List Class)) → v ≡ Some (array_of (map classes_array fdp)) → map classes_in (elements_of v) ≡ fdp
configurations_back v fdp is = rw is (ap (map classes_in) (items_of-list (map classes_array fdp)) ∙ map_back classes_in classes_array fdp classes_back)

numbers_back : (hs : List ℕ) → map (λ d. amount_of (Some d)) (items_list (items_of (map number hs))) ≡ hs
numbers_back hs = ap (map (λ d. amount_of (Some d))) (items_of-list (map number hs)) ∙ map_back (λ d. amount_of (Some d)) number hs (λ n. refl)

given_some : (hs : List ℕ) → 1 ≤ length hs → given hs ≡ Some hs
given_some [] some = absurd (omega arith)
given_some (h ∷ hs) some = refl

-- a list of handles has one at least
abbrev HasHandles : Option (List ℕ) → Type 0
HasHandles o = ForSome o (λ hs. 1 ≤ length hs)

handles_back : (o : Option (List ℕ)) (v : Option Data) → HasHandles o → SpellsHandles o v → given (map (λ d. amount_of (Some d)) (elements_of v)) ≡ o
handles_back None v some spells = elim spells [ inl absent ↦ rw absent refl | inr empty ↦ rw empty refl ]
handles_back (Some hs) v some spells = rw spells (ap given (numbers_back hs) ∙ given_some hs (some hs refl))

namespace_back : (d : Data) (n : NamespaceConfig) → HasHandles n.handles → SpellsNamespace d n → namespace_in d ≡ n
namespace_back d n some spells =
    let blocks : amount_of (get blocks_word d) ≡ n.blocks = rw spells.is_table (amount_back (get_member blocks_word spells.members) n.blocks spells.blocks) in
    let handles : given (map (λ x. amount_of (Some x)) (elements_of (get handles_word d))) ≡ n.handles =
    rw spells.is_table (handles_back n.handles (get_member handles_word spells.members) some spells.handles) in
    λ i. record { blocks = blocks i; handles = handles i }

handles_of_valid : (c : DriveConfig) (n : NamespaceConfig) → IsValidNamespace c n → HasHandles n.handles
handles_of_valid c n valid = λ hs is. (valid.handles hs is).1.number.0

rest_of : {X : Type 0} (P : X → Type 0) (x : X) (xs : List X) → All P (x ∷ xs) → All P xs
rest_of P x xs all = λ k d below. all (suc k) d (omega arith)

first_in : {X : Type 0} (P : X → Type 0) (x : X) (xs : List X) → All P (x ∷ xs) → P x
first_in P x xs all = all 0 x (omega arith)

zip_back : (c : DriveConfig) (ds : List Data) (ns : List NamespaceConfig) → All (IsValidNamespace c) ns → AllZip SpellsNamespace ds ns → map namespace_in ds ≡ ns
zip_back c [] [] valid spells = refl
zip_back c [] (n ∷ ns) valid spells = absurd spells
zip_back c (d ∷ ds) [] valid spells = absurd spells
zip_back c (d ∷ ds) (n ∷ ns) valid spells =
    rw (namespace_back d n (handles_of_valid c n (first_in (IsValidNamespace c) n ns valid)) spells.0, zip_back c ds ns (rest_of (IsValidNamespace c) n ns valid) spells.1) refl

namespaces_back : (c : DriveConfig) (v : Option Data) (ns : List NamespaceConfig) → All (IsValidNamespace c) ns → SpellsNamespaces ns v → map namespace_in (elements_of v) ≡ ns
namespaces_back c None ns valid spells = sym spells
namespaces_back c (Some d) ns valid spells =
    let same : elements d ≡ spells.0 = rw spells.1 (items_of-list spells.0) in ap (map namespace_in) same ∙ zip_back c spells.0 ns valid spells.2

pub truth_back : (v : Option Data) (b : Bool) → v ≡ Some (boolean b) → truth_of v ≡ b
truth_back v b is = rw is refl

-- it reads as the configuration that it spells
pub reads_as : (doc : Members) (c : DriveConfig) → IsRanged doc c → config_in doc ≡ c
reads_as doc c is =
    let block = amount_back (value_at doc Block) c.block (is.spelled Block) in
    let unit_pages = amount_back (value_at doc UnitPages) c.unit_pages (is.spelled UnitPages) in
    let groups = amount_back (value_at doc Groups) c.groups (is.spelled Groups) in
    let units = amount_back (value_at doc Units) c.units (is.spelled Units) in
    let area_units = amount_back (value_at doc AreaUnits) c.area_units (is.spelled AreaUnits) in
    let queues = amount_back (value_at doc Queues) c.queues (is.spelled Queues) in
    let blocks_per_command = amount_back (value_at doc BlocksPerCommand) c.blocks_per_command (is.spelled BlocksPerCommand) in
    let fdp = configurations_back (value_at doc Fdp) c.fdp (is.spelled Fdp) in
    let enabled = truth_back (value_at doc Enabled) c.enabled (is.spelled Enabled) in
    let index = amount_back (value_at doc Index) c.index (is.spelled Index) in
    let namespaces = namespaces_back c (value_at doc Namespaces) c.namespaces is.ranges.each_namespace (is.spelled Namespaces) in
    let queue_depth = amount_back (value_at doc QueueDepth) c.queue_depth (is.spelled QueueDepth) in
    let collectors = amount_back (value_at doc Collectors) c.collectors (is.spelled Collectors) in
    let turns = amount_back (value_at doc Turns) c.turns (is.spelled Turns) in
    λ i. record {
      block = block i;
      unit_pages = unit_pages i;
      groups = groups i;
      units = units i;
      area_units = area_units i;
      queues = queues i;
      blocks_per_command = blocks_per_command i;
      fdp = fdp i;
      enabled = enabled i;
      index = index i;
      namespaces = namespaces i;
      queue_depth = queue_depth i;
      collectors = collectors i;
      turns = turns i;
    }

-- Keys and kinds.

none_found : {X : Type 0} (test : X → Bool) (xs : List X) → list_all test xs ≡ true → find (λ x. not (test x)) xs ≡ None
none_found test [] all = refl
none_found test (x ∷ xs) all =
    elim (test x) as (λ b. (b && list_all test xs) ≡ true → (if not b then Some x else find (λ y. not (test y)) xs) ≡ None) [
      | true ↦ λ rest. none_found test xs rest
      | false ↦ λ fails. absurd (cc)
    ] all

-- what fails at each key is found at none
no_key : (test : Key → Bool) → ((key : Key) → test key ≡ false) → find test keys ≡ None
no_key test fails =
    rw (fails Block, fails UnitPages, fails Groups, fails Units, fails AreaUnits, fails Queues, fails BlocksPerCommand, fails Fdp, fails Enabled, fails Index, fails Namespaces, fails QueueDepth, fails Collectors, fails Turns) refl

there : (v : Option Data) (d : Data) (needed : Bool) → v ≡ Some d → (is_none v && needed) ≡ false
there v d needed is = rw is refl

and_false : (b : Bool) → (b && false) ≡ false
and_false true = refl
and_false false = refl

not_missing : (doc : Members) (c : DriveConfig) → IsRanged doc c → (key : Key) → is_missing doc key ≡ false
not_missing doc c is Block = there (value_at doc Block) _ true (is.spelled Block)
not_missing doc c is UnitPages = there (value_at doc UnitPages) _ true (is.spelled UnitPages)
not_missing doc c is Groups = there (value_at doc Groups) _ true (is.spelled Groups)
not_missing doc c is Units = there (value_at doc Units) _ true (is.spelled Units)
not_missing doc c is AreaUnits = there (value_at doc AreaUnits) _ true (is.spelled AreaUnits)
not_missing doc c is Queues = there (value_at doc Queues) _ true (is.spelled Queues)
not_missing doc c is BlocksPerCommand = there (value_at doc BlocksPerCommand) _ true (is.spelled BlocksPerCommand)
not_missing doc c is Fdp = there (value_at doc Fdp) _ true (is.spelled Fdp)
not_missing doc c is Enabled = there (value_at doc Enabled) _ true (is.spelled Enabled)
not_missing doc c is Index = there (value_at doc Index) _ true (is.spelled Index)
not_missing doc c is Namespaces = and_false (is_none (value_at doc Namespaces))
not_missing doc c is QueueDepth = there (value_at doc QueueDepth) _ true (is.spelled QueueDepth)
not_missing doc c is Collectors = there (value_at doc Collectors) _ true (is.spelled Collectors)
not_missing doc c is Turns = there (value_at doc Turns) _ true (is.spelled Turns)

all_map : {A : Type 0} (test : Data → Bool) (g : A → Data) (xs : List A) → ((x : A) → test (g x) ≡ true) → list_all test (map g xs) ≡ true
all_map test g [] passes = refl
all_map test g (x ∷ xs) passes = rw (passes x, all_map test g xs passes) refl

array_of_map : {A : Type 0} (test : Data → Bool) (g : A → Data) (xs : List A) → ((x : A) → test (g x) ≡ true) → is_array_of test (array_of (map g xs)) ≡ true
array_of_map test g xs passes = ap (list_all test) (items_of-list (map g xs)) ∙ all_map test g xs passes

word_is_text : (x : Class) → is_text (class_word x) ≡ true
word_is_text Initial = refl
word_is_text Persistent = refl

number_kind : (v : Option Data) (n : ℕ) → v ≡ Some (number n) → option_map_or (λ d. not (is_number d)) v false ≡ false
number_kind v n is = rw is refl

truth_kind : (v : Option Data) (b : Bool) → v ≡ Some (boolean b) → option_map_or (λ d. not (is_some (as_bool d))) v false ≡ false
truth_kind v b is = rw is refl

configurations_kind : (v : Option Data) (fdp : List (List Class)) → v ≡ Some (array_of (map classes_array fdp)) → option_map_or (λ d. not (is_array_of (is_array_of is_text) d)) v false ≡ false
configurations_kind v fdp is = rw is (ap not (array_of_map (is_array_of is_text) classes_array fdp (λ xs. array_of_map is_text class_word xs word_is_text)))

handles_kind : (o : Option (List ℕ)) (v : Option Data) → SpellsHandles o v → option_map_or (is_array_of is_number) v true ≡ true
handles_kind None v spells = elim spells [ inl absent ↦ rw absent refl | inr empty ↦ rw empty refl ]
handles_kind (Some hs) v spells = rw spells (array_of_map is_number number hs (λ n. refl))

blocks_kind : (v : Option Data) (n : ℕ) → v ≡ Some (number n) → option_map_or is_number v false ≡ true
blocks_kind v n is = rw is refl

namespace_kind : (d : Data) (n : NamespaceConfig) → SpellsNamespace d n → is_namespace d ≡ true
namespace_kind d n spells =
    rw spells.is_table (three _ _ _ spells.known (blocks_kind (get_member blocks_word spells.members) n.blocks spells.blocks) (handles_kind n.handles (get_member handles_word spells.members) spells.handles))
  where
    three : (a b c : Bool) → a ≡ true → b ≡ true → c ≡ true → ((a && b) && c) ≡ true
    three a b c p q r = rw (p, q, r) refl

zip_kind : (ds : List Data) (ns : List NamespaceConfig) → AllZip SpellsNamespace ds ns → list_all is_namespace ds ≡ true
zip_kind [] [] spells = refl
zip_kind [] (n ∷ ns) spells = absurd spells
zip_kind (d ∷ ds) [] spells = absurd spells
zip_kind (d ∷ ds) (n ∷ ns) spells = both _ _ (namespace_kind d n spells.0) (zip_kind ds ns spells.1)
  where
    both : (a b : Bool) → a ≡ true → b ≡ true → (a && b) ≡ true
    both a b p q = rw (p, q) refl

namespaces_kind : (v : Option Data) (ns : List NamespaceConfig) → SpellsNamespaces ns v → option_map_or (λ d. not (is_array_of is_namespace d)) v false ≡ false
namespaces_kind None ns spells = refl
namespaces_kind (Some d) ns spells =
    let all : is_array_of is_namespace d ≡ true = rw spells.1 (ap (list_all is_namespace) (items_of-list spells.0) ∙ zip_kind spells.0 ns spells.2) in ap not all

right_kind : (doc : Members) (c : DriveConfig) → IsRanged doc c → (key : Key) → is_of_other_kind doc key ≡ false
right_kind doc c is Block = number_kind (value_at doc Block) c.block (is.spelled Block)
right_kind doc c is UnitPages = number_kind (value_at doc UnitPages) c.unit_pages (is.spelled UnitPages)
right_kind doc c is Groups = number_kind (value_at doc Groups) c.groups (is.spelled Groups)
right_kind doc c is Units = number_kind (value_at doc Units) c.units (is.spelled Units)
right_kind doc c is AreaUnits = number_kind (value_at doc AreaUnits) c.area_units (is.spelled AreaUnits)
right_kind doc c is Queues = number_kind (value_at doc Queues) c.queues (is.spelled Queues)
right_kind doc c is BlocksPerCommand = number_kind (value_at doc BlocksPerCommand) c.blocks_per_command (is.spelled BlocksPerCommand)
right_kind doc c is Fdp = configurations_kind (value_at doc Fdp) c.fdp (is.spelled Fdp)
right_kind doc c is Enabled = truth_kind (value_at doc Enabled) c.enabled (is.spelled Enabled)
right_kind doc c is Index = number_kind (value_at doc Index) c.index (is.spelled Index)
right_kind doc c is Namespaces = namespaces_kind (value_at doc Namespaces) c.namespaces (is.spelled Namespaces)
right_kind doc c is QueueDepth = number_kind (value_at doc QueueDepth) c.queue_depth (is.spelled QueueDepth)
right_kind doc c is Collectors = number_kind (value_at doc Collectors) c.collectors (is.spelled Collectors)
right_kind doc c is Turns = number_kind (value_at doc Turns) c.turns (is.spelled Turns)

-- Ranges.

block_range : (n : ℕ) → IsTrue (n == 512 || n == 4096) → IsWithin 512 4096 n
block_range n known = (grind (arith, nat_tests), grind (arith, nat_tests))

number_free : (low high : ℕ) (v : Option Data) (n : ℕ) → v ≡ Some (number n) → IsWithin low high n → outside low high 0 (number_of v) ≡ None
number_free low high v n is range = rw (is, counted low high n range.0 range.1) refl

above_free : (limit n : ℕ) → n ≤ limit → above limit n ≡ None
above_free limit n below = rw (le-leb n limit below) refl

first_of_map : {A : Type 0} (P : A → Type 0) (fault : ℕ → Data → Option ℕ) (g : A → Data) (place : ℕ) (xs : List A)
    → ((j : ℕ) (x : A) → P x → fault j (g x) ≡ None) → All P xs → first_of fault place (map g xs) ≡ None
unfolding first_of
first_of_map P fault g place [] free all = refl
first_of_map P fault g place (x ∷ xs) free all =
    rw (free place x (first_in P x xs all), first_of_map P fault g (place + 1) xs free (rest_of P x xs all)) refl

word_free : (j : ℕ) (x : Class) → Unit {0} → class_fault j (class_word x) ≡ None
word_free j Initial known = refl
word_free j Persistent known = refl

classes_free : (j : ℕ) (xs : List Class) → IsWithin 1 16 (length xs) → classes_fault j (classes_array xs) ≡ None
classes_free j xs range =
    let few : is_within 1 16 (length (map class_word xs)) ≡ true = rw (length-map xs class_word) (counted 1 16 (length xs) range.0 range.1) in
    rw (items_of-list (map class_word xs), few) (first_of_map (λ _. Unit {0}) class_fault class_word 0 xs word_free (λ k d below. tt))

configurations_free : (v : Option Data) (fdp : List (List Class)) → v ≡ Some (array_of (map classes_array fdp)) → IsWithin 1 4 (length fdp) → All (λ xs. IsWithin 1 16 (length xs)) fdp
    → configurations_fault (elements_of v) ≡ None
configurations_free v fdp is range each =
    let few : is_within 1 4 (length (map classes_array fdp)) ≡ true = rw (length-map fdp classes_array) (counted 1 4 (length fdp) range.0 range.1) in
    rw (is, items_of-list (map classes_array fdp), few) (first_of_map (λ xs. IsWithin 1 16 (length xs)) classes_fault classes_array 0 fdp classes_free each)

blocks_free : (place : ℕ) (v : Option Data) (n : ℕ) → v ≡ Some (number n) → 1 ≤ n → blocks_fault place (number_of v) ≡ None
blocks_free place v n is some = rw (is, le-leb 1 n some) refl

not_there : (x : ℕ) (xs : List ℕ) → ((k : ℕ) → k < length xs → x ≢ get_or xs k 0) → list_any (λ y. y == x) xs ≡ false
not_there x [] apart = refl
not_there x (y ∷ ys) apart =
    let here : (y == x) ≡ false = differ (apart 0 (omega arith)) in
    rw (here, not_there x ys (λ k below. apart (suc k) (omega arith))) refl
  where
    differ : x ≢ y → (y == x) ≡ false
    differ apart = grind (arith, nat_tests)

no_repeat : (xs : List ℕ) → HasNoRepeat xs → has_repeat xs ≡ false
unfolding has_repeat
no_repeat [] once = refl
no_repeat (x ∷ xs) once =
    rw (not_there x xs (λ k below. once 0 (suc k) (omega arith) (omega arith)), no_repeat xs (λ i k before below. once (suc i) (suc k) (omega arith) (omega arith))) refl

handles_known : (count : ℕ) (hs : List ℕ) → All (λ ruh. ruh < count) hs → list_all (is_handle count) (map number hs) ≡ true
handles_known count [] below = refl
handles_known count (h ∷ hs) below =
    let here : nat_lt h count ≡ true = lt_test h count (first_in (λ ruh. ruh < count) h hs below) in
    rw (here, handles_known count hs (rest_of (λ ruh. ruh < count) h hs below)) refl
  where
    lt_test : (a b : ℕ) → a < b → nat_lt a b ≡ true
    lt_test a b is = grind (arith, nat_tests)

list_free : (count place : ℕ) (hs : List ℕ) → IsHandleList count hs → handles_fault count place (map number hs) ≡ None
list_free count place hs is =
    let few : nat_le (length (map number hs)) 16 ≡ true = rw (length-map hs number) (le-leb (length hs) 16 is.number.1) in
    let once : has_repeat (map (λ d. amount_of (Some d)) (map number hs)) ≡ false = rw (map_back (λ d. amount_of (Some d)) number hs (λ n. refl)) (no_repeat hs is.distinct) in
    rw (few, handles_known count hs is.known, once) refl

empty_free : (count place : ℕ) → handles_fault count place [] ≡ None
unfolding has_repeat
empty_free count place = refl

-- the handles that can be listed, while placement is enabled
listable_all : (c : DriveConfig) → IsTrue c.enabled → handle_count c c.enabled c.index ≡ listable c
listable_all c enabled = rw enabled refl

handles_free : (c : DriveConfig) (place : ℕ) (o : Option (List ℕ)) (v : Option Data) → ForSome o (λ list. IsTrue c.enabled × IsHandleList (handle_count c c.enabled c.index) list)
    → SpellsHandles o v → handles_fault (listable c) place (elements_of v) ≡ None
handles_free c place None v valid spells = elim spells [ inl absent ↦ rw absent (empty_free (listable c) place) | inr empty ↦ rw empty (empty_free (listable c) place) ]
handles_free c place (Some hs) v valid spells =
    let (enabled, is) = valid hs refl in
    let known : IsHandleList (listable c) hs = rw (← listable_all c enabled) is in
    rw (spells, items_of-list (map number hs)) (list_free (listable c) place hs known)

namespace_free : (c : DriveConfig) (place : ℕ) (d : Data) (n : NamespaceConfig) → IsValidNamespace c n → SpellsNamespace d n → namespace_fault (listable c) place d ≡ None
namespace_free c place d n valid spells =
    rw spells.is_table (either_free _ _ (blocks_free place (get_member blocks_word spells.members) n.blocks spells.blocks valid.blocks) (handles_free c place n.handles (get_member handles_word spells.members) valid.handles spells.handles))
  where
    either_free : (a b : Option ℕ) → a ≡ None → b ≡ None → option_or a b ≡ None
    either_free a b p q = rw (p, q) refl

zip_free : (c : DriveConfig) (place : ℕ) (ds : List Data) (ns : List NamespaceConfig) → All (IsValidNamespace c) ns → AllZip SpellsNamespace ds ns
    → (first_of (namespace_fault (listable c)) place ds ≡ None) × (length ds ≡ length ns)
unfolding first_of
zip_free c place [] [] valid spells = (refl, refl)
zip_free c place [] (n ∷ ns) valid spells = absurd spells
zip_free c place (d ∷ ds) [] valid spells = absurd spells
zip_free c place (d ∷ ds) (n ∷ ns) valid spells =
    let (rest, many) = zip_free c (place + 1) ds ns (rest_of (IsValidNamespace c) n ns valid) spells.1 in
    (rw (namespace_free c place d n (first_in (IsValidNamespace c) n ns valid) spells.0, rest) refl, ap suc many)

namespaces_free : (c : DriveConfig) (v : Option Data) → IsInRange c → SpellsNamespaces c.namespaces v → namespaces_fault (listable c) (elements_of v) ≡ None
unfolding first_of
namespaces_free c None ranges spells = refl
namespaces_free c (Some d) ranges spells =
    let (free, many) = zip_free c 0 spells.0 c.namespaces ranges.each_namespace spells.2 in
    let few : nat_le (length spells.0) 16 ≡ true = rw many (le-leb (length c.namespaces) 16 ranges.namespaces) in
    rw (spells.1, items_of-list spells.0, few) free

-- what is told of a configuration, where a document that spells it is told of

abbrev block_told : DriveConfig → Option ℕ
block_told c = if c.block == 512 || c.block == 4096 then None else Some c.block

abbrev pages_told : DriveConfig → Option ℕ
pages_told c = above 262144 (all_pages (geometry_of c))

abbrev command_told : DriveConfig → Option ℕ
command_told c = above c.unit_pages c.blocks_per_command

abbrev index_told : DriveConfig → Option ℕ
index_told c = above (length c.fdp - 1) c.index

key_free : (own further : Option ℕ) → own ≡ None → further ≡ None → option_or own further ≡ None
key_free own further p q = rw (p, q) refl

block_free : (c : DriveConfig) → IsTrue (c.block == 512 || c.block == 4096) → block_told c ≡ None
block_free c known = rw known refl

index_free : (c : DriveConfig) → c.index < length c.fdp → index_told c ≡ None
index_free c below = above_free (length c.fdp - 1) c.index (omega arith)

no_range_fault : (doc : Members) (c : DriveConfig) → IsRanged doc c → first_range_fault doc keys ≡ None
unfolding range_fault
no_range_fault doc c is =
    let same = reads_as doc c is in
    let ranges = is.ranges in
    let few_configurations : length c.fdp ≤ 4 = ranges.configurations.1 in
    let index_range : IsWithin 0 3 c.index = (omega arith, let below : c.index < length c.fdp = ranges.index in omega arith) in
    all_past doc keys (
      key_free _ _ (number_free 512 4096 (value_at doc Block) c.block (is.spelled Block) (block_range c.block ranges.block)) (ap block_told same ∙ block_free c ranges.block),
      (
        key_free _ _ (number_free 2 256 (value_at doc UnitPages) c.unit_pages (is.spelled UnitPages) (ranges.unit_pages)) (refl),
        (
          key_free _ _ (number_free 1 16 (value_at doc Groups) c.groups (is.spelled Groups) (ranges.groups)) (refl),
          (
            key_free _ _ (number_free 1 131072 (value_at doc Units) c.units (is.spelled Units) (ranges.units)) (ap pages_told same ∙ above_free 262144 _ ranges.pages),
            (
              key_free _ _ (number_free 1 65536 (value_at doc AreaUnits) c.area_units (is.spelled AreaUnits) (ranges.area_units)) (refl),
              (
                key_free _ _ (number_free 1 16 (value_at doc Queues) c.queues (is.spelled Queues) (ranges.queues)) (refl),
                (
                  key_free _ _ (number_free 1 64 (value_at doc BlocksPerCommand) c.blocks_per_command (is.spelled BlocksPerCommand) (ranges.blocks_per_command)) (ap command_told same ∙ above_free c.unit_pages c.blocks_per_command ranges.command_in_unit),
                  (
                    key_free _ _ (configurations_free (value_at doc Fdp) c.fdp (is.spelled Fdp) ranges.configurations ranges.handles) refl,
                    (
                      refl,
                      (
                        key_free _ _ (number_free 0 3 (value_at doc Index) c.index (is.spelled Index) index_range) (ap index_told same ∙ index_free c ranges.index),
                        (
                          key_free _ _ (ap (λ x. namespaces_fault (listable x) (elements_of (value_at doc Namespaces))) same ∙ namespaces_free c (value_at doc Namespaces) ranges (is.spelled Namespaces)) refl,
                          (
                            key_free _ _ (number_free 2 1024 (value_at doc QueueDepth) c.queue_depth (is.spelled QueueDepth) (ranges.queue_depth)) (refl),
                            (
                              key_free _ _ (number_free 0 8 (value_at doc Collectors) c.collectors (is.spelled Collectors) (ranges.collectors)) (refl),
                              (
                                key_free _ _ (number_free 0 4294967295 (value_at doc Turns) c.turns (is.spelled Turns) (ranges.turns)) (refl),
                                tt,
                              ),
                            ),
                          ),
                        ),
                      ),
                    ),
                  ),
                ),
              ),
            ),
          ),
        ),
      ),
    )

room_free : (c : DriveConfig) → HasRoom c → room_fault c ≡ None
room_free c room = rw (not_below _ _ room.namespaces, not_below _ _ room.area) refl
  where
    not_below : (a b : ℕ) → a ≤ b → nat_lt b a ≡ false
    not_below a b below = grind (arith, nat_tests)

none_told : {X A B C : Type 0} (f : A → X) (g : B → X) (h : C → X) (a : Option A) (b : Option B) (c : Option C) (d e : Option X)
    → a ≡ None → b ≡ None → c ≡ None → d ≡ None → e ≡ None → option_or (option_map f a) (option_or (option_map g b) (option_or (option_map h c) (option_or d e))) ≡ None
none_told f g h a b c d e p q r s t = rw (p, q, r, s, t) refl

-- a configuration that is spelled has its values in their ranges
pub ranged : (doc : Members) (c : DriveConfig) → IsConfigOf doc c → IsRanged doc c
ranged doc c is = record { known = is.known; spelled = is.spelled; ranges = is.valid.ranges }

-- a document whose values are in their ranges has no fault but that of room
pub no_fault_of_values : (doc : Members) (c : DriveConfig) → IsRanged doc c → HasKinds doc × (first_range_fault doc keys ≡ None)
no_fault_of_values doc c is = (
  record {
    known = none_found is_key (words_in doc) is.known;
    there = no_key (is_missing doc) (not_missing doc c is);
    kinds = no_key (is_of_other_kind doc) (right_kind doc c is);
  },
  no_range_fault doc c is,
)

-- it has no fault
pub no_fault : (doc : Members) (c : DriveConfig) → IsConfigOf doc c → fault_of doc ≡ None
no_fault doc c is =
    let (values, range) = no_fault_of_values doc c (ranged doc c is) in
    none_told _ _ _ _ _ _ _ _ values.known values.there values.kinds range (ap room_fault (reads_as doc c (ranged doc c is)) ∙ room_free c is.valid.room)
