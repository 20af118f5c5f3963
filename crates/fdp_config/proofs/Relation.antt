-- The fault of a document as a relation is the one that is found key by key.
use Rattle.std.proofs.Common.{◌≡◌, ℕ, ◌+◌, ◌<◌, ◌≤◌, Bool, true, false, nat_lt, List, [], ◌∷◌, Option, Some, None, option_map, refl, sym, ap, subst, ◌∙◌, arith, lit<, if◌then◌else◌, inl, inr, slice_get}
use Rattle.std.specs.Prelude.{◌⊎◌}
use Rattle.std.proofs.lemmas.Bool.Decides.{nat_tests}
use Rattle.std.specs.List.{find}
use Rattle.std.specs.Option.{option_or}
use Rattle.fdp_base.specs.declared.config.DriveConfig.{DriveConfig}
use Rattle.fdp_base.specs.Geometry.{area_pages}
use Rattle.fdp_base.specs.Placement.{geometry_of, handle_count, full_budget, namespace_blocks, needed_area_pages}
use Rattle.toml.specs.Data.{Members}
use Rattle.fdp_config.proofs.Chain.{stop_after}
use Rattle.fdp_config.proofs.InRange.{in_range}
use Rattle.fdp_config.proofs.Spelled.{all_fail, all_pass, spelled_all, spelled_at}
use Rattle.fdp_config.proofs.Told.{amount_back, configurations_back, no_fault_of_values, reads_as, truth_back}
use Rattle.fdp_config.specs.Document.{value_at, words_in}
use Rattle.fdp_config.specs.Faults.{HasKinds, IsFaultIn, IsOutOfRange, LacksBlocks, LacksPages}
use Rattle.fdp_config.specs.Kinds.{is_key, is_missing, is_of_other_kind, is_unknown}
use Rattle.fdp_config.specs.Ranges.{range_fault}
use Rattle.fdp_config.specs.Reader.Checks.{read_fault}
use Rattle.fdp_config.specs.Reader.Config.{config_in}
use Rattle.fdp_config.specs.Reader.First.{fault_of, first_range_fault, room_fault}
use Rattle.fdp_config.specs.Spelling.{Spells}
use Rattle.fdp_config.specs.Table.{keys, place_of}
use Rattle.fdp_config.specs.declared.fault.ConfigFault.{ConfigFault}
use Rattle.fdp_config.specs.declared.fault.ConfigFault.TheVariants.{NotToml, Unknown, Missing, Kind, Range, NoRoom, NoMemory}
use Rattle.fdp_config.specs.declared.key.Key.{Key}
use Rattle.fdp_config.specs.declared.key.Key.TheVariants.{Block, UnitPages, Groups, Units, AreaUnits, Queues, BlocksPerCommand, Fdp, Enabled, Index, Namespaces, QueueDepth, Collectors, Turns}

-- ---- from the relation

-- where the earlier keys are spelled, a key is out of its range beside them as it is in the document
same_range : (doc : Members) (c : DriveConfig) (key : Key) → ((earlier : Key) → place_of earlier < place_of key → Spells c earlier (value_at doc earlier)) → range_fault doc c key ≡ read_fault doc key
unfolding range_fault
same_range doc c Block spelled = refl
same_range doc c UnitPages spelled = refl
same_range doc c Groups spelled = refl
same_range doc c Units spelled =
    rw (amount_back (value_at doc UnitPages) c.unit_pages (spelled UnitPages (lit< tt)), amount_back (value_at doc Groups) c.groups (spelled Groups (lit< tt))) refl
same_range doc c AreaUnits spelled = refl
same_range doc c Queues spelled = refl
same_range doc c BlocksPerCommand spelled = rw (amount_back (value_at doc UnitPages) c.unit_pages (spelled UnitPages (lit< tt))) refl
same_range doc c Fdp spelled = refl
same_range doc c Enabled spelled = refl
same_range doc c Index spelled = rw (configurations_back (value_at doc Fdp) c.fdp (spelled Fdp (lit< tt))) refl
same_range doc c Namespaces spelled =
    rw (configurations_back (value_at doc Fdp) c.fdp (spelled Fdp (lit< tt)), truth_back (value_at doc Enabled) c.enabled (spelled Enabled (lit< tt)), amount_back (value_at doc Index) c.index (spelled Index (lit< tt))) refl
same_range doc c QueueDepth spelled = refl
same_range doc c Collectors spelled = refl
same_range doc c Turns spelled = refl

-- behind keys in their ranges a key that is not is the first that is told
first_at : (doc : Members) (key : Key) (told : ℕ) → ((earlier : Key) → place_of earlier < place_of key → read_fault doc earlier ≡ None) → read_fault doc key ≡ Some told → first_range_fault doc keys ≡ Some (Range key told)
first_at doc Block told before fails = stop_after doc ([]) (UnitPages ∷ Groups ∷ Units ∷ AreaUnits ∷ Queues ∷ BlocksPerCommand ∷ Fdp ∷ Enabled ∷ Index ∷ Namespaces ∷ QueueDepth ∷ Collectors ∷ Turns ∷ []) Block told _ tt fails refl
first_at doc UnitPages told before fails = stop_after doc (Block ∷ []) (Groups ∷ Units ∷ AreaUnits ∷ Queues ∷ BlocksPerCommand ∷ Fdp ∷ Enabled ∷ Index ∷ Namespaces ∷ QueueDepth ∷ Collectors ∷ Turns ∷ []) UnitPages told _ (before Block (lit< tt), tt) fails refl
first_at doc Groups told before fails = stop_after doc (Block ∷ UnitPages ∷ []) (Units ∷ AreaUnits ∷ Queues ∷ BlocksPerCommand ∷ Fdp ∷ Enabled ∷ Index ∷ Namespaces ∷ QueueDepth ∷ Collectors ∷ Turns ∷ []) Groups told _ (before Block (lit< tt), (before UnitPages (lit< tt), tt)) fails refl
first_at doc Units told before fails = stop_after doc (Block ∷ UnitPages ∷ Groups ∷ []) (AreaUnits ∷ Queues ∷ BlocksPerCommand ∷ Fdp ∷ Enabled ∷ Index ∷ Namespaces ∷ QueueDepth ∷ Collectors ∷ Turns ∷ []) Units told _ (before Block (lit< tt), (before UnitPages (lit< tt), (before Groups (lit< tt), tt))) fails refl
first_at doc AreaUnits told before fails = stop_after doc (Block ∷ UnitPages ∷ Groups ∷ Units ∷ []) (Queues ∷ BlocksPerCommand ∷ Fdp ∷ Enabled ∷ Index ∷ Namespaces ∷ QueueDepth ∷ Collectors ∷ Turns ∷ []) AreaUnits told _ (before Block (lit< tt), (before UnitPages (lit< tt), (before Groups (lit< tt), (before Units (lit< tt), tt)))) fails refl
first_at doc Queues told before fails = stop_after doc (Block ∷ UnitPages ∷ Groups ∷ Units ∷ AreaUnits ∷ []) (BlocksPerCommand ∷ Fdp ∷ Enabled ∷ Index ∷ Namespaces ∷ QueueDepth ∷ Collectors ∷ Turns ∷ []) Queues told _ (before Block (lit< tt), (before UnitPages (lit< tt), (before Groups (lit< tt), (before Units (lit< tt), (before AreaUnits (lit< tt), tt))))) fails refl
first_at doc BlocksPerCommand told before fails = stop_after doc (Block ∷ UnitPages ∷ Groups ∷ Units ∷ AreaUnits ∷ Queues ∷ []) (Fdp ∷ Enabled ∷ Index ∷ Namespaces ∷ QueueDepth ∷ Collectors ∷ Turns ∷ []) BlocksPerCommand told _ (before Block (lit< tt), (before UnitPages (lit< tt), (before Groups (lit< tt), (before Units (lit< tt), (before AreaUnits (lit< tt), (before Queues (lit< tt), tt)))))) fails refl
first_at doc Fdp told before fails = stop_after doc (Block ∷ UnitPages ∷ Groups ∷ Units ∷ AreaUnits ∷ Queues ∷ BlocksPerCommand ∷ []) (Enabled ∷ Index ∷ Namespaces ∷ QueueDepth ∷ Collectors ∷ Turns ∷ []) Fdp told _ (before Block (lit< tt), (before UnitPages (lit< tt), (before Groups (lit< tt), (before Units (lit< tt), (before AreaUnits (lit< tt), (before Queues (lit< tt), (before BlocksPerCommand (lit< tt), tt))))))) fails refl
first_at doc Enabled told before fails = stop_after doc (Block ∷ UnitPages ∷ Groups ∷ Units ∷ AreaUnits ∷ Queues ∷ BlocksPerCommand ∷ Fdp ∷ []) (Index ∷ Namespaces ∷ QueueDepth ∷ Collectors ∷ Turns ∷ []) Enabled told _ (before Block (lit< tt), (before UnitPages (lit< tt), (before Groups (lit< tt), (before Units (lit< tt), (before AreaUnits (lit< tt), (before Queues (lit< tt), (before BlocksPerCommand (lit< tt), (before Fdp (lit< tt), tt)))))))) fails refl
first_at doc Index told before fails = stop_after doc (Block ∷ UnitPages ∷ Groups ∷ Units ∷ AreaUnits ∷ Queues ∷ BlocksPerCommand ∷ Fdp ∷ Enabled ∷ []) (Namespaces ∷ QueueDepth ∷ Collectors ∷ Turns ∷ []) Index told _ (before Block (lit< tt), (before UnitPages (lit< tt), (before Groups (lit< tt), (before Units (lit< tt), (before AreaUnits (lit< tt), (before Queues (lit< tt), (before BlocksPerCommand (lit< tt), (before Fdp (lit< tt), (before Enabled (lit< tt), tt))))))))) fails refl
first_at doc Namespaces told before fails = stop_after doc (Block ∷ UnitPages ∷ Groups ∷ Units ∷ AreaUnits ∷ Queues ∷ BlocksPerCommand ∷ Fdp ∷ Enabled ∷ Index ∷ []) (QueueDepth ∷ Collectors ∷ Turns ∷ []) Namespaces told _ (before Block (lit< tt), (before UnitPages (lit< tt), (before Groups (lit< tt), (before Units (lit< tt), (before AreaUnits (lit< tt), (before Queues (lit< tt), (before BlocksPerCommand (lit< tt), (before Fdp (lit< tt), (before Enabled (lit< tt), (before Index (lit< tt), tt)))))))))) fails refl
first_at doc QueueDepth told before fails = stop_after doc (Block ∷ UnitPages ∷ Groups ∷ Units ∷ AreaUnits ∷ Queues ∷ BlocksPerCommand ∷ Fdp ∷ Enabled ∷ Index ∷ Namespaces ∷ []) (Collectors ∷ Turns ∷ []) QueueDepth told _ (before Block (lit< tt), (before UnitPages (lit< tt), (before Groups (lit< tt), (before Units (lit< tt), (before AreaUnits (lit< tt), (before Queues (lit< tt), (before BlocksPerCommand (lit< tt), (before Fdp (lit< tt), (before Enabled (lit< tt), (before Index (lit< tt), (before Namespaces (lit< tt), tt))))))))))) fails refl
first_at doc Collectors told before fails = stop_after doc (Block ∷ UnitPages ∷ Groups ∷ Units ∷ AreaUnits ∷ Queues ∷ BlocksPerCommand ∷ Fdp ∷ Enabled ∷ Index ∷ Namespaces ∷ QueueDepth ∷ []) (Turns ∷ []) Collectors told _ (before Block (lit< tt), (before UnitPages (lit< tt), (before Groups (lit< tt), (before Units (lit< tt), (before AreaUnits (lit< tt), (before Queues (lit< tt), (before BlocksPerCommand (lit< tt), (before Fdp (lit< tt), (before Enabled (lit< tt), (before Index (lit< tt), (before Namespaces (lit< tt), (before QueueDepth (lit< tt), tt)))))))))))) fails refl
first_at doc Turns told before fails = stop_after doc (Block ∷ UnitPages ∷ Groups ∷ Units ∷ AreaUnits ∷ Queues ∷ BlocksPerCommand ∷ Fdp ∷ Enabled ∷ Index ∷ Namespaces ∷ QueueDepth ∷ Collectors ∷ []) ([]) Turns told _ (before Block (lit< tt), (before UnitPages (lit< tt), (before Groups (lit< tt), (before Units (lit< tt), (before AreaUnits (lit< tt), (before Queues (lit< tt), (before BlocksPerCommand (lit< tt), (before Fdp (lit< tt), (before Enabled (lit< tt), (before Index (lit< tt), (before Namespaces (lit< tt), (before QueueDepth (lit< tt), (before Collectors (lit< tt), tt))))))))))))) fails refl

out_first : (doc : Members) (key : Key) (told : ℕ) → IsOutOfRange doc key told → first_range_fault doc keys ≡ Some (Range key told)
out_first doc key told (c, before, out) =
    first_at doc key told (λ earlier less. sym (same_range doc c earlier (λ k further. before.spelled k (omega (arith, further, less)))) ∙ before.ranged earlier less) (sym (same_range doc c key before.spelled) ∙ out)

below_test : (a b : ℕ) → a < b → nat_lt a b ≡ true
below_test a b is = grind (arith, nat_tests)

not_below_test : (a b : ℕ) → b ≤ a → nat_lt a b ≡ false
not_below_test a b is = grind (arith, nat_tests)

room_first : (c : DriveConfig) (needed budget : ℕ) → LacksBlocks c needed budget ⊎ LacksPages c needed budget → room_fault c ≡ Some (NoRoom needed budget)
room_first c needed budget (inl lacks) =
    let less : full_budget c (handle_count c c.enabled c.index) < namespace_blocks c = rw (← lacks.budgets, ← lacks.blocks) lacks.more in
    rw (lacks.blocks, lacks.budgets, below_test (full_budget c (handle_count c c.enabled c.index)) (namespace_blocks c) less) refl
room_first c needed budget (inr lacks) =
    let fit = not_below_test (full_budget c (handle_count c c.enabled c.index)) (namespace_blocks c) lacks.fit in
    let less : area_pages (geometry_of c) < needed_area_pages c = rw (← lacks.there, ← lacks.asked) lacks.fewer in
    rw (lacks.asked, lacks.there, fit, below_test (area_pages (geometry_of c)) (needed_area_pages c) less) refl

-- the last fault is told where no other is
last_told : {A B C : Type 0} (f : A → ConfigFault) (g : B → ConfigFault) (h : C → ConfigFault) (a : Option A) (b : Option B) (c : Option C) (d e x : Option ConfigFault)
    → a ≡ None → b ≡ None → c ≡ None → d ≡ None → e ≡ x → option_or (option_map f a) (option_or (option_map g b) (option_or (option_map h c) (option_or d e))) ≡ x
last_told f g h a b c d e x p q r s t = rw (p, q, r, s) t

-- the fault of the relation is found
pub fault_told : (doc : Members) (fault : ConfigFault) → IsFaultIn doc fault → fault_of doc ≡ Some fault
fault_told doc NotToml is = absurd is
fault_told doc (Unknown word) is = rw is refl
fault_told doc (Missing key) is = rw (is.0, is.1) refl
fault_told doc (Kind key) is = rw (is.0, is.1, is.2) refl
fault_told doc (Range key told) is = rw (is.0.known, is.0.there, is.0.kinds, out_first doc key told is.1) refl
fault_told doc (NoRoom needed budget) is =
    let (values, range) = no_fault_of_values doc is.0 is.1 in
    last_told _ _ _ _ _ _ _ _ _ values.known values.there values.kinds range (ap room_fault (reads_as doc is.0 is.1) ∙ room_first is.0 needed budget is.2)
fault_told doc NoMemory is = absurd is

-- ---- to the relation

again : (key : Key) → slice_get keys (place_of key) ≡ Some key
again Block = refl
again UnitPages = refl
again Groups = refl
again Units = refl
again AreaUnits = refl
again Queues = refl
again BlocksPerCommand = refl
again Fdp = refl
again Enabled = refl
again Index = refl
again Namespaces = refl
again QueueDepth = refl
again Collectors = refl
again Turns = refl

same_some : (a b : Key) → Some a ≡ Some b → a ≡ b
same_some a b e = cc

one_place : (a b : Key) → place_of a ≡ place_of b → a ≡ b
one_place a b e = same_some a b (sym (again a) ∙ ap (λ n. slice_get keys n) e ∙ again b)

-- these keys stand in the table from a place on
abbrev ArePlaced : ℕ → List Key → Type 0
ArePlaced n [] = Unit {0}
ArePlaced n (key ∷ rest) = (place_of key ≡ n) × ArePlaced (n + 1) rest

-- a key that is told, and none before it is
abbrev IsToldFirst : Members → ConfigFault → Type 0
IsToldFirst doc fault = (key : Key) × (told : ℕ) × (fault ≡ Range key told) × (read_fault doc key ≡ Some told) × ((earlier : Key) → place_of earlier < place_of key → read_fault doc earlier ≡ None)

none_or_some : (o : Option ℕ) → (o ≡ None) ⊎ ((told : ℕ) × (o ≡ Some told))
none_or_some None = inl refl
none_or_some (Some told) = inr (told, refl)

same_fault : (a b : ConfigFault) → Some a ≡ Some b → a ≡ b
same_fault a b e = cc

walk : (doc : Members) (fault : ConfigFault) (n : ℕ) (ks : List Key) → ArePlaced n ks → ((earlier : Key) → place_of earlier < n → read_fault doc earlier ≡ None) → first_range_fault doc ks ≡ Some fault → IsToldFirst doc fault
unfolding first_range_fault
walk doc fault n [] placed before found = absurd (cc)
walk doc fault n (key ∷ rest) placed before found = elim (none_or_some (read_fault doc key)) [
  | inl free ↦
      let later : first_range_fault doc rest ≡ Some fault = sym (ap (λ o. option_or (option_map (Range key) o) (first_range_fault doc rest)) free) ∙ found in
      walk doc fault (n + 1) rest placed.1 (one_more free) later
  | inr some ↦
      let is : Some (Range key some.0) ≡ Some fault = sym (ap (λ o. option_or (option_map (Range key) o) (first_range_fault doc rest)) some.1) ∙ found in
      (key, some.0, sym (same_fault (Range key some.0) fault is), some.1, λ earlier less. before earlier (omega (arith, less, placed.0)))
]
  where
    below_or_at : (a b : ℕ) → a < b + 1 → (a < b) ⊎ (a ≡ b)
    below_or_at a b less = elim (nat_lt a b) as (λ t. nat_lt a b ≡ t → (a < b) ⊎ (a ≡ b)) [
      | true ↦ λ is. inl (grind (arith, nat_tests))
      | false ↦ λ is. inr (grind (arith, nat_tests))
    ] refl

    one_more : read_fault doc key ≡ None → (earlier : Key) → place_of earlier < n + 1 → read_fault doc earlier ≡ None
    one_more free earlier less = elim (below_or_at (place_of earlier) n less) [
      | inl below ↦ before earlier below
      | inr at ↦ ap (read_fault doc) (one_place earlier key (at ∙ sym placed.0)) ∙ free
    ]

room_found : (c : DriveConfig) (fault : ConfigFault) → room_fault c ≡ Some fault → (needed budget : ℕ) × (fault ≡ NoRoom needed budget) × (LacksBlocks c needed budget ⊎ LacksPages c needed budget)
room_found c fault found = at _ refl _ refl found
  where
    at : (blocks : Bool) → nat_lt (full_budget c (handle_count c c.enabled c.index)) (namespace_blocks c) ≡ blocks → (pages : Bool) → nat_lt (area_pages (geometry_of c)) (needed_area_pages c) ≡ pages
        → (if blocks then Some (NoRoom (namespace_blocks c) (full_budget c (handle_count c c.enabled c.index))) else if pages then Some (NoRoom (needed_area_pages c) (area_pages (geometry_of c))) else None) ≡ Some fault
        → (needed budget : ℕ) × (fault ≡ NoRoom needed budget) × (LacksBlocks c needed budget ⊎ LacksPages c needed budget)
    at true more pages fewer is = (namespace_blocks c, full_budget c (handle_count c c.enabled c.index), sym (same_fault _ fault is), inl (record { blocks = refl; budgets = refl; more = grind (arith, nat_tests) }))
    at false more true fewer is =
        (needed_area_pages c, area_pages (geometry_of c), sym (same_fault _ fault is), inr (record { fit = grind (arith, nat_tests); asked = refl; there = refl; fewer = grind (arith, nat_tests) }))
    at false more false fewer is = absurd (cc)

-- at one step of the faults: told here, or later
one_step : {X : Type 0} (f : X → ConfigFault) (o : Option X) (rest : Option ConfigFault) (fault : ConfigFault) → option_or (option_map f o) rest ≡ Some fault
    → ((x : X) × (o ≡ Some x) × (fault ≡ f x)) ⊎ ((o ≡ None) × (rest ≡ Some fault))
one_step f None rest fault is = inr (refl, is)
one_step f (Some x) rest fault is = inl (x, refl, sym (same_fault (f x) fault is))

range_or_room : (o rest : Option ConfigFault) (fault : ConfigFault) → option_or o rest ≡ Some fault → (o ≡ Some fault) ⊎ ((o ≡ None) × (rest ≡ Some fault))
range_or_room None rest fault is = inr (refl, is)
range_or_room (Some x) rest fault is = inl is

values_found : (doc : Members) (fault : ConfigFault) → HasKinds doc → option_or (first_range_fault doc keys) (room_fault (config_in doc)) ≡ Some fault → IsFaultIn doc fault
values_found doc fault kinds found =
    let missing = all_fail (is_missing doc) keys kinds.there in
    let others = all_fail (is_of_other_kind doc) keys kinds.kinds in
    elim (range_or_room (first_range_fault doc keys) (room_fault (config_in doc)) fault found) [
      | inl range ↦
          let (key, told, is, out, before) = walk doc fault 0 keys (refl, (refl, (refl, (refl, (refl, (refl, (refl, (refl, (refl, (refl, (refl, (refl, (refl, (refl, tt)))))))))))))) (λ earlier less. absurd (omega (arith, less))) range in
          subst (IsFaultIn doc) (sym is) (kinds, (config_in doc, (record { spelled = λ k less. spelled_at doc missing others k (before k less); ranged = before }), out))
      | inr room ↦
          let (needed, budget, is, lacks) = room_found (config_in doc) fault room.1 in
          subst (IsFaultIn doc) (sym is) (config_in doc, (record { known = all_pass is_key (words_in doc) kinds.known; spelled = spelled_all doc missing others room.0; ranges = in_range doc room.0 }), lacks)
    ]

-- the fault that is found is that of the relation
pub fault_found : (doc : Members) (fault : ConfigFault) → fault_of doc ≡ Some fault → IsFaultIn doc fault
fault_found doc fault found = elim (one_step Unknown (find is_unknown (words_in doc)) _ fault found) [
  | inl word ↦ subst (IsFaultIn doc) (sym word.2) word.1
  | inr known ↦ elim (one_step Missing (find (is_missing doc) keys) _ fault known.1) [
    | inl key ↦ subst (IsFaultIn doc) (sym key.2) (known.0, key.1)
    | inr there ↦ elim (one_step Kind (find (is_of_other_kind doc) keys) _ fault there.1) [
      | inl key ↦ subst (IsFaultIn doc) (sym key.2) (known.0, there.0, key.1)
      | inr kinds ↦ values_found doc fault (record { known = known.0; there = there.0; kinds = kinds.0 }) kinds.1
    ]
  ]
]
