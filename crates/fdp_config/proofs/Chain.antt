-- The first key that is out of its range, key by key.
use Rattle.std.proofs.Common.{◌≡◌, ◌≢◌, ◌⊎◌, inl, inr, ℕ, List, [], ◌∷◌, ◌++◌, Option, Some, None, Bool, map, length, slice_index_or, if◌then◌else◌, refl}
use Rattle.std.specs.Option.{option_map, option_or}
use Rattle.fdp_config.specs.declared.fault.ConfigFault.{ConfigFault}
use Rattle.fdp_config.specs.declared.fault.ConfigFault.TheVariants.{NotToml, Unknown, Missing, Kind, Range, NoRoom, NoMemory}
use Rattle.fdp_config.specs.declared.key.Key.{Key}
use Rattle.fdp_config.specs.declared.key.Key.TheVariants.{Enabled, Fdp, Index, Namespaces}
use Rattle.fdp_config.proofs.Checks.{option_or-none}
use Rattle.fdp_base.specs.declared.config.Class.{Class}
use Rattle.toml.specs.Data.{Members}
use Rattle.fdp_config.specs.Document.{elements_of, truth_of, value_at}
use Rattle.fdp_config.specs.Document.{amount_at}
use Rattle.fdp_config.specs.Reader.Config.{classes_in, config_in}
use Rattle.fdp_config.specs.Faults.{IsInByteOrder}
use Rattle.fdp_config.specs.Reader.First.{first_range_fault}
use Rattle.fdp_config.specs.Ranges.{configurations_fault, listable, namespaces_fault, range_fault}
use Rattle.fdp_config.specs.Reader.Checks.{read_fault}

-- each of these keys is in its range
abbrev pub AllPast : Members → List Key → Type 0
AllPast doc [] = Unit {0}
AllPast doc (key ∷ rest) = (read_fault doc key ≡ None) × AllPast doc rest

-- behind keys that are in range the next one's fault is told
pub stop_after : (doc : Members) (before after : List Key) (key : Key) (told : ℕ) (fault : ConfigFault)
    → AllPast doc before → read_fault doc key ≡ Some told → fault ≡ Range key told → first_range_fault doc (before ++ (key ∷ after)) ≡ Some fault
unfolding first_range_fault
stop_after doc [] after key told fault past fails is = rw (fails, is) refl
stop_after doc (k ∷ before) after key told fault past fails is = rw past.0 (stop_after doc before after key told fault past.1 fails is)

pub all_past : (doc : Members) (keys : List Key) → AllPast doc keys → first_range_fault doc keys ≡ None
unfolding first_range_fault
all_past doc [] past = refl
all_past doc (key ∷ rest) past = rw past.0 (all_past doc rest past.1)

-- where no fault is told, no key has one
none_past : (key : Key) (here : Option ℕ) (rest : Option ConfigFault) → option_or (option_map (Range key) here) rest ≡ None → (here ≡ None) × (rest ≡ None)
none_past key None rest is = (refl, is)
none_past key (Some told) rest is = absurd (cc)

pub past_all : (doc : Members) (keys : List Key) → first_range_fault doc keys ≡ None → AllPast doc keys
unfolding first_range_fault
past_all doc [] none = tt
past_all doc (key ∷ rest) none =
    let (here, more) = none_past key (read_fault doc key) (first_range_fault doc rest) none in (here, past_all doc rest more)

pub enabled_range : (doc : Members) → read_fault doc Enabled ≡ None
unfolding range_fault
enabled_range doc = refl

pub fdp_range : (doc : Members) → read_fault doc Fdp ≡ configurations_fault (elements_of (value_at doc Fdp))
unfolding range_fault
fdp_range doc = option_or-none (configurations_fault (elements_of (value_at doc Fdp)))

pub namespaces_range : (doc : Members) (count : ℕ) → count ≡ listable (config_in doc) → read_fault doc Namespaces ≡ namespaces_fault count (elements_of (value_at doc Namespaces))
unfolding range_fault
namespaces_range doc count same = rw (← same) (option_or-none (namespaces_fault count (elements_of (value_at doc Namespaces))))

-- how many handles can be listed, from the values read so far
pub listable_is : (doc : Members) (fdp : List (List Class)) (enabled : Bool) (index count : ℕ) → count ≡ (if enabled then length (slice_index_or fdp index []) else 0)
    → fdp ≡ map classes_in (elements_of (value_at doc Fdp)) → enabled ≡ truth_of (value_at doc Enabled) → index ≡ amount_at doc Index → count ≡ listable (config_in doc)
listable_is doc fdp enabled index count is same truth at = rw (is, same, truth, at) refl

pub range_told : (key : Key) (here : Option ℕ) (rest : Option ConfigFault) (fault : ConfigFault) → option_or (option_map (Range key) here) rest ≡ Some fault
    → ((told : ℕ) × (fault ≡ Range key told)) ⊎ (rest ≡ Some fault)
range_told key None rest fault is = inr is
range_told key (Some told) rest fault is = let same : fault ≡ Range key told = cc in inl (told, same)

-- a fault of range tells no word
no_word : (doc : Members) (ks : List Key) (word : List ℕ) → first_range_fault doc ks ≢ Some (Unknown word)
unfolding first_range_fault
no_word doc [] word is = cc
no_word doc (key ∷ rest) word is =
    elim (range_told key (read_fault doc key) (first_range_fault doc rest) (Unknown word) is) [
      | inl here ↦ let same = here.1 in cc
      | inr later ↦ no_word doc rest word later
    ]

pub in_order : (doc : Members) (ks : List Key) (fault : ConfigFault) → (fault ≢ NoMemory → first_range_fault doc ks ≡ Some fault) → IsInByteOrder doc fault
in_order doc ks (Unknown word) told = absurd (no_word doc ks word (told (λ same. cc)))
in_order doc ks NotToml told = tt
in_order doc ks (Missing key) told = tt
in_order doc ks (Kind key) told = tt
in_order doc ks (Range key value) told = tt
in_order doc ks (NoRoom needed budget) told = tt
in_order doc ks NoMemory told = tt
