-- How the words behind the first are read by `clap`.
use Rattle.std.proofs.Common.{◌≡◌, ◌≢◌, ◌⊎◌, inl, inr, ◌&&◌, ◌||◌, ◌++◌, ℕ, Bool, true, false, ◌==◌, suc, List, [], ◌∷◌, length, Option, Some, None, Result, Ok, Err, IfErr, IfOk, subst, refl, ap, ap₂, sym, ◌∙◌, arith, append_assoc, append-nil, drop}
use Rattle.std.specs.Prelude.{codes, nat_le, nat_lt, if◌then◌else◌, fold}
use Rattle.std.specs.Option.{option_map_or}
use Rattle.std.specs.Str.{bytes_eq}
use Rattle.std.specs.List.{list_any}
use Rattle.std.proofs.lemmas.Bool.Decides.{nat_tests}
use Rattle.clap.specs.Lexer.{long_of, short_of}
use Rattle.clap.specs.Words.{App, FailsBy, HasMatchesOf, IsAmong, Kinds, Row, Rule, Shape, Text, all_of, fault_of, first_of, found_of, is_simple_and_free, kind_of, matches_of, rows_of, with_rule}
use Rattle.clap.specs.Simple.{built}
use Rattle.clap.specs.Walk.{Held, Step, Waiting, Walk, after_step, arg_by_index, finished, idle, long_or_other, nothing_held, positional, short_or_plain, settled, to_positional, trailing, value, walk, walked, walk_from, word_met}
use Rattle.clap.specs.Kinds.{or_else, range_kinds, values_kinds}
use Rattle.clap.specs.Faults.{built_fault, bundle_fault, check_fault, defaults_fault, flag_word_fault, settle_fault, step_fault, turn_fault, walk_fault, word_fault}
use Rattle.clap.specs.declared.builder.value_parser.Reading.TheVariants.{AsWritten}
use Rattle.clap.specs.declared.builder.value_parser.ValueParser.TheVariants as parsers
use Rattle.clap.specs.declared.error.Error.{Error}
use Rattle.clap.specs.declared.parser.matches.ArgMatches.{ArgMatches}
use Rattle.clap.specs.declared.error.kind.ErrorKind.{ErrorKind}
use Rattle.clap.specs.declared.error.kind.ErrorKind.TheVariants as kinds
use Rattle.clap.specs.declared.parser.matches.ValueSource.TheVariants.{CommandLine}
use Rattle.fdp_finding.specs.Asked.{Names, begins_with_dash, names_of}
use Rattle.fdp_finding.specs.declared.asked.TheConstants.{MOST_TRACES}
use Rattle.fdp_finding.specs.CommandLine.{AreNames, bare, one, one_to}
use Rattle.clap.proofs.FaultLemmas.{leaf_fault}
use Rattle.clap.proofs.WalkLemmas.{both, first_value-rows, raw_values-rows}
use Rattle.clap.proofs.OnLiterals.{clap_on_literals}

-- ---- words that do not begin with `-`

no_dashes : (word : Text) → begins_with_dash word ≡ false → bytes_eq word (45 ∷ 45 ∷ []) ≡ false
no_dashes [] plain = refl
no_dashes (x ∷ xs) plain = rw plain refl

no_long : (word : Text) → begins_with_dash word ≡ false → long_of word ≡ None
no_long [] plain = refl
no_long (x ∷ xs) plain = rw plain refl

no_short : (word : Text) → begins_with_dash word ≡ false → short_of word ≡ None
no_short [] plain = refl
no_short (x ∷ xs) plain = rw plain refl

-- what waits for a next word: nothing, or a positional that takes several values
abbrev pub waits : Bool → Waiting
waits false = idle
waits true = positional

-- between two words
abbrev pub between : Held → Bool → ℕ → Walk
between h several position = record { held = h; waiting = waits several; position = position; is_trailing = false; stopped = None }

-- such a word is a value of a positional
is_value : (c : List Rule) (several : Bool) (position : ℕ) (word : Text) (h : Held) → begins_with_dash word ≡ false → word_met c [] false (waits several) position word h ≡ (h, value)
is_value c false position word h plain =
    ap (λ (b : Bool). if b then (h, trailing position) else long_or_other c idle word (long_of word) h) (no_dashes word plain)
    ∙ ap (λ l. long_or_other c idle word l h) (no_long word plain) ∙ ap (λ s. short_or_plain c idle word s h) (no_short word plain)
is_value c true position word h plain =
    ap (λ (b : Bool). if b then (h, trailing position) else long_or_other c positional word (long_of word) h) (no_dashes word plain)
    ∙ ap (λ l. long_or_other c positional word l h) (no_long word plain) ∙ ap (λ s. short_or_plain c positional word s h) (no_short word plain)

-- and no flag that could be wrong
no_fault : (s : Shape) (several : Bool) (word : Text) (h : Held) → begins_with_dash word ≡ false → word_fault s [] false (waits several) word h ≡ []
no_fault s false word h plain =
    let flags = λ (l : Option (Text × Option Text)). flag_word_fault s.rules s.args_override_self l word h in
    ap (λ (b : Bool). if b then [] else flags (long_of word)) (no_dashes word plain)
    ∙ ap flags (no_long word plain) ∙ ap (λ (o : Option Text). option_map_or (λ f. bundle_fault s.rules s.args_override_self f h) o []) (no_short word plain)
no_fault s true word h plain =
    let flags = λ (l : Option (Text × Option Text)). flag_word_fault s.rules s.args_override_self l word h in
    ap (λ (b : Bool). if b then [] else flags (long_of word)) (no_dashes word plain)
    ∙ ap flags (no_long word plain) ∙ ap (λ (o : Option Text). option_map_or (λ f. bundle_fault s.rules s.args_override_self f h) o []) (no_short word plain)

-- so it goes to the positional whose turn it is
pub goes_on : (c : List Rule) (several : Bool) (position : ℕ) (word : Text) (h : Held) → begins_with_dash word ≡ false
    → walked c [] (between h several position) word ≡ to_positional c (arg_by_index c position) word (between h several position) h
unfolding walked
goes_on c several position word h plain = ap (λ (met : Held × Step). after_step c word (between h several position) met.0 met.1) (is_value c several position word h plain)

pub fails_as : (s : Shape) (several : Bool) (position : ℕ) (word : Text) (h : Held) → begins_with_dash word ≡ false
    → turn_fault s [] (between h several position) word ≡ step_fault s position h value
fails_as s several position word h plain =
    ap₂ (λ (k : Kinds) (met : Held × Step). or_else k (step_fault s position met.0 met.1)) (no_fault s several word h plain) (is_value s.rules several position word h plain)

abbrev pub Plain : List Text → Type 0
Plain words = list_any begins_with_dash words ≡ false

pub first_plain : (a b : Bool) → (a || b) ≡ false → a ≡ false
first_plain true b none = none
first_plain false b none = refl

pub rest_plain : (a b : Bool) → (a || b) ≡ false → b ≡ false
rest_plain true b none = absurd (cc)
rest_plain false b none = none

-- ---- an argument that takes several words, at the end: each is taken behind those before it

module _ (s : Shape) (taken : List Text → Walk) (takes : (t : Text) (ts : List Text) → begins_with_dash t ≡ false → walked s.rules [] (taken ts) t ≡ taken (ts ++ t ∷ [])) where
  pub walk_several : (ts more : List Text) → Plain more → fold (walked s.rules []) (taken ts) more ≡ taken (ts ++ more)
  walk_several ts [] none = ap taken (sym (append-nil ts))
  walk_several ts (t ∷ more) none =
      ap (λ (w : Walk). fold (walked s.rules []) w more) (takes t ts (first_plain (begins_with_dash t) (list_any begins_with_dash more) none))
      ∙ walk_several (ts ++ t ∷ []) more (rest_plain (begins_with_dash t) (list_any begins_with_dash more) none) ∙ ap taken (append_assoc ts (t ∷ []) more)

  -- nothing is wrong with one of them
  pub several_pass : ((t : Text) (ts : List Text) → begins_with_dash t ≡ false → turn_fault s [] (taken ts) t ≡ []) → (ts more : List Text) → Plain more → walk_fault s [] (taken ts) more ≡ []
  unfolding walk_fault
  several_pass passes ts [] none = refl
  several_pass passes ts (t ∷ more) none =
      let here = first_plain (begins_with_dash t) (list_any begins_with_dash more) none in
      ap₂ or_else (passes t ts here) (ap (λ (w : Walk). walk_fault s [] w more) (takes t ts here))
      ∙ several_pass passes (ts ++ t ∷ []) more (rest_plain (begins_with_dash t) (list_any begins_with_dash more) none)

-- ---- the command that has names

abbrev pub names_app : App
names_app = with_rule (with_rule (with_rule bare (one (codes "CONFIG"))) (one (codes "IMAGE"))) (one_to MOST_TRACES (codes "TRACE"))

pub names_simple : is_simple_and_free names_app ≡ true
unfolding clap_on_literals
names_simple = refl

-- ---- names

abbrev shape : Shape
shape = (built names_app).top

-- what was found for an argument
abbrev pub row : Text → List Text → Row
row id values = record { id = id; values = values; count = None; source = Some CommandLine; reading = AsWritten }

-- values of an argument that are not used yet, behind what was found
abbrev pub pending : List Row → Text → List Text → Held
pending rows id values = record { rows = rows; pending = Some (id, values); skip = 0 }

walked_config : (c : Text) → begins_with_dash c ≡ false → walked shape.rules [] (walk_from nothing_held) c ≡ between (pending [] (codes "CONFIG") (c ∷ [])) false 2
walked_config c plain = goes_on shape.rules false 1 c nothing_held plain

walked_image : (c i : Text) → begins_with_dash i ≡ false
    → walked shape.rules [] (between (pending [] (codes "CONFIG") (c ∷ [])) false 2) i ≡ between (pending (row (codes "CONFIG") (c ∷ []) ∷ []) (codes "IMAGE") (i ∷ [])) false 3
walked_image c i plain = goes_on shape.rules false 2 i (pending [] (codes "CONFIG") (c ∷ [])) plain

abbrev two : Text → Text → List Row
two c i = row (codes "CONFIG") (c ∷ []) ∷ row (codes "IMAGE") (i ∷ []) ∷ []

abbrev several : Text → Text → List Text → Walk
several c i ts = between (pending (two c i) (codes "TRACE") ts) true 3

walked_trace : (c i t : Text) → begins_with_dash t ≡ false
    → walked shape.rules [] (between (pending (row (codes "CONFIG") (c ∷ []) ∷ []) (codes "IMAGE") (i ∷ [])) false 3) t ≡ several c i (t ∷ [])
walked_trace c i t plain = goes_on shape.rules false 3 t (pending (row (codes "CONFIG") (c ∷ []) ∷ []) (codes "IMAGE") (i ∷ [])) plain

walked_more : (c i t : Text) (ts : List Text) → begins_with_dash t ≡ false → walked shape.rules [] (several c i ts) t ≡ several c i (ts ++ t ∷ [])
walked_more c i t ts plain = goes_on shape.rules true 3 t (pending (two c i) (codes "TRACE") ts) plain

-- the walk over traces, and nothing is wrong with one of them
walk_traces : (c i : Text) (ts more : List Text) → Plain more → fold (walked shape.rules []) (several c i ts) more ≡ several c i (ts ++ more)
walk_traces c i ts more none = walk_several shape (several c i) (walked_more c i) ts more none

traces_pass : (c i : Text) (ts more : List Text) → Plain more → walk_fault shape [] (several c i ts) more ≡ []
traces_pass c i ts more none =
    several_pass shape (several c i) (walked_more c i) (λ t ts plain. fails_as shape true 3 t (pending (two c i) (codes "TRACE") ts) plain) ts more none

-- what is wrong behind the walk
abbrev pub ends : Shape → Held → Kinds
ends s h =
    or_else (settle_fault s.rules s.args_override_self h)
    (or_else (defaults_fault (settled s.rules h).rows s.rules) (check_fault s (finished s.rules h) false))

-- a command whose walk passes fails as it ends
pub fails_at_end : (a : App) (words : List Text) (w : Walk) → (built a).subs ≡ [] → a.top.no_binary_name ≡ true → walk (built a).top.rules [] nothing_held words ≡ w
    → walk_fault (built a).top [] (walk_from nothing_held) words ≡ [] → fault_of a words ≡ ends (built a).top w.held
fails_at_end a words w none bare walks passes =
    ap (λ (b : Bool). built_fault (built a) nothing_held (if b then words else drop 1 words)) bare
    ∙ leaf_fault (built a) nothing_held words none
    ∙ ap₂ (λ (k : Kinds) (v : Walk). or_else k (ends (built a).top v.held)) passes walks

-- any text is taken as a value
pub texts_pass : (ts : List Text) → values_kinds false parsers.String ts ≡ []
texts_pass [] = refl
texts_pass (t ∷ ts) = texts_pass ts

-- the words are these: nothing is wrong with them, and these are found
pub record Reads {X : Type 0} (a : App) (rows_of : X → List Row) (found : Option X) (words : List Text) : Type 0 where
  pub value : X
  pub is : found ≡ Some value
  pub passes : fault_of a words ≡ []
  pub rows : matches_of a words ≡ rows_of value

-- they are none, and this is wrong with them
pub record Refuses {X : Type 0} (a : App) (found : Option X) (words : List Text) : Type 0 where
  pub none : found ≡ None
  pub kind : ErrorKind
  pub more : Kinds
  pub fails : fault_of a words ≡ kind ∷ more

-- what is found of names
abbrev pub names_rows : Names → List Row
names_rows names = row (codes "CONFIG") (names.config ∷ []) ∷ row (codes "IMAGE") (names.image ∷ []) ∷ row (codes "TRACE") names.traces ∷ []

abbrev pub DecidesNames : List Text → Type 0
DecidesNames words = Reads names_app names_rows (names_of words) words ⊎ Refuses names_app (names_of words) words

no_names : DecidesNames []
unfolding clap_on_literals
no_names = inr (record { none = refl; kind = kinds.MissingRequiredArgument; more = []; fails = refl })

one_name : (c : Text) → begins_with_dash c ≡ false → DecidesNames (c ∷ [])
unfolding clap_on_literals
one_name c first = inr (record {
  none = refl;
  kind = kinds.MissingRequiredArgument;
  more = [];
  fails = fails_at_end names_app (c ∷ []) (between (pending [] (codes "CONFIG") (c ∷ [])) false 2) refl refl (walked_config c first)
      (ap (λ k. or_else k []) (fails_as shape false 1 c nothing_held first));
})

-- the walk over the configuration and the image, and over what follows them
walk_two : (c i : Text) (more : List Text) → begins_with_dash c ≡ false → begins_with_dash i ≡ false
    → walk shape.rules [] nothing_held (c ∷ i ∷ more) ≡ fold (walked shape.rules []) (between (pending (row (codes "CONFIG") (c ∷ []) ∷ []) (codes "IMAGE") (i ∷ [])) false 3) more
walk_two c i more first second =
    ap (λ (w : Walk). fold (walked shape.rules []) (walked shape.rules [] w i) more) (walked_config c first)
    ∙ ap (λ (w : Walk). fold (walked shape.rules []) w more) (walked_image c i second)

two_pass : (c i : Text) (more : List Text) → begins_with_dash c ≡ false → begins_with_dash i ≡ false
    → walk_fault shape [] (walk_from nothing_held) (c ∷ i ∷ more) ≡ walk_fault shape [] (between (pending (row (codes "CONFIG") (c ∷ []) ∷ []) (codes "IMAGE") (i ∷ [])) false 3) more
unfolding walk_fault
two_pass c i more first second =
    ap₂ or_else (fails_as shape false 1 c nothing_held first) (ap (λ (w : Walk). walk_fault shape [] w (i ∷ more)) (walked_config c first))
    ∙ ap₂ or_else (fails_as shape false 2 i (pending [] (codes "CONFIG") (c ∷ [])) second) (ap (λ (w : Walk). walk_fault shape [] w more) (walked_image c i second))

two_names : (c i : Text) → begins_with_dash c ≡ false → begins_with_dash i ≡ false → DecidesNames (c ∷ i ∷ [])
unfolding clap_on_literals
two_names c i first second = inr (record {
  none = refl;
  kind = kinds.MissingRequiredArgument;
  more = [];
  fails = fails_at_end names_app (c ∷ i ∷ []) (between (pending (row (codes "CONFIG") (c ∷ []) ∷ []) (codes "IMAGE") (i ∷ [])) false 3) refl refl
      (walk_two c i [] first second) (two_pass c i [] first second);
})

-- ---- how many values, where they are one to sixteen

by_tests : Bool → Bool → Bool → Kinds
by_tests none few many =
    if nat_lt 0 1 && none then kinds.InvalidValue ∷ []
    else (if few then kinds.TooFewValues ∷ [] else (if many then kinds.TooManyValues ∷ [] else []))

in_range : (n : ℕ) (many : Bool) → nat_lt 16 (suc n) ≡ many → range_kinds 1 16 (suc n) ≡ by_tests false false many
unfolding by_tests
in_range n many is =
    let some : (suc n == 0) ≡ false = grind (arith, nat_tests) in
    let enough : nat_lt (suc n) 1 ≡ false = grind (arith, nat_tests) in
    (λ j. by_tests (some j) (enough j) (is j))

not_more : (n : ℕ) → nat_le (suc n) 16 ≡ true → nat_lt 16 (suc n) ≡ false
not_more n low = grind (arith, nat_tests, low)

more_than : (n : ℕ) → nat_le (suc n) 16 ≡ false → nat_lt 16 (suc n) ≡ true
more_than n high = grind (arith, nat_tests, high)

pub few_pass : (n : ℕ) → nat_le (suc n) 16 ≡ true → range_kinds 1 16 (suc n) ≡ []
unfolding by_tests
few_pass n low = in_range n false (not_more n low)

pub many_fail : (n : ℕ) → nat_le (suc n) 16 ≡ false → range_kinds 1 16 (suc n) ≡ kinds.TooManyValues ∷ []
unfolding by_tests
many_fail n high = in_range n true (more_than n high)

walk_all : (c i t : Text) (ts : List Text) → begins_with_dash c ≡ false → begins_with_dash i ≡ false → begins_with_dash t ≡ false → Plain ts
    → walk shape.rules [] nothing_held (c ∷ i ∷ t ∷ ts) ≡ several c i (t ∷ ts)
walk_all c i t ts first second third rest =
    walk_two c i (t ∷ ts) first second ∙ ap (λ (w : Walk). fold (walked shape.rules []) w ts) (walked_trace c i t third) ∙ walk_traces c i (t ∷ []) ts rest

all_pass : (c i t : Text) (ts : List Text) → begins_with_dash c ≡ false → begins_with_dash i ≡ false → begins_with_dash t ≡ false → Plain ts
    → walk_fault shape [] (walk_from nothing_held) (c ∷ i ∷ t ∷ ts) ≡ []
unfolding walk_fault
all_pass c i t ts first second third rest =
    two_pass c i (t ∷ ts) first second
    ∙ ap₂ or_else (fails_as shape false 3 t (pending (row (codes "CONFIG") (c ∷ []) ∷ []) (codes "IMAGE") (i ∷ [])) third)
    (ap (λ (w : Walk). walk_fault shape [] w ts) (walked_trace c i t third))
    ∙ traces_pass c i (t ∷ []) ts rest

-- behind the walk only the number of traces can be wrong
ends_by_range : (c i t : Text) (ts : List Text) → ends shape (pending (two c i) (codes "TRACE") (t ∷ ts)) ≡ or_else (or_else (range_kinds 1 16 (suc (length ts))) []) []
unfolding clap_on_literals
ends_by_range c i t ts = ap (λ k. or_else (or_else (range_kinds 1 16 (suc (length ts))) k) []) (texts_pass ts)

abbrev with_trace : Text → Text → Text → List Text → Names
with_trace c i t ts = record { config = c; image = i; traces = t ∷ ts }

rows_at_end : (c i t : Text) (ts : List Text) → finished shape.rules (pending (two c i) (codes "TRACE") (t ∷ ts)) ≡ names_rows (with_trace c i t ts)
rows_at_end c i t ts = refl

traced : (c i t : Text) (ts : List Text) → begins_with_dash c ≡ false → begins_with_dash i ≡ false → begins_with_dash t ≡ false → Plain ts
    → (few : Bool) → nat_le (suc (length ts)) 16 ≡ few → DecidesNames (c ∷ i ∷ t ∷ ts)
traced c i t ts first second third rest few is =
    let ended = fails_at_end names_app (c ∷ i ∷ t ∷ ts) (several c i (t ∷ ts)) refl refl (walk_all c i t ts first second third rest) (all_pass c i t ts first second third rest)
    ∙ ends_by_range c i t ts in
    elim few as (λ b. nat_le (suc (length ts)) 16 ≡ b → DecidesNames (c ∷ i ∷ t ∷ ts)) [
      | true ↦ λ low. inl (record {
        value = with_trace c i t ts;
        is = ap (λ (b : Bool). if b then Some (with_trace c i t ts) else None) low;
        passes = ended ∙ ap (λ k. or_else (or_else k []) []) (few_pass (length ts) low);
        rows = ap (λ (w : Walk). finished shape.rules w.held) (walk_all c i t ts first second third rest) ∙ rows_at_end c i t ts;
      })
      | false ↦ λ high. inr (record {
        none = ap (λ (b : Bool). if b then Some (with_trace c i t ts) else None) high;
        kind = kinds.TooManyValues;
        more = [];
        fails = ended ∙ ap (λ k. or_else (or_else k []) []) (many_fail (length ts) high);
      })
    ] is

-- clap reads names exactly where the words are names
pub decides_names : (words : List Text) → Plain words → DecidesNames words
decides_names [] none = no_names
decides_names (c ∷ []) none = one_name c (first_plain (begins_with_dash c) false none)
decides_names (c ∷ i ∷ []) none =
    two_names c i (first_plain (begins_with_dash c) (begins_with_dash i || false) none)
    (first_plain (begins_with_dash i) false (rest_plain (begins_with_dash c) (begins_with_dash i || false) none))
decides_names (c ∷ i ∷ t ∷ ts) none =
    let second = rest_plain (begins_with_dash c) (begins_with_dash i || (begins_with_dash t || list_any begins_with_dash ts)) none in
    let third = rest_plain (begins_with_dash i) (begins_with_dash t || list_any begins_with_dash ts) second in
    traced c i t ts (first_plain (begins_with_dash c) (begins_with_dash i || (begins_with_dash t || list_any begins_with_dash ts)) none)
    (first_plain (begins_with_dash i) (begins_with_dash t || list_any begins_with_dash ts) second) (first_plain (begins_with_dash t) (list_any begins_with_dash ts) third)
    (rest_plain (begins_with_dash t) (list_any begins_with_dash ts) third) (nat_le (suc (length ts)) 16) refl

-- ---- what a parse gives

module _ {X : Type 0} (a : App) (rows : X → List Row) (found : Option X) (words : List Text) (simple : is_simple_and_free a ≡ true) where
  abbrev Decides : Type 0
  Decides = Reads a rows found words ⊎ Refuses a found words

  no_kinds : (k : ErrorKind) (ks : Kinds) → [] ≡ k ∷ ks → ⊥
  no_kinds k ks e = cc

  -- where it succeeds, the words are read
  pub reads : (r : Result ArgMatches Error) → Decides → FailsBy (fault_of a words) r → IfOk r (HasMatchesOf a words) → IfOk r (λ m. (x : X) × (found ≡ Some x) × (rows_of (found_of m) ≡ rows x))
  reads (Ok m) (inl read) none matches = (read.value, read.is, (matches (both _ _ simple).0).0 ∙ read.rows)
  reads (Ok m) (inr refused) none matches = absurd (no_kinds refused.kind refused.more (sym none ∙ refused.fails))
  reads (Err e) decided fails matches = tt

  -- where it fails for another cause than memory, they are not
  pub refuses : (r : Result ArgMatches Error) → Decides → FailsBy (fault_of a words) r → IfErr r (λ e. kind_of e ≢ kinds.OutOfMemory → found ≡ None)
  refuses (Ok m) decided none = tt
  refuses (Err e) (inl read) (inl memory) = λ other. absurd (other memory)
  refuses (Err e) (inl read) (inr among) = λ other. absurd (subst (IsAmong (kind_of e)) read.passes among)
  refuses (Err e) (inr refused) fails = λ other. refused.none

-- the rows of names, as the getters give them
pub are_names : (m : ArgMatches) (names : Names) → rows_of (found_of m) ≡ names_rows names → AreNames m names
are_names m names is = record {
  config = first_value-rows (found_of m) (codes "CONFIG") ∙ ap (first_of (codes "CONFIG")) is;
  image = first_value-rows (found_of m) (codes "IMAGE") ∙ ap (first_of (codes "IMAGE")) is;
  traces = raw_values-rows (found_of m) (codes "TRACE") ∙ ap (all_of (codes "TRACE")) is;
}
