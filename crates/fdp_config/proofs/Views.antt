-- A value's elements beside those of its data.
use Rattle.std.proofs.Common.{◌≡◌, ℕ, ◌+◌, ◌<◌, ◌≤◌, List, [], ◌∷◌, ◌++◌, length, get_or, take, drop, map, zero, suc, true, arith, Option, Some, None, refl, ap, ◌∙◌}
use Rattle.std.proofs.Math.ListN.{drop_of_length-le}
use Rattle.std.proofs.lemmas.Bool.Decides.{nat_tests}
use Rattle.std.proofs.lemmas.List.{take_more, drop_more, length-map}
use Rattle.std.specs.Option.{option_or}
use Rattle.toml.specs.Data.{Data}
use Rattle.toml.specs.View.{view, items_view}
use Rattle.toml.specs.declared.value.Value.{Value}
use Rattle.fdp_config.specs.Document.{items_list}
use Rattle.fdp_config.specs.Ranges.{first_of, is_within}

pub items_list-view : (vs : List Value) → items_list (items_view vs) ≡ map view vs
items_list-view [] = refl
items_list-view (v ∷ vs) = ap (λ ds. view v ∷ ds) (items_list-view vs)

read_last : {A : Type 0} (f : Data → A) (vs : List Value) (v : Value) → map f (map view (vs ++ v ∷ [])) ≡ map f (map view vs) ++ f (view v) ∷ []
read_last f [] v = refl
read_last f (w ∷ vs) v = ap (λ xs. f (view w) ∷ xs) (read_last f vs v)

-- one more element has been read
pub read_more : {A : Type 0} (f : Data → A) (vs : List Value) (i : ℕ) (d : Value) → i < length vs
    → map f (map view (take (i + 1) vs)) ≡ map f (map view (take i vs)) ++ f (view (get_or vs i d)) ∷ []
read_more f vs i d within = rw (take_more vs i d within) (read_last f (take i vs) (get_or vs i d))

-- the faults from an element on
pub first_of-more : (fault : ℕ → Data → Option ℕ) (vs : List Value) (i : ℕ) (d : Value) → i < length vs
    → first_of fault i (map view (drop i vs)) ≡ option_or (fault i (view (get_or vs i d))) (first_of fault (i + 1) (map view (drop (i + 1) vs)))
unfolding first_of
first_of-more fault vs i d within = rw (drop_more vs i d within) refl

-- the elements before a place are read, and none of them has a fault
pub record ReadsTo {A : Type 0} (f : Data → A) (fault : ℕ → Data → Option ℕ) (vs : List Value) (i : ℕ) (out : List A) : Type 0 where
  pub read : out ≡ map f (map view (take i vs))
  pub passed : first_of fault 0 (map view vs) ≡ first_of fault i (map view (drop i vs))

pub reads_none : {A : Type 0} (f : Data → A) (fault : ℕ → Data → Option ℕ) (vs : List Value) (out : List A) → out ≡ [] → ReadsTo f fault vs 0 out
reads_none f fault vs out empty = record { read = empty; passed = refl }

pub reads_more : {A : Type 0} (f : Data → A) (fault : ℕ → Data → Option ℕ) (vs : List Value) (i : ℕ) (out next : List A) (v : Value) (x : A)
    → ReadsTo f fault vs i out → i < length vs → v ≡ get_or vs i v → next ≡ out ++ x ∷ [] → x ≡ f (view v) → fault i (view v) ≡ None → ReadsTo f fault vs (i + 1) next
reads_more f fault vs i out next v x reads within here grown is free = record {
  read = grown ∙ rw (read_more f vs i v within, ← here, ← is, ← reads.read);
  passed = reads.passed ∙ first_of-more fault vs i v within ∙ rw (← here, free);
}

pub reads_stop : {A : Type 0} (f : Data → A) (fault : ℕ → Data → Option ℕ) (vs : List Value) (i : ℕ) (out : List A) (v : Value) (told : ℕ)
    → ReadsTo f fault vs i out → i < length vs → v ≡ get_or vs i v → fault i (view v) ≡ Some told → first_of fault 0 (map view vs) ≡ Some told
reads_stop f fault vs i out v told reads within here fails = reads.passed ∙ first_of-more fault vs i v within ∙ rw (← here, fails)

take_whole : (vs : List Value) (i : ℕ) → length vs ≤ i → take i vs ≡ vs
take_whole [] zero over = refl
take_whole [] (suc i) over = refl
take_whole (v ∷ vs) zero over = absurd (omega arith)
take_whole (v ∷ vs) (suc i) over = ap (λ ws. v ∷ ws) (take_whole vs i (omega arith))

pub reads_all : {A : Type 0} (f : Data → A) (fault : ℕ → Data → Option ℕ) (vs : List Value) (i : ℕ) (out : List A)
    → ReadsTo f fault vs i out → length vs ≤ i → (out ≡ map f (map view vs)) × (first_of fault 0 (map view vs) ≡ None)
unfolding first_of
reads_all f fault vs i out reads over =
    (reads.read ∙ rw (take_whole vs i over), reads.passed ∙ rw (drop_of_length-le vs over))

-- a count within its bounds
pub counted : (low high n : ℕ) → low ≤ n → n ≤ high → is_within low high n ≡ true
counted low high n above below = grind (arith, nat_tests)

-- the values behind some data are as many
pub as_many : (vs : List Value) (ds : List Data) → map view vs ≡ ds → length ds ≡ length vs
as_many vs ds same = rw (← same) (length-map vs view)
