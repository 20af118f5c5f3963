-- The first unknown word of a table is the first in byte order.
use Rattle.std.proofs.Common.{◌≡◌, ◌≢◌, ℕ, zero, suc, ◌<◌, Bool, true, false, not, List, [], ◌∷◌, length, slice_index_or, Option, Some, Ordering, Less, Greater, nat_cmp, String, Global, string_bytes, Contains, refl, arith, if◌then◌else◌, ◌⊎◌, inl, inr}
use Rattle.std.proofs.lemmas.Cmp.{nat_list_cmp_total}
use Rattle.std.specs.Cmp.{tied_itself}
use Rattle.std.specs.Cmp.Lexicographic.{slice_cmp}
use Rattle.std.specs.List.{AllByRecursion, find}
use Rattle.std.specs.List.Sorted.{IsStrictlySortedBy}
use Rattle.std.specs.Map.{keys_of}
use Rattle.std.specs.String.{string_cmp}
use Rattle.toml.proofs.Views.{Entry}
use Rattle.toml.specs.View.{members_view}
use Rattle.fdp_config.specs.Document.{words_in}
use Rattle.fdp_config.specs.Faults.{IsFirstUnknown}
use Rattle.fdp_config.specs.Kinds.{is_key, is_unknown}

-- each word behind a key comes after it
behind : (k : String Global) (es : List Entry) (i : ℕ) (d : List ℕ) → AllByRecursion (λ y. string_cmp k y ≡ Less) (keys_of es) → i < length (words_in (members_view es))
    → slice_cmp nat_cmp (string_bytes k) (slice_index_or (words_in (members_view es)) i d) ≡ Less
behind k [] i d all below = absurd (omega arith)
behind k (e ∷ es) zero d all below = all.0
behind k (e ∷ es) (suc i) d all below = behind k es i d all.1 (omega arith)

not_greater : (o : Ordering) → o ≡ Less → o ≢ Greater
not_greater o less greater = cc

found_here : (b : Bool) (w word : List ℕ) (rest : Option (List ℕ)) → (if not b then Some w else rest) ≡ Some word → ((b ≡ false) × (w ≡ word)) ⊎ ((b ≡ true) × (rest ≡ Some word))
found_here true w word rest is = inr (refl, is)
found_here false w word rest is = let same : w ≡ word = cc in inl (refl, same)

pub first_unknown_of : (word : List ℕ) (es : List Entry) → IsStrictlySortedBy string_cmp (keys_of es) → find is_unknown (words_in (members_view es)) ≡ Some word
    → IsFirstUnknown (members_view es) word
unfolding IsStrictlySortedBy
first_unknown_of word [] sorted found = absurd (cc)
first_unknown_of word (e ∷ es) sorted found =
    elim (found_here (is_key (string_bytes e.0)) (string_bytes e.0) word (find is_unknown (words_in (members_view es))) found) [
      | inl here ↦ record {
        there = (0, omega arith, here.1);
        unknown = rw (← here.1) here.0;
        first = λ other among unknown. rw (← here.1) (first_here e es other sorted.0 among);
      }
      | inr later ↦
          let rest = first_unknown_of word es sorted.1 later.1 in
          record {
            there = (suc rest.there.0, omega (arith, rest.there.1), rest.there.2);
            unknown = rest.unknown;
            first = λ other among unknown. rest.first other (not_first (string_bytes e.0) (words_in (members_view es)) other later.0 unknown among) unknown;
          }
    ]
  where
    first_here : (e : Entry) (es : List Entry) (other : List ℕ) → AllByRecursion (λ y. string_cmp e.0 y ≡ Less) (keys_of es) → Contains (words_in (members_view (e ∷ es))) other
        → slice_cmp nat_cmp (string_bytes e.0) other ≢ Greater
    first_here e es other all (zero, below, is) = rw (← is) (λ greater. let tied = tied_itself nat_list_cmp_total (string_bytes e.0) in absurd (cc))
    first_here e es other all (suc i, below, is) = not_greater (slice_cmp nat_cmp (string_bytes e.0) other) (rw is at (behind e.0 es i other all (omega arith)))

    not_first : (w : List ℕ) (ws : List (List ℕ)) (other : List ℕ) → is_key w ≡ true → is_key other ≡ false → Contains (w ∷ ws) other → Contains ws other
    not_first w ws other known unknown (zero, below, is) = let same : w ≡ other = is in absurd (let at_other : is_key other ≡ true = rw same at known in cc)
    not_first w ws other known unknown (suc i, below, is) = (i, omega arith, is)
