-- How two words are read by `clap`.
use Rattle.std.proofs.Common.{◌≡◌, ◌⊎◌, inl, inr, ◌||◌, true, false, List, [], ◌∷◌, refl, ap, ap₂, ◌∙◌}
use Rattle.std.specs.Prelude.{codes}
use Rattle.std.specs.List.{list_any}
use Rattle.clap.specs.Words.{App, Row, Shape, Text, first_of, found_of, is_simple_and_free, rows_of, with_rule}
use Rattle.clap.specs.Simple.{built}
use Rattle.clap.specs.Walk.{Held, Walk, finished, nothing_held, walk, walk_from, walked}
use Rattle.clap.specs.Kinds.{or_else}
use Rattle.clap.specs.Faults.{walk_fault}
use Rattle.clap.specs.declared.parser.matches.ArgMatches.{ArgMatches}
use Rattle.clap.specs.declared.error.kind.ErrorKind.TheVariants as kinds
use Rattle.clap.proofs.FaultLemmas.{leaf_fault}
use Rattle.clap.proofs.WalkLemmas.{first_value-rows}
use Rattle.clap.proofs.OnLiterals.{clap_on_literals}
use Rattle.fdp_finding.specs.Asked.{Pair, begins_with_dash, pair_of}
use Rattle.fdp_finding.specs.CommandLine.{ArePair, bare, one}
use Rattle.fdp_finding.proofs.CommandLines.{Plain, Reads, Refuses, between, ends, fails_as, fails_at_end, first_plain, goes_on, pending, rest_plain, row}

abbrev pub pair_app : App
pair_app = with_rule (with_rule bare (one (codes "FIRST"))) (one (codes "SECOND"))

pub pair_simple : is_simple_and_free pair_app ≡ true
unfolding clap_on_literals
pair_simple = refl

abbrev shape : Shape
shape = (built pair_app).top

-- what is found of a pair
abbrev pub pair_rows : Pair → List Row
pair_rows pair = row (codes "FIRST") (pair.first ∷ []) ∷ row (codes "SECOND") (pair.second ∷ []) ∷ []

abbrev pub DecidesPair : List Text → Type 0
DecidesPair words = Reads pair_app pair_rows (pair_of words) words ⊎ Refuses pair_app (pair_of words) words

no_pair : DecidesPair []
unfolding clap_on_literals
no_pair = inr (record { none = refl; kind = kinds.MissingRequiredArgument; more = []; fails = refl })

numbered_walk : (n : Text) → begins_with_dash n ≡ false → walked shape.rules [] (walk_from nothing_held) n ≡ between (pending [] (codes "FIRST") (n ∷ [])) false 2
numbered_walk n plain = goes_on shape.rules false 1 n nothing_held plain

abbrev paired : Text → Text → Held
paired n i = pending (row (codes "FIRST") (n ∷ []) ∷ []) (codes "SECOND") (i ∷ [])

paired_walk : (n i : Text) → begins_with_dash i ≡ false → walked shape.rules [] (between (pending [] (codes "FIRST") (n ∷ [])) false 2) i ≡ between (paired n i) false 3
paired_walk n i plain = goes_on shape.rules false 2 i (pending [] (codes "FIRST") (n ∷ [])) plain

one_of_pair : (n : Text) → begins_with_dash n ≡ false → DecidesPair (n ∷ [])
unfolding clap_on_literals
one_of_pair n first = inr (record {
  none = refl;
  kind = kinds.MissingRequiredArgument;
  more = [];
  fails = fails_at_end pair_app (n ∷ []) (between (pending [] (codes "FIRST") (n ∷ [])) false 2) refl refl (numbered_walk n first)
      (ap (λ k. or_else k []) (fails_as shape false 1 n nothing_held first));
})

pair_walks : (n i : Text) → begins_with_dash n ≡ false → begins_with_dash i ≡ false → walk shape.rules [] nothing_held (n ∷ i ∷ []) ≡ between (paired n i) false 3
pair_walks n i first second = ap (λ (w : Walk). walked shape.rules [] w i) (numbered_walk n first) ∙ paired_walk n i second

pair_passes : (n i : Text) (more : List Text) → begins_with_dash n ≡ false → begins_with_dash i ≡ false
    → walk_fault shape [] (walk_from nothing_held) (n ∷ i ∷ more) ≡ walk_fault shape [] (between (paired n i) false 3) more
unfolding walk_fault
pair_passes n i more first second =
    ap₂ or_else (fails_as shape false 1 n nothing_held first) (ap (λ (w : Walk). walk_fault shape [] w (i ∷ more)) (numbered_walk n first))
    ∙ ap₂ or_else (fails_as shape false 2 i (pending [] (codes "FIRST") (n ∷ [])) second) (ap (λ (w : Walk). walk_fault shape [] w more) (paired_walk n i second))

a_pair : (n i : Text) → begins_with_dash n ≡ false → begins_with_dash i ≡ false → DecidesPair (n ∷ i ∷ [])
unfolding clap_on_literals
a_pair n i first second = inl (record {
  value = record { first = n; second = i };
  is = refl;
  passes = fails_at_end pair_app (n ∷ i ∷ []) (between (paired n i) false 3) refl refl (pair_walks n i first second) (pair_passes n i [] first second);
  rows = ap (λ (w : Walk). finished shape.rules w.held) (pair_walks n i first second);
})

-- a third word is one too many
three_fail : (n i t : Text) (more : List Text) → begins_with_dash n ≡ false → begins_with_dash i ≡ false → begins_with_dash t ≡ false
    → walk_fault shape [] (walk_from nothing_held) (n ∷ i ∷ t ∷ more) ≡ kinds.UnknownArgument ∷ []
unfolding walk_fault
three_fail n i t more first second third =
    pair_passes n i (t ∷ more) first second
    ∙ ap (λ k. or_else k (walk_fault shape [] (walked shape.rules [] (between (paired n i) false 3) t) more)) (fails_as shape false 3 t (paired n i) third)

too_many : (n i t : Text) (more : List Text) → begins_with_dash n ≡ false → begins_with_dash i ≡ false → begins_with_dash t ≡ false → DecidesPair (n ∷ i ∷ t ∷ more)
too_many n i t more first second third = inr (record {
  none = refl;
  kind = kinds.UnknownArgument;
  more = [];
  fails = leaf_fault (built pair_app) nothing_held (n ∷ i ∷ t ∷ more) refl
      ∙ ap (λ k. or_else k (ends shape (walk shape.rules [] nothing_held (n ∷ i ∷ t ∷ more)).held)) (three_fail n i t more first second third);
})

-- clap reads a pair exactly where the words are two
pub decides_pair : (words : List Text) → Plain words → DecidesPair words
decides_pair [] none = no_pair
decides_pair (n ∷ []) none = one_of_pair n (first_plain (begins_with_dash n) false none)
decides_pair (n ∷ i ∷ []) none =
    a_pair n i (first_plain (begins_with_dash n) (begins_with_dash i || false) none)
    (first_plain (begins_with_dash i) false (rest_plain (begins_with_dash n) (begins_with_dash i || false) none))
decides_pair (n ∷ i ∷ t ∷ ts) none =
    let second = rest_plain (begins_with_dash n) (begins_with_dash i || (begins_with_dash t || list_any begins_with_dash ts)) none in
    let third = rest_plain (begins_with_dash i) (begins_with_dash t || list_any begins_with_dash ts) second in
    too_many n i t ts (first_plain (begins_with_dash n) (begins_with_dash i || (begins_with_dash t || list_any begins_with_dash ts)) none)
    (first_plain (begins_with_dash i) (begins_with_dash t || list_any begins_with_dash ts) second) (first_plain (begins_with_dash t) (list_any begins_with_dash ts) third)

-- the rows of a pair, as the getters give them
pub are_pair : (m : ArgMatches) (pair : Pair) → rows_of (found_of m) ≡ pair_rows pair → ArePair m pair
are_pair m pair is = record {
  first_is = first_value-rows (found_of m) (codes "FIRST") ∙ ap (first_of (codes "FIRST")) is;
  second_is = first_value-rows (found_of m) (codes "SECOND") ∙ ap (first_of (codes "SECOND")) is;
}
