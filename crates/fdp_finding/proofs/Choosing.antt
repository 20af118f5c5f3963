-- The first word chooses.
use Rattle.std.proofs.Common.{◌≡◌, ◌≤◌, ◌-◌, ◌||◌, Bool, true, false, List, [], ◌∷◌, length, take, drop, get_or, sym, ap, ap₂, ◌∙◌, arith, None}
use Rattle.std.specs.Prelude.{String, string_bytes, if◌then◌else◌}
use Rattle.std.specs.List.{list_any}
use Rattle.std.specs.declared.alloc.Global.{Global}
use Rattle.std.proofs.lemmas.List.{take_all}
use Rattle.clap.proofs.WalkLemmas.{list_any-map}
use Rattle.fdp_finding.specs.Asked.{asked_of, begins_with_dash, chosen_by}
use Rattle.fdp_finding.specs.CommandLine.{spelled}

-- the words as the first and the others
pub split : (words : List (String Global)) (word : String Global) → 1 ≤ length words → word ≡ get_or words 0 word → words ≡ word ∷ take (length words - 1) (drop 1 words)
split [] word some is = absurd (omega arith)
split (x ∷ xs) word some is = ap₂ (λ y ys. y ∷ ys) (sym is) (sym (take_all (length (x ∷ xs) - 1) xs (omega arith)))

-- none of the words begins with `-`
abbrev has_dash : List (String Global) → Bool
has_dash words = list_any (λ word. begins_with_dash (string_bytes word)) words

spelled_dash : (words : List (String Global)) → has_dash words ≡ list_any begins_with_dash (spelled words)
spelled_dash words = list_any-map begins_with_dash string_bytes words

right_plain : (a b : Bool) → (a || b) ≡ false → b ≡ false
right_plain true b none = absurd (cc)
right_plain false b none = none

pub others_plain : (words others : List (String Global)) (word : String Global) → words ≡ word ∷ others → has_dash words ≡ false → list_any begins_with_dash (spelled others) ≡ false
others_plain words others word is none =
    right_plain (begins_with_dash (string_bytes word)) (list_any begins_with_dash (spelled others)) (sym (spelled_dash (word ∷ others)) ∙ ap has_dash (sym is) ∙ none)

-- then the first word chooses
pub chooses : (words others : List (String Global)) (word : String Global) → words ≡ word ∷ others → has_dash words ≡ false → chosen_by (string_bytes word) (spelled others) ≡ asked_of words
chooses words others word is none =
    sym (ap asked_of is ∙ ap (λ (b : Bool). if b then None else chosen_by (string_bytes word) (spelled others)) (sym (spelled_dash (word ∷ others)) ∙ ap has_dash (sym is) ∙ none))

-- and else nothing is asked for
pub asks_nothing : (words others : List (String Global)) (word : String Global) → words ≡ word ∷ others → has_dash words ≡ true → asked_of words ≡ None
asks_nothing words others word is some =
    ap asked_of is ∙ ap (λ (b : Bool). if b then None else chosen_by (string_bytes word) (spelled others)) (sym (spelled_dash (word ∷ others)) ∙ ap has_dash (sym is) ∙ some)
