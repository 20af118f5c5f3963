-- The words of a line spell what the grammar says, or lack what it says first.
use Rattle.std.proofs.Common.{◌≡◌, ℕ, suc, Bool, true, false, List, [], ◌∷◌, length, drop, take, Option, Some, None, Result, Ok, Err, refl, sym, ap, subst, ◌∙◌, arith, inl, inr}
use Rattle.std.specs.List.{list_all, AllZip}
use Rattle.std.proofs.lemmas.Bool.{cases_Bool}
use Rattle.std.proofs.lemmas.Slice.Zip.{AllZip-long}
use Rattle.fdp_base.specs.declared.command.Command.{Command}
use Rattle.fdp_trace.specs.declared.fault.FaultKind.{FaultKind}
use Rattle.fdp_trace.specs.declared.fault.FaultKind.TheVariants as kinds
use Rattle.fdp_trace.specs.declared.command_word.CommandWord.{CommandWord}
use Rattle.fdp_trace.specs.declared.command_word.CommandWord.TheVariants as words
use Rattle.fdp_trace.specs.Reader.Shapes.{word_named, accepts, words_fit, numbers_fit}
use Rattle.fdp_trace.specs.Reader.Commands.{spelled, checked, command_from, command_of}
use Rattle.fdp_trace.specs.Lines.{Part, Fixed, IsLine}
use Rattle.fdp_trace.specs.Demands.{IsWordFor, IsNumberFor, IsInRange, HasFirst, HasCount, HasWords, HasNumbers, HasRanges, Meets, Spells, WordsLack}
use Rattle.fdp_trace.proofs.Parts.{zip_weaker, zip_first, number_is_word, range_is_number, in_range, ranges_met, ranges_found, Follows, words_met, numbers_met, IsMadeFor, words_found, numbers_found, ranged}
use Rattle.fdp_trace.proofs.Rows.{kind_of, text_of, text_named, begins, counted, follows, value_is}
use Rattle.fdp_trace.proofs.Finding.{named_text, found}

-- ---- a demand has those before it

ranges_are_numbers : (words : List (List ℕ)) → Meets HasRanges words → Meets HasNumbers words
ranges_are_numbers words (line, c, row, h) = (line, c, row, zip_weaker IsInRange IsNumberFor range_is_number line words h)

numbers_are_words : (words : List (List ℕ)) → Meets HasNumbers words → Meets HasWords words
numbers_are_words words (line, c, row, h) = (line, c, row, zip_weaker IsNumberFor IsWordFor number_is_word line words h)

words_are_counted : (words : List (List ℕ)) → Meets HasWords words → Meets HasCount words
words_are_counted words (line, c, row, h) = (line, c, row, (zip_first IsWordFor line words h, AllZip-long IsWordFor line words h))

count_is_first : (words : List (List ℕ)) → Meets HasCount words → Meets HasFirst words
count_is_first words (line, c, row, h) = (line, c, row, h.0)

-- ---- what a line of the grammar says of the tests

-- the first word names the command
named : (line : List Part) (c : Command) (first : List ℕ) (texts : List (List ℕ)) → IsLine line c → HasFirst line (first ∷ texts) → word_named first ≡ Some (kind_of c)
named line c first texts row h =
    let cut : AllZip IsWordFor (take 1 (Fixed (text_of (kind_of c)) ∷ drop 1 line)) (first ∷ []) = subst (λ (l : List Part). AllZip IsWordFor (take 1 l) (first ∷ [])) (begins line c row) h in
    ap word_named cut.0 ∙ text_named (kind_of c)

same_some : (a b : CommandWord) → Some a ≡ Some b → a ≡ b
same_some a b e = cc

kind_is : (line : List Part) (c : Command) (first : List ℕ) (texts : List (List ℕ)) (word : CommandWord) → word_named first ≡ Some word → IsLine line c → HasFirst line (first ∷ texts) → kind_of c ≡ word
kind_is line c first texts word is row h = same_some (kind_of c) word (sym (named line c first texts row h) ∙ is)

line_length : (line : List Part) (c : Command) → IsLine line c → length line ≡ suc (length (drop 1 line))
line_length line c row = ap length (begins line c row)

count_true : (first : List ℕ) (texts : List (List ℕ)) (word : CommandWord) → word_named first ≡ Some word → Meets HasCount (first ∷ texts) → accepts word (length texts) ≡ true
count_true first texts word is (line, c, row, h) =
    let kind = kind_is line c first texts word is row h.0 in
    let n : length texts ≡ length (drop 1 line) = omega (arith, h.1, line_length line c row) in
    subst (λ (w : CommandWord). accepts w (length texts) ≡ true) kind (ap (accepts (kind_of c)) n ∙ counted line c row)

behind : (R : Part → List ℕ → Type 0) (line : List Part) (c : Command) (first : List ℕ) (texts : List (List ℕ)) → IsLine line c → AllZip R line (first ∷ texts) → AllZip R (drop 1 line) texts
behind R line c first texts row h =
    let cut : AllZip R (Fixed (text_of (kind_of c)) ∷ drop 1 line) (first ∷ texts) = subst (λ (l : List Part). AllZip R l (first ∷ texts)) (begins line c row) h in
    cut.1

words_true : (first : List ℕ) (texts : List (List ℕ)) (word : CommandWord) → word_named first ≡ Some word → Meets HasWords (first ∷ texts) → words_fit word 0 texts ≡ true
words_true first texts word is (line, c, row, h) =
    let kind = kind_is line c first texts word is row (zip_first IsWordFor line (first ∷ texts) h) in
    subst (λ (w : CommandWord). words_fit w 0 texts ≡ true) kind (words_met (kind_of c) 0 (drop 1 line) texts (follows line c row) (behind IsWordFor line c first texts row h))

numbers_kind : (line : List Part) (c : Command) (first : List ℕ) (texts : List (List ℕ)) (word : CommandWord) → word_named first ≡ Some word → IsLine line c → HasNumbers line (first ∷ texts) → kind_of c ≡ word
numbers_kind line c first texts word is row h =
    kind_is line c first texts word is row (zip_first IsWordFor line (first ∷ texts) (zip_weaker IsNumberFor IsWordFor number_is_word line (first ∷ texts) h))

numbers_true : (first : List ℕ) (texts : List (List ℕ)) (word : CommandWord) → word_named first ≡ Some word → Meets HasNumbers (first ∷ texts) → numbers_fit word 0 texts ≡ true
numbers_true first texts word is (line, c, row, h) =
    let kind = numbers_kind line c first texts word is row h in
    subst (λ (w : CommandWord). numbers_fit w 0 texts ≡ true) kind (numbers_met (kind_of c) 0 (drop 1 line) texts (follows line c row) (behind IsNumberFor line c first texts row h))

-- a line with the numbers of the words decides what they spell
value_of_line : (line : List Part) (c : Command) (first : List ℕ) (texts : List (List ℕ)) (word : CommandWord) → word_named first ≡ Some word → IsLine line c → HasNumbers line (first ∷ texts)
    → spelled word texts ≡ ranged (list_all in_range line) c
value_of_line line c first texts word is row h =
    let kind = numbers_kind line c first texts word is row h in
    let e = value_is line c row texts (behind IsNumberFor line c first texts row h) in
    let whole : list_all in_range line ≡ list_all in_range (drop 1 line) = ap (list_all in_range) (begins line c row) in
    subst (λ (w : CommandWord). spelled w texts ≡ ranged (list_all in_range line) c) kind (e ∙ ap (λ (b : Bool). ranged b c) (sym whole))

-- ---- what the tests say of the grammar

no_both : (b : Bool) → b ≡ true → b ≡ false → ⊥
no_both b yes' no' = cc

row_found : (first : List ℕ) (texts : List (List ℕ)) (word : CommandWord) → word_named first ≡ Some word → accepts word (length texts) ≡ true → Meets HasCount (first ∷ texts)
row_found first texts word is fits =
    let f = found word texts fits in
    (Fixed (text_of word) ∷ f.parts, f.command, f.row, ((named_text first word is, tt), ap suc (AllZip-long (IsMadeFor word) f.parts texts f.made)))

words_of_row : (first : List ℕ) (texts : List (List ℕ)) (word : CommandWord) → word_named first ≡ Some word → accepts word (length texts) ≡ true → words_fit word 0 texts ≡ true → Meets HasWords (first ∷ texts)
words_of_row first texts word is fits fixed =
    let f = found word texts fits in
    let stand = subst (λ (w : CommandWord). Follows w 0 f.parts) f.kind (follows (Fixed (text_of word) ∷ f.parts) f.command f.row) in
    (Fixed (text_of word) ∷ f.parts, f.command, f.row, (named_text first word is, words_found word 0 f.parts texts stand f.made fixed))

numbers_of_row : (first : List ℕ) (texts : List (List ℕ)) (word : CommandWord) → word_named first ≡ Some word → accepts word (length texts) ≡ true → words_fit word 0 texts ≡ true → numbers_fit word 0 texts ≡ true
    → Meets HasNumbers (first ∷ texts)
numbers_of_row first texts word is fits fixed numbers =
    let f = found word texts fits in
    let stand = subst (λ (w : CommandWord). Follows w 0 f.parts) f.kind (follows (Fixed (text_of word) ∷ f.parts) f.command f.row) in
    (Fixed (text_of word) ∷ f.parts, f.command, f.row, (named_text first word is, numbers_found word 0 f.parts texts stand f.made (words_found word 0 f.parts texts stand f.made fixed) numbers))

-- ---- the answer

-- what the words come to
abbrev pub ComesTo : List (List ℕ) → Result Command FaultKind → Type 0
ComesTo words (Ok command) = Spells words command
ComesTo words (Err kind) = WordsLack words kind

no_range : (word : CommandWord) (first : List ℕ) (texts : List (List ℕ)) → word_named first ≡ Some word → spelled word texts ≡ Err kinds.Range → Meets HasRanges (first ∷ texts) → ⊥
no_range word first texts is err (line, c, row, h) =
    let e = value_of_line line c first texts word is row (zip_weaker IsInRange IsNumberFor range_is_number line (first ∷ texts) h) in
    let within = ranges_found line (first ∷ texts) h in
    let ok : spelled word texts ≡ Ok c = e ∙ ap (λ (b : Bool). ranged b c) within in
    absurd cc

in_ranges : (line : List Part) (c : Command) (first : List ℕ) (texts : List (List ℕ)) (word : CommandWord) → word_named first ≡ Some word → IsLine line c → HasNumbers line (first ∷ texts) → ComesTo (first ∷ texts) (spelled word texts)
in_ranges line c first texts word is row h =
    let e = value_of_line line c first texts word is row h in
    elim (cases_Bool (list_all in_range line)) [
      | inl within ↦
          let ok : spelled word texts ≡ Ok c = e ∙ ap (λ (b : Bool). ranged b c) within in
          subst (ComesTo (first ∷ texts)) (sym ok) (line, row, ranges_met line (first ∷ texts) h within)
      | inr out ↦
          let err : spelled word texts ≡ Err kinds.Range = e ∙ ap (λ (b : Bool). ranged b c) out in
          subst (ComesTo (first ∷ texts)) (sym err) ((line, c, row, h), λ meets. no_range word first texts is err meets)
    ]

-- as many words as a command takes
abbrev sample : CommandWord → List (List ℕ)
sample words.Write = [] ∷ [] ∷ [] ∷ [] ∷ []
sample words.Read = [] ∷ [] ∷ [] ∷ []
sample words.Zero = [] ∷ [] ∷ [] ∷ []
sample words.Dealloc = [] ∷ [] ∷ [] ∷ []
sample words.Flush = [] ∷ []
sample words.Status = [] ∷ [] ∷ []
sample words.Update = [] ∷ [] ∷ []
sample words.Log = [] ∷ [] ∷ [] ∷ []
sample words.SetFdp = [] ∷ [] ∷ []
sample words.GetFdp = []
sample words.SetEvents = [] ∷ [] ∷ [] ∷ [] ∷ []
sample words.Create = [] ∷ []
sample words.Delete = [] ∷ []

sample_fits : (word : CommandWord) → accepts word (length (sample word)) ≡ true
sample_fits words.Write = refl
sample_fits words.Read = refl
sample_fits words.Zero = refl
sample_fits words.Dealloc = refl
sample_fits words.Flush = refl
sample_fits words.Status = refl
sample_fits words.Update = refl
sample_fits words.Log = refl
sample_fits words.SetFdp = refl
sample_fits words.GetFdp = refl
sample_fits words.SetEvents = refl
sample_fits words.Create = refl
sample_fits words.Delete = refl

first_of_row : (first : List ℕ) (texts : List (List ℕ)) (word : CommandWord) → word_named first ≡ Some word → Meets HasFirst (first ∷ texts)
first_of_row first texts word is =
    let f = found word (sample word) (sample_fits word) in
    (Fixed (text_of word) ∷ f.parts, f.command, f.row, (named_text first word is, tt))

checked_comes : (first : List ℕ) (texts : List (List ℕ)) (word : CommandWord) → word_named first ≡ Some word → ComesTo (first ∷ texts) (checked word texts)
unfolding checked
checked_comes first texts word is = elim (cases_Bool (accepts word (length texts))) [
  | inr few ↦
      let e : checked word texts ≡ Err kinds.Count = rw few refl in
      subst (ComesTo (first ∷ texts)) (sym e) (first_of_row first texts word is, λ meets. no_both _ (count_true first texts word is meets) few)
  | inl fits ↦ elim (cases_Bool (words_fit word 0 texts)) [
    | inr other ↦
        let e : checked word texts ≡ Err kinds.Word = rw (fits, other) refl in
        subst (ComesTo (first ∷ texts)) (sym e) (inr (row_found first texts word is fits, λ meets. no_both _ (words_true first texts word is meets) other))
    | inl fixed ↦ elim (cases_Bool (numbers_fit word 0 texts)) [
      | inr none ↦
          let e : checked word texts ≡ Err kinds.Number = rw (fits, fixed, none) refl in
          subst (ComesTo (first ∷ texts)) (sym e) (words_of_row first texts word is fits fixed, λ meets. no_both _ (numbers_true first texts word is meets) none)
      | inl numbers ↦
          let e : checked word texts ≡ spelled word texts = rw (fits, fixed, numbers) refl in
          let m = numbers_of_row first texts word is fits fixed numbers in
          subst (ComesTo (first ∷ texts)) (sym e) (in_ranges m.0 m.1 first texts word is m.2 m.3)
    ]
  ]
]

no_line : Meets HasFirst [] → ⊥
no_line (line, c, row, h) =
    let cut : AllZip IsWordFor (take 1 (Fixed (text_of (kind_of c)) ∷ drop 1 line)) [] = subst (λ (l : List Part). AllZip IsWordFor (take 1 l) []) (begins line c row) h in
    cut

no_name : (first : List ℕ) (texts : List (List ℕ)) → word_named first ≡ None → Meets HasFirst (first ∷ texts) → ⊥
no_name first texts none (line, c, row, h) = let some = named line c first texts row h in absurd cc

from_name : (first : List ℕ) (texts : List (List ℕ)) (o : Option CommandWord) → word_named first ≡ o → ComesTo (first ∷ texts) (command_from o texts)
from_name first texts None is = inl (no_name first texts is)
from_name first texts (Some word) is = checked_comes first texts word is

pub comes : (words : List (List ℕ)) → ComesTo words (command_of words)
unfolding command_of
comes [] = inl no_line
comes (first ∷ texts) = from_name first texts (word_named first) refl

-- ---- nothing else

pub spells_is : (words : List (List ℕ)) (c : Command) → Spells words c → command_of words ≡ Ok c
unfolding command_of checked
spells_is [] c (line, row, h) = absurd (no_line (line, c, row, zip_first IsWordFor line [] (zip_weaker IsNumberFor IsWordFor number_is_word line [] (zip_weaker IsInRange IsNumberFor range_is_number line [] h))))
spells_is (first ∷ texts) c (line, row, h) =
    let numbers = zip_weaker IsInRange IsNumberFor range_is_number line (first ∷ texts) h in
    let fixed = zip_weaker IsNumberFor IsWordFor number_is_word line (first ∷ texts) numbers in
    let is = named line c first texts row (zip_first IsWordFor line (first ∷ texts) fixed) in
    let fits = count_true first texts (kind_of c) is (words_are_counted (first ∷ texts) (line, c, row, fixed)) in
    let word = words_true first texts (kind_of c) is (line, c, row, fixed) in
    let number = numbers_true first texts (kind_of c) is (line, c, row, numbers) in
    let value = value_of_line line c first texts (kind_of c) is row numbers in
    let within = ranges_found line (first ∷ texts) h in
    let e : checked (kind_of c) texts ≡ Ok c = rw (fits, word, number, value, within) refl in
    ap (λ (o : Option CommandWord). command_from o texts) is ∙ e

spells_ranges : (words : List (List ℕ)) (c : Command) → Spells words c → Meets HasRanges words
spells_ranges words c (line, row, h) = (line, c, row, h)

not_both : (words : List (List ℕ)) (kind : FaultKind) → Meets HasRanges words → WordsLack words kind → ⊥
not_both words kinds.Word m (inl none) = none (count_is_first words (words_are_counted words (numbers_are_words words (ranges_are_numbers words m))))
not_both words kinds.Word m (inr (had, lacked)) = lacked (numbers_are_words words (ranges_are_numbers words m))
not_both words kinds.Count m (had, lacked) = lacked (words_are_counted words (numbers_are_words words (ranges_are_numbers words m)))
not_both words kinds.Number m (had, lacked) = lacked (ranges_are_numbers words m)
not_both words kinds.Range m (had, lacked) = lacked m
not_both words kinds.Long m h = h
not_both words kinds.Utf8 m h = h

word_count : (words : List (List ℕ)) → WordsLack words kinds.Word → WordsLack words kinds.Count → ⊥
word_count words (inl none) other = none other.0
word_count words (inr lack) other = other.1 lack.0

word_number : (words : List (List ℕ)) → WordsLack words kinds.Word → WordsLack words kinds.Number → ⊥
word_number words (inl none) other = none (count_is_first words (words_are_counted words other.0))
word_number words (inr lack) other = lack.1 other.0

word_range : (words : List (List ℕ)) → WordsLack words kinds.Word → WordsLack words kinds.Range → ⊥
word_range words (inl none) other = none (count_is_first words (words_are_counted words (numbers_are_words words other.0)))
word_range words (inr lack) other = lack.1 (numbers_are_words words other.0)

count_number : (words : List (List ℕ)) → WordsLack words kinds.Count → WordsLack words kinds.Number → ⊥
count_number words lack other = lack.1 (words_are_counted words other.0)

count_range : (words : List (List ℕ)) → WordsLack words kinds.Count → WordsLack words kinds.Range → ⊥
count_range words lack other = lack.1 (words_are_counted words (numbers_are_words words other.0))

number_range : (words : List (List ℕ)) → WordsLack words kinds.Number → WordsLack words kinds.Range → ⊥
number_range words lack other = lack.1 other.0

one_lack : (words : List (List ℕ)) (a b : FaultKind) → WordsLack words a → WordsLack words b → a ≡ b
one_lack words kinds.Long b h k = absurd h
one_lack words kinds.Utf8 b h k = absurd h
one_lack words kinds.Word kinds.Long h k = absurd k
one_lack words kinds.Word kinds.Utf8 h k = absurd k
one_lack words kinds.Word kinds.Word h k = refl
one_lack words kinds.Word kinds.Count h k = absurd (word_count words h k)
one_lack words kinds.Word kinds.Number h k = absurd (word_number words h k)
one_lack words kinds.Word kinds.Range h k = absurd (word_range words h k)
one_lack words kinds.Count kinds.Long h k = absurd k
one_lack words kinds.Count kinds.Utf8 h k = absurd k
one_lack words kinds.Count kinds.Word h k = absurd (word_count words k h)
one_lack words kinds.Count kinds.Count h k = refl
one_lack words kinds.Count kinds.Number h k = absurd (count_number words h k)
one_lack words kinds.Count kinds.Range h k = absurd (count_range words h k)
one_lack words kinds.Number kinds.Long h k = absurd k
one_lack words kinds.Number kinds.Utf8 h k = absurd k
one_lack words kinds.Number kinds.Word h k = absurd (word_number words k h)
one_lack words kinds.Number kinds.Count h k = absurd (count_number words k h)
one_lack words kinds.Number kinds.Number h k = refl
one_lack words kinds.Number kinds.Range h k = absurd (number_range words h k)
one_lack words kinds.Range kinds.Long h k = absurd k
one_lack words kinds.Range kinds.Utf8 h k = absurd k
one_lack words kinds.Range kinds.Word h k = absurd (word_range words k h)
one_lack words kinds.Range kinds.Count h k = absurd (count_range words k h)
one_lack words kinds.Range kinds.Number h k = absurd (number_range words k h)
one_lack words kinds.Range kinds.Range h k = refl

lack_of : (words : List (List ℕ)) (r : Result Command FaultKind) (kind : FaultKind) → ComesTo words r → WordsLack words kind → r ≡ Err kind
lack_of words (Ok c) kind h lack = absurd (not_both words kind (spells_ranges words c h) lack)
lack_of words (Err k) kind h lack = ap Err (one_lack words k kind h lack)

pub lacks_is : (words : List (List ℕ)) (kind : FaultKind) → WordsLack words kind → command_of words ≡ Err kind
lacks_is words kind lack = lack_of words (command_of words) kind (comes words) lack
