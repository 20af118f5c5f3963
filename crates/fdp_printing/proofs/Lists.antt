-- What is left of a list of lines, and lines of words.
use Rattle.std.proofs.Common.{◌≡◌, ℕ, suc, ◌+◌, ◌-◌, ◌<◌, ◌≤◌, List, [], ◌∷◌, ◌++◌, length, drop, get_or, flat_map, sym, ap, ◌∙◌, append_assoc, arith}
use Rattle.std.proofs.Math.Seq.{drop-cons}
use Rattle.std.proofs.lemmas.List.{drop_all, get_or_default}
use Rattle.std.proofs.lemmas.List.Concat.{flat_map-append}
use Rattle.fdp_base.specs.declared.entry.Entry.{Entry}
use Rattle.fdp_base.specs.Numbers.{numbers_from}
use Rattle.fdp_base.specs.Text.{line}
use Rattle.fdp_output.specs.HistoryText.{entry_lines, history_text}
use Rattle.fdp_output.specs.RunOutput.{usage_line}
use Rattle.fdp_trace.proofs.Spelling.{spaced_is}
use Rattle.fdp_trace.specs.Printer.{spaced_behind}
use Rattle.fdp_printing.specs.Lines.{usage_lines}

-- the list from a place on, with the element there
from_place : {X : Type 0} (xs : List X) (i : ℕ) (x : X) → i < length xs → x ≡ get_or xs i x → drop i xs ≡ x ∷ drop (i + 1) xs
from_place xs i x low is =
    let next : suc i ≡ i + 1 = omega arith in
    drop-cons xs i x low ∙ ap (λ y. y ∷ drop (suc i) xs) (sym is) ∙ ap (λ k. x ∷ drop k xs) next

-- the lines of what is left begin with those of the next element
pub lines_next : {X : Type 0} (f : X → List ℕ) (xs : List X) (i : ℕ) (x : X) → i < length xs → x ≡ get_or xs i x → flat_map f (drop i xs) ≡ f x ++ flat_map f (drop (i + 1) xs)
lines_next f xs i x low is = ap (flat_map f) (from_place xs i x low is)

-- none is left
pub lines_last : {X : Type 0} (f : X → List ℕ) (xs : List X) (i : ℕ) → length xs ≤ i → flat_map f (drop i xs) ≡ []
lines_last f xs i high = ap (flat_map f) (drop_all i xs high)

-- the next queue
pub queues_next : (f : ℕ → List ℕ) (count i : ℕ) → i < count → flat_map f (numbers_from (1 + i) (count - i)) ≡ f (i + 1) ++ flat_map f (numbers_from (1 + (i + 1)) (count - (i + 1)))
unfolding numbers_from
queues_next f count i low =
    let some : count - i ≡ suc (count - (i + 1)) = omega arith in
    let here : 1 + i ≡ i + 1 = omega arith in
    let next : 1 + i + 1 ≡ 1 + (i + 1) = omega arith in
    ap (λ k. flat_map f (numbers_from (1 + i) k)) some
    ∙ ap (λ k. f k ++ flat_map f (numbers_from (1 + i + 1) (count - (i + 1)))) here
    ∙ ap (λ k. f (i + 1) ++ flat_map f (numbers_from k (count - (i + 1)))) next

pub queues_first : (f : ℕ → List ℕ) (count i : ℕ) → i ≡ 0 → flat_map f (numbers_from (1 + i) (count - i)) ≡ flat_map f (numbers_from 1 count)
queues_first f count i none =
    let one : 1 + i ≡ 1 = omega arith in
    let all : count - i ≡ count = omega arith in
    ap (λ k. flat_map f (numbers_from k (count - i))) one ∙ ap (λ k. flat_map f (numbers_from 1 k)) all

pub queues_last : (f : ℕ → List ℕ) (count i : ℕ) → count ≤ i → flat_map f (numbers_from (1 + i) (count - i)) ≡ []
unfolding numbers_from
queues_last f count i high = let none : count - i ≡ 0 = omega arith in ap (λ k. flat_map f (numbers_from (1 + i) k)) none

-- the next entry
pub history_next : (block : ℕ) (es : List Entry) (first i : ℕ) (e : Entry) → i < length es → e ≡ get_or es i e →
    history_text block (first + i) (drop i es) ≡ entry_lines block (first + i) e ++ history_text block (first + (i + 1)) (drop (i + 1) es)
history_next block es first i e low is =
    let next : first + i + 1 ≡ first + (i + 1) = omega arith in
    ap (history_text block (first + i)) (from_place es i e low is) ∙ ap (λ k. entry_lines block (first + i) e ++ history_text block k (drop (i + 1) es)) next

pub history_first : (block : ℕ) (es : List Entry) (first i : ℕ) → i ≡ 0 → history_text block (first + i) (drop i es) ≡ history_text block first es
history_first block es first i none =
    let same : first + i ≡ first = omega arith in
    ap (λ k. history_text block k (drop i es)) same ∙ ap (λ k. history_text block first (drop k es)) none

pub history_last : (block : ℕ) (es : List Entry) (first i : ℕ) → length es ≤ i → history_text block (first + i) (drop i es) ≡ []
history_last block es first i high = ap (history_text block (first + i)) (drop_all i es high)

-- the next handle
pub usages_next : (us : List ℕ) (i u : ℕ) → i < length us → u ≡ get_or us i 0 → usage_lines i (drop i us) ≡ usage_line i u ++ usage_lines (i + 1) (drop (i + 1) us)
usages_next us i u low is = ap (usage_lines i) (from_place us i u low (is ∙ get_or_default us i 0 u low))

pub usages_last : (us : List ℕ) (i : ℕ) → length us ≤ i → usage_lines i (drop i us) ≡ []
usages_last us i high = ap (usage_lines i) (drop_all i us high)

-- ---- lines

-- a line, as it is pushed
line_is : (word : List ℕ) (words : List (List ℕ)) → line (word ∷ words) ≡ word ++ (spaced_behind words ++ 10 ∷ [])
line_is word words = ap (λ text. text ++ 10 ∷ []) (spaced_is word words) ∙ append_assoc word (spaced_behind words) (10 ∷ [])

-- a line of a first word and others was appended
pub line_pushed : (old a b c word : List ℕ) (words : List (List ℕ)) → a ≡ old ++ word → b ≡ a ++ spaced_behind words → c ≡ b ++ 10 ∷ [] → c ≡ old ++ line (word ∷ words)
line_pushed old a b c word words first behind end =
    end ∙ ap (λ t. t ++ 10 ∷ []) (behind ∙ ap (λ t. t ++ spaced_behind words) first)
    ∙ append_assoc (old ++ word) (spaced_behind words) (10 ∷ []) ∙ append_assoc old word (spaced_behind words ++ 10 ∷ [])
    ∙ ap (λ t. old ++ t) (sym (line_is word words))

-- a line of a first word, a second one, and others was appended
pub event_pushed : (old a b c d e word class : List ℕ) (words more : List (List ℕ)) → a ≡ old ++ word → b ≡ a ++ 32 ∷ class → c ≡ b ++ spaced_behind words → d ≡ c ++ spaced_behind more →
    e ≡ d ++ 10 ∷ [] → e ≡ old ++ line (word ∷ class ∷ (words ++ more))
event_pushed old a b c d e word class words more first second third fourth end =
    let behind : d ≡ a ++ spaced_behind (class ∷ (words ++ more)) =
    fourth ∙ ap (λ t. t ++ spaced_behind more) (third ∙ ap (λ t. t ++ spaced_behind words) second)
    ∙ append_assoc (a ++ 32 ∷ class) (spaced_behind words) (spaced_behind more)
    ∙ append_assoc a (32 ∷ class) (spaced_behind words ++ spaced_behind more)
    ∙ ap (λ (t : List ℕ). a ++ ((32 ∷ class) ++ t)) (sym (flat_map-append (λ (word : List ℕ). 32 ∷ word) words more)) in
    line_pushed old a d e word (class ∷ (words ++ more)) first behind end

-- an entry's line and its data were appended
pub entry_pushed : (old a b c d word added : List ℕ) (words : List (List ℕ)) → a ≡ old ++ word → b ≡ a ++ spaced_behind words → c ≡ b ++ 10 ∷ [] → d ≡ c ++ added →
    d ≡ old ++ (line (word ∷ words) ++ added)
entry_pushed old a b c d word added words first behind end more =
    more ∙ ap (λ t. t ++ added) (line_pushed old a b c word words first behind end) ∙ append_assoc old (line (word ∷ words)) added
