-- Words that stand for the parts of a line, whatever the line.
use Rattle.std.proofs.Common.{◌≡◌, ℕ, ◌+◌, ◌≤◌, Bool, true, false, not, ◌&&◌, cond, nat_le, List, [], ◌∷◌, map, take, Result, Ok, Err, refl, ap, subst, ◌∙◌, arith}
use Rattle.std.specs.Prelude.{is_none}
use Rattle.std.specs.List.{list_all, flat_map, AllZip}
use Rattle.std.proofs.lemmas.Bool.Decides.{nat_tests}
use Rattle.fdp_base.specs.declared.command.Range.{Range}
use Rattle.fdp_trace.specs.declared.fault.FaultKind.{FaultKind}
use Rattle.fdp_trace.specs.declared.fault.FaultKind.TheVariants as kinds
use Rattle.fdp_trace.specs.declared.command_word.CommandWord.{CommandWord}
use Rattle.fdp_trace.specs.Numbers.{IsNumber}
use Rattle.fdp_trace.specs.Reader.NumberOf.{number_of}
use Rattle.fdp_trace.specs.Reader.Shapes.{is_fixed, is_choice, words_fit, numbers_fit}
use Rattle.fdp_trace.specs.Reader.Reading.{◌>>=◌, within, field}
use Rattle.fdp_trace.specs.Reader.Commands.{numbers_of, range_of, ranges_of}
use Rattle.fdp_trace.specs.Lines.{Part, Fixed, Number, range_parts}
use Rattle.fdp_trace.specs.Demands.{IsWordFor, IsNumberFor, IsInRange}
use Rattle.fdp_trace.proofs.Numerals.{number_is, number_found, value}

-- ---- demands

pub zip_weaker : {A B : Type 0} (R S : A → B → Type 0) → ((x : A) (y : B) → R x y → S x y) → (xs : List A) (ys : List B) → AllZip R xs ys → AllZip S xs ys
zip_weaker R S weaker [] [] h = tt
zip_weaker R S weaker [] (y ∷ ys) h = absurd h
zip_weaker R S weaker (x ∷ xs) [] h = absurd h
zip_weaker R S weaker (x ∷ xs) (y ∷ ys) h = (weaker x y h.0, zip_weaker R S weaker xs ys h.1)

pub zip_first : {A B : Type 0} (R : A → B → Type 0) (xs : List A) (ys : List B) → AllZip R xs ys → AllZip R (take 1 xs) (take 1 ys)
zip_first R [] [] h = tt
zip_first R [] (y ∷ ys) h = absurd h
zip_first R (x ∷ xs) [] h = absurd h
zip_first R (x ∷ xs) (y ∷ ys) h = (h.0, tt)

pub number_is_word : (part : Part) (word : List ℕ) → IsNumberFor part word → IsWordFor part word
number_is_word (Fixed text) word h = h
number_is_word (Number low high n) word h = tt

pub range_is_number : (part : Part) (word : List ℕ) → IsInRange part word → IsNumberFor part word
range_is_number (Fixed text) word h = h
range_is_number (Number low high n) word h = h.0

abbrev pub in_range : Part → Bool
in_range (Fixed text) = true
in_range (Number low high n) = nat_le low n && nat_le n high

pub both_true : (a b : Bool) → (a && b) ≡ true → (a ≡ true) × (b ≡ true)
both_true true b e = (refl, e)
both_true false b e = absurd cc

pub both_within : (low high n : ℕ) → low ≤ n → n ≤ high → (nat_le low n && nat_le n high) ≡ true
both_within low high n lo hi = grind (arith, nat_tests)

pub within_both : (low high n : ℕ) → (nat_le low n && nat_le n high) ≡ true → (low ≤ n) × (n ≤ high)
within_both low high n e =
    let both = both_true (nat_le low n) (nat_le n high) e in
    (grind (arith, nat_tests, both.0), grind (arith, nat_tests, both.1))

part_in : (part : Part) (word : List ℕ) → IsNumberFor part word → in_range part ≡ true → IsInRange part word
part_in (Fixed text) word h e = h
part_in (Number low high n) word h e = let w = within_both low high n e in (h, w.0, w.1)

part_is_in : (part : Part) (word : List ℕ) → IsInRange part word → in_range part ≡ true
part_is_in (Fixed text) word h = refl
part_is_in (Number low high n) word h = both_within low high n h.1 h.2

-- numbers that are in range
pub ranges_met : (parts : List Part) (texts : List (List ℕ)) → AllZip IsNumberFor parts texts → list_all in_range parts ≡ true → AllZip IsInRange parts texts
ranges_met [] [] h e = tt
ranges_met [] (text ∷ texts) h e = absurd h
ranges_met (part ∷ parts) [] h e = absurd h
ranges_met (part ∷ parts) (text ∷ texts) h e =
    let both = both_true (in_range part) (list_all in_range parts) e in
    (part_in part text h.0 both.0, ranges_met parts texts h.1 both.1)

pub ranges_found : (parts : List Part) (texts : List (List ℕ)) → AllZip IsInRange parts texts → list_all in_range parts ≡ true
ranges_found [] [] h = refl
ranges_found [] (text ∷ texts) h = absurd h
ranges_found (part ∷ parts) [] h = absurd h
ranges_found (part ∷ parts) (text ∷ texts) h = rw (part_is_in part text h.0) (ranges_found parts texts h.1)

-- ---- where the words and the numbers of a line stand

-- the parts from a place on have their fixed words where the command has them
abbrev pub Follows : CommandWord → ℕ → List Part → Type 0
Follows word i [] = Unit {0}
Follows word i (Fixed text ∷ parts) = (is_fixed word i ≡ true) × (is_choice word text ≡ true) × Follows word (i + 1) parts
Follows word i (Number low high n ∷ parts) = (is_fixed word i ≡ false) × Follows word (i + 1) parts

pub words_met : (word : CommandWord) (i : ℕ) (parts : List Part) (texts : List (List ℕ)) → Follows word i parts → AllZip IsWordFor parts texts → words_fit word i texts ≡ true
unfolding words_fit
words_met word i [] [] f h = refl
words_met word i [] (text ∷ texts) f h = absurd h
words_met word i (part ∷ parts) [] f h = absurd h
words_met word i (Fixed t ∷ parts) (text ∷ texts) f h =
    let choice : is_choice word text ≡ true = ap (is_choice word) h.0 ∙ f.1 in
    rw (f.0, choice) (words_met word (i + 1) parts texts f.2 h.1)
words_met word i (Number low high n ∷ parts) (text ∷ texts) f h = rw f.0 (words_met word (i + 1) parts texts f.1 h.1)

pub numbers_met : (word : CommandWord) (i : ℕ) (parts : List Part) (texts : List (List ℕ)) → Follows word i parts → AllZip IsNumberFor parts texts → numbers_fit word i texts ≡ true
unfolding numbers_fit
numbers_met word i [] [] f h = refl
numbers_met word i [] (text ∷ texts) f h = absurd h
numbers_met word i (part ∷ parts) [] f h = absurd h
numbers_met word i (Fixed t ∷ parts) (text ∷ texts) f h = rw f.0 (numbers_met word (i + 1) parts texts f.2 h.1)
numbers_met word i (Number low high n ∷ parts) (text ∷ texts) f h =
    let is = number_is text n h.0 in
    rw (f.0, is) (numbers_met word (i + 1) parts texts f.1 h.1)

-- a part that is made for a word
abbrev pub IsMadeFor : CommandWord → Part → List ℕ → Type 0
IsMadeFor word (Fixed t) text = is_choice word text ≡ true → text ≡ t
IsMadeFor word (Number low high n) text = value (number_of text) ≡ n

word_passes : (fixed choice r : Bool) → (cond (fixed && not choice) false r) ≡ true → (fixed ≡ true → choice ≡ true) × (r ≡ true)
word_passes true true r e = (λ z. refl, e)
word_passes true false r e = absurd cc
word_passes false choice r e = (λ z. absurd cc, e)

number_passes : (fixed none r : Bool) → (cond (not fixed && none) false r) ≡ true → (fixed ≡ false → none ≡ false) × (r ≡ true)
number_passes true none r e = (λ z. absurd cc, e)
number_passes false false r e = (λ z. refl, e)
number_passes false true r e = absurd cc

pub words_found : (word : CommandWord) (i : ℕ) (parts : List Part) (texts : List (List ℕ)) → Follows word i parts → AllZip (IsMadeFor word) parts texts → words_fit word i texts ≡ true → AllZip IsWordFor parts texts
unfolding words_fit
words_found word i [] [] f h e = tt
words_found word i [] (text ∷ texts) f h e = absurd h
words_found word i (part ∷ parts) [] f h e = absurd h
words_found word i (Fixed t ∷ parts) (text ∷ texts) f h e =
    let p = word_passes (is_fixed word i) (is_choice word text) (words_fit word (i + 1) texts) e in
    (h.0 (p.0 f.0), words_found word (i + 1) parts texts f.2 h.1 p.1)
words_found word i (Number low high n ∷ parts) (text ∷ texts) f h e =
    let p = word_passes (is_fixed word i) (is_choice word text) (words_fit word (i + 1) texts) e in
    (tt, words_found word (i + 1) parts texts f.1 h.1 p.1)

pub numbers_found : (word : CommandWord) (i : ℕ) (parts : List Part) (texts : List (List ℕ)) → Follows word i parts → AllZip (IsMadeFor word) parts texts → AllZip IsWordFor parts texts → numbers_fit word i texts ≡ true
    → AllZip IsNumberFor parts texts
unfolding numbers_fit
numbers_found word i [] [] f m h e = tt
numbers_found word i [] (text ∷ texts) f m h e = absurd h
numbers_found word i (part ∷ parts) [] f m h e = absurd h
numbers_found word i (Fixed t ∷ parts) (text ∷ texts) f m h e =
    let p = number_passes (is_fixed word i) (is_none (number_of text)) (numbers_fit word (i + 1) texts) e in
    (h.0, numbers_found word (i + 1) parts texts f.2 m.1 h.1 p.1)
numbers_found word i (Number low high n ∷ parts) (text ∷ texts) f m h e =
    let p = number_passes (is_fixed word i) (is_none (number_of text)) (numbers_fit word (i + 1) texts) e in
    (subst (λ (n : ℕ). IsNumber text n) m.0 (number_found text (p.0 f.0)), numbers_found word (i + 1) parts texts f.1 m.1 h.1 p.1)

-- ---- what is read of words with numbers

-- a value, where the numbers are in range
abbrev pub ranged : {A : Type 0} → Bool → A → Result A FaultKind
ranged b x = cond b (Ok x) (Err kinds.Range)

number_then : {A : Type 0} (b rest : Bool) (n : ℕ) (texts : List (List ℕ)) (then : ℕ × List (List ℕ) → Result A FaultKind) (x : A) → then (n, texts) ≡ ranged rest x
    → (((cond b (Ok n) (Err kinds.Range)) >>= λ m. Ok (m, texts)) >>= then) ≡ ranged (b && rest) x
number_then true rest n texts then x e = e
number_then false rest n texts then x e = refl

pub field_then : {A : Type 0} (low high n : ℕ) (parts : List Part) (texts : List (List ℕ)) (then : ℕ × List (List ℕ) → Result A FaultKind) (x : A) → AllZip IsNumberFor (Number low high n ∷ parts) texts
    → ((later : List (List ℕ)) → AllZip IsNumberFor parts later → then (n, later) ≡ ranged (list_all in_range parts) x)
    → (field low high texts >>= then) ≡ ranged (list_all in_range (Number low high n ∷ parts)) x
unfolding field
field_then low high n parts [] then x h next = absurd h
field_then low high n parts (text ∷ texts) then x h next =
    let is = number_is text n h.0 in
    rw is (number_then (nat_le low n && nat_le n high) (list_all in_range parts) n texts then x (next texts h.1))

pub end_then : {A : Type 0} (texts : List (List ℕ)) (then : List (List ℕ) → Result A FaultKind) (r : Result A FaultKind) → AllZip IsNumberFor [] texts → then [] ≡ r → then texts ≡ r
end_then [] then r h e = e
end_then (text ∷ texts) then r h e = absurd h

pub word_then : {A : Type 0} (word : List ℕ) (parts : List Part) (texts : List (List ℕ)) (then : List (List ℕ) → Result A FaultKind) (r : Result A FaultKind) → AllZip IsNumberFor (Fixed word ∷ parts) texts
    → ((later : List (List ℕ)) → AllZip IsNumberFor parts later → then (word ∷ later) ≡ r) → then texts ≡ r
word_then word parts [] then r h next = absurd h
word_then word parts (text ∷ texts) then r h next = ap (λ (t : List ℕ). then (t ∷ texts)) h.0 ∙ next texts h.1

pub ranged_then : {A B : Type 0} (make : A → B) (read : Result A FaultKind) (b : Bool) (x : A) → read ≡ ranged b x → (read >>= λ y. Ok (make y)) ≡ ranged b (make x)
ranged_then {A = A} make read true x e = ap (λ (r : Result A FaultKind). r >>= λ y. Ok (make y)) e
ranged_then {A = A} make read false x e = ap (λ (r : Result A FaultKind). r >>= λ y. Ok (make y)) e

one_more : {A : Type 0} (b rest : Bool) (n : A) (ns : List A) → (ranged b n >>= λ m. ranged rest ns >>= λ ms. Ok (m ∷ ms)) ≡ ranged (b && rest) (n ∷ ns)
one_more true true n ns = refl
one_more true false n ns = refl
one_more false rest n ns = refl

within_ranged : (low high n : ℕ) (text : List ℕ) → IsNumber text n → within low high text ≡ ranged (nat_le low n && nat_le n high) n
within_ranged low high n text h =
    let is = number_is text n h in
    rw is refl

pub numbers_ranged : (high : ℕ) (ns : List ℕ) (texts : List (List ℕ)) → AllZip IsNumberFor (map (Number 0 high) ns) texts → numbers_of high texts ≡ ranged (list_all in_range (map (Number 0 high) ns)) ns
unfolding numbers_of
numbers_ranged high [] [] h = refl
numbers_ranged high [] (text ∷ texts) h = absurd h
numbers_ranged high (n ∷ ns) [] h = absurd h
numbers_ranged high (n ∷ ns) (text ∷ texts) h =
    rw (within_ranged 0 high n text h.0, numbers_ranged high ns texts h.1) (one_more (nat_le 0 n && nat_le n high) (list_all in_range (map (Number 0 high) ns)) n ns)

one_range : (a b rest : Bool) (r : Range) (rs : List Range)
    → ((ranged a r.slba >>= λ slba. ranged b r.length >>= λ len. Ok (record { slba = slba; length = len })) >>= λ range. ranged rest rs >>= λ others. Ok (range ∷ others)) ≡ ranged (a && (b && rest)) (r ∷ rs)
one_range true true true r rs = refl
one_range true true false r rs = refl
one_range true false rest r rs = refl
one_range false b rest r rs = refl

pub ranges_ranged : (rs : List Range) (texts : List (List ℕ)) → AllZip IsNumberFor (flat_map range_parts rs) texts → ranges_of texts ≡ ranged (list_all in_range (flat_map range_parts rs)) rs
unfolding ranges_of range_of
ranges_ranged [] [] h = refl
ranges_ranged [] (text ∷ texts) h = absurd h
ranges_ranged (r ∷ rs) [] h = absurd h
ranges_ranged (r ∷ rs) (a ∷ []) h = absurd h.1
ranges_ranged (r ∷ rs) (a ∷ b ∷ texts) h =
    rw (within_ranged 0 18446744073709551615 r.slba a h.0, within_ranged 0 4294967295 r.length b h.1.0, ranges_ranged rs texts h.1.1)
    (one_range (nat_le 0 r.slba && nat_le r.slba 18446744073709551615) (nat_le 0 r.length && nat_le r.length 4294967295) (list_all in_range (flat_map range_parts rs)) r rs)
