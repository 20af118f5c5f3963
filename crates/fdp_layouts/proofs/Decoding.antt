-- What a decoder owes, from what its reader says.
use Rattle.std.proofs.Common.{◌≡◌, ℕ, Bool, true, false, ◌&&◌, not, eqb, IsTrue, List, [], ◌∷◌, length, get_or, replicate, Option, Some, None, Result, Ok, Err, refl, sym, ap, ◌∙◌, arith, inl, inr}
use Rattle.std.specs.Prelude.{MatchResult, IfOk}
use Rattle.std.specs.List.{list_any}
use Rattle.std.proofs.lemmas.Bool.{cases_Bool, eqb-true}
use Rattle.std.proofs.lemmas.List.{get_or-replicate, length-replicate}
use Rattle.fdp_layouts.specs.declared.bad_frame.BadFrame.{BadFrame}
use Rattle.fdp_layouts.specs.Frame.{Part, Field, frame_of, numbers_in, spans_of, covers, is_stray, first_reserved, are_named, first_unnamed, fault_from, fault_of, PartsFit, Fits, ascend}
use Rattle.fdp_layouts.proofs.Bytes.{IsBytes}
use Rattle.fdp_layouts.proofs.Search.{finds_none, none_found}
use Rattle.fdp_layouts.proofs.Filling.{filled_again, filled-outside, numbers_again}

-- no fault means that neither kind is there
no_fault : (a b : Option ℕ) → fault_from a b ≡ None → (a ≡ None) × (b ≡ None)
no_fault (Some at) b e = absurd cc
no_fault None (Some at) e = absurd cc
no_fault None None e = (refl, refl)

stray_is_zero : (b : ℕ) (any : Bool) → (not (eqb b 0) && not any) ≡ false → any ≡ false → b ≡ 0
stray_is_zero b true e none = absurd cc
stray_is_zero b false e none =
    elim (cases_Bool (eqb b 0)) [
      | inl here ↦ eqb-true b 0 here
      | inr there ↦ let clash : (not (eqb b 0) && true) ≡ true = rw there refl in absurd cc
    ]

zero_is_no_stray : (b : ℕ) (any : Bool) → (any ≡ false → b ≡ 0) → (not (eqb b 0) && not any) ≡ false
zero_is_no_stray b true h = elim (cases_Bool (eqb b 0)) [ inl here ↦ rw here refl | inr there ↦ rw there refl ]
zero_is_no_stray b false h = let e : b ≡ 0 = h refl in rw e refl

-- bytes with no fault are the frame of what they hold
pub whole : (len : ℕ) (fields : List Field) (bytes : List ℕ) → length bytes ≡ len → IsBytes bytes → IsTrue (ascend 0 len fields) → fault_of len fields bytes ≡ None
    → bytes ≡ frame_of len fields (numbers_in fields bytes)
unfolding first_reserved
whole len fields bytes lb h asc e =
    let none = (no_fault (first_reserved len (spans_of fields) bytes) (first_unnamed fields (numbers_in fields bytes)) e).0 in
    sym (filled_again fields bytes (replicate len 0) 0 len (length-replicate len 0) lb h asc
    (λ i lt out.
    let test = none_found (is_stray (spans_of fields) bytes) 0 len none i (omega arith) (omega arith) in
    get_or-replicate len i 0 0 lt ∙ sym (stray_is_zero (get_or bytes i 0) (list_any (covers i) (spans_of fields)) test out)))

named : (ps : List Part) (vs : List ℕ) → PartsFit ps vs → are_named ps vs ≡ true
named [] [] fits = refl
named [] (v ∷ vs) fits = absurd fits
named (p ∷ ps) [] fits = absurd fits
named (p ∷ ps) (v ∷ vs) fits = rw fits.1 (named ps vs fits.2)

all_named : (fields : List Field) (vss : List (List ℕ)) → Fits fields vss → first_unnamed fields vss ≡ None
all_named [] [] fits = refl
all_named [] (vs ∷ vss) fits = absurd fits
all_named (f ∷ fs) [] fits = absurd fits
all_named (f ∷ fs) (vs ∷ vss) fits = rw (named f.parts vs fits.0) (all_named fs vss fits.1)

-- the frame of numbers that fit holds them, with no fault
pub again : (len : ℕ) (fields : List Field) (vss : List (List ℕ)) → IsTrue (ascend 0 len fields) → Fits fields vss
    → (numbers_in fields (frame_of len fields vss) ≡ vss) × (fault_of len fields (frame_of len fields vss) ≡ None)
unfolding first_reserved
again len fields vss asc fits =
    let zeros = replicate len 0 in
    let lz = length-replicate len 0 in
    let frame = frame_of len fields vss in
    let back = numbers_again fields vss zeros 0 len lz asc fits in
    let strays : first_reserved len (spans_of fields) frame ≡ None = finds_none (is_stray (spans_of fields) frame) 0 len
    (λ i lo hi. zero_is_no_stray (get_or frame i 0) (list_any (covers i) (spans_of fields))
    (λ out. filled-outside fields vss zeros 0 len i lz asc out ∙ get_or-replicate len i 0 0 (omega arith))) in
    let names : first_unnamed fields (numbers_in fields frame) ≡ None = ap (first_unnamed fields) back ∙ all_named fields vss fits in
    (back, rw (strays, names) refl)

not_both : (e : BadFrame) (o : Option BadFrame) → o ≡ Some e → o ≡ None → ⊥
not_both e o some none = cc

-- ---- the clauses of a decoder

pub is_ok_clause : {V : Type 0} (len : ℕ) (fields : List Field) (numbers : V → List (List ℕ)) (bytes : List ℕ) (r : Result V BadFrame) → length bytes ≡ len → IsBytes bytes → IsTrue (ascend 0 len fields)
    → MatchResult r (λ v. (fault_of len fields bytes ≡ None) × (numbers v ≡ numbers_in fields bytes)) (λ e. fault_of len fields bytes ≡ Some e)
    → IfOk r (λ v. bytes ≡ frame_of len fields (numbers v))
is_ok_clause len fields numbers bytes (Ok v) lb h asc given = whole len fields bytes lb h asc given.0 ∙ ap (frame_of len fields) (sym given.1)
is_ok_clause len fields numbers bytes (Err e) lb h asc given = tt

pub is_only_clause : {V : Type 0} (len : ℕ) (fields : List Field) (numbers : V → List (List ℕ)) (bytes : List ℕ) (r : Result V BadFrame) → IsTrue (ascend 0 len fields)
    → IfOk r (λ v. (w : V) → numbers v ≡ numbers w → v ≡ w)
    → MatchResult r (λ v. (fault_of len fields bytes ≡ None) × (numbers v ≡ numbers_in fields bytes)) (λ e. fault_of len fields bytes ≡ Some e)
    → (v : V) → Fits fields (numbers v) → bytes ≡ frame_of len fields (numbers v) → r ≡ Ok v
is_only_clause len fields numbers bytes (Ok w) asc known given v fits is =
    let a = again len fields (numbers v) asc fits in
    ap Ok (known v (given.1 ∙ ap (numbers_in fields) is ∙ a.0))
is_only_clause len fields numbers bytes (Err e) asc known given v fits is =
    let a = again len fields (numbers v) asc fits in
    absurd (not_both e (fault_of len fields bytes) given (ap (fault_of len fields) is ∙ a.1))
