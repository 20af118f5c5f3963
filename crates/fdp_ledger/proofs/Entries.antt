-- What entries more make of what a history tells of units and failures.
use Rattle.std.proofs.Common.{◌≡◌, ℕ, ◌+◌, Bool, true, false, not, ◌&&◌, ◌||◌, List, [], ◌∷◌, ◌++◌, Option, Some, None, refl, sym, ◌∙◌, ap, arith, append_assoc, eq-eqb, ne_eqb, ◌≢◌}
use Rattle.std.specs.Prelude.{count_by, fold, if◌then◌else◌}
use Rattle.std.specs.Option.{option_map_or}
use Rattle.std.proofs.lemmas.List.{append-nil}
use Rattle.std.proofs.lemmas.List.Sums.{fold-append, sum_by-append}
use Rattle.fdp_base.specs.declared.entry.Entry.{Entry}
use Rattle.fdp_base.specs.EntryKinds.{empties, is_unit, unit_erased, unit_filled}
use Rattle.fdp_ledger.specs.Uses.{RunStart, idle_after, idle_erases, idle_of, used_after, used_by}

pub used-push : (start : RunStart) (es : List Entry) (e : Entry) → used_by start (es ++ e ∷ []) ≡ used_after (used_by start es) e
unfolding used_by
used-push start es e = fold-append used_after start.had es (e ∷ [])

idle-after : (used : ℕ → Bool) (es : List Entry) (e : Entry) → idle_after used (es ++ e ∷ []) ≡ idle_after used es + idle_of (fold used_after used es) e
unfolding idle_after
idle-after used [] e = omega arith
idle-after used (x ∷ xs) e = omega (arith, idle-after (used_after used x) xs e)

pub idle-push : (start : RunStart) (es : List Entry) (e : Entry) → idle_erases start (es ++ e ∷ []) ≡ idle_erases start es + idle_of (used_by start es) e
unfolding used_by
idle-push start es e = idle-after start.had es e

pub count-push : (p : Entry → Bool) (es xs : List Entry) → count_by p (es ++ xs) ≡ count_by p es + count_by p xs
count-push p es xs = sum_by-append (λ e. if p e then 1 else 0) es xs

-- an entry that tells neither of a page nor of an erase
pub record IsQuiet (e : Entry) : Type 0 where
  pub filled : unit_filled e ≡ None
  pub erased : unit_erased e ≡ None

and-true : (b : Bool) → (b && true) ≡ b
and-true true = refl
and-true false = refl

pub quiet-used : (used : ℕ → Bool) (e : Entry) → IsQuiet e → (unit : ℕ) → used_after used e unit ≡ used unit
quiet-used used e h unit =
    ap (λ (o : Option ℕ). is_unit unit o || used unit && not (empties unit e)) h.filled ∙ ap (λ (o : Option ℕ). used unit && not (is_unit unit o)) h.erased ∙ and-true (used unit)

pub quiet-idle : (used : ℕ → Bool) (e : Entry) → IsQuiet e → idle_of used e ≡ 0
quiet-idle used e h = ap (λ (o : Option ℕ). option_map_or (λ unit. if used unit then 0 else 1) o 0) h.erased

-- after quiet entries the same units got pages, and as many erases were idle
pub record SaysNothing (start : RunStart) (es xs : List Entry) : Type 0 where
  pub used : (unit : ℕ) → used_by start (es ++ xs) unit ≡ used_by start es unit
  pub idle : idle_erases start (es ++ xs) ≡ idle_erases start es

pub quiet-none : (start : RunStart) (es : List Entry) → SaysNothing start es []
quiet-none start es = record { used = λ unit. ap (λ (xs : List Entry). used_by start xs unit) (append-nil es); idle = ap (idle_erases start) (append-nil es) }

pub quiet-one : (start : RunStart) (es : List Entry) (e : Entry) → IsQuiet e → SaysNothing start es (e ∷ [])
quiet-one start es e h = record {
  used = λ unit. ap (λ (f : ℕ → Bool). f unit) (used-push start es e) ∙ quiet-used (used_by start es) e h unit;
  idle = omega (arith, idle-push start es e, quiet-idle (used_by start es) e h);
}

pub quiet-two : (start : RunStart) (es : List Entry) (a b : Entry) → IsQuiet a → IsQuiet b → SaysNothing start es (a ∷ b ∷ [])
quiet-two start es a b first second =
    let one = quiet-one start es a first in
    let two = quiet-one start (es ++ a ∷ []) b second in
    let cut : es ++ a ∷ b ∷ [] ≡ (es ++ a ∷ []) ++ b ∷ [] = sym (append_assoc es (a ∷ []) (b ∷ [])) in
    record {
      used = λ unit. ap (λ (xs : List Entry). used_by start xs unit) cut ∙ two.used unit ∙ one.used unit;
      idle = ap (idle_erases start) cut ∙ two.idle ∙ one.idle;
    }

-- an entry of a page: its unit got one, and no other; no erase is told
pub filled-used : (used : ℕ → Bool) (e : Entry) (unit : ℕ) → unit_filled e ≡ Some unit → unit_erased e ≡ None → used_after used e unit ≡ true
filled-used used e unit filled erased =
    ap (λ (o : Option ℕ). is_unit unit o || used unit && not (empties unit e)) filled ∙ ap (λ (b : Bool). b || used unit && not (empties unit e)) (eq-eqb unit unit refl)

pub filled-other : (used : ℕ → Bool) (e : Entry) (unit other : ℕ) → unit_filled e ≡ Some unit → unit_erased e ≡ None → other ≢ unit → used_after used e other ≡ used other
filled-other used e unit other filled erased ne =
    ap (λ (o : Option ℕ). is_unit other o || used other && not (empties other e)) filled
    ∙ ap (λ (b : Bool). b || used other && not (empties other e)) (ne_eqb unit other (λ same. ne (sym same)))
    ∙ ap (λ (o : Option ℕ). used other && not (is_unit other o)) erased ∙ and-true (used other)

pub filled-idle : (used : ℕ → Bool) (e : Entry) → unit_erased e ≡ None → idle_of used e ≡ 0
filled-idle used e erased = ap (λ (o : Option ℕ). option_map_or (λ unit. if used unit then 0 else 1) o 0) erased

-- an entry of an erase
pub erased-used : (used : ℕ → Bool) (e : Entry) (unit : ℕ) → unit_filled e ≡ None → unit_erased e ≡ Some unit → used_after used e unit ≡ false
erased-used used e unit filled erased =
    ap (λ (o : Option ℕ). is_unit unit o || used unit && not (empties unit e)) filled
    ∙ ap (λ (o : Option ℕ). used unit && not (is_unit unit o)) erased
    ∙ ap (λ (b : Bool). used unit && not b) (eq-eqb unit unit refl) ∙ and-false (used unit) where
      and-false : (b : Bool) → (b && false) ≡ false
      and-false true = refl
      and-false false = refl

pub erased-other : (used : ℕ → Bool) (e : Entry) (unit other : ℕ) → unit_filled e ≡ None → unit_erased e ≡ Some unit → other ≢ unit → used_after used e other ≡ used other
erased-other used e unit other filled erased ne =
    ap (λ (o : Option ℕ). is_unit other o || used other && not (empties other e)) filled
    ∙ ap (λ (o : Option ℕ). used other && not (is_unit other o)) erased
    ∙ ap (λ (b : Bool). used other && not b) (ne_eqb unit other (λ same. ne (sym same))) ∙ and-true (used other)

pub erased-idle : (used : ℕ → Bool) (e : Entry) (unit : ℕ) → unit_erased e ≡ Some unit → idle_of used e ≡ (if used unit then 0 else 1)
erased-idle used e unit erased = ap (λ (o : Option ℕ). option_map_or (λ unit. if used unit then 0 else 1) o 0) erased
