use Rattle.std.proofs.Common.{◌≡◌, ◌≤◌, ℕ, List, [], ◌∷◌, length, map, Bool, true, false, not, ◌&&◌, None, Some, refl, sym, arith, nat_le, le-leb, if◌then◌else◌}
use Rattle.std.proofs.lemmas.Bool.Decides.{nat_tests}
use Rattle.std.proofs.lemmas.List.{length-map}
use Rattle.toml.specs.Data.{Data}
use Rattle.toml.specs.View.{view}
use Rattle.fdp_config.proofs.Checks.{checked_fails, checked_passes}
use Rattle.fdp_config.proofs.Handles.{handle_fault, list_all-handles, list_all-told}
use Rattle.fdp_config.proofs.Views.{reads_more, reads_stop, reads_all}
use Rattle.fdp_config.specs.declared.key.Key.TheVariants.{Namespaces}
use Rattle.fdp_base.specs.Numbers.{has_repeat}
use Rattle.fdp_config.specs.Ranges.{first_of, is_handle, handles_fault}
use Rattle.fdp_config.specs.Document.{amount_of}
use Rattle.fdp_config.specs.Reader.Config.{given}
use Rattle.fdp_config.proofs.namespaces.handles.Goals as goal

unless_all : (few repeats : Bool) (place : ℕ) → (if (few && false) && not repeats then None else Some place) ≡ Some place
unless_all true repeats place = refl
unless_all false repeats place = refl

-- one that is no handle is told
number_told : (count place told : ℕ) (ds : List Data) → first_of (handle_fault count) 0 ds ≡ Some told → handles_fault count place ds ≡ Some place
number_told count place told ds first = rw (list_all-told count 0 told ds first) (unless_all (nat_le (length ds) 16) (has_repeat (map (λ d. amount_of (Some d)) ds)) place)

-- where all are handles and few, a repeat decides
repeat_decides : (count place : ℕ) (ds : List Data) (repeats : Bool) → length ds ≤ 16 → first_of (handle_fault count) 0 ds ≡ None
    → has_repeat (map (λ d. amount_of (Some d)) ds) ≡ repeats → handles_fault count place ds ≡ (if not repeats then None else Some place)
repeat_decides count place ds repeats few first is = rw (le-leb (length ds) 16 few, list_all-handles count 0 ds first, is) refl

handle_is : (b : Bool) (a ruh : ℕ) → Some ruh ≡ (if b then Some a else None) → (b ≡ true) × (ruh ≡ a)
handle_is true a ruh is = let same : ruh ≡ a = cc in (refl, same)
handle_is false a ruh is = absurd (cc)

handle_is_none : (b : Bool) (a : ℕ) → None ≡ (if b then Some a else None) → b ≡ false
handle_is_none true a is = absurd (cc)
handle_is_none false a is = refl

pub returns-in-None : goal.returns-in-None
returns-in-None c _ =
    let fails : handle_fault c.args.listable c.loop-value.value-index (view c.value-item.result) ≡ Some c.loop-value.value-index =
    rw (handle_is_none (is_handle c.args.listable (view c.value-item.result)) (amount_of (Some (view c.value-item.result))) c.in-None.ensures) refl in
    let told = reads_stop _ _ _ _ _ _ _ c.loop-value.invariant (omega arith) c.value-item.is fails in
    checked_fails Namespaces _ _ c.args.place _ (number_told c.args.listable c.args.place _ _ told) c.out_of_range-in-None.ensures

pub loop-value-preserved : goal.loop-value-preserved
loop-value-preserved c =
    let (known, value) = handle_is (is_handle c.args.listable (view c.value-item.result)) (amount_of (Some (view c.value-item.result))) c.in-Some.ruh c.in-Some.ensures in
    let free : handle_fault c.args.listable c.loop-value.value-index (view c.value-item.result) ≡ None = rw known refl in
    reads_more _ _ _ _ _ _ _ _ c.loop-value.invariant (omega arith) c.value-item.is c.in_ok-push-in-Some.ensures.items value free

-- a list that has an element is given
given_list : (xs : List ℕ) → 1 ≤ length xs → given xs ≡ Some xs
given_list [] some = absurd (omega arith)
given_list (x ∷ xs) some = refl

pub returns : goal.returns
returns c =
    let (read, passed) = reads_all _ _ _ _ _ c.loop-value.invariant c.loop-value-test.false in
    let some : 1 ≤ length c.loop-value.list.items = grind (arith, nat_tests) in
    let few : length (map view c.args.values.now) ≤ 16 = simp length-map (omega arith) in
    let distinct : has_repeat (map (λ d. amount_of (Some d)) (map view c.args.values.now)) ≡ false = rw (← read, ← c.as_slice.ensures.value) (sym c.if-has_repeat.ensures) in
    let whole : given (map (λ d. amount_of (Some d)) (map view c.args.values.now)) ≡ Some c.from_vec.result = rw (← read, c.from_vec.ensures) (given_list _ some) in
    checked_passes Namespaces _ _ _ (repeat_decides c.args.listable c.args.place _ false few passed distinct) (sym whole)
