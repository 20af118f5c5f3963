-- Rows that are put into a table from the last to the first.
use Rattle.std.proofs.Common.{◌≡◌, ◌≢◌, ℕ, ◌+◌, ◌-◌, ◌<◌, ◌≤◌, true, false, List, [], ◌∷◌, ◌++◌, length, set, take, get_or, Option, refl, ap, sym, ◌∙◌, arith, cond, subst, eq-eqb, ne_eqb, ⊎_elim}
use Rattle.std.specs.Prelude.{if◌then◌else◌}
use Rattle.std.specs.Option.{option_flatten}
use Rattle.std.proofs.lemmas.Bool.{cases_eq}
use Rattle.std.proofs.lemmas.Bool.Decides.{nat_tests}
use Rattle.std.proofs.lemmas.List.{get_or-take, get_or_push, length_push, length-set, take-take, take_all, take_at}
use Rattle.std.proofs.lemmas.Option.{slice_get-get_or}
use Rattle.fdp_base.specs.Numbers.{is_among, with_at}
use Rattle.fdp_tables.specs.State.{row}
use Rattle.fdp_tables.proofs.Tables.{read-set}

-- the rows behind those that are left are put
pub record IsPutting {X : Type 0} (made : List (Option X)) (slba : ℕ) (xs left ys : List (Option X)) : Type 0 where
  pub fits : length left ≤ length made
  pub left_is : left ≡ take (length left) made
  pub placed : (lba : ℕ) → row ys lba ≡ (if is_among (slba + length left) (length made - length left) lba then row made (lba - slba) else row xs lba)
  pub size : length ys ≡ length xs

none_yet : (slba n lba : ℕ) → is_among (slba + n) (n - n) lba ≡ false
none_yet slba n lba = grind (arith, nat_tests)

all_of_them : (slba n lba : ℕ) → is_among (slba + 0) (n - 0) lba ≡ is_among slba n lba
all_of_them slba n lba = grind (arith, nat_tests)

this_one : (slba m n : ℕ) → m < n → is_among (slba + m) (n - m) (slba + m) ≡ true
this_one slba m n below = grind (arith, nat_tests)

another : (slba m n lba : ℕ) → m < n → lba ≢ slba + m → is_among (slba + (m + 1)) (n - (m + 1)) lba ≡ is_among (slba + m) (n - m) lba
another slba m n lba below ne = grind (arith, nat_tests)

module _ {X : Type 0} (made : List (Option X)) (slba : ℕ) (xs : List (Option X)) where
  pub putting_start : IsPutting made slba xs made xs
  putting_start = record {
    fits = omega arith;
    left_is = sym (take_all (length made) made (omega arith));
    placed = λ lba. sym (ap (λ b. if b then row made (lba - slba) else row xs lba) (none_yet slba (length made) lba));
    size = refl;
  }

  module _ (left rest : List (Option X)) (y : Option X) (ys : List (Option X)) (e : left ≡ rest ++ y ∷ []) (h : IsPutting made slba xs left ys) where
    longer : length left ≡ length rest + 1
    longer = ap length e ∙ length_push rest y

    within : length rest < length made
    within = omega (arith, longer, h.fits)

    last_is : row made (length rest) ≡ y
    last_is =
        let n = length rest in
        let at_end : get_or left n y ≡ y = ap (λ zs. get_or zs n y) e ∙ get_or_push rest y y n refl in
        let below : n < length left = omega (arith, longer) in
        let in_made : get_or left n y ≡ get_or made n y = ap (λ zs. get_or zs n y) h.left_is ∙ get_or-take (length left) made n y below in
        ap option_flatten (slice_get-get_or made n y within) ∙ sym in_made ∙ at_end

    rest_is : rest ≡ take (length rest) made
    rest_is =
        let n = length rest in
        let le : n ≤ length left = omega (arith, longer) in
        sym (take_at rest (y ∷ []) n refl) ∙ ap (take n) (sym e ∙ h.left_is) ∙ take-take n (length left) made le

    row_is : slba + length rest < length ys → (lba : ℕ) → row (set ys (slba + length rest) y) lba ≡ with_at (row ys) (slba + length rest) y lba
    row_is there lba = read-set option_flatten ys (slba + length rest) y there lba

    here : slba + length rest < length ys → row (set ys (slba + length rest) y) (slba + length rest) ≡ (if is_among (slba + length rest) (length made - length rest) (slba + length rest) then row made (slba + length rest - slba) else row xs (slba + length rest))
    here there =
        let place = slba + length rest in
        let offset : length rest ≡ place - slba = omega arith in
        row_is there place
        ∙ ap (λ b. cond b y (row ys place)) (eq-eqb place place refl)
        ∙ sym last_is
        ∙ ap (row made) offset
        ∙ sym (ap (λ b. cond b (row made (place - slba)) (row xs place)) (this_one slba (length rest) (length made) within))

    other : slba + length rest < length ys → (lba : ℕ) → lba ≢ slba + length rest → row (set ys (slba + length rest) y) lba ≡ (if is_among (slba + length rest) (length made - length rest) lba then row made (lba - slba) else row xs lba)
    other there lba ne =
        row_is there lba
        ∙ ap (λ b. cond b y (row ys lba)) (ne_eqb lba (slba + length rest) ne)
        ∙ h.placed lba
        ∙ ap (λ n. cond (is_among (slba + n) (length made - n) lba) (row made (lba - slba)) (row xs lba)) longer
        ∙ ap (λ b. cond b (row made (lba - slba)) (row xs lba)) (another slba (length rest) (length made) lba within ne)

    pub putting_next : slba + length rest < length ys → IsPutting made slba xs rest (set ys (slba + length rest) y)
    putting_next there = record {
      fits = omega (arith, within);
      left_is = rest_is;
      placed = λ lba.
          let goal : ℕ → Type 0 = λ l. row (set ys (slba + length rest) y) l ≡ (if is_among (slba + length rest) (length made - length rest) l then row made (l - slba) else row xs l) in
          ⊎_elim (λ (same : lba ≡ slba + length rest). subst goal (sym same) (here there)) (other there lba) (cases_eq lba (slba + length rest));
      size = length-set ys (slba + length rest) y ∙ h.size;
    }

  pub putting_end : (left ys : List (Option X)) → length left ≡ 0 → IsPutting made slba xs left ys → (lba : ℕ) → row ys lba ≡ (if is_among slba (length made) lba then row made (lba - slba) else row xs lba)
  putting_end left ys none h lba =
      h.placed lba
      ∙ ap (λ n. cond (is_among (slba + n) (length made - n) lba) (row made (lba - slba)) (row xs lba)) none
      ∙ ap (λ b. cond b (row made (lba - slba)) (row xs lba)) (all_of_them slba (length made) lba)
