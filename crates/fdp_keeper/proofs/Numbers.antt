-- The numbers of pages that lie in order.
use Rattle.std.proofs.Common.{◌≡◌, ℕ, zero, suc, ◌+◌, ◌*◌, ◌<◌, ◌≤◌, Bool, true, false, List, [], ◌∷◌, ◌++◌, length, map, take, drop, replicate, Option, Some, None, refl, ap, sym, ◌∙◌, subst, arith, get_or, length-append, ◌/◌, ◌%◌, eq-eqb}
use Rattle.std.specs.Prelude.{◌==◌, ◌&&◌, Contains, IfSome, count_ones, nat_le, slice_get, sum_by}
use Rattle.std.proofs.lemmas.Bool.{le-leb}
use Rattle.std.proofs.lemmas.List.{length-map, length-take, map-append, take-append-drop, take_all}
use Rattle.std.proofs.lemmas.List.Elements.{All-contains, All-contains_itself, All-drop}
use Rattle.std.proofs.lemmas.List.Sums.{sum_by-cons}
use Rattle.std.proofs.lemmas.Nat.{ones_le_self}
use Rattle.std.proofs.lemmas.Nat.Bits.{bit_at-zero}
use Rattle.fdp_base.specs.declared.config.DriveConfig.{DriveConfig}
use Rattle.fdp_base.specs.declared.entry.Copied.{Copied}
use Rattle.fdp_image.specs.Bits.{has_bit, is_bit_set, pages_of_set}
use Rattle.fdp_image.specs.Changed.{page_numbers}
use Rattle.fdp_durability.specs.fdp_pages.Joined.{LieInOrder}
use Rattle.fdp_durability.proofs.fdp_pages.Places.{place-contains}
use Rattle.fdp_records.specs.declared.change.Change.TheVariants as changes
use Rattle.fdp_records.specs.declared.page_set.PageSet.{PageSet}
use Rattle.fdp_records.specs.declared.change.UnitPages.{UnitPages}
use Rattle.fdp_records.specs.Limits.{is_within_limits, pages_in, second_pages}
use Rattle.fdp_records.specs.Records.{target_or_none}
use Rattle.fdp_keeper.specs.Moves.{AreNewIn, AreNewPages, AreOldPages, AreSecondPages, HasPages, IsSetOf, IsTargetOf, OldInOrder, new_numbers, old_numbers}
use Rattle.fdp_keeper.proofs.PageSets.{none-pass}

-- ---- the empty set

zero-bits : (n k : ℕ) → ◌≡◌ {A = ℕ} (get_or (replicate n 0) k 0) 0
zero-bits zero k = refl
zero-bits (suc n) zero = refl
zero-bits (suc n) (suc k) = zero-bits n k

no-bit : (k : ℕ) → is_bit_set (replicate 32 0) k ≡ false
no-bit k = ap (λ (n : ℕ). has_bit n (k % 8)) (zero-bits 32 (k / 8)) ∙ ap (λ (n : ℕ). n == 1) (bit_at-zero (k % 8))

no-ones : (n : ℕ) → sum_by count_ones (replicate n 0) ≡ 0
no-ones zero = refl
no-ones (suc n) =
    let none : count_ones 0 ≤ 0 = ones_le_self 0 in
    let rest : sum_by count_ones (replicate n 0) ≡ 0 = no-ones n in
    let all : sum_by count_ones (0 ∷ replicate n 0) ≡ count_ones 0 + sum_by count_ones (replicate n 0) = sum_by-cons count_ones 0 (replicate n 0) in
    all ∙ omega (arith, none, rest)

abbrev pub empty : PageSet
empty = record { bits = replicate 32 0 }

pub empty-has : HasPages empty [] 0
empty-has = record {
  size = refl;
  pages_are = none-pass (is_bit_set (replicate 32 0)) 0 256 (λ k low. no-bit k);
  count = no-ones 32;
  behind = λ k low. no-bit k;
}

-- ---- old pages

old-run : (c : DriveConfig) (unit first : ℕ) (xs : List Copied) → OldInOrder unit first xs → map (λ (page : ℕ). unit * c.unit_pages + page) (map (λ (x : Copied). x.from.page) xs) ≡ old_numbers c xs
old-run c unit first [] h = refl
old-run c unit first (x ∷ xs) h =
    ap (λ (u : ℕ). (u * c.unit_pages + x.from.page) ∷ map (λ (page : ℕ). unit * c.unit_pages + page) (map (λ (y : Copied). y.from.page) xs)) (sym h.0)
    ∙ ap (λ (ns : List ℕ). (x.from.unit * c.unit_pages + x.from.page) ∷ ns) (old-run c unit (x.from.page + 1) xs h.2)

pub old-head : (unit first : ℕ) (xs : List Copied) (d : Copied) → OldInOrder unit first xs → 0 < length xs → (get_or xs 0 d).from.unit ≡ unit
old-head unit first [] d h low = absurd (omega (arith, low))
old-head unit first (x ∷ xs) d h low = h.0

pub old-named : (unit named : ℕ) (s : PageSet) (xs : List Copied) → OldInOrder unit 0 xs → named ≡ unit → IsSetOf s (map (λ (x : Copied). x.from.page) xs) → AreOldPages (record { unit = named; pages = s }) xs
old-named unit named s xs h same set = record {
  numbers = λ c. ap (λ (u : ℕ). map (λ (page : ℕ). u * c.unit_pages + page) (pages_of_set s)) same ∙ ap (map (λ (page : ℕ). unit * c.unit_pages + page)) set.has.pages_are ∙ old-run c unit 0 xs h;
  count = set.has.count ∙ length-map xs (λ (x : Copied). x.from.page);
}

-- ---- new pages

new-run : (c : DriveConfig) (unit first : ℕ) (xs : List Copied) → LieInOrder unit first xs → map (λ (page : ℕ). unit * c.unit_pages + page) (map (λ (x : Copied). x.to.page) xs) ≡ new_numbers c xs
new-run c unit first [] h = refl
new-run c unit first (x ∷ xs) h =
    ap (λ (u : ℕ). (u * c.unit_pages + x.to.page) ∷ map (λ (page : ℕ). unit * c.unit_pages + page) (map (λ (y : Copied). y.to.page) xs)) (sym h.0)
    ∙ ap (λ (ns : List ℕ). (x.to.unit * c.unit_pages + x.to.page) ∷ ns) (new-run c unit (x.to.page + 1) xs h.2)

pub new-named : (unit : ℕ) (s : PageSet) (xs : List Copied) → LieInOrder unit 0 xs → IsSetOf s (map (λ (x : Copied). x.to.page) xs) → AreNewIn (record { unit = unit; pages = s }) xs
new-named unit s xs h set = record {
  numbers = λ c. ap (map (λ (page : ℕ). unit * c.unit_pages + page)) set.has.pages_are ∙ new-run c unit 0 xs h;
  count = set.has.count ∙ length-map xs (λ (x : Copied). x.to.page);
}

pub new-taken : (unit n : ℕ) (s : PageSet) (xs : List Copied) → n ≡ length xs → LieInOrder unit 0 xs → IsSetOf s (map (λ (x : Copied). x.to.page) (take n xs)) → AreNewIn (record { unit = unit; pages = s }) xs
new-taken unit n s xs all h set = new-named unit s xs h (subst (λ (ys : List Copied). IsSetOf s (map (λ (x : Copied). x.to.page) ys)) (take_all n xs (omega (arith, all))) set)

pub none-left : (xs : List Copied) → slice_get xs 0 ≡ None → AreSecondPages None xs
none-left [] is = record {
  numbers = λ c. ap (map (λ (page : ℕ). 0xffff_ffff * c.unit_pages + page)) empty-has.pages_are;
  count = refl;
  named = refl;
  target = tt;
}
none-left (x ∷ xs) is = absurd (some x is) where
  some : (y : Copied) → Some y ≡ None → ⊥
  some y e = cc

-- what is left of the copies are some of them
target-behind : (n : ℕ) (xs : List Copied) (second : Option UnitPages) → IfSome second (IsTargetOf (drop n xs)) → IfSome second (IsTargetOf xs)
target-behind n xs None h = tt
target-behind n xs (Some pages) h = record { copy = h.copy; among = All-contains (Contains xs) (drop n xs) h.copy (All-drop (Contains xs) n xs (All-contains_itself xs)) h.among; unit_is = h.unit_is; some = h.some }

-- both together
pub both-runs : (unit n : ℕ) (s : PageSet) (second : Option UnitPages) (xs : List Copied) (x : Copied) → slice_get xs 0 ≡ Some x → x.to.unit ≡ unit → 0 < n → LieInOrder unit 0 (take n xs) → IsSetOf s (map (λ (x : Copied). x.to.page) (take n xs)) → AreSecondPages second (drop n xs) → AreNewPages (record { unit = unit; pages = s }) second xs
both-runs unit n s second xs x is here some h set rest =
    let within : Contains xs x = place-contains xs 0 x is in
    let first : AreNewIn (record { unit = unit; pages = s }) (take n xs) = new-named unit s (take n xs) h set in
    record {
      numbers = λ c.
          ap (λ (ns : List ℕ). ns ++ page_numbers c (target_or_none second)) (first.numbers c)
          ∙ ap (λ (ns : List ℕ). new_numbers c (take n xs) ++ ns) (rest.numbers c)
          ∙ sym (map-append (λ (x : Copied). x.to.unit * c.unit_pages + x.to.page) (take n xs) (drop n xs))
          ∙ ap (new_numbers c) (take-append-drop n xs);
      count = omega (arith, first.count, rest.count, length-append (take n xs) (drop n xs), ap length (take-append-drop n xs));
      named = rest.named;
      first_target = record { copy = x; among = within; unit_is = here; some = omega (arith, first.count, length-take n xs, some, within.1) };
      second_target = target-behind n xs second rest.target;
    }

-- ---- limits

pub move-limits : (victim first : UnitPages) (second : Option UnitPages) (copies : List Copied) (handles : List ℕ) → length handles ≡ length copies → 0 < length copies → length copies ≤ 256 → AreOldPages victim copies → AreNewPages first second copies → is_within_limits (changes.Moved victim first second handles) ≡ true
unfolding is_within_limits
move-limits victim first second copies handles size some few old new =
    let low : nat_le 1 (length handles) ≡ true = le-leb 1 (length handles) (omega (arith, size, some)) in
    let high : nat_le (length handles) 256 ≡ true = le-leb (length handles) 256 (omega (arith, size, few)) in
    let olds : (length handles == pages_in victim.pages) ≡ true = eq-eqb (length handles) (pages_in victim.pages) (size ∙ sym old.count) in
    let news : (length handles == pages_in first.pages + second_pages second) ≡ true = eq-eqb (length handles) (pages_in first.pages + second_pages second) (size ∙ sym new.count) in
    all low high olds news new.named
  where
    all : {a b d e f : Bool} → a ≡ true → b ≡ true → d ≡ true → e ≡ true → f ≡ true → ((a && b) && d && e && f) ≡ true
    all a b d e f = λ i. (a i && b i) && d i && e i && f i
