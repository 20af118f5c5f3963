-- What is kept beside the units of a group, when it is made and when one unit is replaced.
use Rattle.std.proofs.Common.{◌≡◌, ℕ, zero, suc, ◌+◌, ◌*◌, ◌<◌, ◌≤◌, Bool, true, false, List, [], ◌∷◌, ◌++◌, Option, None, Some, refl, ap, sym, ◌∙◌, arith, cond, replicate, set, length, map, get_or, subst, append_assoc}
use Rattle.std.specs.Prelude.{All, count_by, sum_by}
use Rattle.std.proofs.Math.Nat.{le-mul_of_pos_right}
use Rattle.std.proofs.Math.Seq.{set-append_seam}
use Rattle.std.proofs.lemmas.List.{length-replicate, length-set, map-set, replicate_more}
use Rattle.std.proofs.lemmas.List.Elements.{All-replicate, All-set, All-weaker}
use Rattle.std.proofs.lemmas.List.Folds.{sum_by-replicate}
use Rattle.std.proofs.lemmas.List.Sums.{sum_by-le, sum_by-set}
use Rattle.fdp_units.specs.declared.data_unit.DataUnit.{DataUnit}
use Rattle.fdp_units.specs.declared.state.UnitState.{UnitState}
use Rattle.fdp_units.specs.declared.state.UnitState.TheVariants.{Free, Referenced, Target, Closed, Retired, Aside}
use Rattle.fdp_units.specs.declared.tally.Tally.{Tally}
use Rattle.fdp_units.specs.DataUnits.{IsSound, free_key, free_unit, is_free, is_lost, no_unit, gain_in, gain_of, victim_key}
use Rattle.fdp_units.specs.GroupTable.{IsBelow, IsKept, Replaces, tally_of, tally_of_unit}

-- the element behind so many is replaced
set-next : {X : Type 0} (a b y : X) (n m : ℕ) → set (replicate n a ++ replicate (suc m) b) n y ≡ replicate n a ++ y ∷ replicate m b
set-next a b y n m =
    let size : length (replicate n a) ≡ n = length-replicate n a in
    ap (λ (k : ℕ). set (replicate n a ++ b ∷ replicate m b) k y) (sym size) ∙ set-append_seam (replicate n a) b (replicate m b) y

-- one place more has the key of a free unit; `left` places had none
pub next-set : (index left fewer : ℕ) (keys new : List (Option ℕ)) → left ≡ suc fewer → keys ≡ replicate index (Some 0) ++ replicate left None → new ≡ set keys index (Some 0) → new ≡ replicate (index + 1) (Some 0) ++ replicate fewer None
next-set index left fewer keys new less were is =
    let cut : keys ≡ replicate index (Some 0) ++ replicate (suc fewer) None = were ∙ ap (λ (n : ℕ). replicate index (Some 0) ++ replicate n None) less in
    let put : set keys index (Some 0) ≡ replicate index (Some 0) ++ Some 0 ∷ replicate fewer None = ap (λ (ks : List (Option ℕ)). set ks index (Some 0)) cut ∙ set-next (Some 0) None (Some 0) index fewer in
    let one : replicate index (Some 0) ++ Some 0 ∷ replicate fewer None ≡ replicate (index + 1) (Some 0) ++ replicate fewer None =
    sym (append_assoc (replicate index (Some 0)) (Some 0 ∷ []) (replicate fewer None)) ∙ ap (λ (ks : List (Option ℕ)). ks ++ replicate fewer None) (replicate_more index (Some 0)) in
    is ∙ put ∙ one

-- ---- how large the counts are

gain-bound : (pages : ℕ) (state : UnitState) (next live : ℕ) → next ≤ pages → gain_in pages state next live ≤ pages
gain-bound pages Free next live most = omega arith
gain-bound pages Referenced next live most = omega arith
gain-bound pages Target next live most = omega (arith, most)
gain-bound pages Closed next live most = omega arith
gain-bound pages Retired next live most = omega arith
gain-bound pages Aside next live most = omega arith

test-bound : (b : Bool) → cond b 1 0 ≤ 1
test-bound true = omega arith
test-bound false = omega arith

counted-bound : (test : DataUnit → Bool) (xs : List DataUnit) (pages : ℕ) → 1 ≤ pages → length xs * pages ≤ 262144 → count_by test xs ≤ 262144
counted-bound test xs pages some size =
    let most = sum_by-le (λ (x : DataUnit). cond (test x) 1 0) 1 xs (λ i d low. test-bound (test (get_or xs i d))) in
    let more : length xs ≤ length xs * pages = le-mul_of_pos_right (length xs) (omega (arith, some)) in
    omega (arith, most, more, size)

-- no count is above the number of pages
pub whole-bound : (pages : ℕ) (xs : List DataUnit) (tally : Tally) → 1 ≤ pages → length xs * pages ≤ 262144 → All (IsSound pages) xs → tally ≡ tally_of pages xs → IsBelow 262144 tally
whole-bound pages xs tally some size sound is = subst (IsBelow 262144) (sym is) (record {
  free = counted-bound (λ x. is_free x.state) xs pages some size;
  lost = counted-bound (λ x. is_lost x.state) xs pages some size;
  toil =
      let most = sum_by-le (gain_of pages) pages xs (All-weaker (IsSound pages) (λ (x : DataUnit). gain_of pages x ≤ pages) (λ x h. gain-bound pages x.state x.next x.live h.next) xs sound) in
      omega (arith, most, size);
})

-- ---- one unit is replaced

pub tally-set : (pages : ℕ) (xs : List DataUnit) (i : ℕ) (x : DataUnit) (whole new : Tally) → i < length xs → whole ≡ tally_of pages xs → Replaces whole (tally_of_unit pages (get_or xs i no_unit)) (tally_of_unit pages x) new → new ≡ tally_of pages (set xs i x)
tally-set pages xs i x whole new there is h =
    let free : new.free ≡ count_by (λ (y : DataUnit). is_free y.state) (set xs i x) = omega (arith, h.free, ap (λ (t : Tally). t.free) is, sum_by-set (λ (y : DataUnit). cond (is_free y.state) 1 0) xs i x no_unit there) in
    let lost : new.lost ≡ count_by (λ (y : DataUnit). is_lost y.state) (set xs i x) = omega (arith, h.lost, ap (λ (t : Tally). t.lost) is, sum_by-set (λ (y : DataUnit). cond (is_lost y.state) 1 0) xs i x no_unit there) in
    let toil : new.toil ≡ sum_by (gain_of pages) (set xs i x) = omega (arith, h.toil, ap (λ (t : Tally). t.toil) is, sum_by-set (gain_of pages) xs i x no_unit there) in
    λ k. record { free = free k; lost = lost k; toil = toil k }

pub kept-set : (pages : ℕ) (xs : List DataUnit) (victims free victims' free' : List (Option ℕ)) (tally new : Tally) (i : ℕ) (x : DataUnit) → IsKept pages xs victims free tally → i < length xs → IsSound pages x
    → victims' ≡ set victims i (victim_key pages x) → free' ≡ set free i (free_key x)
    → Replaces tally (tally_of_unit pages (get_or xs i no_unit)) (tally_of_unit pages x) new
    → IsKept pages (set xs i x) victims' free' new
kept-set pages xs victims free victims' free' tally new i x h there sound by_live by_number replaces = record {
  size = let same : length (set xs i x) ≡ length xs = length-set xs i x in subst (λ (n : ℕ). n * pages ≤ 262144) (sym same) h.size;
  some = h.some;
  sound = All-set (IsSound pages) xs i x sound h.sound;
  by_live = by_live ∙ ap (λ (keys : List (Option ℕ)). set keys i (victim_key pages x)) h.by_live ∙ sym (map-set (victim_key pages) xs i x);
  by_number = by_number ∙ ap (λ (keys : List (Option ℕ)). set keys i (free_key x)) h.by_number ∙ sym (map-set free_key xs i x);
  counted = tally-set pages xs i x tally new there h.counted replaces;
}

-- ---- all units are free

map-same : {X Y : Type 0} (f : X → Y) (n : ℕ) (x : X) → map f (replicate n x) ≡ replicate n (f x)
map-same f zero x = refl
map-same f (suc n) x = ap (λ (ys : List _). f x ∷ ys) (map-same f n x)

free-sound : (pages : ℕ) → 1 ≤ pages → IsSound pages free_unit
free-sound pages some = record { some = some; next = omega arith; live = omega arith; free = λ is. refl; room = λ is. omega (arith, some) }

pub kept-new : (pages count : ℕ) (xs : List DataUnit) (victims free : List (Option ℕ)) → 1 ≤ pages → count * pages ≤ 262144 → xs ≡ replicate count free_unit → victims ≡ replicate count None → free ≡ replicate count (Some 0)
    → IsKept pages xs victims free (record { free = count; lost = 0; toil = 0 })
kept-new pages count xs victims free some size units none zeros =
    subst (λ (ys : List DataUnit). IsKept pages ys victims free (record { free = count; lost = 0; toil = 0 })) (sym units) (record {
      size = let same : length (replicate count free_unit) ≡ count = length-replicate count free_unit in subst (λ (n : ℕ). n * pages ≤ 262144) (sym same) size;
      some = some;
      sound = All-replicate (IsSound pages) count free_unit (free-sound pages some);
      by_live = none ∙ sym (map-same (victim_key pages) count free_unit);
      by_number = zeros ∙ sym (map-same free_key count free_unit);
      counted =
          let counts : (f : DataUnit → ℕ) (n : ℕ) → count * f free_unit ≡ n → n ≡ sum_by f (replicate count free_unit) = λ f n e. sym e ∙ sym (sum_by-replicate f count free_unit) in
          let all : count ≡ count_by (λ (x : DataUnit). is_free x.state) (replicate count free_unit) = counts (λ (x : DataUnit). cond (is_free x.state) 1 0) count (omega arith) in
          let lost : 0 ≡ count_by (λ (x : DataUnit). is_lost x.state) (replicate count free_unit) = counts (λ (x : DataUnit). cond (is_lost x.state) 1 0) 0 (omega arith) in
          let toil : 0 ≡ sum_by (gain_of pages) (replicate count free_unit) = counts (gain_of pages) 0 (omega arith) in
          λ k. record { free = all k; lost = lost k; toil = toil k };
    })
