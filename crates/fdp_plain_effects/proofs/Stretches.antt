-- How far ranges hold each address, or none.
use Rattle.std.proofs.Common.{◌≡◌, ◌⊎◌, ℕ, ◌+◌, ◌<◌, ◌≤◌, Bool, true, false, List, Option, None, length, refl, ap, ◌∙◌, arith, ⊎_elim}
use Rattle.std.specs.Prelude.{◌||◌, ◌&&◌, if◌then◌else◌, nat_lt}
use Rattle.std.proofs.lemmas.Bool.Decides.{nat_tests}
use Rattle.fdp_base.specs.Numbers.{is_among}
use Rattle.fdp_base.specs.declared.command.Range.{Range}
use Rattle.fdp_rules.specs.Effect.{is_in_ranges}
use Rattle.fdp_tables.specs.State.{row}
use Rattle.fdp_tables.specs.Clearing.{IsCleared}
use Rattle.fdp_tables.proofs.Clearing.{cleared_same}

-- ranges hold each address from one up to an end, or, where that end is the address, none up to another end
pub record AreCovered (ranges : List Range) (lba held next : ℕ) : Type 0 where
  pub from : lba ≤ held
  pub goes_on : lba < next
  pub all : (k : ℕ) → lba ≤ k → k < held → is_in_ranges ranges k ≡ true
  pub none : held ≡ lba → (k : ℕ) → lba ≤ k → k < next → is_in_ranges ranges k ≡ false

left_of : (a b : Bool) → a ≡ true → (a || b) ≡ true
left_of true b h = refl
left_of false b h = absurd cc

right_of : (a b : Bool) → b ≡ true → (a || b) ≡ true
right_of true b h = refl
right_of false b h = h

neither : (a b : Bool) → a ≡ false → b ≡ false → (a || b) ≡ false
neither true b p q = p
neither false b p q = q

-- some ranges, with one more
module _ (old more : List Range) (r : Range) (each : (k : ℕ) → is_in_ranges more k ≡ (is_in_ranges old k || is_among r.slba r.length k)) (lba held next : ℕ) (was : AreCovered old lba held next) where
  kept : (k : ℕ) → lba ≤ k → k < held → is_in_ranges more k ≡ true
  kept k from below = each k ∙ left_of _ _ (was.all k from below)

  -- it begins behind the address
  pub covered_behind : (nearer : ℕ) → lba < r.slba → lba < nearer → nearer ≤ next → nearer ≤ r.slba → AreCovered more lba held nearer
  covered_behind nearer behind goes_on least before = record {
    from = was.from;
    goes_on = goes_on;
    all = kept;
    none = λ is k from below. each k ∙ neither _ _ (was.none is k from (omega arith)) (outside k (omega arith));
  } where
    outside : (k : ℕ) → k < r.slba → is_among r.slba r.length k ≡ false
    outside k below = grind (arith, nat_tests, below)

  -- it holds the address
  pub covered_farther : (farther : ℕ) → r.slba ≤ lba → lba < farther → farther ≤ r.slba + r.length ⊎ farther ≤ held → AreCovered more lba farther next
  covered_farther farther from_ holds reach = record {
    from = omega arith;
    goes_on = was.goes_on;
    all = λ k from below. each k ∙ ⊎_elim (λ there. right_of _ _ (inside k (omega arith) (omega arith))) (λ there. left_of _ _ (was.all k from (omega arith))) reach;
    none = λ is. absurd (omega arith);
  } where
    inside : (k : ℕ) → r.slba ≤ k → k < r.slba + r.length → is_among r.slba r.length k ≡ true
    inside k low high = grind (arith, nat_tests, low, high)

  -- it ends before it
  pub covered_apart : r.slba + r.length ≤ lba → AreCovered more lba held next
  covered_apart ends = record {
    from = was.from;
    goes_on = was.goes_on;
    all = kept;
    none = λ is k from below. each k ∙ neither _ _ (was.none is k from below) (beyond k (omega arith));
  } where
    beyond : (k : ℕ) → r.slba + r.length ≤ k → is_among r.slba r.length k ≡ false
    beyond k past = grind (arith, nat_tests, past)

-- rows below an end became absent, and there are none behind it
pub cleared_below : {X : Type 0} (old : List (Option X)) (all : ℕ → Bool) (end : ℕ) (new : List (Option X)) → length old ≤ end → IsCleared (λ k. nat_lt k end && all k) old new → (lba : ℕ) → row new lba ≡ (if all lba then None else row old lba)
cleared_below old all end new past h = (cleared_same old (λ k. nat_lt k end && all k) all new (λ k below. ap (λ b. b && all k) (under k below)) h).rows where
  under : (k : ℕ) → k < length old → nat_lt k end ≡ true
  under k below = grind (arith, nat_tests, below, past)
