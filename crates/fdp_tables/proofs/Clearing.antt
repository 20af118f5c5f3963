-- Rows that become absent.
use Rattle.std.proofs.Common.{◌≡◌, ℕ, ◌+◌, ◌-◌, ◌<◌, ◌≤◌, Bool, true, false, List, length, set, Option, None, refl, ap, sym, ◌∙◌, arith, cond, ⊎_elim}
use Rattle.std.specs.Prelude.{◌==◌, ◌||◌}
use Rattle.std.specs.Option.{option_flatten}
use Rattle.std.proofs.lemmas.Bool.{cases_lt, eqb-true}
use Rattle.std.proofs.lemmas.Bool.Decides.{nat_tests}
use Rattle.std.proofs.lemmas.List.{length-set}
use Rattle.std.proofs.lemmas.Option.{slice_get_past}
use Rattle.fdp_base.specs.Numbers.{is_among}
use Rattle.fdp_tables.specs.State.{row}
use Rattle.fdp_tables.proofs.Tables.{read-set}
use Rattle.fdp_tables.specs.Clearing.{IsCleared}

module _ {X : Type 0} (old : List (Option X)) where
  pub cleared_none : (at : ℕ → Bool) → ((lba : ℕ) → at lba ≡ false) → IsCleared at old old
  cleared_none at none = record { size = refl; rows = λ lba. sym (ap (λ b. cond b None (row old lba)) (none lba)) }

  both-clear : (a b : Bool) (o : Option X) → cond b None (cond a None o) ≡ cond (a || b) None o
  both-clear true true o = refl
  both-clear true false o = refl
  both-clear false b o = refl

  -- those at some places more
  pub cleared_more : (at more all : ℕ → Bool) (now new : List (Option X)) → ((lba : ℕ) → all lba ≡ (at lba || more lba)) → IsCleared at old now → IsCleared more now new → IsCleared all old new
  cleared_more at more all now new each h k = record {
    size = k.size ∙ h.size;
    rows = λ lba. k.rows lba ∙ ap (cond (more lba) None) (h.rows lba) ∙ both-clear (at lba) (more lba) (row old lba) ∙ sym (ap (λ b. cond b None (row old lba)) (each lba));
  }

  -- the same places, as far as there are rows
  pub cleared_same : (at all : ℕ → Bool) (new : List (Option X)) → ((lba : ℕ) → lba < length old → at lba ≡ all lba) → IsCleared at old new → IsCleared all old new
  cleared_same at all new same h = record {
    size = h.size;
    rows = λ lba.
        let beyond : length old ≤ lba → row new lba ≡ cond (all lba) None (row old lba) = λ past.
        let none : row old lba ≡ None = ap option_flatten (slice_get_past old lba past) in
        h.rows lba ∙ nothing (at lba) (row old lba) none ∙ sym (nothing (all lba) (row old lba) none) in
        ⊎_elim (λ below. h.rows lba ∙ ap (λ b. cond b None (row old lba)) (same lba below)) beyond (cases_lt lba (length old));
  } where
    nothing : (b : Bool) (o : Option X) → o ≡ None → cond b None o ≡ None
    nothing true o none = refl
    nothing false o none = none

-- one row
pub cleared_one : {X : Type 0} (old : List (Option X)) (place : ℕ) → place < length old → IsCleared (λ lba. lba == place) old (set old place None)
cleared_one old place there = record { size = length-set old place None; rows = λ lba. read-set option_flatten old place None there lba }

-- a place that has nothing
pub cleared_absent : {X : Type 0} (old : List (Option X)) (place : ℕ) → row old place ≡ None → IsCleared (λ lba. lba == place) old old
cleared_absent {X} old place none = record { size = refl; rows = λ lba. of_test lba (lba == place) refl } where
  of_test : (lba : ℕ) (b : Bool) → (lba == place) ≡ b → row old lba ≡ cond b None (row old lba)
  of_test lba true same = ap (row old) (eqb-true lba place same) ∙ none
  of_test lba false other = refl

-- one address more of those from the first on
pub among_next : (slba lba k : ℕ) → slba ≤ lba → is_among slba (lba + 1 - slba) k ≡ (is_among slba (lba - slba) k || (k == lba))
among_next slba lba k from = grind (arith, nat_tests)

pub among_none : (slba k : ℕ) → is_among slba (slba - slba) k ≡ false
among_none slba k = grind (arith, nat_tests)

-- ---- places that are cleared from one on

among_more : (slba lba next k : ℕ) → slba ≤ lba → lba < next → is_among slba (next - slba) k ≡ (is_among slba (lba - slba) k || is_among lba (next - lba) k)
among_more slba lba next k from on = grind (arith, nat_tests, from, on)

-- it has come so far
pub record IsClearing {X : Type 0} (old : List (Option X)) (slba end lba : ℕ) (now : List (Option X)) : Type 0 where
  pub from : slba ≤ lba
  pub within : slba < lba → lba ≤ end
  pub cleared : IsCleared (is_among slba (lba - slba)) old now

module _ {X : Type 0} (old : List (Option X)) (slba end : ℕ) where
  pub clearing_start : IsClearing old slba end slba old
  clearing_start = record { from = omega arith; within = λ less. absurd (omega (arith, less)); cleared = cleared_none old (is_among slba (slba - slba)) (among_none slba) }

  pub clearing_next : (lba : ℕ) (now : List (Option X)) (next : ℕ) (new : List (Option X)) → IsClearing old slba end lba now → lba < next → next ≤ end → IsCleared (is_among lba (next - lba)) now new → IsClearing old slba end next new
  clearing_next lba now next new h on ends more = record {
    from = omega (arith, h.from, on);
    within = λ less. ends;
    cleared = cleared_more old (is_among slba (lba - slba)) (is_among lba (next - lba)) (is_among slba (next - slba)) now new (λ k. among_more slba lba next k h.from on) h.cleared more;
  }

  same_among : (count lba k : ℕ) → slba ≤ lba → (slba < lba → lba ≤ slba + count) → (k < slba + count → k < lba) → is_among slba (lba - slba) k ≡ is_among slba count k
  same_among count lba k from within low = ⊎_elim
      (λ less. let most : lba ≤ slba + count = within less in ⊎_elim
      (λ below. let up : k < lba = low below in grind (arith, nat_tests, from, up, below))
      (λ past. grind (arith, nat_tests, from, most, past))
      (cases_lt k (slba + count)))
      (λ all. ⊎_elim
      (λ below. let up : k < lba = low below in grind (arith, nat_tests, from, up, below, all))
      (λ past. grind (arith, nat_tests, from, all, past))
      (cases_lt k (slba + count)))
      (cases_lt slba lba)

  pub clearing_end : (count lba : ℕ) (now : List (Option X)) → end ≤ slba + count → ((k : ℕ) → k < length old → k < slba + count → k < end) → end ≤ lba → IsClearing old slba end lba now → (k : ℕ) → row now k ≡ cond (is_among slba count k) None (row old k)
  clearing_end count lba now most all past h =
      (cleared_same old (is_among slba (lba - slba)) (is_among slba count) now
      (λ k there. same_among count lba k h.from (λ less. let w : lba ≤ end = h.within less in omega (arith, w, most)) (λ low. let e : k < end = all k there low in omega (arith, e, past))) h.cleared).rows
