-- Which of the two areas is current, by the area of a saver and the other one.
use Rattle.std.proofs.Common.{◌≡◌, ℕ, zero, suc, ◌<◌, ◌≤◌, ◌⊎◌, Bool, true, false, List, Option, Some, None, refl, sym, ap, ◌∙◌, subst, arith, inl, inr, ⊎_elim}
use Rattle.std.specs.Prelude.{if◌then◌else◌, nat_lt, option_map}
use Rattle.std.proofs.lemmas.Bool.{cases_Bool}
use Rattle.std.proofs.lemmas.Bool.Decides.{nat_tests}
use Rattle.fdp_base.specs.declared.config.Geometry.{Geometry}
use Rattle.fdp_flash.specs.declared.cell.Cell.{Cell}
use Rattle.fdp_records.specs.declared.spare.Stamp.{Stamp}
use Rattle.fdp_image.specs.Areas.{Sealed, area_of, current_area, later_of, sealed_at, sealed_in}
use Rattle.fdp_saving.specs.Saver.{other_area}

pub two_areas : (a : ℕ) → a ≤ 1 → (a ≡ 0) ⊎ (a ≡ 1)
two_areas zero h = inl refl
two_areas (suc zero) h = inr refl
two_areas (suc (suc a)) h = absurd (omega arith)

-- what holds of both areas holds of one
pub for_both : (P : ℕ → Type 0) (a : ℕ) → a ≤ 1 → P 0 → P 1 → P a
for_both P a two first second = ⊎_elim (λ (is : a ≡ 0). subst P (sym is) first) (λ (is : a ≡ 1). subst P (sym is) second) (two_areas a two)

abbrev numbered : ℕ → Option Sealed → Option (ℕ × Sealed)
numbered area o = option_map (λ (x : Sealed). (area, x)) o

abbrev one_of : Bool → Sealed → Sealed → Option (ℕ × Sealed)
one_of later x y = if later then Some (1, y) else Some (0, x)

-- ---- the other area is not sealed

first_alone : (a : Option Sealed) → later_of (numbered 0 a) None ≡ numbered 0 a
first_alone None = refl
first_alone (Some x) = refl

abbrev IsAlone : Geometry → List Cell → ℕ → Type 0
IsAlone g cells area = sealed_in (area_of g (other_area area) cells) ≡ None → current_area g cells ≡ sealed_at g cells area

pub other_none : (g : Geometry) (cells : List Cell) (area : ℕ) → area ≤ 1 → sealed_in (area_of g (other_area area) cells) ≡ None → current_area g cells ≡ sealed_at g cells area
unfolding current_area
other_none g cells area two = for_both (IsAlone g cells) area two first second where
  first : IsAlone g cells 0
  first none = ap (λ (o : Option Sealed). later_of (sealed_at g cells 0) (numbered 1 o)) none ∙ first_alone (sealed_in (area_of g 0 cells))

  second : IsAlone g cells 1
  second none = ap (λ (o : Option Sealed). later_of (numbered 0 o) (sealed_at g cells 1)) none

-- ---- the other area is sealed with another journal, but no later

first_stays : (a : Option Sealed) (y z : Sealed) → z.stamp ≡ y.stamp → later_of (numbered 0 a) (numbered 1 (Some y)) ≡ numbered 0 a → later_of (numbered 0 a) (numbered 1 (Some z)) ≡ numbered 0 a
first_stays None y z same is = absurd cc
first_stays (Some x) y z same is = ⊎_elim later earlier (cases_Bool (nat_lt x.stamp.epoch y.stamp.epoch)) where
  later : nat_lt x.stamp.epoch y.stamp.epoch ≡ true → one_of (nat_lt x.stamp.epoch z.stamp.epoch) x z ≡ Some (0, x)
  later t =
      let wrong : Some (1, y) ≡ Some (0, x) = sym (ap (λ (b : Bool). one_of b x y) t) ∙ is in
      let pair : (1, y) ≡ (0, x) = cc in
      let number : 1 ≡ 0 = ap (λ (p : ℕ × Sealed). p.0) pair in
      absurd (omega (arith, number))

  earlier : nat_lt x.stamp.epoch y.stamp.epoch ≡ false → one_of (nat_lt x.stamp.epoch z.stamp.epoch) x z ≡ Some (0, x)
  earlier t = ap (λ (b : Bool). one_of b x z) (ap (λ (s : Stamp). nat_lt x.stamp.epoch s.epoch) same ∙ t)

second_stays : (b : Option Sealed) (y z : Sealed) → z.stamp ≡ y.stamp → later_of (numbered 0 (Some y)) (numbered 1 b) ≡ numbered 1 b → later_of (numbered 0 (Some z)) (numbered 1 b) ≡ numbered 1 b
second_stays None y z same is = absurd cc
second_stays (Some x) y z same is = ⊎_elim later earlier (cases_Bool (nat_lt y.stamp.epoch x.stamp.epoch)) where
  later : nat_lt y.stamp.epoch x.stamp.epoch ≡ true → one_of (nat_lt z.stamp.epoch x.stamp.epoch) z x ≡ Some (1, x)
  later t = ap (λ (b : Bool). one_of b z x) (ap (λ (s : Stamp). nat_lt s.epoch x.stamp.epoch) same ∙ t)

  earlier : nat_lt y.stamp.epoch x.stamp.epoch ≡ false → one_of (nat_lt z.stamp.epoch x.stamp.epoch) z x ≡ Some (1, x)
  earlier t =
      let wrong : Some (0, y) ≡ Some (1, x) = sym (ap (λ (b : Bool). one_of b y x) t) ∙ is in
      let pair : (0, y) ≡ (1, x) = cc in
      let number : 0 ≡ 1 = ap (λ (p : ℕ × Sealed). p.0) pair in
      absurd (omega (arith, number))

-- the other area has the version and epoch that it had
pub record IsAsLate (g : Geometry) (area : ℕ) (old new : List Cell) : Type 0 where
  pub before : Sealed
  pub after : Sealed
  pub sealed_before : sealed_in (area_of g (other_area area) old) ≡ Some before
  pub sealed_after : sealed_in (area_of g (other_area area) new) ≡ Some after
  pub stamp : after.stamp ≡ before.stamp

abbrev StaysCurrent : Geometry → List Cell → List Cell → ℕ → Type 0
StaysCurrent g old new area =
    IsAsLate g area old new → sealed_in (area_of g area new) ≡ sealed_in (area_of g area old) → current_area g old ≡ sealed_at g old area → current_area g new ≡ sealed_at g new area

pub stays_current : (g : Geometry) (old new : List Cell) (area : ℕ) → area ≤ 1 → StaysCurrent g old new area
unfolding current_area
stays_current g old new area two = for_both (StaysCurrent g old new) area two first second where
  first : StaysCurrent g old new 0
  first late own is =
      let a = sealed_in (area_of g 0 old) in
      let was : later_of (numbered 0 a) (numbered 1 (Some late.before)) ≡ numbered 0 a = ap (λ (o : Option Sealed). later_of (numbered 0 a) (numbered 1 o)) (sym late.sealed_before) ∙ is in
      (λ i. later_of (numbered 0 (own i)) (numbered 1 (late.sealed_after i))) ∙ first_stays a late.before late.after late.stamp was ∙ ap (numbered 0) (sym own)

  second : StaysCurrent g old new 1
  second late own is =
      let b = sealed_in (area_of g 1 old) in
      let was : later_of (numbered 0 (Some late.before)) (numbered 1 b) ≡ numbered 1 b = ap (λ (o : Option Sealed). later_of (numbered 0 o) (numbered 1 b)) (sym late.sealed_before) ∙ is in
      (λ i. later_of (numbered 0 (late.sealed_after i)) (numbered 1 (own i))) ∙ second_stays b late.before late.after late.stamp was ∙ ap (numbered 1) (sym own)

-- ---- the other area is sealed with a higher epoch

not_less : (a b : ℕ) → b < a → nat_lt a b ≡ false
not_less a b h = grind (arith, nat_tests)

less : (a b : ℕ) → a < b → nat_lt a b ≡ true
less a b h = grind (arith, nat_tests)

-- an area that is sealed has a lower epoch
abbrev pub IsBelow : Option Sealed → ℕ → Type 0
IsBelow own epoch = (x : Sealed) → own ≡ Some x → x.stamp.epoch < epoch

second_later : (a : Option Sealed) (z : Sealed) → IsBelow a z.stamp.epoch → later_of (numbered 0 a) (numbered 1 (Some z)) ≡ Some (1, z)
second_later None z below = refl
second_later (Some x) z below = ap (λ (b : Bool). one_of b x z) (less x.stamp.epoch z.stamp.epoch (below x refl))

first_later : (b : Option Sealed) (z : Sealed) → IsBelow b z.stamp.epoch → later_of (numbered 0 (Some z)) (numbered 1 b) ≡ Some (0, z)
first_later None z below = refl
first_later (Some x) z below = ap (λ (b : Bool). one_of b z x) (not_less z.stamp.epoch x.stamp.epoch (below x refl))

abbrev IsLater : Geometry → List Cell → Sealed → ℕ → Type 0
IsLater g cells z area = sealed_in (area_of g (other_area area) cells) ≡ Some z → IsBelow (sealed_in (area_of g area cells)) z.stamp.epoch → current_area g cells ≡ Some (other_area area, z)

pub other_later : (g : Geometry) (cells : List Cell) (z : Sealed) (area : ℕ) → area ≤ 1 → IsLater g cells z area
unfolding current_area
other_later g cells z area two = for_both (IsLater g cells z) area two first second where
  first : IsLater g cells z 0
  first sealed below = ap (λ (o : Option Sealed). later_of (sealed_at g cells 0) (numbered 1 o)) sealed ∙ second_later (sealed_in (area_of g 0 cells)) z below

  second : IsLater g cells z 1
  second sealed below = ap (λ (o : Option Sealed). later_of (numbered 0 o) (sealed_at g cells 1)) sealed ∙ first_later (sealed_in (area_of g 1 cells)) z below

-- ---- the same areas

abbrev IsSameChoice : Geometry → List Cell → List Cell → ℕ → Type 0
IsSameChoice g old new area =
    sealed_in (area_of g area new) ≡ sealed_in (area_of g area old) → sealed_in (area_of g (other_area area) new) ≡ sealed_in (area_of g (other_area area) old) → current_area g new ≡ current_area g old

pub same_choice : (g : Geometry) (old new : List Cell) (area : ℕ) → area ≤ 1 → IsSameChoice g old new area
unfolding current_area
same_choice g old new area two = for_both (IsSameChoice g old new) area two first second where
  first : IsSameChoice g old new 0
  first own other i = later_of (numbered 0 (own i)) (numbered 1 (other i))

  second : IsSameChoice g old new 1
  second own other i = later_of (numbered 0 (other i)) (numbered 1 (own i))
