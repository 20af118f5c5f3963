-- Where pages are, and what an owner that a page has tells.
use Rattle.std.proofs.Common.{◌≡◌, ℕ, ◌+◌, ◌*◌, ◌<◌, ◌≤◌, true, false, List, Option, Some, None, refl, ap, sym, subst, arith, length}
use Rattle.std.specs.Prelude.{Contains, IsSome, slice_get, slice_index_or}
use Rattle.std.proofs.lemmas.Option.{get_or_from_slice_get, slice_get_within}
use Rattle.std.proofs.Math.Nat.{mul-le-mul_right}
use Rattle.fdp_base.specs.declared.config.Class.{Class}
use Rattle.fdp_base.specs.declared.config.Class.TheVariants.{Initial}
use Rattle.fdp_base.specs.declared.entry.Spot.{Spot}
use Rattle.fdp_base.specs.declared.spare.DataSpare.{DataSpare}
use Rattle.fdp_collector.specs.Ready.{lane_at}
use Rattle.fdp_owners.specs.declared.owner.Owner.{Owner}
use Rattle.fdp_owners.specs.OwnerTable.{IsPlace, OwnerTable}
use Rattle.fdp_pages.specs.Joined.{AreSized}
use Rattle.fdp_passes.specs.GroupPasses.{lane_of}
use Rattle.fdp_units.specs.UnitTable.{IsUnit, UnitTable}

number-below : (unit units pages page : ℕ) → unit < units → page < pages → unit * pages + page < units * pages
number-below unit units pages page low small =
    let more : (unit + 1) * pages ≤ units * pages = mul-le-mul_right pages (omega (arith, low)) in
    let sum : (unit + 1) * pages ≡ unit * pages + pages = omega arith in
    omega (arith, more, sum, small)

-- a page of a unit that is there has its place among the owners
pub place-there : (t : UnitTable) (o : OwnerTable) (spot : Spot) → AreSized t o → IsUnit t spot.unit → spot.page < t.unit_pages → IsPlace o spot
place-there t o spot sized is low =
    let below = number-below spot.unit (length t.groups * t.group_units) t.unit_pages spot.page is low in
    record {
      page = omega (arith, low, sized.unit_pages);
      number = subst (λ (k : ℕ). spot.unit * k + spot.page < length o.pages) (sym sized.unit_pages) (omega (arith, below, sized.pages));
    }

-- an owner or none
pub owner-cases : (C : Type 0) (x : Option Owner) → (x ≡ None → C) → ((y : Owner) → x ≡ Some y → C) → C
owner-cases C None f g = f refl
owner-cases C (Some y) f g = g y refl

pub no : false ≡ true → ⊥
no e = cc

pub never : {X : Type 0} (x : X) → None ≡ Some x → ⊥
never x e = cc

pub one : {X : Type 0} {a b : X} → Some a ≡ Some b → a ≡ b
one e = cc

pub some-is : (x : Option Owner) → IsSome x → (y : Owner) × (x ≡ Some y)
some-is None e = absurd (no e)
some-is (Some y) e = (y, refl)

-- an owner that a page had, in the same hands or in others
pub record IsFrom (old : Option Owner) (x : Owner) : Type 0 where
  pub owner : Owner
  pub was : old ≡ Some owner
  pub spare : owner.spare ≡ x.spare

pub same-from : (old : Option Owner) (x : Owner) → old ≡ Some x → IsFrom old x
same-from old x e = record { owner = x; was = e; spare = refl }

-- it goes the same way
pub same-lane : (classes : List Class) (x y : Owner) → x.spare ≡ y.spare → lane_at classes y ≡ lane_at classes x
same-lane classes x y same = ap (λ (s : DataSpare). lane_of (slice_index_or classes s.ruh Initial) s.ruh) (sym same)

pub from-lane : (classes : List Class) (old : Option Owner) (y : Owner) (f : IsFrom old y) → lane_at classes y ≡ lane_at classes f.owner
from-lane classes old y f = same-lane classes f.owner y f.spare

-- ---- lists

pub place-contains : {X : Type 0} (xs : List X) (i : ℕ) (x : X) → slice_get xs i ≡ Some x → Contains xs x
place-contains xs i x e = (i, slice_get_within xs i x e, get_or_from_slice_get xs i x x e)
