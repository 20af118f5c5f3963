-- Owners and pointers: two ways to tell the same.
use Rattle.std.specs.Prelude.{◌≡◌, Bool, false, ◌&&◌, ◌==◌, Option, Some, if◌then◌else◌}
use Rattle.fdp_base.specs.declared.entry.Spot.{Spot}
use Rattle.fdp_pointers.specs.Facts.{Page}
use Rattle.fdp_pointers.specs.Pointers.{Behind, Pointer, Pointer.of_block, Pointer.of_flight}
use Rattle.fdp_owners.specs.declared.owner.Owner.{Owner}
use Rattle.fdp_owners.specs.OwnerTable.{pointer_of}

-- two pointers are the same
abbrev pub is_pointer : Pointer → Pointer → Bool
is_pointer (of_block nsid lba) (of_block n l) = nsid == n && lba == l
is_pointer (of_block nsid lba) (of_flight q i) = false
is_pointer (of_flight queue index) (of_block n l) = false
is_pointer (of_flight queue index) (of_flight q i) = queue == q && index == i

-- what stands behind the pointers, with another value behind one of them
abbrev pub with_pointer : {X : Type 0} → Behind X → Pointer → Option X → Behind X
with_pointer at p value q = if is_pointer q p then value else at q

-- a page as a pointer finds it
abbrev pub page_of : Spot → Owner → Page
page_of spot x = record { spot = spot; spare = x.spare }

-- the page of a pointer is owned by it
pub record IsOwned (owners : Spot → Option Owner) (p : Pointer) (y : Page) : Type 0 where
  pub owner : Owner
  pub is_owner : owners y.spot ≡ Some owner
  pub points : pointer_of owner ≡ p
  pub spare : owner.spare ≡ y.spare

-- a page has an owner exactly where a pointer leads there: the owner is that pointer, and knows the spare of the page
pub record AreOwners (owners : Spot → Option Owner) (at : Behind Page) : Type 0 where
  pub owned : (p : Pointer) (y : Page) → at p ≡ Some y → IsOwned owners p y
  pub led : (spot : Spot) (x : Owner) → owners spot ≡ Some x → at (pointer_of x) ≡ Some (page_of spot x)
