-- What the move of a pass makes of the owners of pages, and which blocks it moves.
use Rattle.std.specs.Prelude.{◌≡◌, ◌≢◌, All, AllPairs, List, Option, Some, None, is_some, filter_map, fold, if◌then◌else◌, option_and_then}
use Rattle.fdp_base.specs.declared.entry.BlockName.{BlockName}
use Rattle.fdp_base.specs.declared.entry.Copied.{Copied}
use Rattle.fdp_base.specs.declared.entry.Spot.{Spot}
use Rattle.fdp_base.specs.declared.spare.DataSpare.{DataSpare}
use Rattle.fdp_owners.specs.declared.owner.Holder.{Holder}
use Rattle.fdp_owners.specs.declared.owner.Holder.TheVariants.{Block, Flight}
use Rattle.fdp_owners.specs.declared.owner.Owner.{Owner}
use Rattle.fdp_owners.specs.OwnerTable.{with_owner}

-- the block that a page is kept for, if it is kept for one
abbrev pub name_in : Holder → DataSpare → Option BlockName
name_in Block spare = Some (record { nsid = spare.nsid; lba = spare.lba })
name_in (Flight queue) spare = None

abbrev pub name_of : Owner → Option BlockName
name_of x = name_in x.holder x.spare

-- the block whose page is this one, if there is one
abbrev pub name_at : (Spot → Option Owner) → Spot → Option BlockName
name_at owners spot = option_and_then name_of (owners spot)

-- the blocks whose pages are old pages of these copies, in their order
abbrev pub names_of : (Spot → Option Owner) → List Copied → List BlockName
names_of owners copies = filter_map (λ (x : Copied). name_at owners x.from) copies

-- the owner of the old page of a copy gets the new page; where the old page has none any more, nothing changes
abbrev pub with_moved : (Spot → Option Owner) → Copied → Spot → Option Owner
with_moved owners x = if is_some (owners x.from) then with_owner (with_owner owners x.from None) x.to (owners x.from) else owners

-- that of one copy after another
abbrev pub owners_moved : (Spot → Option Owner) → List Copied → Spot → Option Owner
owners_moved owners copies = fold with_moved owners copies

-- two copies have two old pages and two new ones
abbrev pub AreTwo : Copied → Copied → Type 0
AreTwo x z = (x.from ≢ z.from) × (x.to ≢ z.to)

-- copies that may be moved: no new page has an owner or is an old page, and no two copies share a page
pub record AreMovable (owners : Spot → Option Owner) (copies : List Copied) : Type 0 where
  pub unowned : All (λ (x : Copied). owners x.to ≡ None) copies
  pub fresh : All (λ (x : Copied). All (λ (z : Copied). z.from ≢ x.to) copies) copies
  pub apart : AllPairs AreTwo copies
