-- The owner of each page of data.
use Rattle.std.specs.Prelude.{ℕ, ◌+◌, ◌*◌, ◌-◌, ◌≤◌, ◌<◌, List, Option, None, is_some, length, nat_lt, slice_index_or, if◌then◌else◌}
use Rattle.fdp_base.specs.declared.entry.Spot.{Spot}
use Rattle.fdp_base.specs.declared.spare.DataSpare.{DataSpare}
use Rattle.fdp_base.specs.Numbers.{count_below, with_at}
use Rattle.fdp_rules.specs.Sites.{is_spot}
use Rattle.fdp_pointers.specs.Pointers.{Pointer, Pointer.of_block, Pointer.of_flight}
use Rattle.fdp_owners.specs.declared.owner.Holder.{Holder}
use Rattle.fdp_owners.specs.declared.owner.Holder.TheVariants.{Block, Flight}
use Rattle.fdp_owners.specs.declared.owner.Owner.{Owner}

-- an owner or none for each page of data, unit by unit
pub record OwnerTable : Type 0 where
  pub unit_pages : ℕ
  pub pages : List (Option Owner)

-- a stored block by the namespace and address that the spare names; a block of a going write by the index that it names
abbrev pub pointer_in : Holder → DataSpare → Pointer
pointer_in Block spare = of_block spare.nsid spare.lba
pointer_in (Flight queue) spare = of_flight queue spare.index

-- who points to the page of an owner
abbrev pub pointer_of : Owner → Pointer
pointer_of x = pointer_in x.holder x.spare

-- the number of a page
abbrev pub page_number : ℕ → Spot → ℕ
page_number unit_pages spot = spot.unit * unit_pages + spot.page

-- a page of data that is there
pub record IsPlace (t : OwnerTable) (spot : Spot) : Type 0 where
  pub page : spot.page < t.unit_pages
  pub number : page_number t.unit_pages spot < length t.pages

-- the owner of a page; a page that is not there has none
abbrev pub owner_at : OwnerTable → Spot → Option Owner
owner_at t spot = if nat_lt spot.page t.unit_pages then slice_index_or t.pages (page_number t.unit_pages spot) None else None

-- the owners with another one, or none, at one page
abbrev pub with_owner : (Spot → Option Owner) → Spot → Option Owner → Spot → Option Owner
with_owner owners spot value at = if is_spot at spot then value else owners at

-- the pages of a unit that have an owner
abbrev pub live_in : OwnerTable → ℕ → ℕ
live_in t unit = count_below t.unit_pages (λ page. is_some (owner_at t (record { unit = unit; page = page })))

-- one page more of a unit is live, or one less
abbrev pub one_more : (ℕ → ℕ) → ℕ → ℕ → ℕ
one_more live unit = with_at live unit (live unit + 1)

abbrev pub one_less : (ℕ → ℕ) → ℕ → ℕ → ℕ
one_less live unit = with_at live unit (live unit - 1)

-- a page in the hands of another
abbrev pub held_by : Holder → Owner → Owner
held_by holder x = record x { holder = holder }

-- the pages are not too many, and a unit has one
pub record IsSized (t : OwnerTable) : Type 0 where
  pub pages : length t.pages ≤ 262144
  pub unit_pages : t.unit_pages ≤ 256
