-- What the change of a move names.
use Rattle.fdp_durability.specs.fdp_pages.Joined.{LieInOrder}
use Rattle.fdp_base.specs.declared.config.DriveConfig.{DriveConfig}
use Rattle.fdp_image.specs.Changed.{page_numbers}
use Rattle.fdp_records.specs.declared.change.Change.{Change}
use Rattle.fdp_records.specs.declared.change.Change.TheVariants as changes
use Rattle.fdp_records.specs.declared.change.UnitPages.{UnitPages}
use Rattle.fdp_records.specs.Records.{target_or_none}
use Rattle.std.specs.Prelude.{◌≡◌, ℕ, ◌+◌, ◌*◌, ◌<◌, ◌≤◌, ◌++◌, All, Contains, IfSome, IsTrue, map, false, List, [], ◌∷◌, None, Option, Some, length}
use Rattle.fdp_base.specs.declared.entry.Copied.{Copied}
use Rattle.fdp_base.specs.declared.entry.Spot.{Spot}
use Rattle.fdp_outline.specs.declared.moved_block.MovedBlock.{MovedBlock}
use Rattle.fdp_owners.specs.declared.owner.Owner.{Owner}
use Rattle.fdp_image.specs.Bits.{is_bit_set, pages_of_set}
use Rattle.fdp_records.specs.declared.page_set.PageSet.{PageSet}
use Rattle.fdp_records.specs.Limits.{names_unit, pages_in, second_pages}

-- a set has these pages, and none from a page on
pub record HasPages (set : PageSet) (pages : List ℕ) (next : ℕ) : Type 0 where
  pub size : length set.bits ≡ 32
  pub pages_are : pages_of_set set ≡ pages
  pub count : pages_in set ≡ length pages
  pub behind : (k : ℕ) → next ≤ k → is_bit_set set.bits k ≡ false

-- the block of a copy, as the owner of its old page knows it
abbrev pub moved_by_owner : Option Owner → MovedBlock
moved_by_owner None = record { name = record { nsid = 0; lba = 0 }; ruh = 0 }
moved_by_owner (Some x) = record { name = record { nsid = x.spare.nsid; lba = x.spare.lba }; ruh = x.spare.ruh }

abbrev pub moved_of : (Spot → Option Owner) → Copied → MovedBlock
moved_of owners x = moved_by_owner (owners x.from)

-- the old pages of these copies lie in one unit, each behind the one before, from a page on
abbrev pub OldInOrder : ℕ → ℕ → List Copied → Type 0
OldInOrder unit first [] = Unit {0}
OldInOrder unit first (x ∷ xs) = (x.from.unit ≡ unit) × (first ≤ x.from.page) × OldInOrder unit (x.from.page + 1) xs

-- a set has these pages, all of them before some page
pub record IsSetOf (set : PageSet) (pages : List ℕ) : Type 0 where
  pub next : ℕ
  pub has : HasPages set pages next

-- the new pages of these copies lie in order in some unit
pub record LieInSome (copies : List Copied) : Type 0 where
  pub unit : ℕ
  pub lie : LieInOrder unit 0 copies

-- the new pages of these copies lie in order in a unit, and then in another
pub record AreInRuns (copies : List Copied) : Type 0 where
  pub first : List Copied
  pub last : List Copied
  pub first_unit : ℕ
  pub last_unit : ℕ
  pub split : copies ≡ first ++ last
  pub first_lie : LieInOrder first_unit 0 first
  pub last_lie : LieInOrder last_unit 0 last

-- the numbers of the old and of the new pages of copies
abbrev pub old_numbers : DriveConfig → List Copied → List ℕ
old_numbers c copies = map (λ (x : Copied). x.from.unit * c.unit_pages + x.from.page) copies

abbrev pub new_numbers : DriveConfig → List Copied → List ℕ
new_numbers c copies = map (λ (x : Copied). x.to.unit * c.unit_pages + x.to.page) copies

-- some pages of a unit are the old pages of copies
pub record AreOldPages (pages : UnitPages) (copies : List Copied) : Type 0 where
  pub numbers : (c : DriveConfig) → page_numbers c pages ≡ old_numbers c copies
  pub count : pages_in pages.pages ≡ length copies

-- pages of a unit to which one of these copies goes, one at least
pub record IsTargetOf (copies : List Copied) (pages : UnitPages) : Type 0 where
  pub copy : Copied
  pub among : Contains copies copy
  pub unit_is : copy.to.unit ≡ pages.unit
  pub some : 0 < pages_in pages.pages

-- pages of one target, or of two, are the new pages of copies; each gets one at least, and the second is one that there may be
pub record AreNewPages (first : UnitPages) (second : Option UnitPages) (copies : List Copied) : Type 0 where
  pub numbers : (c : DriveConfig) → page_numbers c first ++ page_numbers c (target_or_none second) ≡ new_numbers c copies
  pub count : pages_in first.pages + second_pages second ≡ length copies
  pub named : IsTrue (names_unit second)
  pub first_target : IsTargetOf copies first
  pub second_target : IfSome second (IsTargetOf copies)

-- pages of a second target, one at least, or none are the new pages of copies
pub record AreSecondPages (second : Option UnitPages) (copies : List Copied) : Type 0 where
  pub numbers : (c : DriveConfig) → page_numbers c (target_or_none second) ≡ new_numbers c copies
  pub count : second_pages second ≡ length copies
  pub named : IsTrue (names_unit second)
  pub target : IfSome second (IsTargetOf copies)

-- pages of one unit are the new pages of copies
pub record AreNewIn (pages : UnitPages) (copies : List Copied) : Type 0 where
  pub numbers : (c : DriveConfig) → page_numbers c pages ≡ new_numbers c copies
  pub count : pages_in pages.pages ≡ length copies

-- the change of a move names these copies, and these handles
pub record IsMoveOf (copies : List Copied) (ruhs : List ℕ) (change : Change) : Type 0 where
  pub victim : UnitPages
  pub first : UnitPages
  pub second : Option UnitPages
  pub change_is : change ≡ changes.Moved victim first second ruhs
  pub old : AreOldPages victim copies
  pub new : AreNewPages first second copies
  pub unit : (u : ℕ) → OldInOrder u 0 copies → victim.unit ≡ u

-- copies that a record can name: at least one and at most 256, of pages of units that there may be; the old pages lie in order, the new ones in
-- order in one unit and then in another
pub record CanBeNamed (copies : List Copied) : Type 0 where
  pub some : 0 < length copies
  pub few : length copies ≤ 256
  pub old : All (λ (x : Copied). x.from.page < 256) copies
  pub new : All (λ (x : Copied). x.to.page < 256) copies
  pub units : All (λ (x : Copied). x.to.unit < 0xffff_ffff) copies
  pub runs : AreInRuns copies
  pub unit : ℕ
  pub order : OldInOrder unit 0 copies
