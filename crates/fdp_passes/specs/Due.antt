-- What the next step of relocation in a group is.
use Rattle.std.specs.Prelude.{◌≡◌, ◌⊎◌, ℕ, ◌+◌, ◌*◌, ◌≤◌, ◌<◌, Bool, Contains, IsTrue, IsFalse, List, [], Some, None, IsSome, MatchOption, length}
use Rattle.std.specs.Option.{option_map_or}
use Rattle.fdp_base.specs.declared.entry.Copied.{Copied}
use Rattle.fdp_base.specs.declared.entry.Spot.{Spot}
use Rattle.fdp_owners.specs.OwnerTable.{OwnerTable, owner_at}
use Rattle.fdp_passes.specs.declared.due.Due.{Due}
use Rattle.fdp_passes.specs.declared.due.Due.TheVariants.{Nothing, Copy, Move, Erase}
use Rattle.fdp_passes.specs.GroupPasses.{GroupPasses, Pass}
use Rattle.fdp_units.specs.DataUnits.{is_free}
use Rattle.fdp_units.specs.UnitTable.{HasNoVictim, IsVictim, UnitTable, count_in}

-- no page of a unit from this one on is live
abbrev pub HasNoLive : OwnerTable → ℕ → ℕ → Type 0
HasNoLive o unit first = (page : ℕ) → first ≤ page → owner_at o (record { unit = unit; page = page }) ≡ None

-- a page is live, and from a first page on none before it is
pub record IsFirstLive (o : OwnerTable) (first : ℕ) (spot : Spot) : Type 0 where
  pub behind : first ≤ spot.page
  pub live : IsSome (owner_at o spot)
  pub none : (page : ℕ) → first ≤ page → page < spot.page → owner_at o (record { unit = spot.unit; page = page }) ≡ None

-- the page at which a pass goes on, and what it copied; one that begins goes on at the first page, without copies
abbrev pub next_in : GroupPasses → ℕ
next_in p = option_map_or (λ (pass : Pass). pass.next) p.pass 0

abbrev pub copies_in : GroupPasses → List Copied
copies_in p = option_map_or (λ (pass : Pass). pass.copies) p.pass []

-- a page is an old page of one of the copies
abbrev pub IsOldPage : List Copied → Spot → Type 0
IsOldPage copies spot = (copy : Copied) × Contains copies copy × (copy.from ≡ spot)

-- of the pages that a pass has looked at those that are live are copied
abbrev pub HasCopied : GroupPasses → OwnerTable → Type 0
HasCopied p o = (pass : Pass) (page : ℕ) → p.pass ≡ Some pass → page < pass.next → IsSome (owner_at o (record { unit = pass.victim; page = page })) → IsOldPage pass.copies (record { unit = pass.victim; page = page })

-- relocation has work in a group: fewer than four units are free
abbrev pub IsShort : UnitTable → ℕ → Type 0
IsShort t rg = count_in t rg is_free < 4

-- the unit that is emptied: that of the pass under way, or the victim of a group that is short of free units
abbrev pub IsEmptied : GroupPasses → UnitTable → ℕ → ℕ → Type 0
IsEmptied p t rg unit = MatchOption p.pass (IsShort t rg × IsVictim t rg unit) (λ pass. pass.victim ≡ unit)

-- nothing is due: no pass is under way, and four units are free or relocation gains nothing. A copy is due: of the next live page.
-- A move is due: a pass has copies, and no live page is left to copy. An erase is due: there is no copy and no live page
abbrev pub IsDue : GroupPasses → UnitTable → OwnerTable → ℕ → Due → Type 0
IsDue p t o rg Nothing = (p.pass ≡ None) × ((4 ≤ count_in t rg is_free) ⊎ HasNoVictim t rg)
IsDue p t o rg (Copy spot) = IsEmptied p t rg spot.unit × IsFirstLive o (next_in p) spot
IsDue p t o rg Move = (pass : Pass) × (p.pass ≡ Some pass) × (pass.copies ≡ [] → ⊥) × HasNoLive o pass.victim pass.next
IsDue p t o rg (Erase unit) = IsEmptied p t rg unit × (copies_in p ≡ []) × HasNoLive o unit 0

-- what is due in a unit from a page on, where there are copies or none
abbrev pub IsDueIn : OwnerTable → ℕ → ℕ → Bool → Due → Type 0
IsDueIn o unit first has_copies Nothing = ⊥
IsDueIn o unit first has_copies (Copy spot) = (spot.unit ≡ unit) × IsFirstLive o first spot
IsDueIn o unit first has_copies Move = IsTrue has_copies × HasNoLive o unit first
IsDueIn o unit first has_copies (Erase other) = (other ≡ unit) × IsFalse has_copies × HasNoLive o unit first

-- each page of a unit has its place
abbrev pub HasPages : OwnerTable → ℕ → Type 0
HasPages o unit = (unit + 1) * o.unit_pages ≤ length o.pages

-- the tables are of one cut
pub record AreOfOneCut (p : GroupPasses) (t : UnitTable) (o : OwnerTable) : Type 0 where
  pub passes : p.unit_pages ≡ t.unit_pages
  pub owners : o.unit_pages ≡ t.unit_pages
  pub pages : length o.pages ≡ length t.groups * t.group_units * t.unit_pages
