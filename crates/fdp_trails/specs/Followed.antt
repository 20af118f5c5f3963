-- How the copies of a pass follow what a history says that relocation copied.
use Rattle.std.specs.Prelude.{◌≡◌, ◌≢◌, ◌⊎◌, ℕ, ◌+◌, ◌≤◌, ◌<◌, All, List, [], ◌∷◌, ◌++◌, Option, Some, None, IfSome, map}
use Rattle.fdp_base.specs.declared.config.DriveConfig.{DriveConfig}
use Rattle.fdp_base.specs.declared.entry.Copied.{Copied}
use Rattle.fdp_base.specs.declared.entry.Entry.{Entry}
use Rattle.fdp_base.specs.declared.entry.Entry.TheVariants as entries
use Rattle.fdp_base.specs.declared.entry.Spot.{Spot}
use Rattle.fdp_rules.specs.Point.{Copy, Trail}
use Rattle.fdp_rules.specs.Sites.{group_of, pass_in}
use Rattle.fdp_pointers.specs.Facts.{Page}
use Rattle.fdp_pointers.specs.Pointers.{Behind, Pointer}
use Rattle.fdp_passes.specs.Due.{copies_in, next_in}
use Rattle.fdp_passes.specs.GroupPasses.{GroupPasses, Pass}

-- a copy of a pass, as a trail lists it
abbrev pub copy_of : Copied → Copy
copy_of x = record { from = x.from; to = x.to }

-- no pointer leads to the old page of a copy
abbrev pub IsDead : Behind Page → Copy → Type 0
IsDead at x = (p : Pointer) (y : Page) → at p ≡ Some y → y.spot ≢ x.from

-- The pass that a trail tells of a group ends with these copies. What it has before them is stale: copies of the same unit that an
-- earlier pass made and never moved. No pointer leads to their old pages, so the move of the pass leaves them alone
pub record FollowsPass (at : Behind Page) (t : Trail) (rg : ℕ) (copies : List Copied) : Type 0 where
  pub stale : List Copy
  pub listed : pass_in t rg ≡ stale ++ map copy_of copies
  pub dead : All (IsDead at) stale

-- a copy of a pass: its old page is one of the victim that the pass has passed, its new page lies in another unit
pub record IsCopyOf (pass : Pass) (x : Copied) : Type 0 where
  pub old_unit : x.from.unit ≡ pass.victim
  pub passed : x.from.page < pass.next
  pub new_unit : x.to.unit ≢ pass.victim

-- a pass has copies of its own; as long as it has some, the trail of its group ends with them
pub record IsFollowed (at : Behind Page) (t : Trail) (rg : ℕ) (pass : Pass) : Type 0 where
  pub copies : All (IsCopyOf pass) pass.copies
  pub follows : (pass.copies ≡ [] → ⊥) → FollowsPass at t rg pass.copies

-- the pass under way in a group, if there is one, is that of the trail
abbrev pub IsPassOf : Behind Page → Trail → ℕ → GroupPasses → Type 0
IsPassOf at t rg p = IfSome p.pass (IsFollowed at t rg)

-- no pointer leads to a page of a unit before this one
abbrev pub HasNoEarlier : Behind Page → Spot → Type 0
HasNoEarlier at spot = (p : Pointer) (y : Page) → at p ≡ Some y → y.spot.unit ≡ spot.unit → spot.page ≤ y.spot.page

-- a pass goes on with one copy more, of a page of its victim that it had not passed; where none was under way, one began with it
pub record IsNextCopy (p now : GroupPasses) (copy : Copied) : Type 0 where
  pub pass : Pass
  pub under_way : now.pass ≡ Some pass
  pub victim : pass.victim ≡ copy.from.unit
  pub next : pass.next ≡ copy.from.page + 1
  pub copies : pass.copies ≡ copies_in p ++ copy ∷ []
  pub same : IfSome p.pass (λ (x : Pass). x.victim ≡ copy.from.unit)
  pub behind : next_in p ≤ copy.from.page

-- the group whose copies an entry ends
abbrev pub ended_by : DriveConfig → Entry → Option ℕ
ended_by c (entries.Host h) = None
ended_by c (entries.Started s) = None
ended_by c (entries.Placed p) = None
ended_by c (entries.Copied x) = None
ended_by c (entries.Moved m) = Some m.rg
ended_by c (entries.Erased e) = Some (group_of c e.unit)
ended_by c (entries.Retired r) = Some (group_of c r.unit)
ended_by c (entries.Aside a) = Some (group_of c a.unit)
ended_by c (entries.Shut s) = None
ended_by c (entries.Worn w) = Some w.rg
ended_by c entries.Reopened = None

-- the passes under way in so many groups are those of the trail
abbrev pub ArePassesOf : Behind Page → Trail → ℕ → (ℕ → GroupPasses) → Type 0
ArePassesOf at t groups passes = (rg : ℕ) → rg < groups → IsPassOf at t rg (passes rg)

-- the pass under way in a group is as it was, or there is no copy of it any more
abbrev pub IsLeft : GroupPasses → GroupPasses → Type 0
IsLeft p now = (now.pass ≡ p.pass) ⊎ (copies_in now ≡ [])
