-- The change of each command that is saved: what it may rest on, and what the tables stand for behind it.
use Rattle.std.proofs.Common.{◌≡◌, ℕ, ◌+◌, ◌*◌, ◌<◌, ◌≤◌, Bool, true, Some, refl, ◌∙◌, ap, arith, slice_get, le-leb}
use Rattle.std.specs.Prelude.{IsFalse, IsTrue, if◌then◌else◌}
use Rattle.fdp_base.specs.declared.command.Command.{Command}
use Rattle.fdp_base.specs.declared.command.Command.TheVariants as commands
use Rattle.fdp_base.specs.declared.command.Create.{Create}
use Rattle.fdp_base.specs.declared.command.Dealloc.{Dealloc}
use Rattle.fdp_base.specs.declared.command.Delete.{Delete}
use Rattle.fdp_base.specs.declared.command.HandleUpdate.{HandleUpdate}
use Rattle.fdp_base.specs.declared.command.Range.{Range}
use Rattle.fdp_base.specs.declared.command.SetEvents.{SetEvents}
use Rattle.fdp_base.specs.declared.command.SetFdp.{SetFdp}
use Rattle.fdp_base.specs.declared.command.Zero.{Zero}
use Rattle.fdp_base.specs.declared.config.DriveConfig.{DriveConfig}
use Rattle.fdp_base.specs.CommandKinds.{is_saved, is_write}
use Rattle.fdp_base.specs.Geometry.{IsWithin}
use Rattle.fdp_base.specs.Numbers.{is_among}
use Rattle.fdp_book.specs.declared.tables.Tables.{Tables}
use Rattle.fdp_book.specs.Applying.{IsBehind, MayChange, StandBehind, success_entry}
use Rattle.fdp_book.specs.Clearing.{HasPointers}
use Rattle.fdp_book.specs.Commanded.{LeavesHandles, MayTakeEffect, SetsPlacement}
use Rattle.fdp_book.specs.Held.{IsBook, book_of}
use Rattle.fdp_book.specs.Logged.{Logged}
use Rattle.fdp_book.specs.Outlined.{IsOutlineBehind}
use Rattle.fdp_book.specs.Namespaces.{ArePointed, CanCreate, Creates, Deletes}
use Rattle.fdp_book.specs.Room.{places_of}
use Rattle.fdp_book.specs.Updating.{CanSet, CanUpdate, SetsTables, Updates}
use Rattle.fdp_readings.specs.fdp_locations.Held.{pages_held}
use Rattle.fdp_origin.specs.Opening.{Opening}
use Rattle.fdp_book.proofs.Held.Applied.{applied_entry, applied-follows}
use Rattle.fdp_book.proofs.Held.Cleared.{ClearsTables, has-pointers, held-deallocated, held-zeroed}
use Rattle.fdp_book.proofs.Held.Created.{can-create, held-created}
use Rattle.fdp_book.proofs.Held.Deleted.{are-pointed, held-deleted}
use Rattle.fdp_book.proofs.Held.Listened.{held-listened}
use Rattle.fdp_book.proofs.Held.Set.{held-set, may-set}
use Rattle.fdp_book.proofs.Held.Updated.{held-updated, may-update}
use Rattle.fdp_book.proofs.Histories.Accepted.{accepted-delete, accepted-ranges, accepted-zero, created-pages}
use Rattle.fdp_book.proofs.Outlining.{generation-said}
use Rattle.fdp_handles.specs.HandleTable.{HandleTable}
use Rattle.fdp_history.proofs.Checks.{accepted-create}
use Rattle.fdp_map.specs.MapTable.{size_in}
use Rattle.fdp_owners.specs.OwnerTable.{OwnerTable, owner_at}
use Rattle.fdp_rules.proofs.Effects.{by-saved}
use Rattle.fdp_rules.specs.Change.{after, changed_by}
use Rattle.fdp_rules.specs.Effect.{effect_of, is_in_ranges}
use Rattle.fdp_rules.specs.History.{point_of}
use Rattle.fdp_rules.specs.Next.{next}
use Rattle.fdp_rules.specs.Point.{Point}
use Rattle.fdp_snapshot.specs.declared.state.Summary.{Summary}

-- ---- by the parts of a book

-- its history is one behind which a command may take effect
pub behind-now : (c : DriveConfig) (opening : Opening) (log : Logged) (t : Tables) (queue : ℕ) (command : Command) → IsBook c opening log t → MayTakeEffect (book_of c opening log t) queue command →
    IsBehind c opening.found (pages_held c opening.cells) log.entries t command
behind-now c opening log t queue command h may = record {
  held = h.held;
  formed = may.formed;
  accepted = may.accepted;
}

pub may-change : (c : DriveConfig) (opening : Opening) (log : Logged) (t : Tables) (queue : ℕ) (command : Command) → IsBook c opening log t → MayTakeEffect (book_of c opening log t) queue command → MayChange c t command
may-change c opening log t queue command h may = record {
  found = opening.found;
  first = pages_held c opening.cells;
  entries = log.entries;
  behind = behind-now c opening log t queue command h may;
  saved = may.saved;
  other = may.other;
}

-- ---- the generation behind

generation-next : (c : DriveConfig) (p : Point) (queue number : ℕ) (command : Command) (moment : ℕ) → IsTrue (is_saved command) → IsFalse (is_write command) → (next c p (applied_entry queue number command p.state moment)).state.generation ≤ p.state.generation + 1
unfolding next after changed_by effect_of
generation-next c p queue number command moment saved other =
    by-saved (λ x. (next c p (applied_entry queue number x p.state moment)).state.generation ≤ p.state.generation + 1)
    (record {
      zero = λ z. omega arith;
      dealloc = λ d bit. omega arith;
      delete = λ d. omega arith;
      update = λ u. omega arith;
      set_fdp = λ x. omega arith;
      set_events = λ x. omega arith;
      create = λ x. omega arith;
    })
    command saved other

-- the generation is at most the next one
pub generation-risen : (c : DriveConfig) (opening : Opening) (log : Logged) (t : Tables) (new : Summary) (queue number : ℕ) (command : Command) (moment : ℕ) → IsBook c opening log t → IsTrue (is_saved command) → IsFalse (is_write command) →
    IsOutlineBehind c opening.found log.entries (success_entry c opening.found log.entries queue number command moment) new → new.generation ≤ t.outline.generation + 1
generation-risen c opening log t new queue number command moment h saved other behind =
    let p : Point = point_of c opening.found log.entries in
    let q : Point = next c p (success_entry c opening.found log.entries queue number command moment) in
    omega (arith, generation-next c p queue number command moment saved other, generation-said c q new behind.at, generation-said c p t.outline h.held.outline_is)

-- ---- each command

module _ (c : DriveConfig) (t now : Tables) where
  -- ---- a zeroing

  pub zero-within : (z : Zero) → MayChange c t (commands.Zero z) → 0 < z.count → z.slba + z.count ≤ size_in t.map z.nsid
  zero-within z may some = omega (arith, accepted-zero c (point_of c may.found may.entries) z.nsid z.slba z.count may.behind.accepted, may.behind.held.map_is.sizes z.nsid)

  pub zero-pointers : (z : Zero) → MayChange c t (commands.Zero z) → HasPointers t.map t.pages
  zero-pointers z may = has-pointers c may.found may.first may.entries t may.behind.held

  pub zero-behind : (z : Zero) → ClearsTables t now z.nsid (is_among z.slba z.count) → StandBehind c (commands.Zero z) t now
  zero-behind z clears found first es queue number moment outline behind queue_is at =
      held-zeroed c found first es t now queue number z moment outline behind.held (applied-follows true c (point_of c found es) queue number (commands.Zero z) moment queue_is behind.formed behind.accepted refl refl) clears at

  -- ---- a deallocation

  pub ranges-within : (d : Dealloc) → MayChange c t (commands.Dealloc d) → (index : ℕ) (range : Range) → slice_get d.ranges index ≡ Some range → 0 < range.length → range.slba + range.length ≤ size_in t.map d.nsid
  ranges-within d may index range there some = omega (arith, accepted-ranges c (point_of c may.found may.entries) d.nsid d.deallocate d.ranges may.behind.accepted index range there some, may.behind.held.map_is.sizes d.nsid)

  pub ranges-pointers : (d : Dealloc) → MayChange c t (commands.Dealloc d) → HasPointers t.map t.pages
  ranges-pointers d may = has-pointers c may.found may.first may.entries t may.behind.held

  pub ranges-behind : (d : Dealloc) → MayChange c t (commands.Dealloc d) → ClearsTables t now d.nsid (is_in_ranges d.ranges) → StandBehind c (commands.Dealloc d) t now
  ranges-behind d may clears found first es queue number moment outline behind queue_is at =
      held-deallocated c found first es t now queue number d moment outline behind.held (applied-follows true c (point_of c found es) queue number (commands.Dealloc d) moment queue_is behind.formed behind.accepted may.saved refl) may.saved clears at

  -- ---- a deletion

  pub delete-nsid : (d : Delete) → MayChange c t (commands.Delete d) → IsWithin 1 16 d.nsid
  delete-nsid d may =
      let p : Point = point_of c may.found may.entries in
      let there = accepted-delete c p d.nsid may.behind.accepted in
      (may.behind.held.orderly.state.namespaces d.nsid there.0 there.1).identifier

  pub delete-pointers : (d : Delete) → MayChange c t (commands.Delete d) → ArePointed t
  delete-pointers d may = are-pointed c may.found may.first may.entries t may.behind.held

  pub delete-behind : (d : Delete) → Deletes t now d.nsid → StandBehind c (commands.Delete d) t now
  delete-behind d deletes found first es queue number moment outline behind queue_is at =
      held-deleted c found first es t now queue number d moment outline behind.held (applied-follows true c (point_of c found es) queue number (commands.Delete d) moment queue_is behind.formed behind.accepted refl refl) deletes at

  -- ---- an update

  pub update-can : (u : HandleUpdate) → MayChange c t (commands.Update u) → CanUpdate c t u.nsid
  update-can u may = may-update c may.found may.first may.entries t u.nsid may.behind.held

  pub update-behind : (u : HandleUpdate) → Updates c t now u.nsid u.pids → StandBehind c (commands.Update u) t now
  update-behind u updates found first es queue number moment outline behind queue_is at = held-updated c found first es t now queue number u moment outline behind.held queue_is behind.formed behind.accepted updates at

  pub update-pages : (u : HandleUpdate) → Updates c t now u.nsid u.pids → LeavesHandles t.pages now.pages
  update-pages u updates = record { leaves = updates.leaves; passes = updates.passes; classes = ap (λ (x : HandleTable). x.classes) updates.handles }

  -- ---- a placement setting

  pub set-can : (x : SetFdp) → MayChange c t (commands.SetFdp x) → CanSet c t x.index
  set-can x may = may-set c may.found may.first may.entries t x may.behind.held may.behind.accepted

  pub set-behind : (x : SetFdp) → SetsTables c x.enable x.index t now → StandBehind c (commands.SetFdp x) t now
  set-behind x sets found first es queue number moment outline behind queue_is at = held-set c found first es t now queue number x moment outline behind.held queue_is behind.formed behind.accepted sets at

  pub set-pages : (x : SetFdp) → CanSet c t x.index → SetsTables c x.enable x.index t now → SetsPlacement c x.enable x.index t.pages now.pages
  set-pages x can sets = record {
    sets = sets.pages;
    old_owners = can.unowned;
    new_owners = λ spot. ap (λ (o : OwnerTable). owner_at o spot) sets.pages.leaves.owners ∙ can.unowned spot;
  }

  -- ---- a creation

  pub create-can : (x : Create) → MayChange c t (commands.Create x) → CanCreate t x
  create-can x may = can-create c may.found may.first may.entries t x may.behind.held may.behind.accepted

  pub create-places : (x : Create) → MayChange c t (commands.Create x) → places_of x.size (c.groups * c.units * c.unit_pages) ≡ x.size
  create-places x may =
      let p : Point = point_of c may.found may.entries in
      let few = created-pages c p.state x (accepted-create c p x.size x.given x.list may.behind.accepted) in
      ap (λ (b : Bool). if b then x.size else 0) (le-leb x.size (c.groups * c.units * c.unit_pages) few)

  pub create-behind : (x : Create) → Creates t now x → StandBehind c (commands.Create x) t now
  create-behind x creates found first es queue number moment outline behind queue_is at =
      held-created c found first es t now queue number x moment outline behind.held (applied-follows true c (point_of c found es) queue number (commands.Create x) moment queue_is behind.formed behind.accepted refl refl) behind.accepted creates at

  -- ---- a setting of events

  pub events-behind : (x : SetEvents) → StandBehind c (commands.SetEvents x) t t
  events-behind x found first es queue number moment outline behind queue_is at =
      held-listened c found first es t queue number x moment outline behind.held (applied-follows true c (point_of c found es) queue number (commands.SetEvents x) moment queue_is behind.formed behind.accepted refl refl) at
