-- A write that is forgotten: none is going in its queue any more, and its pages have no owner.
use Rattle.std.specs.Prelude.{◌≡◌, MatchBool, ℕ, ◌<◌, ◌==◌, Bool, false, List, [], Option, Some, None, if◌then◌else◌, length, slice_set}
use Rattle.std.specs.Option.{option_map_or}
use Rattle.fdp_base.specs.declared.command.Command.{Command}
use Rattle.fdp_base.specs.declared.entry.Spot.{Spot}
use Rattle.fdp_base.specs.CommandKinds.{is_write}
use Rattle.fdp_book.specs.declared.flight.Flight.{Flight}
use Rattle.fdp_book.specs.declared.tables.Tables.{Tables}
use Rattle.fdp_book.specs.Held.{flight_in, going_of}
use Rattle.fdp_owners.specs.OwnerTable.{owner_at}
use Rattle.fdp_readings.specs.fdp_pages.Steps.{AreOwned, ChangesOwners, without}
use Rattle.fdp_rules.specs.PlainState.{Namespace, PlainState}
use Rattle.fdp_rules.specs.Sites.{is_there}
use Rattle.fdp_outline.specs.Handles.{namespace_at}
use Rattle.fdp_snapshot.specs.declared.state.Summary.{Summary}

-- the namespace of a flight is there, by an outline
abbrev pub is_there_in : Summary → Flight → Bool
is_there_in outline f = option_map_or (λ (x : Namespace). x.birth == f.birth) (namespace_at outline f.extent.nsid) false

-- and by a state with the same namespaces
abbrev pub IsThereIn : PlainState → Summary → Flight → Bool → Type 0
IsThereIn s outline f there = ((nsid : ℕ) → s.namespaces nsid ≡ namespace_at outline nsid) → there ≡ is_there s (going_of f)

-- the pages of a write that may be going, while its namespace is there
abbrev pub live_pages : Summary → Option Flight → List Spot
live_pages outline None = []
live_pages outline (Some f) = if is_there_in outline f then f.pages.items else []

-- the pages of a queue's write have owners
pub record MayForget (t : Tables) (queue : ℕ) : Type 0 where
  pub queue_is : queue < length t.flights.items
  pub owned : AreOwned t.pages.owners (live_pages t.outline (flight_in t.flights.items queue))

-- the write of a queue is gone, and its pages have no owner; all else stays
pub record Forgets (old new : Tables) (queue : ℕ) (f : Option Flight) : Type 0 where
  pub flight_is : f ≡ flight_in old.flights.items queue
  pub flights_are : new.flights.items ≡ slice_set old.flights.items queue None
  pub owners : owner_at new.pages.owners ≡ without (owner_at old.pages.owners) (live_pages old.outline (flight_in old.flights.items queue))
  pub pages : ChangesOwners old.pages new.pages
  pub rest : new ≡ record old { flights = new.flights; pages = new.pages }

-- after the end of a write none is going in its queue; after that of another command all is as it was
abbrev pub EndsIn : Tables → Tables → ℕ → Command → Type 0
EndsIn old new queue command = MatchBool (is_write command) (Forgets old new queue (flight_in old.flights.items queue)) (new ≡ old)
