-- What the parts of a loaded state say.
use Rattle.std.specs.Prelude.{◌≡◌, ℕ, ◌-◌, List, [], length, Option, if◌then◌else◌, slice_get}
use Rattle.std.specs.Option.{option_and_then, option_map_or}
use Rattle.fdp_rules.specs.PlainState.{Namespace}
use Rattle.fdp_image.specs.Checkpoint.{page_in_lists, reading_of_state}
use Rattle.fdp_image.specs.CheckpointRows.{is_namespace_id}
use Rattle.fdp_image.specs.Reading.{Reading, size_in}
use Rattle.fdp_state.specs.declared.parts.Parts.{Parts}
use Rattle.fdp_state.specs.Owners.{AreOwners}

-- what stands in a row of a table whose rows may be empty
abbrev pub row : {X : Type 0} → List (Option X) → ℕ → Option X
row {X} rows i = option_and_then (λ (x : Option X). x) (slice_get rows i)

-- how many blocks the page list of a namespace has
abbrev pub listed : List (List (Option ℕ)) → ℕ → ℕ
listed lists nsid = if is_namespace_id nsid then option_map_or length (slice_get lists (nsid - 1)) 0 else 0

-- what a loaded state says: what its outline and its page lists say
abbrev pub reading_of : Parts → Reading
reading_of s = reading_of_state (record { summary = s.outline; pages = s.pages.items })

-- the handles of a namespace, none where it is not there
abbrev pub handles_at : Reading → ℕ → List ℕ
handles_at r nsid = option_map_or (λ (x : Namespace). x.handles) (r.namespaces nsid) []

-- a page list for each of sixteen namespaces, as long as it has blocks; the owners of the pages are those blocks
pub record IsSound (s : Parts) : Type 0 where
  pub lists : length s.pages.items ≡ 16
  pub sizes : (nsid : ℕ) → listed s.pages.items nsid ≡ size_in (reading_of s) nsid
  pub owners : AreOwners (page_in_lists s.pages.items) s.owners.items
