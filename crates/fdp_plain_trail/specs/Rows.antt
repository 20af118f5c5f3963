-- Pages that have their places.
use Rattle.std.specs.Prelude.{◌≡◌, ℕ, Option, length, option_map, slice_get}
use Rattle.fdp_tables.specs.declared.state.Kept.{Kept}

-- how many pages of the write with this ticket have a place
abbrev pub places_of : Kept → ℕ → Option ℕ
places_of k ticket = option_map (λ pages. length pages) (slice_get k.sites.rows ticket)

-- each page of a write has its place still
abbrev pub KeepsPlaces : Kept → Kept → Type 0
KeepsPlaces old new = (ticket : ℕ) → places_of new ticket ≡ places_of old ticket
