-- The map in the form of a checkpoint: for each identifier from 1 on the numbers of the pages of its blocks.
use Rattle.std.specs.Prelude.{ℕ, ◌+◌, ◌-◌, ◌*◌, ◌/◌, ◌%◌, List, [], ◌∷◌, drop, length, map, Option, None, if◌then◌else◌, option_map, slice_get}
use Rattle.std.specs.Option.{option_and_then, option_map_or}
use Rattle.fdp_base.specs.declared.config.Geometry.{Geometry}
use Rattle.fdp_base.specs.declared.entry.Spot.{Spot}
use Rattle.fdp_base.specs.Geometry.{data_units}
use Rattle.fdp_base.specs.Numbers.{is_among}
use Rattle.fdp_map.specs.declared.mapped.Mapped.{Mapped}
use Rattle.fdp_map.specs.MapTable.{MapTable, mapped_on}

-- the pages of the data units
abbrev pub data_pages : Geometry → ℕ
data_pages g = data_units g * g.unit_pages

-- a page by its number, and the number of a page
abbrev pub spot_of : Geometry → ℕ → Spot
spot_of g page = record { unit = page / g.unit_pages; page = page % g.unit_pages }

abbrev pub number_of : Geometry → Spot → ℕ
number_of g spot = spot.unit * g.unit_pages + spot.page

-- a block on the page with a number
abbrev pub placed_on : Geometry → ℕ → Mapped
placed_on g page = mapped_on g (spot_of g page)

-- the number of the page of a block
abbrev pub page_of : Geometry → Mapped → ℕ
page_of g x = number_of g x.spot

-- the places of a namespace whose blocks have these pages
abbrev pub places_of : Geometry → List (Option ℕ) → List (Option Mapped)
places_of g pages = map (option_map (placed_on g)) pages

-- the table of these lists
abbrev pub table_of : Geometry → List (List (Option ℕ)) → MapTable
table_of g lists = record { geometry = g; rows = [] ∷ map (places_of g) lists }

-- the lists of a table
abbrev pub lists_of : MapTable → List (List (Option ℕ))
lists_of m = map (map (option_map (page_of m.geometry))) (drop 1 m.rows)

-- the page of a block, by identifier and address
abbrev pub page_at : List (List (Option ℕ)) → ℕ → ℕ → Option ℕ
page_at lists nsid lba =
    if is_among 1 16 nsid
    then option_and_then (λ (list : List (Option ℕ)). option_and_then (λ (page : Option ℕ). page) (slice_get list lba)) (slice_get lists (nsid - 1))
    else None

-- how many blocks the list of a namespace has
abbrev pub size_at : List (List (Option ℕ)) → ℕ → ℕ
size_at lists nsid = if is_among 1 16 nsid then option_map_or length (slice_get lists (nsid - 1)) 0 else 0
