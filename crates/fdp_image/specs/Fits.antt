-- Which changes fit what an image says: those that a drive which says so may save next.
use Rattle.std.specs.Prelude.{ℕ, ◌+◌, ◌*◌, Bool, true, not, ◌&&◌, ◌||◌, ◌==◌, List, [], ◌∷◌, length, nat_le, nat_lt, Option, is_some, sum_by}
use Rattle.std.specs.List.{list_all, list_any}
use Rattle.std.specs.Option.{option_map_or}
use Rattle.fdp_base.specs.declared.command.Range.{Range}
use Rattle.fdp_base.specs.declared.config.DriveConfig.{DriveConfig}
use Rattle.fdp_base.specs.declared.entry.Totals.{Totals}
use Rattle.fdp_base.specs.Geometry.{data_units}
use Rattle.fdp_base.specs.Numbers.{has_repeat}
use Rattle.fdp_base.specs.Placement.{full_budget, geometry_of, handle_count}
use Rattle.fdp_rules.specs.PlainState.{Namespace}
use Rattle.fdp_rules.specs.Room.{namespace_ids}
use Rattle.fdp_records.specs.declared.change.Change.{Change}
use Rattle.fdp_records.specs.declared.change.Change.TheVariants as changes
use Rattle.fdp_records.specs.declared.change.UnitPages.{UnitPages}
use Rattle.fdp_image.specs.Applied.{applied}
use Rattle.fdp_image.specs.Areas.{data_pages}
use Rattle.fdp_image.specs.Changed.{page_numbers}
use Rattle.fdp_image.specs.CheckpointRows.{is_namespace_id}
use Rattle.fdp_image.specs.Reading.{Reading, size_in}

-- how many handles are in force
abbrev pub handles_in : DriveConfig → Reading → ℕ
handles_in c r = handle_count c r.enabled r.index

-- there is a namespace with this identifier
abbrev pub has_namespace : Reading → ℕ → Bool
has_namespace r nsid = is_some (r.namespaces nsid)

-- so many blocks from an address on lie within a namespace that is there
abbrev pub lies_within : Reading → ℕ → ℕ → ℕ → Bool
lies_within r nsid slba count = has_namespace r nsid && nat_le (slba + count) (size_in r nsid)

-- a range lies within the namespace; one of no blocks names none, and lies anywhere
abbrev pub is_range_within : Reading → ℕ → Range → Bool
is_range_within r nsid x = x.length == 0 || lies_within r nsid x.slba x.length

-- each range lies within the namespace
abbrev pub lie_within : Reading → ℕ → List Range → Bool
lie_within r nsid ranges = list_all (is_range_within r nsid) ranges

-- how many blocks the namespaces have together
abbrev pub blocks_of_all : Reading → ℕ
blocks_of_all r = sum_by (size_in r) namespace_ids

-- a list of handles for a namespace, of so many that there are: one to sixteen of them, each once
abbrev pub is_handle_list : ℕ → List ℕ → Bool
is_handle_list count handles =
    nat_lt 0 (length handles) && nat_le (length handles) 16 && list_all (λ ruh. nat_lt ruh count) handles && not (has_repeat handles)

-- the numbers are of data pages
abbrev pub are_data_pages : DriveConfig → List ℕ → Bool
are_data_pages c pages = list_all (λ page. nat_lt page (data_pages (geometry_of c))) pages

-- a data unit, and pages of it
abbrev pub are_of_data_unit : DriveConfig → UnitPages → Bool
are_of_data_unit c x = nat_lt x.unit (data_units (geometry_of c)) && list_all (λ number. nat_lt number ((x.unit + 1) * c.unit_pages)) (page_numbers c x)

-- a namespace, if it is there, was not created after a position
abbrev pub is_born : Reading → ℕ → ℕ → Bool
is_born r nsid position = option_map_or (λ (x : Namespace). nat_le x.birth position) (r.namespaces nsid) true

abbrev pub are_born : Reading → ℕ → Bool
are_born r position = list_all (λ nsid. is_born r nsid position) namespace_ids

-- an identifier that a namespace may have, and none has
abbrev pub is_free_id : Reading → ℕ → Bool
is_free_id r nsid = is_namespace_id nsid && not (has_namespace r nsid)

-- there is room for so many blocks more
abbrev pub has_room : DriveConfig → Reading → ℕ → Bool
has_room c r size = nat_le (blocks_of_all r + size) (full_budget c (handles_in c r))

-- a namespace may have these blocks and handles
abbrev pub may_have : DriveConfig → Reading → ℕ → List ℕ → Bool
may_have c r size handles = nat_lt 0 size && is_handle_list (handles_in c r) handles && has_room c r size

abbrev pub may_create : DriveConfig → Reading → ℕ → ℕ → List ℕ → Bool
may_create c r nsid size handles = is_free_id r nsid && may_have c r size handles

-- the units of a move are data units, with pages of theirs
abbrev pub are_unit_pages : DriveConfig → UnitPages → UnitPages → Option UnitPages → Bool
are_unit_pages c victim first second = are_of_data_unit c victim && are_of_data_unit c first && option_map_or (are_of_data_unit c) second true

-- a change names only what there is: namespaces and blocks of theirs, handles in force, data pages; it creates no namespace in the
-- place of another, with other handles or beyond the room, sets placement only while there is none, and events of the six kinds
unfoldable pub names_what_is : DriveConfig → Reading → Change → Bool
names_what_is c r (changes.Write nsid slba pid pid_invalid pages) = lies_within r nsid slba (length pages) && are_data_pages c pages
names_what_is c r (changes.Clear nsid ranges) = has_namespace r nsid && lie_within r nsid ranges
names_what_is c r (changes.Update nsid closed pids) = has_namespace r nsid
names_what_is c r (changes.Create nsid size given handles) = may_create c r nsid size handles
names_what_is c r (changes.Delete nsid) = has_namespace r nsid
names_what_is c r (changes.SetFdp enabled index generation) = not (list_any (has_namespace r) namespace_ids) && nat_lt index (length c.fdp)
names_what_is c r (changes.SetEvents ruh on mask) = nat_lt ruh (handles_in c r) && nat_lt mask 64
names_what_is c r (changes.Moved victim first second handles) = are_unit_pages c victim first second
names_what_is c r (changes.Shut rg ruh) = nat_lt rg c.groups && nat_lt ruh (handles_in c r)

-- a change fits what is said before it, at a position that no namespace was created after
abbrev pub fits : DriveConfig → Reading → Change × Totals → Bool
fits c r x = are_born r x.1.position && names_what_is c r x.0

-- whether a change fits what was said before it
abbrev pub Fitting : Type 0
Fitting = DriveConfig → Reading → Change × Totals → Bool

-- each change fits what was said before it
unfoldable pub all_fit : Fitting → DriveConfig → Reading → List (Change × Totals) → Bool
all_fit fits c r [] = true
all_fit fits c r (x ∷ xs) = fits c r x && all_fit fits c (applied c r x) xs
