-- The first fault of a document.
use Rattle.std.specs.Prelude.{List, [], ◌∷◌, Option, Some, None, if◌then◌else◌, nat_lt}
use Rattle.std.specs.List.{find}
use Rattle.std.specs.Option.{option_map, option_or}
use Rattle.fdp_base.specs.declared.config.DriveConfig.{DriveConfig}
use Rattle.fdp_base.specs.Geometry.{area_pages}
use Rattle.fdp_base.specs.Placement.{geometry_of, handle_count, full_budget, namespace_blocks, needed_area_pages}
use Rattle.toml.specs.Data.{Members}
use Rattle.fdp_config.specs.declared.fault.ConfigFault.{ConfigFault}
use Rattle.fdp_config.specs.declared.fault.ConfigFault.TheVariants.{Unknown, Missing, Kind, Range, NoRoom}
use Rattle.fdp_config.specs.declared.key.Key.{Key}
use Rattle.fdp_config.specs.Document.{words_in}
use Rattle.fdp_config.specs.Kinds.{is_unknown, is_missing, is_of_other_kind}
use Rattle.fdp_config.specs.Reader.Config.{config_in}
use Rattle.fdp_config.specs.Reader.Checks.{read_fault}
use Rattle.fdp_config.specs.Table.{keys}

-- the first key, of these in order, that is out of its range
unfoldable pub first_range_fault : Members → List Key → Option ConfigFault
first_range_fault doc [] = None
first_range_fault doc (key ∷ rest) = option_or (option_map (Range key) (read_fault doc key)) (first_range_fault doc rest)

-- the namespaces have more blocks than the budgets, or a system area has too few pages
abbrev pub room_fault : DriveConfig → Option ConfigFault
room_fault c =
    if nat_lt (full_budget c (handle_count c c.enabled c.index)) (namespace_blocks c)
    then Some (NoRoom (namespace_blocks c) (full_budget c (handle_count c c.enabled c.index)))
    else if nat_lt (area_pages (geometry_of c)) (needed_area_pages c)
    then Some (NoRoom (needed_area_pages c) (area_pages (geometry_of c)))
    else None

-- the fault of a document: an unknown key, a missing key, a value of another kind, one out of its range, no room
abbrev pub fault_of : Members → Option ConfigFault
fault_of doc =
    option_or (option_map Unknown (find is_unknown (words_in doc)))
    (option_or (option_map Missing (find (is_missing doc) keys))
    (option_or (option_map Kind (find (is_of_other_kind doc) keys))
    (option_or (first_range_fault doc keys) (room_fault (config_in doc)))))
