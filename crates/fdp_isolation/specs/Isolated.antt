-- What isolation promises of the cells of a drive.
use Rattle.std.specs.Prelude.{◌≡◌, ◌⊎◌, ℕ, ◌<◌, Bool, false, ◌&&◌, ◌||◌, IsFalse, IsTrue, List, [], ◌∷◌, Some, if◌then◌else◌, slice_get}
use Rattle.std.specs.List.{list_any}
use Rattle.std.specs.Option.{option_map_or}
use Rattle.fdp_base.specs.declared.config.DriveConfig.{DriveConfig}
use Rattle.fdp_base.specs.declared.config.Geometry.{Geometry}
use Rattle.fdp_base.specs.declared.entry.Entry.{Entry}
use Rattle.fdp_base.specs.declared.entry.Host.{Host}
use Rattle.fdp_base.specs.EntryKinds.{empties, host_of, puts_into}
use Rattle.fdp_base.specs.Numbers.{numbers_below}
use Rattle.fdp_base.specs.Placement.{geometry_of}
use Rattle.fdp_base.specs.CommandKinds.{is_setting}
use Rattle.fdp_flash.specs.declared.cell.Cell.{Cell}
use Rattle.fdp_flash.specs.declared.cell.Cell.TheVariants.{Blank, Torn}
use Rattle.fdp_flash.specs.Layout.{page_number}
use Rattle.fdp_image.specs.Isolation.{IsGrouped, IsIsolated}
use Rattle.fdp_image.specs.Roomy.{is_blank_unit, page_in}
use Rattle.fdp_rules.specs.Point.{Point}
use Rattle.fdp_rules.specs.Sites.{is_live}
use Rattle.fdp_rules.specs.Step.{IsDataUnit}

-- ---- since when

-- another configuration came in force
abbrev pub sets_placement : Entry → Bool
sets_placement e = option_map_or (λ (h : Host). is_setting h.command && h.reply.applied) (host_of e) false

-- the entries of a run since another configuration last came in force, or all of them where none did
unfoldable pub since_setting : List Entry → List Entry
since_setting [] = []
since_setting (e ∷ es) = if list_any sets_placement (e ∷ es) then since_setting es else e ∷ es

-- the entries before a unit is erased
unfoldable pub before_erase : ℕ → List Entry → List Entry
before_erase unit [] = []
before_erase unit (e ∷ es) = if empties unit e then [] else e ∷ before_erase unit es

-- ---- isolation

-- a unit has a live page: one where a block stands, or a page of a going write whose namespace is there
abbrev pub has_live : DriveConfig → Point → ℕ → Bool
has_live c p unit = list_any (λ page. is_live c p (page_in unit page)) (numbers_below c.unit_pages)

-- a unit is in use: it has a live page, or a page was put into it since the later of the opening and the last change of the
-- configuration in force
abbrev pub is_in_use : DriveConfig → Point → List Entry → ℕ → Bool
is_in_use c p es unit = has_live c p unit || list_any (puts_into unit) (since_setting es)

-- Isolation, by the entries of a run and what stands after them: the whole pages of each data unit name its group, and all one
-- generation; those of a unit in use name the generation in force, and where one of them names a persistently isolated handle
-- all name that.
pub record IsIsolatedDrive (c : DriveConfig) (p : Point) (es : List Entry) (cells : List Cell) : Type 0 where
  pub grouped : IsGrouped c cells
  pub apart : (unit : ℕ) → IsDataUnit c unit → IsTrue (is_in_use c p es unit) → IsIsolated c p.state cells unit

-- ---- units that had been used

-- each page of a unit is as it was, blank or torn
abbrev pub IsWornDown : Geometry → ℕ → List Cell → List Cell → Type 0
IsWornDown g unit old new =
    (page : ℕ) → page < g.unit_pages
    → (slice_get new (page_number g (page_in unit page)) ≡ slice_get old (page_number g (page_in unit page)))
    ⊎ (slice_get new (page_number g (page_in unit page)) ≡ Some Blank)
    ⊎ (slice_get new (page_number g (page_in unit page)) ≡ Some Torn)

-- a unit gets no page before it is erased: no entry before that puts one there, and until then none of its pages is programmed
pub record GetsNoPage (c : DriveConfig) (first : List Cell) (es : List Entry) (cells : List Cell) (unit : ℕ) : Type 0 where
  pub none_put : IsFalse (list_any (puts_into unit) (before_erase unit es))
  pub none_programmed : IsFalse (list_any (empties unit) es) → IsWornDown (geometry_of c) unit first cells

-- Some first cells, as those when the drive was opened, the entries since, and the cells now: each unit that had a page then that was not blank
-- gets no page before it is erased.
abbrev pub LeavesUsed : DriveConfig → List Cell → List Entry → List Cell → Type 0
LeavesUsed c first es cells = (unit : ℕ) → IsDataUnit c unit → IsFalse (is_blank_unit (geometry_of c) first unit) → GetsNoPage c first es cells unit
