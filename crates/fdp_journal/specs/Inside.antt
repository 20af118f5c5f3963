-- The fields of a journal.
use Rattle.std.specs.Prelude.{◌≡◌, suc, ◌+◌, ◌≤◌, length}
use Rattle.fdp_base.specs.Geometry.{IsValidGeometry, area_pages}
use Rattle.fdp_journal.specs.declared.journal.Journal.TheInside.{Inside}
use Rattle.fdp_journal.specs.JournalState.{JournalState}

-- what contracts see
abbrev pub state_of : Inside → JournalState
state_of j = record { geometry = j.geometry; area = j.area; stamp = j.stamp; checkpoint = j.checkpoint; records = j.records; in_doubt = j.in_doubt }

-- the pages fit the area, and there is room for the bytes of one
pub record IsSound (j : Inside) : Type 0 where
  pub geometry : IsValidGeometry j.geometry
  pub area : j.area ≤ 1
  pub room : suc j.checkpoint + j.records ≤ area_pages j.geometry
  pub page : length j.page.items ≡ j.geometry.block
