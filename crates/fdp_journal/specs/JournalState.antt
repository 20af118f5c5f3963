-- A journal as contracts see it.
use Rattle.std.specs.Prelude.{ℕ, suc, ◌+◌, Bool}
use Rattle.fdp_base.specs.declared.config.Geometry.{Geometry}
use Rattle.fdp_records.specs.declared.spare.Stamp.{Stamp}

-- Where a journal stands: on a flash of this geometry, in this system area, with the version and epoch of its pages; how many pages
-- the checkpoint before it has, how many records it has, and whether it is in doubt.
pub record JournalState : Type 0 where
  pub geometry : Geometry
  pub area : ℕ
  pub stamp : Stamp
  pub checkpoint : ℕ
  pub records : ℕ
  pub in_doubt : Bool

-- the page of the area behind the journal: checkpoint, seal and records come before it
abbrev pub next_in : JournalState → ℕ
next_in j = suc j.checkpoint + j.records
