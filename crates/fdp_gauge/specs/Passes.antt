-- What contracts say of a gauge, its teller and its passes.
use Rattle.std.specs.Prelude.{◌≡◌, List, length, sum_by}
use Rattle.fdp_base.specs.declared.recorded.Mark.{Mark}
use Rattle.fdp_base.specs.declared.recorded.Snapshot.{Snapshot}
use Rattle.crossbeam_utils.specs.Seq.{cell_view}
use Rattle.fdp_gauge.specs.declared.gauge.Gauge.{Gauge}
use Rattle.fdp_gauge.specs.declared.gauge.Pass.{Pass}
use Rattle.fdp_gauge.specs.declared.gauge.Teller.{Teller}

-- the marks of the entries that the teller told last
abbrev pub told_of : Teller → List Mark
told_of t = (cell_view t.place).seen

-- the marks of the entries that the pass has seen
abbrev pub seen_of : Pass → List Mark
seen_of p = (cell_view p.place).seen

abbrev pub IsTellerOf : Gauge → Teller → Type 0
IsTellerOf gauge t = t.place.table_id ≡ gauge.cell.table.shared.table_id

abbrev pub IsPassOf : Gauge → Pass → Type 0
IsPassOf gauge p = p.place.table_id ≡ gauge.cell.table.shared.table_id

-- the length of a list of marks, and the sums of what they add
abbrev pub snapshot_of : List Mark → Snapshot
snapshot_of ms = record { length = length ms; host_blocks = sum_by (λ m. m.host_blocks) ms; media_blocks = sum_by (λ m. m.media_blocks) ms; erases = sum_by (λ m. m.erases) ms }
