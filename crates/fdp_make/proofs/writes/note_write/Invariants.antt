use Rattle.std.proofs.Common.{◌≡◌, ◌&&◌, ◌==◌, ℕ, Some, if◌then◌else◌}
use Rattle.fdp_base.specs.Numbers.{is_among}
use Rattle.fdp_make.specs.Table.{write_for}
use Rattle.fdp_make.proofs.writes.note_write.Given as goal

abbrev pub invariant-loop-index : goal.invariant-loop-index
invariant-loop-index l =
    (queue nsid lba : ℕ) → write_for l.writes queue nsid lba
    ≡ (if l.number == queue && (l.write.nsid == nsid && is_among l.write.slba l.index lba) then Some l.write else write_for l.fn.writes queue nsid lba)
