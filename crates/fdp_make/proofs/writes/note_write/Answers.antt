use Rattle.std.proofs.Common.{◌≡◌, ◌+◌, ℕ, Some, subst, ap₂}
use Rattle.std.specs.BTreeMap.{Updates}
use Rattle.fdp_make.specs.Table.{place_cmp}
use Rattle.fdp_make.proofs.Tables.{put_next}
use Rattle.fdp_make.proofs.writes.note_write.Goals as goal

pub loop-index-preserved : goal.loop-index-preserved
loop-index-preserved c =
    let w = c.args.write in
    let lba : c.from.result + c.from-in-loop-index.result ≡ w.now.slba + c.loop-index.index = ap₂ (λ a b. a + b) c.from.ensures c.from-in-loop-index.ensures in
    let updates : Updates place_cmp c.loop-index.writes c.insert.new.self (w.now.slba + c.loop-index.index, w.now.nsid, c.args.number) (Some w) =
    subst (λ (l : ℕ). Updates place_cmp c.loop-index.writes c.insert.new.self (l, w.now.nsid, c.args.number) (Some w)) lba c.in_ok-insert.ensures.updates in
    put_next c.args.number w.now.nsid w.now.slba c.loop-index.index w c.args.writes.now c.loop-index.writes c.insert.new.self updates c.loop-index.invariant
