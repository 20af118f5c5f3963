use Rattle.std.proofs.Common.{◌≡◌, ◌+◌, ◌*◌, ◌∙◌, ap₂, drop, take}
use Rattle.fdp_make.specs.Summary.{block_given}
use Rattle.fdp_make.proofs.Tables.{wanted_by}
use Rattle.fdp_make.proofs.given.is_as_wanted.Goals as goal

pub returns-in-Some : goal.returns-in-Some
returns-in-Some c es tells =
    let h = c.args.host.now in
    let lba : c.from.result + c.from-2.result ≡ c.args.read.now.slba + c.args.index = ap₂ (λ a b. a + b) c.from.ensures c.from-2.ensures in
    let bytes : c.cut-bytes.result.now ≡ block_given c.args.block h.reply.bytes c.args.index =
    c.cut-bytes.ensures ∙ ap₂ (λ n xs. take c.args.block (drop (n * c.args.block) xs)) c.from-3.ensures c.as_slice.ensures in
    c.is_put_by.ensures
    ∙ wanted_by c.args.block h.queue c.args.read.now.nsid (c.args.read.now.slba + c.args.index) (c.from.result + c.from-2.result) es c.args.writes.now c.in-Some.write.now
    c.cut-bytes.result.now (block_given c.args.block h.reply.bytes c.args.index) lba c.in-Some.ensures.value tells bytes
