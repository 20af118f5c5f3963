use Rattle.std.proofs.Common.{◌+◌, [], arith}
use Rattle.fdp_rules.specs.Answer.{read_block}
use Rattle.fdp_tables.specs.State.{plain_of}
use Rattle.fdp_plain_answers.proofs.Appending.{appending_from_end, appending_from_next}
use Rattle.fdp_plain_answers.proofs.transfer.bytes_read.Goals as goal

pub loop-lba-preserved : goal.loop-lba-preserved
loop-lba-preserved c =
    let k = c.args.kept.now in
    appending_from_next (read_block k.config (plain_of k) c.args.nsid) c.args.slba (c.args.slba + c.args.count) c.loop-lba.lba [] c.loop-lba.bytes.items _ (omega arith) c.in_ok-push_block.ensures c.loop-lba.invariant

pub returns : goal.returns
returns c =
    let k = c.args.kept.now in
    appending_from_end (read_block k.config (plain_of k) c.args.nsid) c.args.slba c.args.count c.loop-lba.lba [] c.loop-lba.bytes.items (omega arith) c.loop-lba.invariant

pub overflow_add-lba-end : goal.overflow_add-lba-end
overflow_add-lba-end c = omega (arith, c.size_of-size.ensures, c.requires, c.from.ensures)
