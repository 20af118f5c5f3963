use Rattle.std.proofs.Common.{◌+◌, []}
use Rattle.fdp_rules.specs.Answer.{read_block}
use Rattle.fdp_tables.specs.State.{plain_of}
use Rattle.fdp_plain_answers.proofs.Appending.{IsAppendingFrom}
use Rattle.fdp_plain_answers.proofs.transfer.bytes_read.Given as goal

abbrev pub invariant-loop-lba : goal.invariant-loop-lba
invariant-loop-lba l = IsAppendingFrom (read_block l.kept.config (plain_of l.kept) l.nsid) l.slba (l.slba + l.count) l.lba [] l.bytes.items
