use Rattle.fdp_workers.proofs.Marks.{marked-more, record-of}
use Rattle.fdp_workers.proofs.laws.histories_are_records.Goals as goal

pub returns-clause-record_is : goal.returns-clause-record_is
returns-clause-record_is c = record-of

pub returns-clause-more : goal.returns-clause-more
returns-clause-more c = marked-more
