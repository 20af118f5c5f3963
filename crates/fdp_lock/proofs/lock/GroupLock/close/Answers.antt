use Rattle.fdp_lock.specs.Seats.{lock_origin}
use Rattle.fdp_lock.proofs.Gathering.{all_go_on}
use Rattle.fdp_lock.proofs.lock.GroupLock.close.Goals as goal

pub returns-clause-goes_on : goal.returns-clause-goes_on
returns-clause-goes_on g c =
    let V = g.V.Recorded in
    all_go_on V.mark c.args.self.table.shared.table_id (lock_origin V.origin c.args.self) V.origin V.entries c.args.seats.items c.gather-token.result c.unlock.result c.gather-token.ensures.gathered c.unlock.ensures
    (λ k d lt. (c.requires.of_lock k d lt).1)

pub returns-clause-no_others : goal.returns-clause-no_others
returns-clause-no_others g c = λ q nonzero none_there. c.unlock.ensures.others q nonzero (c.gather-token.ensures.gathered.others q none_there)
