use Rattle.std.proofs.Common.{◌≡◌, ℕ, ◌+◌, ◌%◌, subst}
use Rattle.fdp_queues.specs.Rings.{Rings, HasFetched}
use Rattle.fdp_queues.proofs.Tags.{one_more}
use Rattle.fdp_queues.proofs.queue_pair.QueuePair.fetch.Goals as goal

pub returns-in-Some-clause-fetched : goal.returns-in-Some-clause-fetched
returns-in-Some-clause-fetched c =
    let q = c.self.inside in
    subst (λ (r : Rings). (count : ℕ) → HasFetched r count → (q.head + 1) % q.depth ≡ (count + 1) % q.depth) c.self.view_is (λ count has. one_more q.depth q.head count has)
