use Rattle.std.proofs.Common.{◌≡◌, ℕ, ◌+◌, ◌*◌, ◌%◌, [], ◌∷◌, ◌++◌, Bool, subst, ap, ◌∙◌, arith}
use Rattle.fdp_queues.specs.Phase.{phase_tag}
use Rattle.fdp_queues.specs.Rings.{Rings, HasPosted, posted, with_phase}
use Rattle.fdp_queues.proofs.Tags.{tag_by_turn, tag_by_count, one_more}
use Rattle.fdp_queues.proofs.queue_pair.QueuePair.post.Goals as goal

pub returns-clause-ok : goal.returns-clause-ok
returns-clause-ok c =
    let q = c.self.inside in
    let tag = tag_by_turn q.depth q.posts (omega (arith, c.self.invariant.0.shallow)) c.self.invariant.0.counted in
    let completions = c.push_back_reserved.ensures.items ∙ ap (λ (phase : Bool). q.completions.items ++ with_phase phase c.args.cqe ∷ []) tag in
    let after : Rings = record { depth = q.depth; submissions = q.submissions.items; completions = c.push_back_reserved.new.self.items; head = q.head; posts = (q.posts + 1) % (2 * q.depth) } in
    subst (λ (r : Rings). after ≡ record { depth = r.depth; submissions = r.submissions; completions = r.completions ++ posted r c.args.cqe ∷ []; head = r.head; posts = (r.posts + 1) % (2 * r.depth) }) c.self.view_is
    (λ j. record { depth = q.depth; submissions = q.submissions.items; completions = completions j; head = q.head; posts = (q.posts + 1) % (2 * q.depth) })

pub returns-clause-phase : goal.returns-clause-phase
returns-clause-phase c =
    let q = c.self.inside in
    let after : Rings = record { depth = q.depth; submissions = q.submissions.items; completions = c.push_back_reserved.new.self.items; head = q.head; posts = (q.posts + 1) % (2 * q.depth) } in
    subst (λ (r : Rings). (count : ℕ) → HasPosted r count → (after.completions ≡ r.completions ++ with_phase (phase_tag r.depth count) c.args.cqe ∷ []) × HasPosted after (count + 1)) c.self.view_is
    (λ count has.
    let tag = tag_by_count q.depth q.posts count (omega (arith, c.self.invariant.0.shallow)) c.self.invariant.0.counted has in
    (c.push_back_reserved.ensures.items ∙ ap (λ (phase : Bool). q.completions.items ++ with_phase phase c.args.cqe ∷ []) tag, one_more (2 * q.depth) q.posts count has))
