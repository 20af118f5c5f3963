-- The counts of a queue pair through which a command goes.
use Rattle.std.proofs.Common.{◌≡◌, ℕ, ◌+◌, ◌%◌, ◌≤◌, ap, refl, subst, sym, ◌∙◌}
use Rattle.std.proofs.Math.Nat.{mod-add-mod}
use Rattle.fdp_queues.specs.Rings.{Rings}
use Rattle.fdp_workers.specs.Pairs.{IsIdlePair}

-- one more was fetched
fetched-more : (depth head count : ℕ) → head ≡ count % depth → (head + 1) % depth ≡ (count + 1) % depth
fetched-more depth head count is = ap (λ (n : ℕ). (n + 1) % depth) is ∙ mod-add-mod count depth 1

-- an entry went through the pair
pub entry-through : (depth number : ℕ) (old new : Rings) → new ≡ record old { head = (old.head + 1) % old.depth } → IsIdlePair depth number number old → IsIdlePair new.depth (number + 1) number new
entry-through depth number old new is idle =
    subst (λ (r : Rings). IsIdlePair r.depth (number + 1) number r) (sym is)
    (record {
      slots = subst (λ (d : ℕ). 2 ≤ d) (sym idle.depth_is) idle.slots;
      depth_is = refl;
      submissions = idle.submissions;
      completions = idle.completions;
      fetched_are = fetched-more old.depth old.head number idle.fetched_are;
      posted_are = idle.posted_are;
    })
