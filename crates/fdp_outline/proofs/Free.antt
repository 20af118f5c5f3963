-- The lowest identifier that no namespace has, looked for from 1 on.
use Rattle.std.proofs.Common.{◌≡◌, ℕ, ◌+◌, ◌<◌, ◌≤◌, Bool, true, false, ◌∷◌, Option, Some, None, refl, ap, ◌∙◌, cond}
use Rattle.std.specs.Prelude.{find, is_none}
use Rattle.fdp_base.proofs.Sums.{rest_end, rest_next, rest_of}
use Rattle.fdp_rules.specs.Effect.{lowest_free}
use Rattle.fdp_rules.specs.PlainState.{Namespace, PlainState}
use Rattle.fdp_rules.specs.Room.{namespace_ids}
use Rattle.fdp_snapshot.specs.declared.state.Summary.{Summary}
use Rattle.fdp_outline.specs.Handles.{namespace_at}

-- the first identifier that passes a test is the first from a number on
pub record IsSeeking (test : ℕ → Bool) (i : ℕ) : Type 0 where
  pub rest : find test namespace_ids ≡ find test (rest_of i 17)

pub seeking_first : (test : ℕ → Bool) → IsSeeking test 1
unfolding namespace_ids
seeking_first test = record { rest = refl }

pub seeking_next : (test : ℕ → Bool) (i : ℕ) → i < 17 → test i ≡ false → IsSeeking test i → IsSeeking test (i + 1)
seeking_next test i below fails h = record {
  rest = h.rest ∙ ap (find test) (rest_next i 17 below) ∙ ap (λ (b : Bool). cond b (Some i) (find test (rest_of (i + 1) 17))) fails;
}

pub seeking_found : (test : ℕ → Bool) (i : ℕ) → i < 17 → test i ≡ true → IsSeeking test i → find test namespace_ids ≡ Some i
seeking_found test i below passes h = h.rest ∙ ap (find test) (rest_next i 17 below) ∙ ap (λ (b : Bool). cond b (Some i) (find test (rest_of (i + 1) 17))) passes

pub seeking_end : (test : ℕ → Bool) (i : ℕ) → 17 ≤ i → IsSeeking test i → find test namespace_ids ≡ None
seeking_end test i past h = h.rest ∙ ap (find test) (rest_end i 17 past)

-- the identifiers that a table has free
abbrev pub is_free : Summary → ℕ → Bool
is_free t nsid = is_none (namespace_at t nsid)

-- they are those of a state with the same namespaces
pub free-alike : (t : Summary) (s : PlainState) → ((nsid : ℕ) → s.namespaces nsid ≡ namespace_at t nsid) → lowest_free s ≡ find (is_free t) namespace_ids
free-alike t s all = ap (λ (test : ℕ → Bool). find test namespace_ids) (λ d nsid. ap (λ (o : Option Namespace). is_none o) (all nsid) d)
