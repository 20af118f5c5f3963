-- Events that are kept, piece by piece.
use Rattle.std.proofs.Common.{◌≡◌, ℕ, ◌+◌, ◌<◌, ◌≤◌, Bool, List, [], ◌∷◌, ◌++◌, length, drop, get_or, refl, ap, sym, ◌∙◌, append_assoc, add-one, drop-cons, flat_map, filter, map}
use Rattle.std.proofs.lemmas.List.{append-nil, drop_all}
use Rattle.std.proofs.lemmas.List.Elements.{filter-append}
use Rattle.fdp_base.specs.declared.config.DriveConfig.{DriveConfig}
use Rattle.fdp_base.specs.declared.event.Event.{Event}
use Rattle.fdp_rules.specs.Effect.{References, updated_by}
use Rattle.fdp_rules.specs.Events.{closing_event, update_events}
use Rattle.fdp_rules.specs.PlainState.{PlainState}
use Rattle.fdp_rules.specs.Target.{named_by}
use Rattle.fdp_plain_answers.specs.Keeping.{kept_of}

-- what is kept of pieces is the pieces of what is kept
pub kept_pieces : {X : Type 0} (test : Event → Bool) (g : X → List Event) (xs : List X) → flat_map (λ (x : X). filter test (g x)) xs ≡ filter test (flat_map g xs)
kept_pieces test g [] = refl
kept_pieces test g (x ∷ xs) = ap (λ (ys : List Event). filter test (g x) ++ ys) (kept_pieces test g xs) ∙ sym (filter-append test (g x) (flat_map g xs))

-- what is kept of images is the pieces of what is kept of each
pub kept_images : {X : Type 0} (test : Event → Bool) (g : X → Event) (xs : List X) → flat_map (λ (x : X). filter test (g x ∷ [])) xs ≡ filter test (map g xs)
kept_images test g [] = refl
kept_images test g (x ∷ xs) = ap (λ (ys : List Event). filter test (g x ∷ []) ++ ys) (kept_images test g xs) ∙ sym (filter-append test (g x ∷ []) (map g xs))

-- the events of the first identifiers of an update are there, and the references are as these leave them
pub record IsClosing (c : DriveConfig) (s : PlainState) (nsid : ℕ) (start references : References) (pids : List ℕ) (i : ℕ) (old done : List Event) : Type 0 where
  pub whole : done ++ kept_of s (update_events c s nsid references (drop i pids)) ≡ old ++ kept_of s (update_events c s nsid start pids)

pub closing_next : (c : DriveConfig) (s : PlainState) (nsid : ℕ) (start references after : References) (pids : List ℕ) (i : ℕ) (old done more : List Event) → i < length pids → more ≡ done ++ kept_of s (closing_event c s nsid references (get_or pids i 0) (named_by c s nsid (get_or pids i 0))) → after ≡ updated_by c s nsid references (get_or pids i 0) → IsClosing c s nsid start references pids i old done → IsClosing c s nsid start after pids (i + 1) old more
closing_next c s nsid start references after pids i old done more below e u h =
    let pid = get_or pids i 0 in
    let first = closing_event c s nsid references pid (named_by c s nsid pid) in
    let behind = λ (r : References). update_events c s nsid r (drop (i + 1) pids) in
    let rest : drop i pids ≡ pid ∷ drop (i + 1) pids = rw (add-one) (drop-cons pids i 0 below) in
    record {
      whole =
          ap (λ (xs : List Event). xs ++ kept_of s (behind after)) e
          ∙ ap (λ (r : References). done ++ kept_of s first ++ kept_of s (behind r)) u
          ∙ append_assoc done (kept_of s first) (kept_of s (behind (updated_by c s nsid references pid)))
          ∙ ap (λ (xs : List Event). done ++ xs) (sym (filter-append (λ (x : Event). s.reports x.ruh x.kind) first (behind (updated_by c s nsid references pid))))
          ∙ ap (λ (xs : List ℕ). done ++ kept_of s (update_events c s nsid references xs)) (sym rest)
          ∙ h.whole;
    }

pub closing_end : (c : DriveConfig) (s : PlainState) (nsid : ℕ) (start references : References) (pids : List ℕ) (i : ℕ) (old done : List Event) → length pids ≤ i → IsClosing c s nsid start references pids i old done → done ≡ old ++ kept_of s (update_events c s nsid start pids)
closing_end c s nsid start references pids i old done past h =
    sym (append-nil done) ∙ ap (λ (xs : List ℕ). done ++ kept_of s (update_events c s nsid references xs)) (sym (drop_all i pids past)) ∙ h.whole
