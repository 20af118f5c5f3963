-- What the lists of a found drive say of its handles and namespaces: what the state says that it goes on from.
use Rattle.std.proofs.Common.{◌≡◌, ◌≢◌, ℕ, ◌≤◌, ◌<◌, Bool, true, false, List, [], ◌∷◌, Option, Some, None, refl, sym, ◌∙◌, ap, arith, eq-eqb, ne_eqb, ⊎_elim}
use Rattle.std.specs.Prelude.{◌==◌, ◌&&◌, ◌||◌, option_map}
use Rattle.std.specs.List.{list_any}
use Rattle.std.proofs.lemmas.Bool.{cases_eq, cases_lt}
use Rattle.fdp_base.specs.declared.event.EventKind.{EventKind}
use Rattle.fdp_base.specs.declared.event.EventKind.TheVariants as kinds
use Rattle.fdp_base.specs.EventCodes.{event_kinds, kind_code}
use Rattle.fdp_plain.specs.Found.{HasFewReports, found_namespaces, found_reports, namespace_as, report_as, reports_of}
use Rattle.fdp_plain.proofs.Listing.{any-flat, any-flat_none, any-kept, find-mapped, find-mapped_none}
use Rattle.fdp_rules.specs.History.{FoundNamespace, FoundReport, namespace_in, reports_in}
use Rattle.fdp_rules.specs.PlainState.{Namespace, PlainState}
use Rattle.fdp_rules.specs.Room.{namespace_ids}

-- ---- kinds of event

not-true : (b : Bool) → (b ≡ true → ⊥) → b ≡ false
not-true true h = absurd (h refl)
not-true false h = refl

dead : (b rest : Bool) → (b && false || rest) ≡ rest
dead true rest = refl
dead false rest = refl

live : (b rest : Bool) → rest ≡ false → (b && true || rest) ≡ b
live true rest none = refl
live false rest none = none

-- the six kinds, of which one has the code of a kind
one-kind : (p : EventKind → Bool) (kind : EventKind) → list_any (λ k. p k && (true && kind_code k == kind_code kind)) event_kinds ≡ p kind
one-kind p kinds.NotFullyWritten = live (p kinds.NotFullyWritten) _ (dead (p kinds.TimeLimitExceeded) _ ∙ dead (p kinds.HandlesModified) _ ∙ dead (p kinds.InvalidPlacementIdentifier) _ ∙ dead (p kinds.MediaReallocated) _ ∙ dead (p kinds.ImplicitlyModified) _)
one-kind p kinds.TimeLimitExceeded = dead (p kinds.NotFullyWritten) _ ∙ live (p kinds.TimeLimitExceeded) _ (dead (p kinds.HandlesModified) _ ∙ dead (p kinds.InvalidPlacementIdentifier) _ ∙ dead (p kinds.MediaReallocated) _ ∙ dead (p kinds.ImplicitlyModified) _)
one-kind p kinds.HandlesModified = dead (p kinds.NotFullyWritten) _ ∙ dead (p kinds.TimeLimitExceeded) _ ∙ live (p kinds.HandlesModified) _ (dead (p kinds.InvalidPlacementIdentifier) _ ∙ dead (p kinds.MediaReallocated) _ ∙ dead (p kinds.ImplicitlyModified) _)
one-kind p kinds.InvalidPlacementIdentifier = dead (p kinds.NotFullyWritten) _ ∙ dead (p kinds.TimeLimitExceeded) _ ∙ dead (p kinds.HandlesModified) _ ∙ live (p kinds.InvalidPlacementIdentifier) _ (dead (p kinds.MediaReallocated) _ ∙ dead (p kinds.ImplicitlyModified) _)
one-kind p kinds.MediaReallocated = dead (p kinds.NotFullyWritten) _ ∙ dead (p kinds.TimeLimitExceeded) _ ∙ dead (p kinds.HandlesModified) _ ∙ dead (p kinds.InvalidPlacementIdentifier) _ ∙ live (p kinds.MediaReallocated) _ (dead (p kinds.ImplicitlyModified) _)
one-kind p kinds.ImplicitlyModified = dead (p kinds.NotFullyWritten) _ ∙ dead (p kinds.TimeLimitExceeded) _ ∙ dead (p kinds.HandlesModified) _ ∙ dead (p kinds.InvalidPlacementIdentifier) _ ∙ dead (p kinds.MediaReallocated) _ ∙ live (p kinds.ImplicitlyModified) _ refl

no-kind : (p q : EventKind → Bool) (xs : List EventKind) → list_any (λ k. p k && (false && q k)) xs ≡ false
no-kind p q [] = refl
no-kind p q (x ∷ xs) = dead (p x) _ ∙ no-kind p q xs

-- ---- reports

module _ (s : PlainState) (few : HasFewReports s) (ruh : ℕ) (kind : EventKind) where
  abbrev Test : FoundReport → Bool
  Test x = x.ruh == ruh && kind_code x.kind == kind_code kind

  -- those of the handle, and of another
  own : list_any Test (reports_of s ruh) ≡ s.reports ruh kind
  own =
      any-kept (s.reports ruh) (report_as ruh) Test event_kinds
      ∙ ap (λ b. list_any (λ k. s.reports ruh k && (b && kind_code k == kind_code kind)) event_kinds) (eq-eqb ruh ruh refl) ∙ one-kind (s.reports ruh) kind

  others : (n : ℕ) → n ≢ ruh → list_any Test (reports_of s n) ≡ false
  others n ne =
      any-kept (s.reports n) (report_as n) Test event_kinds
      ∙ ap (λ b. list_any (λ k. s.reports n k && (b && kind_code k == kind_code kind)) event_kinds) (ne_eqb n ruh ne) ∙ no-kind (s.reports n) (λ k. kind_code k == kind_code kind) event_kinds

  pub reports-found : reports_in (found_reports s) ruh kind ≡ s.reports ruh kind
  reports-found =
      ⊎_elim
      (λ (low : ruh < 16). any-flat (reports_of s) Test 0 16 ruh others (omega arith) (omega (arith, low)) ∙ own)
      (λ (high : 16 ≤ ruh).
      let none : s.reports ruh kind ≡ false = not-true (s.reports ruh kind) (λ yes. omega (arith, few ruh kind yes, high)) in
      any-flat_none (reports_of s) Test 0 16 (λ n low. ⊎_elim (λ (same : n ≡ ruh). ap (λ k. list_any Test (reports_of s k)) same ∙ own ∙ none) (others n) (cases_eq n ruh)) ∙ sym none)
      (cases_lt ruh 16)

-- ---- namespaces

abbrev named : (nsid : ℕ) → FoundNamespace → Bool
named nsid x = x.nsid == nsid

space-id : (n : ℕ) (o : Option Namespace) (x : FoundNamespace) → option_map (namespace_as n) o ≡ Some x → x.nsid ≡ n
space-id n None x e = absurd cc
space-id n (Some y) x e = let same : namespace_as n y ≡ x = cc in sym (ap (λ (z : FoundNamespace). z.nsid) same)

back : (n : ℕ) (o : Option Namespace) → option_map (λ (x : FoundNamespace). x.namespace) (option_map (namespace_as n) o) ≡ o
back n None = refl
back n (Some y) = refl

abbrev row : PlainState → ℕ → Option FoundNamespace
row s n = option_map (namespace_as n) (s.namespaces n)

-- a namespace that may be there has one of sixteen identifiers
pub namespaces-found : (s : PlainState) → ((nsid : ℕ) (x : Namespace) → s.namespaces nsid ≡ Some x → (1 ≤ nsid) × (nsid < 17)) → (nsid : ℕ) → namespace_in (found_namespaces s) nsid ≡ s.namespaces nsid
unfolding namespace_ids
namespaces-found s within nsid = of (s.namespaces nsid) refl where
  id : (n : ℕ) (x : FoundNamespace) → row s n ≡ Some x → x.nsid ≡ n
  id n x e = space-id n (s.namespaces n) x e

  others : (n : ℕ) (x : FoundNamespace) → n ≢ nsid → row s n ≡ Some x → named nsid x ≡ false
  others n x ne e = ne_eqb x.nsid nsid (λ same. ne (sym (id n x e) ∙ same))

  of : (o : Option Namespace) → s.namespaces nsid ≡ o → namespace_in (found_namespaces s) nsid ≡ s.namespaces nsid
  of None is =
      ap (option_map (λ (x : FoundNamespace). x.namespace)) (find-mapped_none (row s) (named nsid) 1 16 (λ n x low e. ⊎_elim (λ (same : n ≡ nsid). let no : None ≡ Some x = sym (ap (λ k. row s k) same ∙ ap (option_map (namespace_as nsid)) is) ∙ e in absurd cc) (λ ne. others n x ne e) (cases_eq n nsid)))
      ∙ sym is
  of (Some y) is =
      let id_is = within nsid y is in
      ap (option_map (λ (x : FoundNamespace). x.namespace)) (find-mapped (row s) (named nsid) 1 16 nsid others (λ x e. eq-eqb x.nsid nsid (id nsid x e)) id_is.0 (omega (arith, id_is.1)))
      ∙ back nsid (s.namespaces nsid)
