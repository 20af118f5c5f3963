-- How much of a history a plain drive has taken.
use Rattle.std.proofs.Common.{◌≡◌, ℕ, ◌+◌, ◌<◌, ◌≤◌, true, List, [], ◌∷◌, ◌++◌, length, take, slice_get, Some, None, ap, sym, subst, ◌∙◌, arith}
use Rattle.std.proofs.lemmas.List.{take_more}
use Rattle.std.proofs.lemmas.Option.{get_or_from_slice_get, slice_get_past}
use Rattle.fdp_base.specs.declared.config.DriveConfig.{DriveConfig}
use Rattle.fdp_base.specs.declared.entry.Entry.{Entry}
use Rattle.fdp_rules.specs.History.{fresh}
use Rattle.fdp_rules.specs.Legal.{IsLegal, IsLegalAfter}
use Rattle.fdp_rules.specs.Step.{IsStep}
use Rattle.fdp_rules.proofs.Pushes.{legal-push}
use Rattle.fdp_plain.specs.Refusing.{IsNoStep}
use Rattle.fdp_plain.specs.Run.{Run, found_of}
use Rattle.fdp_core_tests.specs.Replayed.{IsTaken}

-- a fresh run that took these entries
abbrev pub run_with : DriveConfig → List Entry → Run
run_with c es = record { config = c; earlier = []; entries = es }

-- a plain drive took so many entries of a history, from the first on
pub record IsReplayed (c : DriveConfig) (es : List Entry) (run : Run) (count : ℕ) : Type 0 where
  pub run_is : run ≡ run_with c (take count es)
  pub few : count ≤ length es
  pub legal : IsLegal true c (fresh c) (take count es)

pub replayed-first : (c : DriveConfig) (es : List Entry) (run : Run) → run ≡ run_with c [] → IsReplayed c es run 0
unfolding IsLegalAfter
replayed-first c es run is = record {
  run_is = is;
  few = omega arith;
  legal = tt;
}

-- an entry more is taken
pub replayed-next : (c : DriveConfig) (es : List Entry) (run new : Run) (i : ℕ) (e : Entry) → i < length es → slice_get es i ≡ Some e →
    IsStep true run.config (found_of run) run.entries e → new ≡ record run { entries = run.entries ++ e ∷ [] } → IsReplayed c es run i → IsReplayed c es new (i + 1)
replayed-next c es run new i e below is step longer h =
    let more : take (i + 1) es ≡ take i es ++ e ∷ [] = take_more es i e below ∙ ap (λ (x : Entry). take i es ++ x ∷ []) (get_or_from_slice_get es i e e is) in
    let here : IsStep true c (fresh c) (take i es) e = subst (λ (r : Run). IsStep true r.config (found_of r) r.entries e) h.run_is step in
    record {
      run_is =
          longer
          ∙ ap (λ (r : Run). let now : Run = record r { entries = r.entries ++ e ∷ [] } in now) h.run_is
          ∙ ap (run_with c) (sym more);
      few = omega (arith, below);
      legal = subst (IsLegal true c (fresh c)) (sym more) (legal-push true c (fresh c) (take i es) e h.legal here);
    }

some-same : (x y : Entry) → Some x ≡ Some y → x ≡ y
some-same x y e = cc

none-is_some : (x : Entry) → None ≡ Some x → ⊥
none-is_some x e = cc

-- the next one is no step
pub replayed-refused : (c : DriveConfig) (es : List Entry) (run : Run) (i : ℕ) (e : Entry) (at why : ℕ) → slice_get es i ≡ Some e → IsNoStep run e at why → IsReplayed c es run i → IsTaken c es i
replayed-refused c es run i e at why is refused h = record {
  few = h.few;
  legal = h.legal;
  most = λ x next step. refused.no_step (before (subst (λ (y : Entry). IsStep true c (fresh c) (take i es) y) (some-same x e (sym next ∙ is)) step));
}
  where
    before : IsStep true c (fresh c) (take i es) e → IsStep true run.config (found_of run) run.entries e
    before step = subst (λ (r : Run). IsStep true r.config (found_of r) r.entries e) (sym h.run_is) step

-- all were taken
pub replayed-all : (c : DriveConfig) (es : List Entry) (run : Run) (count : ℕ) → length es ≤ count → IsReplayed c es run count → IsTaken c es (length es)
replayed-all c es run count past h =
    let all : count ≡ length es = omega (arith, past, h.few) in
    record {
      few = omega arith;
      legal = subst (λ (n : ℕ). IsLegal true c (fresh c) (take n es)) all h.legal;
      most = λ x next step. none-is_some x (sym (slice_get_past es (length es) (omega arith)) ∙ next);
    }
