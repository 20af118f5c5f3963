-- The tables of a drive as its configuration makes it say what stands before the first entry.
use Rattle.std.proofs.Common.{◌≡◌, ℕ, true, List, [], ◌∷◌, length, drop, None, refl, sym, ◌∙◌, ap, arith, subst}
use Rattle.std.proofs.lemmas.Option.{none-some}
use Rattle.fdp_base.specs.declared.config.DriveConfig.{DriveConfig}
use Rattle.fdp_base.specs.declared.entry.Entry.{Entry}
use Rattle.fdp_base.specs.Config.{IsValidConfig}
use Rattle.fdp_rules.specs.History.{first_state, fresh, point_of, state_of}
use Rattle.fdp_rules.specs.Legal.{IsLegal, IsLegalAfter}
use Rattle.fdp_tables.specs.Starts.{AreStarts, cut, start_of}
use Rattle.fdp_rules.specs.Point.{Point}
use Rattle.fdp_tables.specs.declared.state.Kept.{Kept}
use Rattle.fdp_tables.specs.Fresh.{IsFresh}
use Rattle.fdp_tables.specs.State.{plain_of}
use Rattle.fdp_plain.specs.Found.{BeginsInOrder}
use Rattle.fdp_plain.proofs.Ordering.{in_order_fresh}
use Rattle.fdp_plain.specs.Run.{AreLegalBehind, Run, found_of, point_in}
use Rattle.fdp_plain.specs.Telling.{TellsHistory, run_of}

none_of_none : (es : List Entry) → length es ≡ 0 → es ≡ []
none_of_none [] e = refl
none_of_none (x ∷ es) e = absurd (omega (arith, e))

-- no entry was taken
pub first_entries : (c : DriveConfig) (k : Kept) → IsFresh c k → k.entries.items ≡ []
unfolding point_of state_of first_state fresh
first_entries c k h = none_of_none k.entries.items (ap (λ (p : Point). p.state.position) h.point)

-- no write is going
first_going : (c : DriveConfig) (k : Kept) → IsFresh c k → (queue : ℕ) → (plain_of k).going queue ≡ None
unfolding point_of state_of first_state
first_going c k h queue = ap (λ (p : Point). p.state.going queue) h.point

-- a run that no other came before
abbrev pub first_run : DriveConfig → Run
first_run c = record { config = c; earlier = []; entries = [] }

pub run_is : (c : DriveConfig) (k : Kept) → IsFresh c k → run_of k ≡ first_run c
run_is c k h =
    let run : List ℕ → DriveConfig → List Entry → Run = λ starts b es. record { config = b; earlier = cut 0 starts es; entries = drop (start_of starts) es } in
    ap (λ (starts : List ℕ). run starts k.config k.entries.items) h.starts
    ∙ ap (λ (b : DriveConfig). run [] b k.entries.items) h.config
    ∙ ap (λ (es : List Entry). run [] c es) (first_entries c k h)

pub first_history : (c : DriveConfig) (k : Kept) → IsValidConfig c → IsFresh c k → TellsHistory k
unfolding IsLegalAfter
first_history c k valid h =
    let config = sym h.config in
    let run : first_run c ≡ run_of k = sym (run_is c k h) in
    let legal : IsLegal true c (found_of (first_run c)) [] = tt in
    let none : AreLegalBehind c [] [] = tt in
    record {
      config = subst IsValidConfig config valid;
      rows = record {
        spaces = h.sound.spaces;
        reports = h.sound.reports;
        references = h.sound.references;
        going = h.sound.going;
        lost = h.sound.lost;
        worn = h.sound.worn;
        sites = h.sound.sites;
        copies = h.sound.copies;
        pages = λ queue g e. absurd (none-some g (sym (first_going c k h queue) ∙ e));
      };
      starts = subst (λ (starts : List ℕ). AreStarts 0 starts (length k.entries.items)) (sym h.starts) (omega arith);
      begins = subst (λ (r : Run). BeginsInOrder r.config (found_of r)) run (in_order_fresh c valid);
      known = h.sound.found_pages;
      point = h.point ∙ ap point_in run;
      earlier = subst (λ (r : Run). AreLegalBehind r.config [] r.earlier) run none;
      legal = subst (λ (r : Run). IsLegal true r.config (found_of r) r.entries) run legal;
    }
