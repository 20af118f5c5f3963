-- What calls more make of what a flash counted and of the calls that it tells.
use Rattle.std.proofs.Common.{◌≡◌, ℕ, ◌≤◌, Bool, true, false, ◌||◌, ◌&&◌, not, IsTrue, List, [], ◌∷◌, ◌++◌, length, drop, refl, sym, ◌∙◌, ap, arith, append_assoc}
use Rattle.std.specs.Prelude.{◌==◌}
use Rattle.std.specs.List.{list_all, list_any}
use Rattle.std.proofs.lemmas.List.{append-nil, drop-append-le}
use Rattle.std.proofs.lemmas.List.Folds.{list_any-append}
use Rattle.fdp_base.specs.declared.entry.Spot.{Spot}
use Rattle.fdp_calls.specs.Calls.{MakesCalls, erase_at, program_at}
use Rattle.fdp_book.specs.fdp_collector.Step.{IsUncalled}
use Rattle.fdp_flash.specs.declared.answer.Operation.{Operation}
use Rattle.fdp_flash.specs.declared.answer.Operation.TheVariants.{Erase, Fetch, Look, Program}
use Rattle.fdp_flash.specs.declared.answer.Wrote.{Wrote}
use Rattle.fdp_flash.specs.declared.cell.Cell.{Cell}
use Rattle.fdp_flash.specs.Answers.{Erases, wrote_failed}
use Rattle.fdp_flash.specs.FlashState.{Call, FlashState}
use Rattle.fdp_flash.specs.Runs.{Runs}
use Rattle.fdp_ledger.specs.declared.counts.Counts.{Counts}
use Rattle.fdp_ledger.specs.Calls.{is_fetch, is_fetch_call}
use Rattle.fdp_ledger.specs.WornOut.{FailsIn, calls_since, erases, is_erase_call}

-- these calls were made, or none
pub record IsAfter (old now : FlashState) (calls : List Call) : Type 0 where
  pub geometry : now.geometry ≡ old.geometry
  pub told : now.told ≡ old.told
  pub moment : old.moment ≤ now.moment
  pub faults : old.faults ≤ now.faults
  pub tells : IsTrue now.tells_calls → IsTrue old.tells_calls
  pub listed : IsTrue now.tells_calls → now.calls ≡ old.calls ++ calls

pub after-made : (old now : FlashState) (calls : List Call) → MakesCalls old now calls → IsAfter old now calls
after-made old now calls made = record {
  geometry = made.run.geometry;
  told = made.run.told;
  moment = made.run.later;
  faults = made.run.faults;
  tells = made.run.listed_before;
  listed = made.listed;
}

pub after-uncalled : (old now : FlashState) (Image : ℕ → List Cell → Type 0) → IsUncalled old now → Runs old now Image → IsAfter old now []
after-uncalled old now Image h run = record {
  geometry = run.geometry;
  told = run.told;
  moment = run.later;
  faults = run.faults;
  tells = run.listed_before;
  listed = λ tells. h.calls tells ∙ sym (append-nil old.calls);
}

pub after-erased : (old now : FlashState) (Image : ℕ → List Cell → Type 0) (unit : ℕ) (result : Wrote) → Erases old now unit result → Runs old now Image → IsAfter old now (erase_at unit (wrote_failed result) ∷ [])
after-erased old now Image unit result h run = record {
  geometry = run.geometry;
  told = run.told;
  moment = run.later;
  faults = run.faults;
  tells = run.listed_before;
  listed = h.ended.listed;
}

pub after-same : (now : FlashState) → IsAfter now now []
after-same now = record { geometry = refl; told = refl; moment = omega arith; faults = omega arith; tells = λ t. t; listed = λ t. sym (append-nil now.calls) }

-- ---- failed programs

-- none of these calls erased a unit
abbrev pub ErasesNone : List Call → Type 0
ErasesNone calls = (unit : ℕ) → list_any (erases unit) calls ≡ false

fetch-erases : (operation : Operation) (same failed : Bool) → is_fetch_call operation ≡ true → (is_erase_call operation && same && not failed) ≡ false
fetch-erases Look same failed e = refl
fetch-erases Fetch same failed e = refl
fetch-erases Program same failed e = refl
fetch-erases Erase same failed e = absurd cc

and-first : (a b : Bool) → (a && b) ≡ true → a ≡ true
and-first true b e = refl
and-first false b e = e

and-second : (a b : Bool) → (a && b) ≡ true → b ≡ true
and-second true b e = e
and-second false b e = absurd cc

pub fetches-erase : (calls : List Call) → IsTrue (list_all is_fetch calls) → ErasesNone calls
fetches-erase [] h unit = refl
fetches-erase (call ∷ calls) h unit = both (erases unit call) (list_any (erases unit) calls) (fetch-erases call.operation (call.at.unit == unit) call.failed (and-first (is_fetch call) (list_all is_fetch calls) h)) (fetches-erase calls (and-second (is_fetch call) (list_all is_fetch calls) h) unit) where
  both : (a b : Bool) → a ≡ false → b ≡ false → (a || b) ≡ false
  both true b e f = e
  both false b e f = f

module _ (handed : Counts) (old now : FlashState) (calls : List Call) (after : IsAfter old now calls) (since : IsTrue old.tells_calls → handed.moment ≤ length old.calls) (tells : IsTrue now.tells_calls) where
  pub since-more : calls_since handed now ≡ calls_since handed old ++ calls
  since-more = ap (λ (xs : List Call). drop handed.moment xs) (after.listed tells) ∙ drop-append-le handed.moment old.calls calls (since (after.tells tells))

  -- a program that failed in a unit stands as long as the unit is not erased
  pub fails-still : (unit : ℕ) → list_any (erases unit) calls ≡ false → FailsIn unit (calls_since handed old) → FailsIn unit (calls_since handed now)
  fails-still unit none h = record {
    before = h.before;
    page = h.page;
    after = h.after ++ calls;
    calls_are = since-more ∙ ap (λ (xs : List Call). xs ++ calls) h.calls_are ∙ append_assoc h.before (program_at (record { unit = unit; page = h.page }) true ∷ h.after) calls;
    since = list_any-append (erases unit) h.after calls ∙ ap (λ (b : Bool). b || list_any (erases unit) calls) h.since ∙ none;
  }

  -- a program that was the last call failed
  pub fails-now : (first : List Call) (spot : Spot) → calls ≡ first ++ program_at spot true ∷ [] → FailsIn spot.unit (calls_since handed now)
  fails-now first spot last = record {
    before = calls_since handed old ++ first;
    page = spot.page;
    after = [];
    calls_are = since-more ∙ ap (λ (xs : List Call). calls_since handed old ++ xs) last ∙ sym (append_assoc (calls_since handed old) first (program_at spot true ∷ []));
    since = refl;
  }
