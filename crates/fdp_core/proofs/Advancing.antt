-- A step of relocation within a step of a group: its entries and calls.
use Rattle.std.proofs.Common.{◌≡◌, ◌≢◌, ℕ, ◌<◌, Bool, true, false, List, [], ◌∷◌, ◌++◌, refl, sym, ap, subst, inl, inr}
use Rattle.std.specs.Prelude.{not}
use Rattle.std.proofs.lemmas.List.Elements.{All-nil}
use Rattle.std.proofs.lemmas.Bool.{false≢true}
use Rattle.fdp_base.specs.declared.entry.Copied.{Copied}
use Rattle.fdp_base.specs.declared.entry.Entry.{Entry}
use Rattle.fdp_base.specs.declared.entry.Entry.TheVariants as entries
use Rattle.fdp_relocation.specs.fdp_book.Book.{BookSeen, IsLonger, state_in}
use Rattle.fdp_relocation.specs.fdp_book.Relocating.{told_by}
use Rattle.fdp_calls.specs.Calls.{fetch_at, program_at}
use Rattle.fdp_relocation.specs.fdp_collector.declared.step.Lost.TheVariants as lost
use Rattle.fdp_relocation.specs.fdp_collector.declared.step.Step.{Step}
use Rattle.fdp_relocation.specs.fdp_collector.declared.step.Step.TheVariants as steps
use Rattle.fdp_core.specs.Advancing.{Advances, AreCallsOfMove, IsDueIn, TellsMore, move_of, CopiesPage}
use Rattle.fdp_core.specs.Passes.{Relocates}
use Rattle.fdp_core.specs.Seen.{Seen, Stands, stage_of}
use Rattle.fdp_core.specs.Steps.{Matches}
use Rattle.fdp_core.proofs.Called.{fails-behind, saving-fails}
use Rattle.fdp_core.proofs.Passing.{calls_by, fails-by, longer-none, matches-by, matches-joined, prefix-matches, prefix-stands, resting-prefix, saving-prefix, settled-prefix, worn-made}
use Rattle.fdp_flash.specs.declared.answer.Wrote.TheVariants as wrote
use Rattle.fdp_flash.specs.FlashState.{Call, FlashState}
use Rattle.fdp_loading.specs.fdp_isolation.Laned.{IsKnown}
use Rattle.fdp_relocation.proofs.fdp_locations.Ending.{rests-same}
use Rattle.fdp_passes.specs.declared.due.Due.TheVariants as due
use Rattle.fdp_relocation.specs.declared.advance.Advance.{Advance}
use Rattle.fdp_relocation.specs.declared.advance.Advance.TheVariants as advance
use Rattle.fdp_relocation.specs.Collected.{Collects, Moves, SavesMove, Steps, StepsSettled}
use Rattle.fdp_relocation.specs.Entries.{IsRelocationIn, AreRelocationIn}
use Rattle.fdp_relocation.proofs.Keeping.{keeps-longer}
use Rattle.fdp_relocation.proofs.Telling.{moved-inside, told-inside}
use Rattle.fdp_relocation.specs.fdp_saving.declared.saved.Saved.{Saved}
use Rattle.fdp_relocation.specs.fdp_saving.declared.saved.Saved.TheVariants as savings
use Rattle.fdp_loading.specs.fdp_survival.Books.{IsSafe}
use Rattle.fdp_units.specs.UnitTable.{IsGroup}
use Rattle.fdp_relocation.specs.fdp_saving.Calls.{FailAtEnd, AreCallsOfRenewal, AreCallsOfCheckpoint}
use Rattle.fdp_snapshot.specs.declared.state.Summary.{Summary}
use Rattle.fdp_loading.specs.fdp_ledger.Ledger.{IsLedger}
use Rattle.fdp_loading.specs.fdp_ledger.WornOut.{IsWornOut}
use Rattle.fdp_loading.specs.fdp_ledger.declared.counts.Counts.{Counts}
use Rattle.fdp_relocation.proofs.fdp_saving.Failing.{renewed_failed, renewed_well}

module _ {F : Type 0} (state : F → FlashState) (old new : Seen F) (rg : ℕ) (stands : Stands (state old.flash) old.book) (safe : IsSafe old.book old.keeper.saver old.keeper.firm (state old.flash)) (low : rg < old.book.config.groups) (group : IsGroup old.book.pages.units rg) (handed : new.handed ≡ old.handed) where
  abbrev doubt : Bool
  doubt = old.keeper.saver.in_doubt

  made : (es : List Entry) (calls : List Call) → IsLonger old.book new.book es → AreRelocationIn old.book.config rg es → Matches (state old.flash) (state new.flash) es calls → Relocates state old new rg es calls
  made es calls longer inside matches = record {
    extends = record { book = longer; handed_is = handed; matches = matches };
    inside = inside;
    kept = keeps-longer old.book new.book rg es longer inside;
  }

  -- a step alone
  abbrev step-calls : (step : Step) → Steps state (stage_of old) (stage_of new) rg step → List Call
  step-calls step h = calls_by old.book new.book (state old.flash) (state new.flash) rg (not doubt) step h.made

  stepped : (step : Step) (h : Steps state (stage_of old) (stage_of new) rg step) → Relocates state old new rg (told_by rg step) (step-calls step h)
  stepped step h =
      made (told_by rg step) (step-calls step h) h.made.longer (told-inside old.book new.book (state old.flash) (state new.flash) rg (not doubt) step stands.known.units stands.known.joined group h.made)
      (matches-by old.book new.book (state old.flash) (state new.flash) rg (not doubt) _ stands low h.run step h.made)

  -- behind the end of a doubt
  abbrev settled-calls : (step : Step) → StepsSettled state (stage_of old) (stage_of new) rg step → List Call
  settled-calls step h = h.settled.saves.calls.calls ++ calls_by old.book new.book (state h.middle) (state new.flash) rg true step h.made

  settled : (step : Step) (h : StepsSettled state (stage_of old) (stage_of new) rg step) → Relocates state old new rg (told_by rg step) (settled-calls step h)
  settled step h =
      let prefix = settled-prefix old.book old.keeper.saver new.keeper.saver old.keeper.firm (state old.flash) (state h.middle) wrote.Done safe h.settled.saves in
      let middle = prefix-stands old.book (state old.flash) (state h.middle) h.settled.saves.calls.calls stands prefix in
      made (told_by rg step) (settled-calls step h) h.made.longer (told-inside old.book new.book (state h.middle) (state new.flash) rg true step stands.known.units stands.known.joined group h.made)
      (matches-joined (state old.flash) (state h.middle) (state new.flash) [] (told_by rg step) h.settled.saves.calls.calls _ (λ unit. refl)
      (prefix-matches old.book (state old.flash) (state h.middle) h.settled.saves.calls.calls [] stands.geometry refl (λ wrong. absurd (false≢true wrong)) (λ unit. refl) prefix)
      (matches-by old.book new.book (state h.middle) (state new.flash) rg true _ middle low h.run step h.made))

  -- a move
  moved : (answer : Saved) (h : Moves state (stage_of old) (stage_of new) rg answer) → (calls : List Call) × AreCallsOfMove old.book old.keeper.saver rg answer calls × Relocates state old new rg (move_of old.book rg ∷ []) calls
  moved answer h = chosen h.saved where
    inside : AreRelocationIn old.book.config rg (move_of old.book rg ∷ [])
    inside = moved-inside old.book rg

    chosen : SavesMove state (stage_of old) (stage_of new) rg answer → (calls : List Call) × AreCallsOfMove old.book old.keeper.saver rg answer calls × Relocates state old new rg (move_of old.book rg ∷ []) calls
    chosen (inl none) = (
      [],
      inl (none.0, none.1, refl),
      made (move_of old.book rg ∷ []) [] h.moved.longer inside
          (prefix-matches old.book (state old.flash) (state new.flash) [] (move_of old.book rg ∷ []) stands.geometry refl (λ wrong. absurd (false≢true wrong)) (λ unit. refl) (resting-prefix old.book (state old.flash) (state new.flash) none.3)),
    )
    chosen (inr some) =
        let saves = some.1.saves in
        let prefix = saving-prefix old.book (move_of old.book rg) old.keeper.saver new.keeper.saver old.keeper.firm (state old.flash) (state new.flash) answer safe saves in (
          saves.calls.calls,
          inr (some.0, (saves.given.summary, saves.calls.are)),
          made (move_of old.book rg ∷ []) saves.calls.calls h.moved.longer inside
              (prefix-matches old.book (state old.flash) (state new.flash) saves.calls.calls (move_of old.book rg ∷ []) stands.geometry refl (λ wrong. absurd (false≢true wrong)) (λ unit. refl) prefix),
        )

  not-true : (b : Bool) → not b ≡ true → b ≡ false
  not-true true e = absurd cc
  not-true false e = refl

  wanted-done : (calls : List Call) (summary : Summary) → doubt ≡ true → AreCallsOfRenewal doubt old.keeper.saver summary wrote.Done calls → AreCallsOfCheckpoint old.keeper.saver summary wrote.Done calls
  wanted-done calls summary is h = subst (λ (wanted : Bool). AreCallsOfRenewal wanted old.keeper.saver summary wrote.Done calls) is h

  move-fails : (answer : Saved) (calls : List Call) → answer ≢ savings.Done → AreCallsOfMove old.book old.keeper.saver rg answer calls → FailAtEnd calls
  move-fails answer calls other (inl none) = absurd (other none.1)
  move-fails answer calls other (inr some) = saving-fails old.keeper.saver some.1.0 answer calls other some.1.1

  -- ---- each answer

  pub advanced : (x : Advance) → Collects state (stage_of old) (stage_of new) rg x → Advances state old new rg x
  unfolding calls_by
  advanced advance.Nothing h = record {
    es = [];
    calls = [];
    came = record { due = h.made.is.0; entries_are = refl; calls_are = refl; pages = rests-same old.book.pages new.book.pages rg stands.known.joined group h.made.rest h.made.is.1.group };
    relocates = stepped steps.Nothing h;
  }
  advanced advance.Copied h = record {
    es = entries.Copied h.0 ∷ [];
    calls = step-calls (steps.Copied h.0) h.1;
    came = copies h.0 (record { from = h.1.made.is.from; to = h.1.made.is.to }) h.1.made.is.ended.0 h.1.made.is.due;
    relocates = stepped (steps.Copied h.0) h.1;
  } where
    copies : (copy it : Copied) → copy ≡ it → IsDueIn old.book rg (due.Copy it.from) → CopiesPage old.book rg (entries.Copied copy ∷ []) (fetch_at it.from false ∷ program_at it.to false ∷ [])
    copies copy it same is = record {
      copy = copy;
      due = subst (λ (x : Copied). IsDueIn old.book rg (due.Copy x.from)) (sym same) is;
      entries_are = refl;
      calls_are = ap (λ (x : Copied). fetch_at x.from false ∷ program_at x.to false ∷ []) (sym same);
    }
  advanced advance.Moved h =
      let m = moved savings.Done h in
      record { es = move_of old.book rg ∷ []; calls = m.0; came = record { due = h.due; entries_are = refl; calls_are = m.1 }; relocates = m.2 }
  advanced advance.Erased (unit, inl h) = record {
    es = entries.Erased (record { unit = unit }) ∷ [];
    calls = step-calls (steps.Erased unit) h;
    came = record {
      unit = unit;
      due = h.made.is.0;
      entries_are = refl;
      settling = [];
      settled = inl (not-true doubt h.made.is.1, refl, refl);
      calls_are = refl;
    };
    relocates = stepped (steps.Erased unit) h;
  }
  advanced advance.Erased (unit, inr h) = record {
    es = entries.Erased (record { unit = unit }) ∷ [];
    calls = settled-calls (steps.Erased unit) h;
    came = record { unit = unit; due = h.made.is.0; entries_are = refl; settling = h.settled.saves.calls.calls; settled = inr (h.doubt, (h.settled.saves.given.summary, wanted-done h.settled.saves.calls.calls h.settled.saves.given.summary h.doubt h.settled.saves.calls.are)); calls_are = refl };
    relocates = settled (steps.Erased unit) h;
  }
  advanced advance.Starved h = record {
    es = entries.Worn (record { rg = rg }) ∷ [];
    calls = [];
    came = record { from = h.made.is.from; due = h.made.is.due; free = h.made.is.starved.free; entries_are = refl; calls_are = refl };
    relocates = stepped steps.Starved h;
  }
  advanced advance.Fault (inl h) = record {
    es = told_by rg (steps.Fault h.0);
    calls = step-calls (steps.Fault h.0) h.1;
    came = inl (record { lost = h.0; entries_are = refl; fails = fails-by old.book new.book (state old.flash) (state new.flash) rg (not doubt) _ stands low h.1.run h.0 h.1.made });
    relocates = stepped (steps.Fault h.0) h.1;
  }
  advanced advance.Fault (inr (inl h)) = record {
    es = told_by rg (steps.Fault (lost.Retired h.0));
    calls = settled-calls (steps.Fault (lost.Retired h.0)) h.1;
    came = inl (record {
      lost = lost.Retired h.0;
      entries_are = refl;
      fails = fails-behind h.1.settled.saves.calls.calls (renewed_well doubt old.keeper.saver h.1.settled.saves.given.summary h.1.settled.saves.calls.calls h.1.settled.saves.calls.are) _
          (fails-by old.book new.book (state h.1.middle) (state new.flash) rg true _ (prefix-stands old.book (state old.flash) (state h.1.middle) h.1.settled.saves.calls.calls stands (settled-prefix old.book old.keeper.saver new.keeper.saver old.keeper.firm (state old.flash) (state h.1.middle) wrote.Done safe h.1.settled.saves)) low h.1.run (lost.Retired h.0) h.1.made);
    });
    relocates = settled (steps.Fault (lost.Retired h.0)) h.1;
  }
  advanced advance.Fault (inr (inr (inl h))) =
      let prefix = settled-prefix old.book old.keeper.saver new.keeper.saver old.keeper.firm (state old.flash) (state new.flash) wrote.Failed safe h.failed.saves in
      record {
        es = [];
        calls = h.failed.saves.calls.calls;
        came = inr (inl (record {
          unit = h.unit;
          due = h.due;
          entries_are = refl;
          settled = inr (h.doubt, (h.failed.saves.given.summary, h.failed.saves.calls.are.1));
          fails = renewed_failed doubt old.keeper.saver h.failed.saves.given.summary h.failed.saves.calls.calls h.failed.saves.calls.are;
          pages = ap (λ (d : BookSeen). d.pages) h.book;
        }));
        relocates = made [] h.failed.saves.calls.calls (subst (λ (d : BookSeen). IsLonger old.book d []) (sym h.book) (longer-none old.book)) (All-nil (IsRelocationIn old.book.config rg))
            (prefix-matches old.book (state old.flash) (state new.flash) h.failed.saves.calls.calls [] stands.geometry refl (λ wrong. absurd (false≢true wrong)) (λ unit. refl) prefix);
      }
  advanced advance.Fault (inr (inr (inr h))) =
      let m = moved h.0 h.2 in
      record {
        es = move_of old.book rg ∷ [];
        calls = m.0;
        came = inr (inr (record { answer = h.0; not_done = h.1; moves = record { due = h.2.due; entries_are = refl; calls_are = m.1 }; fails = move-fails h.0 m.0 h.1 m.1 }));
        relocates = m.2;
      }

-- ---- what is told beside

-- where nothing was due the flash was not called; a group for which no unit is free is worn out
pub told-more : {F : Type 0} (state : F → FlashState) (old new : Seen F) (rg : ℕ) → Stands (state old.flash) old.book → rg < old.book.config.groups → new.handed ≡ old.handed → IsKnown new.book → IsLedger old.handed new.book (state new.flash) → (x : Advance) →
    Collects state (stage_of old) (stage_of new) rg x → TellsMore state old new rg x
told-more state old new rg stands low handed known ledger advance.Nothing h = h.made.is.1.flash
told-more state old new rg stands low handed known ledger advance.Copied h = tt
told-more state old new rg stands low handed known ledger advance.Moved h = tt
told-more state old new rg stands low handed known ledger advance.Erased h = tt
told-more state old new rg stands low handed known ledger advance.Starved h =
    subst (λ (k : Counts). IsWornOut k (state new.flash) (state_in new.book).is_lost rg) (sym handed)
    (worn-made old.handed old.book new.book (state old.flash) (state new.flash) rg (not old.keeper.saver.in_doubt) _ h.run stands low known ledger h.made)
told-more state old new rg stands low handed known ledger advance.Fault h = tt
