-- What is safe stays so behind a saving, and a stop within it loses nothing.
use Rattle.std.proofs.Common.{◌≡◌, ◌≢◌, ℕ, ◌+◌, ◌<◌, ◌≤◌, Bool, true, false, IsTrue, List, [], ◌∷◌, ◌++◌, length, refl, sym, ◌∙◌, ap, subst, arith}
use Rattle.std.specs.Prelude.{IsFalse}
use Rattle.fdp_base.specs.declared.config.DriveConfig.{DriveConfig}
use Rattle.fdp_base.specs.declared.entry.Entry.{Entry}
use Rattle.fdp_base.specs.Placement.{geometry_of}
use Rattle.fdp_durability.specs.Beginnings.{CanBeSaved}
use Rattle.fdp_durability.specs.Durable.{IsDurable}
use Rattle.fdp_durability.specs.Firm.{completes}
use Rattle.fdp_durability.specs.Saved.{SavesDrive, SavesEntries, SettlesDrive, firm_renewed, firm_with, with_saved}
use Rattle.fdp_durability.proofs.Durable.{durable-doubted}
use Rattle.fdp_durability.proofs.Owed.{all-firm, firm-on}
use Rattle.fdp_durability.proofs.Savings.{checkpoint-done, checkpoint-holds, saving-done, saving-holds, settling-done, settling-holds, unsaved-done, unsaved-holds}
use Rattle.fdp_flash.specs.declared.answer.Wrote.{Wrote}
use Rattle.fdp_flash.specs.declared.answer.Wrote.TheVariants as wrote
use Rattle.fdp_flash.specs.declared.cell.Cell.{Cell}
use Rattle.fdp_flash.specs.FlashState.{FlashState}
use Rattle.fdp_flash.specs.Runs.{Runs}
use Rattle.fdp_image.specs.Kept.{AreFirm, StandsForBeginning}
use Rattle.fdp_image.specs.Saving.{SameDataPages}
use Rattle.fdp_durability.specs.fdp_journal.JournalState.{JournalState}
use Rattle.fdp_rules.specs.History.{Found, point_of}
use Rattle.fdp_durability.specs.fdp_saving.declared.saved.Saved.{Saved}
use Rattle.fdp_durability.specs.fdp_saving.declared.saved.Saved.TheVariants as answers
use Rattle.fdp_durability.specs.fdp_saving.Saver.{after_checkpoint, after_renewal, after_saving, needs_checkpoint, renewed}
use Rattle.fdp_snapshot.specs.declared.state.Summary.{Summary}
use Rattle.fdp_survival.specs.Safe.{IsSafeAt}
use Rattle.fdp_survival.proofs.Safe.{one-none, within-on}
use Rattle.fdp_units.specs.UnitTable.{UnitTable}

-- ---- what becomes of the saver

-- its epoch does not fall, and its geometry stays
record GoesOn (s now : JournalState) : Type 0 where
  epoch : s.stamp.epoch ≤ now.stamp.epoch
  geometry : now.geometry ≡ s.geometry

renewed-on : (wanted : Bool) (s : JournalState) (summary : Summary) → GoesOn s (renewed wanted s summary)
renewed-on true s summary = record { epoch = omega arith; geometry = refl }
renewed-on false s summary = record { epoch = omega arith; geometry = refl }

saved-on : (s : JournalState) (summary : Summary) (answer : Saved) → GoesOn s (after_saving s summary answer)
saved-on s summary answers.Done = let r = renewed-on (needs_checkpoint s) s summary in record { epoch = r.epoch; geometry = r.geometry }
saved-on s summary (answers.Doubtful moment) = let r = renewed-on (needs_checkpoint s) s summary in record { epoch = r.epoch; geometry = r.geometry }
saved-on s summary (answers.Unsaved moment) = record { epoch = omega arith; geometry = refl }

renewal-on : (wanted : Bool) (s : JournalState) (summary : Summary) (answer : Wrote) → GoesOn s (after_renewal wanted s summary answer)
renewal-on wanted s summary wrote.Done = renewed-on wanted s summary
renewal-on wanted s summary wrote.Failed = record { epoch = omega arith; geometry = refl }

checkpoint-on : (s : JournalState) (summary : Summary) (answer : Wrote) → GoesOn s (after_checkpoint s summary answer)
checkpoint-on s summary wrote.Done = record { epoch = omega arith; geometry = refl }
checkpoint-on s summary wrote.Failed = record { epoch = omega arith; geometry = refl }

-- what is safe behind a saving
safe-behind : (c : DriveConfig) (f : Found) (es now_es : List Entry) (t : UnitTable) (s now : JournalState) (firm now_firm : ℕ) (old new : FlashState) → IsSafeAt c f es t s firm old → GoesOn s now → (IsTrue new.told → IsDurable c f now_es now_firm now t new.cells)
    → AreFirm now_es now_firm → now_firm ≤ length now_es → IsSafeAt c f now_es t now now_firm new
safe-behind c f es now_es t s now firm now_firm old new was on durable firmed within = record {
  sealed = omega (arith, was.sealed, on.epoch);
  cut = on.geometry ∙ was.cut;
  durable = durable;
  firm_is = firmed;
  within = within;
}

-- ---- an entry

-- an entry that was saved was made, whatever the answer
made-durable : (c : DriveConfig) (f : Found) (es : List Entry) (e : Entry) (firm : ℕ) (s now : JournalState) (t : UnitTable) (cells : List Cell) (summary : Summary) (answer : Saved) → now ≡ after_saving s summary answer
    → IsDurable c f (with_saved es (e ∷ []) answer) (firm_with es (e ∷ []) firm answer) now t cells → IsDurable c f (es ++ e ∷ []) (firm_with es (e ∷ []) firm answer) now t cells
made-durable c f es e firm s now t cells summary answers.Done is h = h
made-durable c f es e firm s now t cells summary (answers.Doubtful moment) is h = h
made-durable c f es e firm s now t cells summary (answers.Unsaved moment) is h = durable-doubted c f es (e ∷ []) firm now t cells (ap (λ (k : JournalState). k.in_doubt) is) h

made-firm : (es : List Entry) (e : Entry) (firm : ℕ) (answer : Saved) → (answer ≢ answers.Done → IsFalse (completes e)) → AreFirm es firm → AreFirm (es ++ e ∷ []) (firm_with es (e ∷ []) firm answer)
made-firm es e firm answers.Done none firmed = all-firm (es ++ e ∷ [])
made-firm es e firm (answers.Doubtful moment) none firmed = firm-on es (e ∷ []) firm firmed (one-none e (none (λ same. cc)))
made-firm es e firm (answers.Unsaved moment) none firmed = firm-on es (e ∷ []) firm firmed (one-none e (none (λ same. cc)))

made-within : (es : List Entry) (e : Entry) (firm : ℕ) (answer : Saved) → firm ≤ length es → firm_with es (e ∷ []) firm answer ≤ length (es ++ e ∷ [])
made-within es e firm answers.Done low = omega arith
made-within es e firm (answers.Doubtful moment) low = within-on es (e ∷ []) firm low
made-within es e firm (answers.Unsaved moment) low = within-on es (e ∷ []) firm low

module _ (c : DriveConfig) (f : Found) (es : List Entry) (e : Entry) (t : UnitTable) (s now : JournalState) (firm : ℕ) (old new : FlashState) (was : IsSafeAt c f es t s firm old) (can : IsTrue old.told → CanBeSaved c (point_of c f es) t old.cells) (can_then : IsTrue old.told → CanBeSaved c (point_of c f (es ++ e ∷ [])) t old.cells) where
  -- each image of the saving stands for a beginning of the history behind it
  pub survives-saving : (answer : Saved) → SavesEntries c f es (e ∷ []) s now old new answer → Runs old new (λ m image. StandsForBeginning c f (with_saved es (e ∷ []) answer) firm image)
  survives-saving answer saved = (saving-holds c f es (e ∷ []) firm s now t old new answer saved was.durable can can_then).run

  told-before : (answer : Saved) → SavesEntries c f es (e ∷ []) s now old new answer → IsTrue new.told → IsTrue old.told
  told-before answer saved told = subst IsTrue saved.calls.made.run.told told

  -- the entry was made
  pub safe-made : (answer : Saved) → SavesEntries c f es (e ∷ []) s now old new answer → (answer ≢ answers.Done → IsFalse (completes e)) → IsSafeAt c f (es ++ e ∷ []) t now (firm_with es (e ∷ []) firm answer) new
  safe-made answer saved none =
      safe-behind c f es (es ++ e ∷ []) t s now firm (firm_with es (e ∷ []) firm answer) old new was (subst (GoesOn s) (sym saved.saver_is) (saved-on s saved.given.summary answer))
      (λ told. made-durable c f es e firm s now t new.cells saved.given.summary answer saved.saver_is (saving-done c f es (e ∷ []) firm s now t old new answer saved was.durable can can_then (told-before answer saved told)))
      (made-firm es e firm answer none was.firm_is) (made-within es e firm answer was.within)

-- ---- an entry that was not saved, and not made

module _ (c : DriveConfig) (f : Found) (es : List Entry) (e : Entry) (t : UnitTable) (s now : JournalState) (firm : ℕ) (old new : FlashState) (moment : ℕ) (was : IsSafeAt c f es t s firm old) (can : IsTrue old.told → CanBeSaved c (point_of c f es) t old.cells)
    (saved : SavesEntries c f es (e ∷ []) s now old new (answers.Unsaved moment)) where
  pub safe-unsaved : IsSafeAt c f es t now firm new
  safe-unsaved =
      safe-behind c f es es t s now firm firm old new was (subst (GoesOn s) (sym saved.saver_is) (saved-on s saved.given.summary (answers.Unsaved moment)))
      (λ told. unsaved-done c f es (e ∷ []) firm s now t old new moment was.durable can saved (subst IsTrue saved.calls.made.run.told told))
      was.firm_is was.within

  pub survives-unsaved : Runs old new (λ m image. StandsForBeginning c f es firm image)
  survives-unsaved = (unsaved-holds c f es (e ∷ []) firm s now t old new moment was.durable can saved).run

-- ---- the data pages

-- no saving changes a page of data
pub saving-same : (c : DriveConfig) (f : Found) (es : List Entry) (e : Entry) (t : UnitTable) (s now : JournalState) (firm : ℕ) (old new : FlashState) (answer : Saved) → IsSafeAt c f es t s firm old → SavesEntries c f es (e ∷ []) s now old new answer → IsTrue old.told → SameDataPages c old.cells new.cells
saving-same c f es e t s now firm old new answer was saved told = let h = was.durable told in ((saved.stops h.own h.tried (λ again. h.say) (λ again. h.sure)).cells told).data_pages_same

pub checkpoint-same : (c : DriveConfig) (f : Found) (es : List Entry) (t : UnitTable) (s now : JournalState) (firm : ℕ) (old new : FlashState) (answer : Wrote) → IsSafeAt c f es t s firm old → SavesDrive c f es s now old new answer → IsTrue old.told → SameDataPages c old.cells new.cells
checkpoint-same c f es t s now firm old new answer was saved told = let h = was.durable told in ((saved.stops h.own h.tried (λ again. h.say)).cells told).data_pages_same

pub settling-same : (c : DriveConfig) (f : Found) (es : List Entry) (t : UnitTable) (s now : JournalState) (firm : ℕ) (old new : FlashState) (answer : Wrote) → IsSafeAt c f es t s firm old → SettlesDrive c f es s now old new answer → IsTrue old.told → SameDataPages c old.cells new.cells
settling-same c f es t s now firm old new answer was saved told = let h = was.durable told in ((saved.stops h.own h.tried (λ again. h.say)).cells told).data_pages_same

-- nor does a stop within it
pub saving-stopped : (c : DriveConfig) (f : Found) (es : List Entry) (e : Entry) (t : UnitTable) (s now : JournalState) (firm : ℕ) (old new : FlashState) (answer : Saved) → IsSafeAt c f es t s firm old → SavesEntries c f es (e ∷ []) s now old new answer → IsTrue old.told
    → (m : ℕ) (image : List Cell) → old.moment < m → m ≤ new.moment → new.during m image → SameDataPages c old.cells image
saving-stopped c f es e t s now firm old new answer was saved told m image above most during = let h = was.durable told in ((saved.stops h.own h.tried (λ again. h.say) (λ again. h.sure)).run.images told m image above most during).data_pages_same

pub checkpoint-stopped : (c : DriveConfig) (f : Found) (es : List Entry) (t : UnitTable) (s now : JournalState) (firm : ℕ) (old new : FlashState) (answer : Wrote) → IsSafeAt c f es t s firm old → SavesDrive c f es s now old new answer → IsTrue old.told
    → (m : ℕ) (image : List Cell) → old.moment < m → m ≤ new.moment → new.during m image → SameDataPages c old.cells image
checkpoint-stopped c f es t s now firm old new answer was saved told m image above most during = let h = was.durable told in ((saved.stops h.own h.tried (λ again. h.say)).run.images told m image above most during).data_pages_same

pub settling-stopped : (c : DriveConfig) (f : Found) (es : List Entry) (t : UnitTable) (s now : JournalState) (firm : ℕ) (old new : FlashState) (answer : Wrote) → IsSafeAt c f es t s firm old → SettlesDrive c f es s now old new answer → IsTrue old.told
    → (m : ℕ) (image : List Cell) → old.moment < m → m ≤ new.moment → new.during m image → SameDataPages c old.cells image
settling-stopped c f es t s now firm old new answer was saved told m image above most during = let h = was.durable told in ((saved.stops h.own h.tried (λ again. h.say)).run.images told m image above most during).data_pages_same

-- ---- the whole drive

renewed-firm : (wanted : Bool) (es : List Entry) (firm : ℕ) (answer : Wrote) → AreFirm es firm → AreFirm es (firm_renewed wanted es firm answer)
renewed-firm true es firm wrote.Done firmed = all-firm es
renewed-firm false es firm wrote.Done firmed = firmed
renewed-firm true es firm wrote.Failed firmed = firmed
renewed-firm false es firm wrote.Failed firmed = firmed

renewed-within : (wanted : Bool) (es : List Entry) (firm : ℕ) (answer : Wrote) → firm ≤ length es → firm_renewed wanted es firm answer ≤ length es
renewed-within true es firm wrote.Done low = omega arith
renewed-within false es firm wrote.Done low = low
renewed-within true es firm wrote.Failed low = low
renewed-within false es firm wrote.Failed low = low

module _ (c : DriveConfig) (f : Found) (es : List Entry) (t : UnitTable) (s now : JournalState) (firm : ℕ) (old new : FlashState) (answer : Wrote) (was : IsSafeAt c f es t s firm old) (can : IsTrue old.told → CanBeSaved c (point_of c f es) t old.cells) where
  pub survives-checkpoint : SavesDrive c f es s now old new answer → Runs old new (λ m image. StandsForBeginning c f es firm image)
  survives-checkpoint saved = (checkpoint-holds c f es firm s now t old new answer was.durable can saved).run

  pub safe-checkpoint : SavesDrive c f es s now old new answer → IsSafeAt c f es t now (firm_renewed true es firm answer) new
  safe-checkpoint saved =
      safe-behind c f es es t s now firm (firm_renewed true es firm answer) old new was (subst (GoesOn s) (sym saved.saver_is) (checkpoint-on s saved.given.summary answer))
      (λ told. checkpoint-done c f es firm s now t old new answer was.durable can saved (subst IsTrue saved.calls.made.run.told told))
      (renewed-firm true es firm answer was.firm_is) (renewed-within true es firm answer was.within)

  pub survives-settling : SettlesDrive c f es s now old new answer → Runs old new (λ m image. StandsForBeginning c f es firm image)
  survives-settling saved = (settling-holds c f es firm s now t old new answer was.durable can saved).run

  pub safe-settling : SettlesDrive c f es s now old new answer → IsSafeAt c f es t now (firm_renewed s.in_doubt es firm answer) new
  safe-settling saved =
      safe-behind c f es es t s now firm (firm_renewed s.in_doubt es firm answer) old new was (subst (GoesOn s) (sym saved.saver_is) (renewal-on s.in_doubt s saved.given.summary answer))
      (λ told. settling-done c f es firm s now t old new answer was.durable can saved (subst IsTrue saved.calls.made.run.told told))
      (renewed-firm s.in_doubt es firm answer was.firm_is) (renewed-within s.in_doubt es firm answer was.within)

-- ---- the beginning

-- Where a run begins with what is durable, all is safe and firm behind its first checkpoint, and a stop within that loses nothing.
module _ (c : DriveConfig) (f : Found) (es : List Entry) (t : UnitTable) (s now : JournalState) (firm : ℕ) (old new : FlashState) (cut : s.geometry ≡ geometry_of c) (durable : IsTrue old.told → IsDurable c f es firm s t old.cells) (can : IsTrue old.told → CanBeSaved c (point_of c f es) t old.cells) where
  pub safe-first : SavesDrive c f es s now old new wrote.Done → IsSafeAt c f es t now (length es) new
  safe-first saved =
      let epoch : now.stamp.epoch ≡ s.stamp.epoch + 1 = ap (λ (k : JournalState). k.stamp.epoch) saved.saver_is in
      record {
        sealed = omega (arith, epoch);
        cut = ap (λ (k : JournalState). k.geometry) saved.saver_is ∙ cut;
        durable = λ told. checkpoint-done c f es firm s now t old new wrote.Done durable can saved (subst IsTrue saved.calls.made.run.told told);
        firm_is = all-firm es;
        within = omega arith;
      }

  pub survives-first : (answer : Wrote) → SavesDrive c f es s now old new answer → Runs old new (λ m image. StandsForBeginning c f es firm image)
  survives-first answer saved = (checkpoint-holds c f es firm s now t old new answer durable can saved).run
