-- Savings of a drive over its flash: what each image stands for, and what is durable then.
use Rattle.std.proofs.Common.{◌≡◌, ◌≤◌, ℕ, Bool, true, false, IsTrue, List, [], ◌∷◌, ◌++◌, refl, sym, ◌∙◌}
use Rattle.std.specs.Prelude.{All, IsFalse}
use Rattle.fdp_base.specs.declared.config.DriveConfig.{DriveConfig}
use Rattle.fdp_base.specs.declared.entry.Entry.{Entry}
use Rattle.fdp_durability.specs.Beginnings.{CanBeSaved}
use Rattle.fdp_durability.specs.Durable.{IsDurable, SaysDrawn}
use Rattle.fdp_durability.specs.Saved.{SavesDrive, SavesEntries, SettlesDrive, firm_renewed, firm_with, with_saved}
use Rattle.fdp_durability.proofs.Beginnings.{image-stands, stands-grown, stands-less}
use Rattle.fdp_durability.proofs.Durable.{durable-stands}
use Rattle.fdp_durability.proofs.Owed.{run-kept}
use Rattle.fdp_durability.proofs.Said.{renewal-durable, renewal-tells, saving-durable, saving-tells}
use Rattle.fdp_flash.specs.declared.answer.Wrote.{Wrote}
use Rattle.fdp_flash.specs.declared.answer.Wrote.TheVariants as wrote
use Rattle.fdp_flash.specs.declared.cell.Cell.{Cell}
use Rattle.fdp_flash.specs.FlashState.{FlashState}
use Rattle.fdp_flash.specs.Runs.{Holds}
use Rattle.fdp_flash.proofs.Held.{holds_weakened}
use Rattle.fdp_image.specs.Checkpoint.{reading_of_state}
use Rattle.fdp_image.specs.Kept.{AreFirm, IsStopSafe, StandsForBeginning, is_owed}
use Rattle.fdp_image.specs.Reading.{Reading}
use Rattle.fdp_saving.specs.fdp_journal.JournalState.{JournalState}
use Rattle.fdp_readings.specs.Drawn.{drawn}
use Rattle.fdp_rules.specs.History.{Found, point_of}
use Rattle.fdp_saving.specs.declared.saved.Saved.{Saved}
use Rattle.fdp_saving.specs.declared.saved.Saved.TheVariants as answers
use Rattle.fdp_saving.specs.Said.{AreasSay, ReadsAsOneOf}
use Rattle.fdp_saving.specs.Saver.{IsSaverIn, after_renewal, needs_checkpoint}
use Rattle.fdp_saving.specs.Saving.{SayAfterRenewal, base_of, within_renewal, within_saved}
use Rattle.fdp_snapshot.specs.declared.state.State.{State}
use Rattle.fdp_units.specs.UnitTable.{UnitTable}

-- ---- runs over images that stand for beginnings

-- what is read within some calls stands for a beginning, where each reading that may be read tells one
stands-over : (c : DriveConfig) (f : Found) (es : List Entry) (least : ℕ) (old new : FlashState) (rs : Reading → Reading → List Reading) (own tried : Reading)
    → Holds (ReadsAsOneOf c old.cells (rs own tried)) old new → (IsTrue old.told → (image : List Cell) → ReadsAsOneOf c old.cells (rs own tried) image → StandsForBeginning c f es least image)
    → Holds (StandsForBeginning c f es least) old new
stands-over c f es least old new rs own tried held each = holds_weakened (ReadsAsOneOf c old.cells (rs own tried)) (StandsForBeginning c f es least) old new held each

-- images that stand for a beginning do so as the history goes on
pub holds-grown : (c : DriveConfig) (f : Found) (es more : List Entry) (least : ℕ) (old new : FlashState) → Holds (StandsForBeginning c f es least) old new → Holds (StandsForBeginning c f (es ++ more) least) old new
holds-grown c f es more least old new held =
    holds_weakened (StandsForBeginning c f es least) (StandsForBeginning c f (es ++ more) least) old new held (λ told image stands. stands-grown c f es more least image stands)

-- and where fewer entries are asked for
pub holds-less : (c : DriveConfig) (f : Found) (es : List Entry) (most least : ℕ) (old new : FlashState) → least ≤ most → Holds (StandsForBeginning c f es most) old new → Holds (StandsForBeginning c f es least) old new
holds-less c f es most least old new fewer held =
    holds_weakened (StandsForBeginning c f es most) (StandsForBeginning c f es least) old new held (λ told image stands. stands-less c f es most least image fewer stands)

-- images over which all is durable stand for a beginning
pub holds-durable : (c : DriveConfig) (f : Found) (es : List Entry) (firm : ℕ) (s : JournalState) (t : UnitTable) (old new : FlashState) → Holds (IsDurable c f es firm s t) old new → Holds (StandsForBeginning c f es firm) old new
holds-durable c f es firm s t old new held =
    holds_weakened (IsDurable c f es firm s t) (StandsForBeginning c f es firm) old new held (λ told image h. durable-stands c f es firm s t image h)

-- a call is safe of stops, where its images stand for beginnings that hold what was firm, none of the entries that it added is owed at its
-- end, and all is durable then
pub stop-safe : (c : DriveConfig) (f : Found) (es more : List Entry) (firm now_firm : ℕ) (s : JournalState) (t : UnitTable) (old new : FlashState) → AreFirm es firm → All (λ e. IsFalse (is_owed new.moment e)) more
    → Holds (StandsForBeginning c f (es ++ more) firm) old new → (IsTrue new.told → IsDurable c f (es ++ more) now_firm s t new.cells) → IsStopSafe c f (es ++ more) firm now_firm old new
stop-safe c f es more firm now_firm s t old new firmed none held durable = record {
  images = run-kept c f es more firm old new firmed none held.run;
  cells = λ told. durable-stands c f (es ++ more) now_firm s t new.cells (durable told);
}

-- ---- entries are saved

module _ (c : DriveConfig) (f : Found) (es added : List Entry) (firm : ℕ) (s now : JournalState) (t : UnitTable) (old new : FlashState) (answer : Saved) (saved : SavesEntries c f es added s now old new answer)
    (durable : IsTrue old.told → IsDurable c f es firm s t old.cells) (can : IsTrue old.told → CanBeSaved c (point_of c f es) t old.cells) (can_then : IsTrue old.told → CanBeSaved c (point_of c f (es ++ added)) t old.cells) where
  abbrev may_read : Reading → Reading → List Reading
  may_read own tried = within_saved c (needs_checkpoint s) own tried saved.given (saved.first ∷ saved.rest) answer

  -- each image of the saving stands for a beginning of the history behind it that holds all that was firm
  pub saving-holds : Holds (StandsForBeginning c f (with_saved es added answer) firm) old new
  saving-holds =
      (elim old.told as (λ b. old.told ≡ b → Holds (StandsForBeginning c f (with_saved es added answer) firm) old new) [
        | true ↦ λ told.
            (let h = durable told in
            stands-over c f (with_saved es added answer) firm old new may_read h.own h.tried (saved.stops h.own h.tried (λ again. h.say) (λ again. h.sure))
            (λ again image reads.
            image-stands c f (with_saved es added answer) firm t old.cells image (may_read h.own h.tried)
            (saving-tells c f es added firm s t old.cells saved.given saved.first saved.rest saved.drive saved.saves h (can told) (can_then told) answer) reads))
        | false ↦ λ untold.
            (let r = drawn c (point_of c f es) in
            let never : IsTrue old.told → ⊥ = λ told. (let bad : false ≡ true = sym untold ∙ told in absurd cc) in
            stands-over c f (with_saved es added answer) firm old new may_read r r (saved.stops r r (λ told. absurd (never told)) (λ told. absurd (never told))) (λ told image reads. absurd (never told)))
      ]) refl

  -- and then all of it is durable, firm with the entries where it is done
  pub saving-done : IsTrue old.told → IsDurable c f (with_saved es added answer) (firm_with es added firm answer) now t new.cells
  saving-done told =
      let h = durable told in
      let same = ((saved.stops h.own h.tried (λ again. h.say) (λ again. h.sure)).cells told).data_pages_same in
      saving-durable c f es added firm s t old.cells saved.given saved.first saved.rest saved.drive saved.saves h (can told) (can_then told) now new.cells answer saved.saver_is same (saved.stands told)
      (saved.said h.own h.tried told h.say h.sure)

-- ---- the drive is saved whole

-- what a checkpoint does where one is wanted
record Renews (c : DriveConfig) (f : Found) (es : List Entry) (wanted : Bool) (s now : JournalState) (old new : FlashState) (answer : Wrote) : Type 0 where
  given : State
  drive : reading_of_state given ≡ drawn c (point_of c f es)
  sure : wanted ≡ false → s.in_doubt ≡ false
  saver_is : now ≡ after_renewal wanted s given.summary answer
  stands : IsTrue old.told → IsSaverIn new.cells now
  stops : (own tried : Reading) → (IsTrue old.told → AreasSay c s old.cells own tried) → (IsTrue old.told → SaysDrawn c (point_of c f es) s own) → Holds (ReadsAsOneOf c old.cells (within_renewal wanted own tried given)) old new
  said : (own tried : Reading) → IsTrue old.told → AreasSay c s old.cells own tried → SaysDrawn c (point_of c f es) s own → SayAfterRenewal c now new.cells own tried given (base_of wanted own given) answer

module _ (c : DriveConfig) (f : Found) (es : List Entry) (firm : ℕ) (wanted : Bool) (s now : JournalState) (t : UnitTable) (old new : FlashState) (answer : Wrote) (saved : Renews c f es wanted s now old new answer)
    (durable : IsTrue old.told → IsDurable c f es firm s t old.cells) (can : IsTrue old.told → CanBeSaved c (point_of c f es) t old.cells) where
  abbrev may_renew : Reading → Reading → List Reading
  may_renew own tried = within_renewal wanted own tried saved.given

  renewal-holds : Holds (StandsForBeginning c f es firm) old new
  renewal-holds =
      (elim old.told as (λ b. old.told ≡ b → Holds (StandsForBeginning c f es firm) old new) [
        | true ↦ λ told.
            (let h = durable told in
            stands-over c f es firm old new may_renew h.own h.tried (saved.stops h.own h.tried (λ again. h.say) (λ again. h.sure))
            (λ again image reads.
            image-stands c f es firm t old.cells image (may_renew h.own h.tried) (renewal-tells c f es firm s t old.cells saved.given saved.drive h (can told) wanted) reads))
        | false ↦ λ untold.
            (let r = drawn c (point_of c f es) in
            let never : IsTrue old.told → ⊥ = λ told. (let bad : false ≡ true = sym untold ∙ told in absurd cc) in
            stands-over c f es firm old new may_renew r r (saved.stops r r (λ told. absurd (never told)) (λ told. absurd (never told))) (λ told image reads. absurd (never told)))
      ]) refl

  renewal-done : IsTrue old.told → IsDurable c f es (firm_renewed wanted es firm answer) now t new.cells
  renewal-done told =
      let h = durable told in
      let same = ((saved.stops h.own h.tried (λ again. h.say) (λ again. h.sure)).cells told).data_pages_same in
      renewal-durable c f es firm s t old.cells saved.given saved.drive h (can told) wanted now new.cells answer saved.sure saved.saver_is same (saved.stands told) (saved.said h.own h.tried told h.say h.sure)

-- a saving without a record is a checkpoint that failed
by-unsaved : (c : DriveConfig) (f : Found) (es added : List Entry) (s now : JournalState) (old new : FlashState) (moment : ℕ) → SavesEntries c f es added s now old new (answers.Unsaved moment) → Renews c f es true s now old new wrote.Failed
by-unsaved c f es added s now old new moment p = record {
  given = p.given;
  drive = p.drive;
  sure = λ wrong. absurd cc;
  saver_is = p.saver_is;
  stands = p.stands;
  stops = p.stops;
  said = p.said;
}

-- a checkpoint is one that was wanted
by-checkpoint : (c : DriveConfig) (f : Found) (es : List Entry) (s now : JournalState) (old new : FlashState) (answer : Wrote) → SavesDrive c f es s now old new answer → Renews c f es true s now old new answer
by-checkpoint c f es s now old new wrote.Done p = record {
  given = p.given;
  drive = p.drive;
  sure = λ wrong. absurd cc;
  saver_is = p.saver_is;
  stands = p.stands;
  stops = λ own tried say sure. p.stops own tried say;
  said = λ own tried told say sure. p.said own tried told say;
}
by-checkpoint c f es s now old new wrote.Failed p = record {
  given = p.given;
  drive = p.drive;
  sure = λ wrong. absurd cc;
  saver_is = p.saver_is;
  stands = p.stands;
  stops = λ own tried say sure. p.stops own tried say;
  said = λ own tried told say sure. p.said own tried told say;
}

by-doubt : (c : DriveConfig) (f : Found) (es : List Entry) (s now : JournalState) (old new : FlashState) (answer : Wrote) → SettlesDrive c f es s now old new answer → Renews c f es s.in_doubt s now old new answer
by-doubt c f es s now old new answer p = record {
  given = p.given;
  drive = p.drive;
  sure = λ sure. sure;
  saver_is = p.saver_is;
  stands = p.stands;
  stops = λ own tried say sure. p.stops own tried say;
  said = λ own tried told say sure. p.said own tried told say;
}

module _ (c : DriveConfig) (f : Found) (es : List Entry) (firm : ℕ) (s now : JournalState) (t : UnitTable) (old new : FlashState) (answer : Wrote)
    (durable : IsTrue old.told → IsDurable c f es firm s t old.cells) (can : IsTrue old.told → CanBeSaved c (point_of c f es) t old.cells) where
  -- each image of a checkpoint stands for a beginning that holds all that was firm
  pub checkpoint-holds : SavesDrive c f es s now old new answer → Holds (StandsForBeginning c f es firm) old new
  checkpoint-holds p = renewal-holds c f es firm true s now t old new answer (by-checkpoint c f es s now old new answer p) durable can

  -- and where it is done all is firm
  pub checkpoint-done : SavesDrive c f es s now old new answer → IsTrue old.told → IsDurable c f es (firm_renewed true es firm answer) now t new.cells
  checkpoint-done p told = renewal-done c f es firm true s now t old new answer (by-checkpoint c f es s now old new answer p) durable can told

  -- so it is where a doubt is settled
  pub settling-holds : SettlesDrive c f es s now old new answer → Holds (StandsForBeginning c f es firm) old new
  settling-holds p = renewal-holds c f es firm s.in_doubt s now t old new answer (by-doubt c f es s now old new answer p) durable can

  pub settling-done : SettlesDrive c f es s now old new answer → IsTrue old.told → IsDurable c f es (firm_renewed s.in_doubt es firm answer) now t new.cells
  settling-done p told = renewal-done c f es firm s.in_doubt s now t old new answer (by-doubt c f es s now old new answer p) durable can told

-- ---- entries that were not saved

module _ (c : DriveConfig) (f : Found) (es added : List Entry) (firm : ℕ) (s now : JournalState) (t : UnitTable) (old new : FlashState) (moment : ℕ) (durable : IsTrue old.told → IsDurable c f es firm s t old.cells)
    (can : IsTrue old.told → CanBeSaved c (point_of c f es) t old.cells) (saved : SavesEntries c f es added s now old new (answers.Unsaved moment)) where
  -- each image stands for a beginning of the history without them
  pub unsaved-holds : Holds (StandsForBeginning c f es firm) old new
  unsaved-holds = renewal-holds c f es firm true s now t old new wrote.Failed (by-unsaved c f es added s now old new moment saved) durable can

  pub unsaved-done : IsTrue old.told → IsDurable c f es firm now t new.cells
  unsaved-done told = renewal-done c f es firm true s now t old new wrote.Failed (by-unsaved c f es added s now old new moment saved) durable can told
