-- A step that rests: the book is as it was, and no call was made; what is saved behind it was saved before it.
use Rattle.std.proofs.Common.{◌≡◌, ℕ, ◌<◌, ◌≤◌, Bool, IsTrue, List, [], ◌∷◌, sym, ◌∙◌, ap, subst, arith, slice_get}
use Rattle.std.specs.Prelude.{All, slice_set}
use Rattle.std.proofs.lemmas.List.{append-nil, set-get_or}
use Rattle.fdp_base.specs.declared.config.DriveConfig.{DriveConfig}
use Rattle.fdp_base.specs.declared.config.Geometry.{Geometry}
use Rattle.fdp_base.specs.declared.entry.Entry.{Entry}
use Rattle.fdp_base.specs.Geometry.{data_units}
use Rattle.fdp_keeper.specs.fdp_book.Book.{BookSeen, IsLonger}
use Rattle.fdp_keeper.specs.fdp_book.Relocating.{Relocates}
use Rattle.fdp_calls.specs.Calls.{MakesCalls}
use Rattle.fdp_calls.proofs.Made.{calls-joined, counted_more-none}
use Rattle.fdp_keeper.specs.fdp_collector.declared.step.Step.{Step}
use Rattle.fdp_keeper.specs.fdp_collector.Ready.{Relocation}
use Rattle.fdp_keeper.specs.fdp_collector.Step.{IsUncalled}
use Rattle.fdp_keeper.specs.fdp_durability.Saved.{SavesEntries, SettlesDrive}
use Rattle.fdp_flash.specs.declared.answer.Wrote.{Wrote}
use Rattle.fdp_flash.specs.declared.answer.Wrote.TheVariants as wrote
use Rattle.fdp_flash.specs.declared.cell.Cell.{Cell}
use Rattle.fdp_flash.specs.Failing.{FailsLast}
use Rattle.fdp_flash.specs.FlashState.{Call, FlashState}
use Rattle.fdp_flash.specs.Runs.{Holds, Runs}
use Rattle.fdp_flash.proofs.Runs.{fault_after_run, runs_joined, runs_weakened}
use Rattle.fdp_image.specs.Reading.{Reading}
use Rattle.fdp_image.specs.Saving.{SameDataPages}
use Rattle.fdp_keeper.specs.fdp_journal.JournalState.{JournalState}
use Rattle.fdp_keeper.specs.fdp_pages.PageTables.{no_passes, relocation_at}
use Rattle.fdp_relocation.specs.Collected.{StaysUncalled}
use Rattle.fdp_rules.specs.History.{Found}
use Rattle.fdp_keeper.specs.fdp_saving.Calls.{MakesSystemCalls}
use Rattle.fdp_keeper.specs.fdp_saving.declared.saved.Saved.{Saved}
use Rattle.fdp_keeper.specs.fdp_saving.declared.saved.Saved.TheVariants as answers
use Rattle.fdp_keeper.specs.fdp_saving.Said.{AreasSay, ReadsAsOneOf}
use Rattle.fdp_keeper.specs.fdp_saving.Saver.{needs_checkpoint}
use Rattle.fdp_keeper.specs.fdp_saving.Saving.{EndsCheckpoint, EndsSaving, within_saved}

-- ---- no call

none-between : (a b : ℕ) → b ≡ a → (m : ℕ) → a < m → m ≤ b → ⊥
none-between a b same m above most = omega (arith, same, above, most)

-- a run without a call leaves no image
pub uncalled-of : (old new : FlashState) (Image : ℕ → List Cell → Type 0) → IsUncalled old new → Runs old new Image → StaysUncalled old new
uncalled-of old new Image uncalled run = record {
  uncalled = uncalled;
  run = runs_weakened old new Image (λ m image. ⊥) run (λ told m image above most left. none-between old.moment new.moment uncalled.moment m above most);
}

pub uncalled-run : (old new : FlashState) (Image : ℕ → List Cell → Type 0) → StaysUncalled old new → Runs old new Image
uncalled-run old new Image h = runs_weakened old new (λ m image. ⊥) Image h.run (λ told m image above most none. absurd none)

pub uncalled-calls : (old new : FlashState) → StaysUncalled old new → MakesCalls old new []
uncalled-calls old new h = record {
  run = uncalled-run old new (λ m image. Unit {0}) h;
  moment = h.uncalled.moment ∙ sym (counted_more-none old.moment);
  listed = λ tells. h.uncalled.calls tells ∙ sym (append-nil old.calls);
  fault = λ wrong. absurd cc;
  no_fault = λ none. h.uncalled.faults;
}

pub uncalled-same : (c : DriveConfig) (old new : FlashState) → StaysUncalled old new → IsTrue old.told → SameDataPages c old.cells new.cells
uncalled-same c old new h told page low = ap (λ (cells : List Cell). slice_get cells page) (h.uncalled.cells told)

-- ---- the book

-- a step that rests leaves the book as it was
pub rests-book : (old new : BookSeen) (before after : FlashState) (rg : ℕ) (may : Bool) (step : Step) → Relocates old new before after rg may step → IsLonger old new [] → relocation_at new.pages rg ≡ relocation_at old.pages rg → new ≡ old
rests-book old new before after rg may step h longer group =
    let pages : new.pages ≡ old.pages =
    h.rest
    ∙ ap (λ (r : Relocation). record old.pages { units = r.units; passes = slice_set old.pages.passes rg r.passes }) group
    ∙ ap (λ ps. record old.pages { passes = ps }) (set-get_or old.pages.passes rg no_passes) in
    let entries_are : new.entries ≡ old.entries = longer.entries_are ∙ append-nil old.entries in
    let room : new.room ≡ old.room = omega (arith, longer.room_is) in
    λ i. record {
      config = longer.config_is i;
      found = longer.found_is i;
      opened = longer.opened_is i;
      entries = entries_are i;
      spare = longer.spare_is i;
      spent = longer.spent_is i;
      room = room i;
      may_move = h.move_is i;
      pages = pages i;
    }

-- ---- what was saved behind it

-- in cells that are the same an image reads as the same
alike : (c : DriveConfig) (a b : List Cell) (readings : List Reading) (image : List Cell) → b ≡ a → ReadsAsOneOf c b readings image → ReadsAsOneOf c a readings image
alike c a b readings image same h = subst (λ (cells : List Cell). ReadsAsOneOf c cells readings image) same h

module _ (a b n : FlashState) (h : StaysUncalled a b) where
  told-there : IsTrue a.told → IsTrue b.told
  told-there told = h.run.told ∙ told

  cells-same : IsTrue a.told → b.cells ≡ a.cells
  cells-same told = h.uncalled.cells told

  holds-earlier : (c : DriveConfig) (readings : List Reading) → Holds (ReadsAsOneOf c b.cells readings) b n → Holds (ReadsAsOneOf c a.cells readings) a n
  holds-earlier c readings holds = record {
    run =
        runs_joined a b n (λ m image. ReadsAsOneOf c a.cells readings image) (uncalled-run a b (λ m image. ReadsAsOneOf c a.cells readings image) h)
        (runs_weakened b n (λ m image. ReadsAsOneOf c b.cells readings image) (λ m image. ReadsAsOneOf c a.cells readings image) holds.run
        (λ told m image above most reads. alike c a.cells b.cells readings image (cells-same (sym h.run.told ∙ told)) reads));
    cells = λ told. alike c a.cells b.cells readings n.cells (cells-same told) (holds.cells (told-there told));
  }

  say-there : (c : DriveConfig) (s : JournalState) (own tried : Reading) → (IsTrue a.told → AreasSay c s a.cells own tried) → IsTrue b.told → AreasSay c s b.cells own tried
  say-there c s own tried say told =
      let before : IsTrue a.told = sym h.run.told ∙ told in
      subst (λ (cells : List Cell). AreasSay c s cells own tried) (sym (cells-same before)) (say before)

  calls-earlier : (Are : List Call → Type 0) → MakesSystemCalls b n Are → MakesSystemCalls a n Are
  calls-earlier Are m = record {
    calls = m.calls;
    are = m.are;
    made = calls-joined a b n [] m.calls (uncalled-calls a b h) m.made;
    system = subst (λ (g : Geometry). All (λ (call : Call). data_units g ≤ call.at.unit) m.calls) h.run.geometry m.system;
    programs = m.programs ∙ h.uncalled.programs;
  }

  fails-earlier : (moment : ℕ) → FailsLast b n moment → FailsLast a n moment
  fails-earlier moment f =
      let same = h.uncalled.moment in
      let since = f.since in
      record {
        faulted = fault_after_run a b n (λ m image. ⊥) h.run f.faulted;
        since = omega (arith, same, since);
        moment_is = f.moment_is;
        failed = f.failed;
      }

  checkpoint-earlier : (answer : Wrote) → EndsCheckpoint b n answer → EndsCheckpoint a n answer
  checkpoint-earlier wrote.Done ends = ends ∙ h.uncalled.faults
  checkpoint-earlier wrote.Failed ends = fails-earlier n.moment ends

  saving-earlier : (answer : Saved) → EndsSaving b n answer → EndsSaving a n answer
  saving-earlier answers.Done ends = ends ∙ h.uncalled.faults
  saving-earlier (answers.Doubtful moment) ends = fails-earlier moment ends
  saving-earlier (answers.Unsaved moment) ends = fails-earlier moment ends

  module _ (c : DriveConfig) (f : Found) (es : List Entry) (s now : JournalState) where
    pub settles-earlier : (answer : Wrote) → SettlesDrive c f es s now b n answer → SettlesDrive c f es s now a n answer
    settles-earlier answer x = record {
      given = x.given;
      drive = x.drive;
      is_of = x.is_of;
      sure = x.sure;
      saver_is = x.saver_is;
      stands = λ told. x.stands (told-there told);
      stops = λ own tried say. holds-earlier c _ (x.stops own tried (say-there c s own tried say));
      said = λ own tried told say. x.said own tried (told-there told) (say-there c s own tried (λ again. say) (told-there told));
      calls = calls-earlier _ x.calls;
      ends = checkpoint-earlier answer x.ends;
    }

    pub saves-earlier : (e : Entry) (answer : Saved) → SavesEntries c f es (e ∷ []) s now b n answer → SavesEntries c f es (e ∷ []) s now a n answer
    saves-earlier e answer x = record {
      given = x.given;
      first = x.first;
      rest = x.rest;
      drive = x.drive;
      is_of = x.is_of;
      saves = x.saves;
      saver_is = x.saver_is;
      stands = λ told. x.stands (told-there told);
      stops = λ own tried say sure.
          holds-earlier c (within_saved c (needs_checkpoint s) own tried x.given (x.first ∷ x.rest) answer)
          (x.stops own tried (say-there c s own tried say) (λ told. sure (sym h.run.told ∙ told)));
      said = λ own tried told say sure. x.said own tried (told-there told) (say-there c s own tried (λ again. say) (told-there told)) sure;
      calls = calls-earlier _ x.calls;
      ends = saving-earlier answer x.ends;
    }
