-- A saving: a checkpoint where one is needed, and then the record.
use Rattle.std.proofs.Common.{◌≡◌, ℕ, Bool, true, false, IsTrue, List, [], ◌∷◌, Some, refl, sym, ap, ◌∙◌, subst}
use Rattle.std.specs.Prelude.{if◌then◌else◌}
use Rattle.std.proofs.lemmas.List.Elements.{Contains-append_left}
use Rattle.fdp_base.specs.declared.config.DriveConfig.{DriveConfig}
use Rattle.fdp_base.specs.declared.entry.Totals.{Totals}
use Rattle.fdp_base.specs.Placement.{geometry_of}
use Rattle.fdp_calls.proofs.Made.{any-first}
use Rattle.fdp_flash.specs.declared.answer.Wrote.{Wrote}
use Rattle.fdp_flash.specs.declared.answer.Wrote.TheVariants.{Done, Failed}
use Rattle.fdp_flash.specs.declared.cell.Cell.{Cell}
use Rattle.fdp_flash.specs.FlashState.{FlashState}
use Rattle.fdp_flash.specs.Runs.{Holds}
use Rattle.fdp_flash.proofs.Held.{holds_at_start, holds_joined, holds_weakened}
use Rattle.fdp_records.specs.declared.change.Change.{Change}
use Rattle.fdp_snapshot.specs.declared.state.State.{State}
use Rattle.fdp_snapshot.specs.declared.state.Summary.{Summary}
use Rattle.fdp_image.specs.Applied.{with_changes}
use Rattle.fdp_image.specs.Checkpoint.{reading_of_state}
use Rattle.fdp_image.specs.Reading.{Reading}
use Rattle.fdp_image.specs.Reads.{reads_as}
use Rattle.fdp_journal.specs.Journal.{record_call}
use Rattle.fdp_journal.specs.JournalState.{JournalState}
use Rattle.fdp_saving.specs.Calls.{AreCallsOfAppend, AreCallsOfCheckpoint, AreCallsOfRenewal, AreCallsOfSaving, MakesSystemCalls, calls_of_checkpoint, calls_of_renewal}
use Rattle.fdp_saving.specs.declared.saved.Saved.TheVariants as answers
use Rattle.fdp_saving.specs.Said.{AreasSay, ReadsAsOneOf}
use Rattle.fdp_saving.specs.Saver.{IsSaverIn, behind_checkpoint, needs_checkpoint, renewed}
use Rattle.fdp_saving.specs.Saving.{SayAfterCheckpoint, SayAfterRenewal, base_of, within_append, within_checkpoint, within_renewal, within_saving}
use Rattle.fdp_saving.proofs.Alone.{sure_is_read}
use Rattle.fdp_saving.proofs.Among.{behind, first}
use Rattle.fdp_saving.proofs.Made.{made_behind, made_so, none_made}

-- ---- made ready by a checkpoint

pub needed_stops : (c : DriveConfig) (wanted : Bool) (own tried : Reading) (given : State) (cells : List Cell) (old new : FlashState) → wanted ≡ true
    → Holds (ReadsAsOneOf c cells (within_checkpoint own tried given)) old new → Holds (ReadsAsOneOf c cells (within_renewal wanted own tried given)) old new
needed_stops c wanted own tried given cells old new needs held =
    subst (λ (b : Bool). Holds (ReadsAsOneOf c cells (own ∷ tried ∷ (if b then reading_of_state given else own) ∷ [])) old new) (sym needs) held

pub needed_says : (c : DriveConfig) (wanted : Bool) (now : JournalState) (own tried : Reading) (given : State) (cells : List Cell) (result : Wrote) → wanted ≡ true
    → SayAfterCheckpoint c now cells own tried given result → SayAfterRenewal c now cells own tried given (base_of wanted own given) result
needed_says c wanted now own tried given cells Done needs says =
    subst (λ (b : Bool). AreasSay c now cells (if b then reading_of_state given else own) (if b then reading_of_state given else own)) (sym needs) says
needed_says c wanted now own tried given cells Failed needs says = says

pub needed_calls : (wanted : Bool) (s : JournalState) (summary : Summary) (old new : FlashState) (result : Wrote) → wanted ≡ true
    → MakesSystemCalls old new (AreCallsOfCheckpoint s summary result) → MakesSystemCalls old new (AreCallsOfRenewal wanted s summary result)
needed_calls wanted s summary old new Done needs p =
    subst (λ (b : Bool). MakesSystemCalls old new (λ calls. calls ≡ (if b then calls_of_checkpoint s summary else []))) (sym needs) p
needed_calls wanted s summary old new Failed needs p =
    made_so old new (AreCallsOfCheckpoint s summary Failed) (AreCallsOfRenewal wanted s summary Failed) p (λ calls are. (needs, are))

-- ---- ready as it is

-- where no checkpoint is needed there is no doubt
pub sure_of : (s : JournalState) → needs_checkpoint s ≡ false → s.in_doubt ≡ false
sure_of s none = any-first s.in_doubt _ none

pub unneeded_stops : (c : DriveConfig) (wanted : Bool) (s : JournalState) (own tried : Reading) (given : State) (now : FlashState) → s.in_doubt ≡ false → geometry_of c ≡ s.geometry → (IsTrue now.told → IsSaverIn now.cells s)
    → (IsTrue now.told → AreasSay c s now.cells own tried) → Holds (ReadsAsOneOf c now.cells (within_renewal wanted own tried given)) now now
unneeded_stops c wanted s own tried given now sure same saver says =
    holds_at_start (ReadsAsOneOf c now.cells (within_renewal wanted own tried given)) now
    (λ told. record {
      reading = own;
      reads = sure_is_read c s now.cells own tried same (saver told) sure (says told);
      among = first own (tried ∷ base_of wanted own given ∷ []);
      data_pages_same = λ page lt. refl;
    })

pub unneeded_calls : (wanted : Bool) (s : JournalState) (summary : Summary) (now : FlashState) → wanted ≡ false → MakesSystemCalls now now (AreCallsOfRenewal wanted s summary Done)
unneeded_calls wanted s summary now none =
    subst (λ (b : Bool). MakesSystemCalls now now (λ calls. calls ≡ (if b then calls_of_checkpoint s summary else []))) (sym none) (none_made now)

-- ---- a saver that is ready

pub ready_geometry : (s : JournalState) (summary : Summary) → (renewed (needs_checkpoint s) s summary).geometry ≡ s.geometry
ready_geometry s summary = of_test (needs_checkpoint s) where
  of_test : (b : Bool) → (if b then behind_checkpoint s summary else s).geometry ≡ s.geometry
  of_test true = refl
  of_test false = refl

pub ready_sure : (s : JournalState) (summary : Summary) → (renewed (needs_checkpoint s) s summary).in_doubt ≡ false
ready_sure s summary = of_test (needs_checkpoint s) refl where
  of_test : (b : Bool) → needs_checkpoint s ≡ b → (if b then behind_checkpoint s summary else s).in_doubt ≡ false
  of_test true is = refl
  of_test false is = sure_of s is

-- what the record is appended to
pub record IsReadied (c : DriveConfig) (s now : JournalState) (summary : Summary) (base : Reading) (flash : FlashState) : Type 0 where
  pub saver_is : now ≡ renewed (needs_checkpoint s) s summary
  pub geometry : geometry_of c ≡ s.geometry
  pub saver : IsTrue flash.told → IsSaverIn flash.cells now
  pub says : IsTrue flash.told → AreasSay c now flash.cells base base

pub readied : (c : DriveConfig) (s now : JournalState) (summary : Summary) (base : Reading) (a b : FlashState) → now ≡ renewed (needs_checkpoint s) s summary → geometry_of c ≡ s.geometry → b.told ≡ a.told
    → (IsTrue a.told → IsSaverIn b.cells now) → (IsTrue a.told → AreasSay c now b.cells base base) → IsReadied c s now summary base b
readied c s now summary base a b is same same_told saver says = record {
  saver_is = is;
  geometry = same;
  saver = λ told. saver (subst IsTrue same_told told);
  says = λ told. says (subst IsTrue same_told told);
}

pub ready_at : (c : DriveConfig) (s now : JournalState) (summary : Summary) (base : Reading) (flash : FlashState) → IsReadied c s now summary base flash → geometry_of c ≡ now.geometry
ready_at c s now summary base flash h = h.geometry ∙ sym (ready_geometry s summary) ∙ sym (ap (λ (k : JournalState). k.geometry) h.saver_is)

pub ready_read : (c : DriveConfig) (s now : JournalState) (summary : Summary) (base : Reading) (flash : FlashState) → IsReadied c s now summary base flash → IsTrue flash.told → reads_as c flash.cells ≡ Some base
ready_read c s now summary base flash h told =
    sure_is_read c now flash.cells base base (ready_at c s now summary base flash h) (h.saver told) (ap (λ (k : JournalState). k.in_doubt) h.saver_is ∙ ready_sure s summary) (h.says told)

-- ---- what may be read

saving_first : (c : DriveConfig) (wanted : Bool) (own tried : Reading) (given : State) (xs : List (Change × Totals)) (old new : FlashState)
    → Holds (ReadsAsOneOf c old.cells (within_renewal wanted own tried given)) old new → Holds (ReadsAsOneOf c old.cells (within_saving c wanted own tried given xs)) old new
saving_first c wanted own tried given xs old new held =
    let base = base_of wanted own given in
    holds_weakened (ReadsAsOneOf c old.cells (within_renewal wanted own tried given)) (ReadsAsOneOf c old.cells (within_saving c wanted own tried given xs)) old new held
    (λ told cells r. record {
      reading = r.reading;
      reads = r.reads;
      among = Contains-append_left (own ∷ tried ∷ base ∷ []) (with_changes c base xs ∷ []) r.reading r.among;
      data_pages_same = r.data_pages_same;
    })

pub saving_stops : (c : DriveConfig) (wanted : Bool) (own tried : Reading) (given : State) (xs : List (Change × Totals)) (a b d : FlashState)
    → Holds (ReadsAsOneOf c a.cells (within_renewal wanted own tried given)) a b → Holds (ReadsAsOneOf c b.cells (within_append c (base_of wanted own given) xs)) b d
    → Holds (ReadsAsOneOf c a.cells (within_saving c wanted own tried given xs)) a d
saving_stops c wanted own tried given xs a b d p q =
    let base = base_of wanted own given in
    let more = with_changes c base xs in
    holds_joined (ReadsAsOneOf c a.cells (within_saving c wanted own tried given xs)) a b d (saving_first c wanted own tried given xs a b p)
    (holds_weakened (ReadsAsOneOf c b.cells (within_append c base xs)) (ReadsAsOneOf c a.cells (within_saving c wanted own tried given xs)) b d q
    (λ told cells r.
    let before = p.cells (subst IsTrue p.run.told told) in
    record {
      reading = r.reading;
      reads = r.reads;
      among = behind own r.reading (tried ∷ base ∷ more ∷ []) (behind tried r.reading (base ∷ more ∷ []) r.among);
      data_pages_same = λ page lt. r.data_pages_same page lt ∙ before.data_pages_same page lt;
    }))

-- the checkpoint failed, so one was wanted
pub unsaved_stops : (c : DriveConfig) (wanted : Bool) (own tried : Reading) (given : State) (s : JournalState) (old new : FlashState) → MakesSystemCalls old new (AreCallsOfRenewal wanted s given.summary Failed)
    → Holds (ReadsAsOneOf c old.cells (within_renewal wanted own tried given)) old new → Holds (ReadsAsOneOf c old.cells (within_checkpoint own tried given)) old new
unsaved_stops c wanted own tried given s old new made held =
    subst (λ (b : Bool). Holds (ReadsAsOneOf c old.cells (own ∷ tried ∷ (if b then reading_of_state given else own) ∷ [])) old new) made.are.0 held

-- ---- the calls

pub saved_calls : (s now : JournalState) (summary : Summary) (a b d : FlashState) → now ≡ renewed (needs_checkpoint s) s summary → MakesSystemCalls a b (AreCallsOfRenewal (needs_checkpoint s) s summary Done)
    → MakesSystemCalls b d (AreCallsOfAppend now Done) → MakesSystemCalls a d (AreCallsOfSaving s summary answers.Done)
saved_calls s now summary a b d is p q =
    made_behind a b d (calls_of_renewal (needs_checkpoint s) s summary) (record_call (renewed (needs_checkpoint s) s summary) ∷ []) p
    (subst (λ (k : JournalState). MakesSystemCalls b d (AreCallsOfAppend k Done)) is q)

pub doubtful_calls : (s now : JournalState) (summary : Summary) (moment : ℕ) (a b d : FlashState) → now ≡ renewed (needs_checkpoint s) s summary → MakesSystemCalls a b (AreCallsOfRenewal (needs_checkpoint s) s summary Done)
    → MakesSystemCalls b d (AreCallsOfAppend now Failed) → MakesSystemCalls a d (AreCallsOfSaving s summary (answers.Doubtful moment))
doubtful_calls s now summary moment a b d is p q =
    made_behind a b d (calls_of_renewal (needs_checkpoint s) s summary) (record (record_call (renewed (needs_checkpoint s) s summary)) { failed = true } ∷ []) p
    (subst (λ (k : JournalState). MakesSystemCalls b d (AreCallsOfAppend k Failed)) is q)
