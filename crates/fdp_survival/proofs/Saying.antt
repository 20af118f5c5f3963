-- Savings keep what the areas say isolated, and data stands apart in whatever a stop within them leaves.
use Rattle.std.proofs.Common.{◌≡◌, ℕ, ◌<◌, ◌≤◌, Bool, true, false, List, [], ◌∷◌, ◌++◌, length, refl, sym, ◌∙◌, ap, subst}
use Rattle.std.specs.Prelude.{All, IsTrue}
use Rattle.std.proofs.lemmas.List.Elements.{All-cons, All-nil}
use Rattle.fdp_base.specs.declared.config.DriveConfig.{DriveConfig}
use Rattle.fdp_base.specs.declared.entry.Entry.{Entry}
use Rattle.fdp_base.specs.declared.entry.Entry.TheVariants as entries
use Rattle.fdp_base.specs.declared.entry.Totals.{Totals}
use Rattle.fdp_durability.specs.fdp_journal.JournalState.{JournalState}
use Rattle.fdp_durability.specs.fdp_readings.Drawn.{drawn}
use Rattle.fdp_durability.proofs.Said.{base-saved}
use Rattle.fdp_durability.specs.fdp_saving.declared.saved.Saved.{Saved}
use Rattle.fdp_durability.specs.fdp_saving.declared.saved.Saved.TheVariants as answers
use Rattle.fdp_durability.specs.fdp_saving.Said.{ReadsAsOneOf}
use Rattle.fdp_durability.specs.fdp_saving.Saver.{needs_checkpoint}
use Rattle.fdp_durability.specs.fdp_saving.Saving.{SayAfterCheckpoint, SayAfterRenewal, SayAfterSaving, base_of, within_renewal, within_saved}
use Rattle.fdp_durability.specs.Beginnings.{CanBeSaved}
use Rattle.fdp_durability.specs.Durable.{IsDurable}
use Rattle.fdp_durability.specs.Saved.{SavesAll, SavesDrive, SavesEntries, SettlesDrive}
use Rattle.fdp_flash.specs.declared.answer.Wrote.{Wrote}
use Rattle.fdp_flash.specs.declared.answer.Wrote.TheVariants as wrote
use Rattle.fdp_flash.specs.declared.cell.Cell.{Cell}
use Rattle.fdp_flash.specs.FlashState.{FlashState}
use Rattle.fdp_flash.specs.Runs.{Holds}
use Rattle.fdp_image.specs.Applied.{with_changes}
use Rattle.fdp_image.specs.Checkpoint.{reading_of_state}
use Rattle.fdp_image.specs.Outline.{state_with}
use Rattle.fdp_image.specs.Reading.{Reading}
use Rattle.fdp_image.specs.Saving.{SameDataPages}
use Rattle.fdp_image.specs.Valid.{state_in}
use Rattle.fdp_isolation.specs.Isolated.{IsIsolatedDrive}
use Rattle.fdp_isolation.specs.Reads.{ReadsApart}
use Rattle.fdp_isolation.proofs.Readings.{drawn-isolates}
use Rattle.fdp_records.specs.declared.change.Change.{Change}
use Rattle.fdp_rules.specs.Change.{after, changed_by}
use Rattle.fdp_rules.specs.History.{Found, point_of}
use Rattle.fdp_rules.specs.Next.{next, totals_with}
use Rattle.fdp_rules.specs.Point.{Point}
use Rattle.fdp_rules.specs.Sites.{traced_by}
use Rattle.fdp_snapshot.specs.declared.state.State.{State}
use Rattle.fdp_survival.specs.Apart.{AreSaidApart, StandsApart}
use Rattle.fdp_survival.proofs.Apart.{IsDurableApart, durable-apart, reads-apart-in, reads-stand-apart, said-of, said-one-of}
use Rattle.fdp_units.specs.UnitTable.{UnitTable}

-- ---- what a history draws

-- behind the entry of a handle that is shut
pub shut-reads : (c : DriveConfig) (p : Point) (cells : List Cell) (rg ruh : ℕ) → ReadsApart c cells (drawn c p) → ReadsApart c cells (drawn c (next c p (entries.Shut (record { rg = rg; ruh = ruh }))))
unfolding next after changed_by traced_by state_in state_with
shut-reads c p cells rg ruh h unit is used = let was = h unit is used in record { generation = was.generation; alone = was.alone }

-- ---- readings

two : (P : Reading → Type 0) (a b : Reading) → P a → P b → All P (a ∷ b ∷ [])
two P a b p q = All-cons P a (b ∷ []) p (All-cons P b [] q (All-nil P))

only : (P : Reading → Type 0) (a : Reading) → P a → All P (a ∷ [])
only P a p = All-cons P a [] p (All-nil P)

module _ (c : DriveConfig) (f : Found) (es : List Entry) (firm : ℕ) (s : JournalState) (t : UnitTable) (old : List Cell) (given : State) (drive : reading_of_state given ≡ drawn c (point_of c f es)) (d : IsDurableApart c f es firm s t old) (draws : ReadsApart c old (drawn c (point_of c f es))) where
  abbrev own : Reading
  own = d.durable.own

  abbrev tried : Reading
  tried = d.durable.tried

  given-apart : ReadsApart c old (reading_of_state given)
  given-apart = subst (ReadsApart c old) (sym drive) draws

  base-apart : (wanted : Bool) → ReadsApart c old (base_of wanted own given)
  base-apart true = given-apart
  base-apart false = d.own

  -- what may be read while a checkpoint is written, where one was wanted
  renewal-within : (wanted : Bool) → All (ReadsApart c old) (within_renewal wanted own tried given)
  renewal-within wanted =
      let P : Reading → Type 0 = ReadsApart c old in
      All-cons P own (tried ∷ base_of wanted own given ∷ []) d.own (two P tried (base_of wanted own given) d.tried (base-apart wanted))

  -- what the areas say then
  failed-said : (now : JournalState) (new : List Cell) → SameDataPages c old new → SayAfterCheckpoint c now new own tried given wrote.Failed → AreSaidApart c now new
  failed-said now new same says =
      let P : Reading → Type 0 = ReadsApart c new in
      said-one-of c now new (own ∷ []) (tried ∷ reading_of_state given ∷ []) (only P own (reads-apart-in c old new own same d.own))
      (two P tried (reading_of_state given) (reads-apart-in c old new tried same d.tried) (reads-apart-in c old new (reading_of_state given) same given-apart)) says

  renewal-said : (wanted : Bool) (now : JournalState) (new : List Cell) (answer : Wrote) → SameDataPages c old new → SayAfterRenewal c now new own tried given (base_of wanted own given) answer → AreSaidApart c now new
  renewal-said wanted now new wrote.Done same says =
      let there = reads-apart-in c old new (base_of wanted own given) same (base-apart wanted) in
      said-of c now new (base_of wanted own given) (base_of wanted own given) says there there
  renewal-said wanted now new wrote.Failed same says = failed-said now new same says

  checkpoint-said : (now : JournalState) (new : List Cell) (answer : Wrote) → SameDataPages c old new → SayAfterCheckpoint c now new own tried given answer → AreSaidApart c now new
  checkpoint-said now new wrote.Done same says = renewal-said true now new wrote.Done same says
  checkpoint-said now new wrote.Failed same says = failed-said now new same says

  -- entries that are saved
  module _ (added : List Entry) (first : Change × Totals) (rest : List (Change × Totals)) (saves : SavesAll c f es added (first ∷ rest)) (draws_then : ReadsApart c old (drawn c (point_of c f (es ++ added)))) where
    abbrev base : Reading
    base = base_of (needs_checkpoint s) own given

    abbrev with : Reading
    with = with_changes c base (first ∷ rest)

    with-apart : ReadsApart c old with
    with-apart = subst (ReadsApart c old) (sym (base-saved c f es added s own given first rest drive d.durable.sure saves)) draws_then

    all-within : All (ReadsApart c old) (own ∷ tried ∷ base ∷ with ∷ [])
    all-within =
        let P : Reading → Type 0 = ReadsApart c old in
        All-cons P own (tried ∷ base ∷ with ∷ []) d.own (All-cons P tried (base ∷ with ∷ []) d.tried (two P base with (base-apart (needs_checkpoint s)) with-apart))

    saving-within : (answer : Saved) → All (ReadsApart c old) (within_saved c (needs_checkpoint s) own tried given (first ∷ rest) answer)
    saving-within answers.Done = all-within
    saving-within (answers.Doubtful moment) = all-within
    saving-within (answers.Unsaved moment) = renewal-within true

    saving-said : (now : JournalState) (new : List Cell) (answer : Saved) → SameDataPages c old new → SayAfterSaving c now new own tried given base (first ∷ rest) answer → AreSaidApart c now new
    saving-said now new answers.Done same says = let there = reads-apart-in c old new with same with-apart in said-of c now new with with says there there
    saving-said now new (answers.Doubtful moment) same says =
        let P : Reading → Type 0 = ReadsApart c new in
        let both = two P base with (reads-apart-in c old new base same (base-apart (needs_checkpoint s))) (reads-apart-in c old new with same with-apart) in
        said-one-of c now new (base ∷ with ∷ []) (base ∷ with ∷ []) both both says
    saving-said now new (answers.Unsaved moment) same says = failed-said now new same says

-- ---- the same over a flash

-- what is known before a saving, where data stands apart
pub record IsBefore (c : DriveConfig) (f : Found) (es : List Entry) (firm : ℕ) (s : JournalState) (t : UnitTable) (old : FlashState) : Type 0 where
  pub told : IsTrue old.told
  pub apart : IsDurableApart c f es firm s t old.cells
  pub isolated : IsIsolatedDrive c (point_of c f es) es old.cells
  pub draws : ReadsApart c old.cells (drawn c (point_of c f es))

pub before-saving : (c : DriveConfig) (f : Found) (es : List Entry) (firm : ℕ) (s : JournalState) (t : UnitTable) (old : FlashState) → IsTrue old.told → IsDurable c f es firm s t old.cells → AreSaidApart c s old.cells → CanBeSaved c (point_of c f es) t old.cells → IsIsolatedDrive c (point_of c f es) es old.cells
    → IsBefore c f es firm s t old
before-saving c f es firm s t old told durable said can isolated = record {
  told = told;
  apart = durable-apart c f es firm s t old.cells durable said;
  isolated = isolated;
  draws = drawn-isolates c (point_of c f es) es old.cells can.orderly can.standing isolated;
}

module _ (c : DriveConfig) (f : Found) (es : List Entry) (firm : ℕ) (s now : JournalState) (t : UnitTable) (old new : FlashState) (h : IsBefore c f es firm s t old) where
  -- whatever a stop within some calls leaves that read as one of some readings
  image-apart : (rs : List Reading) → All (ReadsApart c old.cells) rs → Holds (ReadsAsOneOf c old.cells rs) old new → (m : ℕ) (image : List Cell) → old.moment < m → m ≤ new.moment → new.during m image → StandsApart c f es (length es) image
  image-apart rs all held m image above most during = reads-stand-apart c f es old.cells image rs all (held.run.images h.told m image above most during) h.isolated

  -- entries are saved
  module _ (added : List Entry) (answer : Saved) (saved : SavesEntries c f es added s now old new answer) (draws_then : ReadsApart c old.cells (drawn c (point_of c f (es ++ added)))) where
    abbrev stopped : Holds (ReadsAsOneOf c old.cells (within_saved c (needs_checkpoint s) h.apart.durable.own h.apart.durable.tried saved.given (saved.first ∷ saved.rest) answer)) old new
    stopped = saved.stops h.apart.durable.own h.apart.durable.tried (λ again. h.apart.durable.say) (λ again. h.apart.durable.sure)

    pub entry-said : AreSaidApart c now new.cells
    entry-said =
        saving-said c f es firm s t old.cells saved.given saved.drive h.apart h.draws added saved.first saved.rest saved.saves draws_then now new.cells answer (stopped.cells h.told).data_pages_same
        (saved.said h.apart.durable.own h.apart.durable.tried h.told h.apart.durable.say h.apart.durable.sure)

    pub entry-image : (m : ℕ) (image : List Cell) → old.moment < m → m ≤ new.moment → new.during m image → StandsApart c f es (length es) image
    entry-image = image-apart _ (saving-within c f es firm s t old.cells saved.given saved.drive h.apart h.draws added saved.first saved.rest saved.saves draws_then answer) stopped

  -- entries are not saved
  module _ (added : List Entry) (moment : ℕ) (saved : SavesEntries c f es added s now old new (answers.Unsaved moment)) where
    pub unsaved-said : AreSaidApart c now new.cells
    unsaved-said =
        failed-said c f es firm s t old.cells saved.given saved.drive h.apart h.draws now new.cells
        ((saved.stops h.apart.durable.own h.apart.durable.tried (λ again. h.apart.durable.say) (λ again. h.apart.durable.sure)).cells h.told).data_pages_same
        (saved.said h.apart.durable.own h.apart.durable.tried h.told h.apart.durable.say h.apart.durable.sure)

    pub unsaved-image : (m : ℕ) (image : List Cell) → old.moment < m → m ≤ new.moment → new.during m image → StandsApart c f es (length es) image
    unsaved-image = image-apart _ (renewal-within c f es firm s t old.cells saved.given saved.drive h.apart h.draws true) (saved.stops h.apart.durable.own h.apart.durable.tried (λ again. h.apart.durable.say) (λ again. h.apart.durable.sure))

  -- the drive is saved whole
  module _ (answer : Wrote) (saved : SavesDrive c f es s now old new answer) where
    pub drive-said : AreSaidApart c now new.cells
    drive-said =
        checkpoint-said c f es firm s t old.cells saved.given saved.drive h.apart h.draws now new.cells answer
        ((saved.stops h.apart.durable.own h.apart.durable.tried (λ again. h.apart.durable.say)).cells h.told).data_pages_same
        (saved.said h.apart.durable.own h.apart.durable.tried h.told h.apart.durable.say)

    pub drive-image : (m : ℕ) (image : List Cell) → old.moment < m → m ≤ new.moment → new.during m image → StandsApart c f es (length es) image
    drive-image = image-apart _ (renewal-within c f es firm s t old.cells saved.given saved.drive h.apart h.draws true) (saved.stops h.apart.durable.own h.apart.durable.tried (λ again. h.apart.durable.say))

  -- a doubt is settled
  module _ (answer : Wrote) (saved : SettlesDrive c f es s now old new answer) where
    pub settled-said : AreSaidApart c now new.cells
    settled-said =
        renewal-said c f es firm s t old.cells saved.given saved.drive h.apart h.draws s.in_doubt now new.cells answer
        ((saved.stops h.apart.durable.own h.apart.durable.tried (λ again. h.apart.durable.say)).cells h.told).data_pages_same
        (saved.said h.apart.durable.own h.apart.durable.tried h.told h.apart.durable.say)

    pub settled-image : (m : ℕ) (image : List Cell) → old.moment < m → m ≤ new.moment → new.during m image → StandsApart c f es (length es) image
    settled-image = image-apart _ (renewal-within c f es firm s t old.cells saved.given saved.drive h.apart h.draws s.in_doubt) (saved.stops h.apart.durable.own h.apart.durable.tried (λ again. h.apart.durable.say))
