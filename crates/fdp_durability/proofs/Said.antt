-- What a saving leaves, by what the areas say: over cells alone.
use Rattle.std.proofs.Common.{◌≡◌, ℕ, ◌+◌, ◌≤◌, Bool, true, false, IsTrue, List, [], ◌∷◌, ◌++◌, length, refl, sym, ◌∙◌, ap, subst, arith, length-append}
use Rattle.std.specs.Prelude.{◌&&◌, All}
use Rattle.std.proofs.lemmas.List.Elements.{All-cons, All-nil}
use Rattle.fdp_base.specs.declared.config.DriveConfig.{DriveConfig}
use Rattle.fdp_base.specs.declared.entry.Entry.{Entry}
use Rattle.fdp_durability.specs.Beginnings.{CanBeSaved}
use Rattle.fdp_durability.specs.Durable.{IsDurable, SaysDrawn}
use Rattle.fdp_durability.specs.Saved.{SavesAll, firm_renewed, firm_with, with_saved}
use Rattle.fdp_durability.proofs.Beginnings.{Tells, firm-most, tells-all, tells-grown, tells-in, tells-less, among}
use Rattle.fdp_flash.specs.declared.answer.Wrote.{Wrote}
use Rattle.fdp_flash.specs.declared.answer.Wrote.TheVariants as wrote
use Rattle.fdp_flash.specs.declared.cell.Cell.{Cell}
use Rattle.fdp_image.specs.Applied.{applied, with_changes}
use Rattle.fdp_base.specs.declared.entry.Totals.{Totals}
use Rattle.fdp_image.specs.Checkpoint.{reading_of_state}
use Rattle.fdp_image.specs.Fits.{all_fit, fits}
use Rattle.fdp_image.specs.Reading.{Reading}
use Rattle.fdp_image.specs.Saving.{SameDataPages}
use Rattle.fdp_image.proofs.Fitting.{fits-forget}
use Rattle.fdp_saving.specs.fdp_journal.JournalState.{JournalState}
use Rattle.fdp_readings.specs.Drawn.{drawn}
use Rattle.fdp_readings.proofs.Saving.{forgets}
use Rattle.fdp_records.specs.declared.change.Change.{Change}
use Rattle.fdp_rules.specs.History.{Found, point_of}
use Rattle.fdp_rules.specs.Point.{Point}
use Rattle.fdp_saving.specs.declared.saved.Saved.{Saved}
use Rattle.fdp_saving.specs.declared.saved.Saved.TheVariants as answers
use Rattle.fdp_saving.specs.Said.{AreasSay, AreasSayOneOf}
use Rattle.fdp_saving.specs.Saver.{IsSaverIn, after_renewal, after_saving, needs_checkpoint}
use Rattle.fdp_saving.specs.Saving.{SayAfterRenewal, SayAfterSaving, base_of, within_renewal, within_saved}
use Rattle.fdp_saving.proofs.Joined.{sure_of}
use Rattle.fdp_snapshot.specs.declared.state.State.{State}
use Rattle.fdp_units.specs.UnitTable.{UnitTable}

-- ---- what the readings of the two areas are

-- readings of the areas, each of which says a beginning
abbrev durable-of : (c : DriveConfig) (f : Found) (es : List Entry) (firm : ℕ) (s : JournalState) (t : UnitTable) (cells : List Cell) (own tried : Reading) → IsSaverIn cells s → AreasSay c s cells own tried
    → Tells c f es firm t cells own → Tells c f es firm t cells tried → (s.in_doubt ≡ false → own ≡ record (drawn c (point_of c f es)) { totals = own.totals }) → IsDurable c f es firm s t cells
durable-of c f es firm s t cells own tried saver say mine other sure = record {
  own = own;
  tried = tried;
  saver = saver;
  say = say;
  own_says = mine.says;
  tried_says = other.says;
  own_used = mine.used;
  tried_used = other.used;
  sure = sure;
}

pub tells-own : (c : DriveConfig) (f : Found) (es : List Entry) (firm : ℕ) (s : JournalState) (t : UnitTable) (cells : List Cell) → (h : IsDurable c f es firm s t cells) → Tells c f es firm t cells h.own
tells-own c f es firm s t cells h = record { says = h.own_says; used = h.own_used }

pub tells-tried : (c : DriveConfig) (f : Found) (es : List Entry) (firm : ℕ) (s : JournalState) (t : UnitTable) (cells : List Cell) → (h : IsDurable c f es firm s t cells) → Tells c f es firm t cells h.tried
tells-tried c f es firm s t cells h = record { says = h.tried_says; used = h.tried_used }

-- what the history draws is what is said then, but for the sums
drawn-so : (r q : Reading) → r ≡ q → r ≡ record q { totals = r.totals }
drawn-so r q is = subst (λ (x : Reading). x ≡ record q { totals = x.totals }) (sym is) refl

-- where one of two readings is said by each of the areas, and something is in doubt
one-said : (c : DriveConfig) (f : Found) (es : List Entry) (firm : ℕ) (s : JournalState) (t : UnitTable) (old new : List Cell) (owns trieds : List Reading) → SameDataPages c old new → IsSaverIn new s → s.in_doubt ≡ true
    → All (Tells c f es firm t old) owns → All (Tells c f es firm t old) trieds → AreasSayOneOf c s new owns trieds → IsDurable c f es firm s t new
one-said c f es firm s t old new owns trieds same saver doubt all_own all_tried says =
    durable-of c f es firm s t new says.own says.tried saver says.say
    (tells-in c f es firm t old new says.own same (among (Tells c f es firm t old) owns says.own all_own says.own_among))
    (tells-in c f es firm t old new says.tried same (among (Tells c f es firm t old) trieds says.tried all_tried says.tried_among))
    (λ sure. let bad : true ≡ false = sym doubt ∙ sure in absurd cc)

-- where both say what the history draws
both-drawn : (c : DriveConfig) (f : Found) (es : List Entry) (s : JournalState) (t : UnitTable) (old new : List Cell) (r : Reading) → SameDataPages c old new → IsSaverIn new s → r ≡ drawn c (point_of c f es)
    → CanBeSaved c (point_of c f es) t old → AreasSay c s new r r → IsDurable c f es (length es) s t new
both-drawn c f es s t old new r same saver is can say =
    let tells = tells-in c f es (length es) t old new r same (subst (Tells c f es (length es) t old) (sym is) (tells-all c f es t old can)) in
    durable-of c f es (length es) s t new r r saver say tells tells (λ sure. drawn-so r (drawn c (point_of c f es)) is)

-- ---- a checkpoint, where one is wanted

module _ (c : DriveConfig) (f : Found) (es : List Entry) (firm : ℕ) (s : JournalState) (t : UnitTable) (old : List Cell) (given : State) (drive : reading_of_state given ≡ drawn c (point_of c f es)) (h : IsDurable c f es firm s t old)
    (can : CanBeSaved c (point_of c f es) t old) where
  -- the drive that was given
  tells-given : Tells c f es firm t old (reading_of_state given)
  tells-given =
      subst (Tells c f es firm t old) (sym drive)
      (tells-less c f es (length es) firm t old (drawn c (point_of c f es)) (firm-most c f es firm old h.own h.own_says) (tells-all c f es t old can))

  tells-base : (wanted : Bool) → Tells c f es firm t old (base_of wanted h.own given)
  tells-base true = tells-given
  tells-base false = tells-own c f es firm s t old h

  pub renewal-tells : (wanted : Bool) → All (Tells c f es firm t old) (within_renewal wanted h.own h.tried given)
  renewal-tells wanted =
      let P : Reading → Type 0 = Tells c f es firm t old in
      let base = base_of wanted h.own given in
      All-cons P h.own (h.tried ∷ base ∷ []) (tells-own c f es firm s t old h)
      (All-cons P h.tried (base ∷ []) (tells-tried c f es firm s t old h) (All-cons P base [] (tells-base wanted) (All-nil P)))

  -- the checkpoint failed
  pub failed-durable : (now : JournalState) (new : List Cell) → SameDataPages c old new → IsSaverIn new now → now.in_doubt ≡ true → AreasSayOneOf c now new (h.own ∷ []) (h.tried ∷ reading_of_state given ∷ []) → IsDurable c f es firm now t new
  failed-durable now new same saver doubt says =
      let P : Reading → Type 0 = Tells c f es firm t old in
      one-said c f es firm now t old new (h.own ∷ []) (h.tried ∷ reading_of_state given ∷ []) same saver doubt
      (All-cons P h.own [] (tells-own c f es firm s t old h) (All-nil P))
      (All-cons P h.tried (reading_of_state given ∷ []) (tells-tried c f es firm s t old h) (All-cons P (reading_of_state given) [] tells-given (All-nil P)))
      says

  -- what the areas say after it, by the answer
  pub renewal-durable : (wanted : Bool) (now : JournalState) (new : List Cell) (answer : Wrote) → (wanted ≡ false → s.in_doubt ≡ false) → now ≡ after_renewal wanted s given.summary answer → SameDataPages c old new → IsSaverIn new now
      → SayAfterRenewal c now new h.own h.tried given (base_of wanted h.own given) answer → IsDurable c f es (firm_renewed wanted es firm answer) now t new
  renewal-durable true now new wrote.Done sure is same saver says = both-drawn c f es now t old new (reading_of_state given) same saver drive can says
  renewal-durable false now new wrote.Done sure is same saver says =
      let tells = tells-in c f es firm t old new h.own same (tells-own c f es firm s t old h) in
      durable-of c f es firm now t new h.own h.own saver says tells tells (λ again. h.sure (sure refl))
  renewal-durable true now new wrote.Failed sure is same saver says = failed-durable now new same saver (ap (λ (k : JournalState). k.in_doubt) is) says
  renewal-durable false now new wrote.Failed sure is same saver says = failed-durable now new same saver (ap (λ (k : JournalState). k.in_doubt) is) says

-- ---- changes that fit

-- what is said with some changes, at least one, does not depend on the totals of what was said before
pub forgets-all : (c : DriveConfig) (r : Reading) (totals : Totals) (first : Change × Totals) (rest : List (Change × Totals)) → with_changes c (record r { totals = totals }) (first ∷ rest) ≡ with_changes c r (first ∷ rest)
forgets-all c r totals first rest = ap (λ (x : Reading). with_changes c x rest) (forgets c r totals first)

-- nor whether they fit
fit-forget-all : (c : DriveConfig) (r : Reading) (totals : Totals) (first : Change × Totals) (rest : List (Change × Totals)) → all_fit fits c (record r { totals = totals }) (first ∷ rest) ≡ all_fit fits c r (first ∷ rest)
unfolding all_fit
fit-forget-all c r totals first rest =
    ap (λ (b : Bool). b && all_fit fits c (applied c (record r { totals = totals }) first) rest) (fits-forget c r totals first)
    ∙ ap (λ (x : Reading). fits c r first && all_fit fits c x rest) (forgets c r totals first)

-- changes that fit what the history draws fit that upon which they are saved
pub base-fits : (c : DriveConfig) (p : Point) (s : JournalState) (own : Reading) (given : State) (first : Change × Totals) (rest : List (Change × Totals)) → reading_of_state given ≡ drawn c p → SaysDrawn c p s own
    → IsTrue (all_fit fits c (drawn c p) (first ∷ rest)) → IsTrue (all_fit fits c (base_of (needs_checkpoint s) own given) (first ∷ rest))
base-fits c p s own given first rest drive sure fit = of_base (needs_checkpoint s) (λ none. sure_of s none) where
  of_base : (wanted : Bool) → (wanted ≡ false → s.in_doubt ≡ false) → IsTrue (all_fit fits c (base_of wanted own given) (first ∷ rest))
  of_base true none = subst (λ (r : Reading). IsTrue (all_fit fits c r (first ∷ rest))) (sym drive) fit
  of_base false none = subst (λ (r : Reading). IsTrue (all_fit fits c r (first ∷ rest))) (sym (sure (none refl))) (subst IsTrue (sym (fit-forget-all c (drawn c p) own.totals first rest)) fit)

-- with the changes of some entries, what is said then is what is drawn behind them
pub base-saved : (c : DriveConfig) (f : Found) (es added : List Entry) (s : JournalState) (own : Reading) (given : State) (first : Change × Totals) (rest : List (Change × Totals)) → reading_of_state given ≡ drawn c (point_of c f es)
    → SaysDrawn c (point_of c f es) s own → SavesAll c f es added (first ∷ rest) → with_changes c (base_of (needs_checkpoint s) own given) (first ∷ rest) ≡ drawn c (point_of c f (es ++ added))
base-saved c f es added s own given first rest drive sure saves = of_base (needs_checkpoint s) (λ none. sure_of s none) where
  of_base : (wanted : Bool) → (wanted ≡ false → s.in_doubt ≡ false) → with_changes c (base_of wanted own given) (first ∷ rest) ≡ drawn c (point_of c f (es ++ added))
  of_base true none = ap (λ (r : Reading). with_changes c r (first ∷ rest)) drive ∙ saves
  of_base false none = ap (λ (r : Reading). with_changes c r (first ∷ rest)) (sure (none refl)) ∙ forgets-all c (drawn c (point_of c f es)) own.totals first rest ∙ saves

-- ---- entries

module _ (c : DriveConfig) (f : Found) (es added : List Entry) (firm : ℕ) (s : JournalState) (t : UnitTable) (old : List Cell) (given : State) (first : Change × Totals) (rest : List (Change × Totals)) (drive : reading_of_state given ≡ drawn c (point_of c f es))
    (saves : SavesAll c f es added (first ∷ rest)) (h : IsDurable c f es firm s t old) (can : CanBeSaved c (point_of c f es) t old) (can_then : CanBeSaved c (point_of c f (es ++ added)) t old) where
  abbrev then' : List Entry
  then' = es ++ added

  abbrev told : List (Change × Totals)
  told = first ∷ rest

  base-says : with_changes c (base_of (needs_checkpoint s) h.own given) told ≡ drawn c (point_of c f then')
  base-says = base-saved c f es added s h.own given first rest drive h.sure saves

  grows : (r : Reading) → Tells c f es firm t old r → Tells c f then' firm t old r
  grows r tells = tells-grown c f es added firm t old r tells

  more : firm ≤ length then'
  more =
      let least = firm-most c f es firm old h.own h.own_says in
      let size : length then' ≡ length es + length added = length-append es added in
      omega (arith, least, size)

  tells-with : Tells c f then' firm t old (with_changes c (base_of (needs_checkpoint s) h.own given) told)
  tells-with = subst (Tells c f then' firm t old) (sym base-says) (tells-less c f then' (length then') firm t old (drawn c (point_of c f then')) more (tells-all c f then' t old can_then))

  tells-without : Tells c f then' firm t old (base_of (needs_checkpoint s) h.own given)
  tells-without = grows (base_of (needs_checkpoint s) h.own given) (tells-base c f es firm s t old given drive h can (needs_checkpoint s))

  appended : All (Tells c f then' firm t old) (base_of (needs_checkpoint s) h.own given ∷ with_changes c (base_of (needs_checkpoint s) h.own given) told ∷ [])
  appended =
      let P : Reading → Type 0 = Tells c f then' firm t old in
      let base = base_of (needs_checkpoint s) h.own given in
      let with = with_changes c base told in
      All-cons P base (with ∷ []) tells-without (All-cons P with [] tells-with (All-nil P))

  all-tell : All (Tells c f then' firm t old) (h.own ∷ h.tried ∷ base_of (needs_checkpoint s) h.own given ∷ with_changes c (base_of (needs_checkpoint s) h.own given) told ∷ [])
  all-tell =
      let P : Reading → Type 0 = Tells c f then' firm t old in
      let base = base_of (needs_checkpoint s) h.own given in
      let with = with_changes c base told in
      All-cons P h.own (h.tried ∷ base ∷ with ∷ []) (grows h.own (tells-own c f es firm s t old h))
      (All-cons P h.tried (base ∷ with ∷ []) (grows h.tried (tells-tried c f es firm s t old h)) appended)

  -- what may be read within it, by the answer
  pub saving-tells : (answer : Saved) → All (Tells c f (with_saved es added answer) firm t old) (within_saved c (needs_checkpoint s) h.own h.tried given told answer)
  saving-tells answers.Done = all-tell
  saving-tells (answers.Doubtful moment) = all-tell
  saving-tells (answers.Unsaved moment) = renewal-tells c f es firm s t old given drive h can true

  -- what the areas say after it, by the answer
  pub saving-durable : (now : JournalState) (new : List Cell) (answer : Saved) → now ≡ after_saving s given.summary answer → SameDataPages c old new → IsSaverIn new now
      → SayAfterSaving c now new h.own h.tried given (base_of (needs_checkpoint s) h.own given) told answer → IsDurable c f (with_saved es added answer) (firm_with es added firm answer) now t new
  saving-durable now new answers.Done is same saver says = both-drawn c f then' now t old new _ same saver base-says can_then says
  saving-durable now new (answers.Doubtful moment) is same saver says = one-said c f then' firm now t old new _ _ same saver (ap (λ (k : JournalState). k.in_doubt) is) appended appended says
  saving-durable now new (answers.Unsaved moment) is same saver says = failed-durable c f es firm s t old given drive h can now new same saver (ap (λ (k : JournalState). k.in_doubt) is) says
