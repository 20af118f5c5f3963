-- Runs that follow one another on one image.
use Rattle.std.proofs.Common.{◌≡◌, ◌⊎◌, ℕ, zero, suc, ◌+◌, ◌-◌, ◌^◌, ◌<◌, ◌≤◌, List, [], ◌∷◌, ◌++◌, length, take, drop, refl, sym, ap, ap₂, subst, ◌∙◌, arith, inl, inr, true, Some, Result, Ok, Err}
use Rattle.std.specs.Prelude.{IsFalse, slice_get}
use Rattle.std.specs.List.{All}
use Rattle.std.proofs.lemmas.List.{length-append, length-drop, take_all}
use Rattle.std.proofs.lemmas.List.Sums.{fold-append}
use Rattle.fdp_base.specs.declared.config.DriveConfig.{DriveConfig}
use Rattle.fdp_base.specs.declared.entry.Entry.{Entry}
use Rattle.fdp_base.specs.declared.entry.Entry.TheVariants.{Reopened}
use Rattle.fdp_output.specs.RunOutput.{output_of}
use Rattle.fdp_plain.specs.Found.{found_after, found_at}
use Rattle.fdp_plain.specs.Run.{Run, found_of, next_position}
use Rattle.fdp_reader.specs.declared.fault.RecordFault.{RecordFault}
use Rattle.fdp_reader.specs.declared.fault.RecordFault.TheVariants as records
use Rattle.fdp_reader.specs.declared.record.Printed.{Printed}
use Rattle.fdp_reader.specs.Record.{GivesRecord, IsPrinted, IsRecord, IsRecordCause}
use Rattle.fdp_rules.specs.History.{fresh, point_of, totals_of}
use Rattle.fdp_audit.specs.declared.fault.AuditFault.{AuditFault}
use Rattle.fdp_audit.specs.declared.fault.RunFault.{RunFault}
use Rattle.fdp_audit.specs.declared.fault.RunFault.TheVariants as faults
use Rattle.fdp_audit.specs.Audit.{Follow, HaveNoCompletedChange, IsAuditCause, IsAudited, IsCauseFrom, IsCauseNext, IsFirst, IsFirstCompleted, IsNext, IsNoOpening, IsOpened, IsRecordFrom, IsWant, OpensBehind, behind, first_position, first_run, is_completed_change, number_told, placed_from, run_behind}
use Rattle.fdp_audit.specs.Steps.{BeginBehind, BeginNowhere, GoOn, GoesOn, IsNextVerdict, IsOutcomeBehind, IsRecordOfRun, IsVerdict, of_record}
use Rattle.fdp_audit.proofs.Judging.{some-head}
use Rattle.fdp_audit.proofs.Verdicts.{from-record, record-few}

-- ---- lists

pub parts : {A : Type 0} (n : ℕ) (xs : List A) → xs ≡ take n xs ++ drop n xs
parts zero [] = refl
parts zero (x ∷ xs) = refl
parts (suc n) [] = refl
parts {A} (suc n) (x ∷ xs) = ap (λ (ys : List A). x ∷ ys) (parts n xs)

front : {A : Type 0} (a b : List A) → take (length a) (a ++ b) ≡ a
front [] [] = refl
front [] (y ∷ b) = refl
front {A} (x ∷ a) b = ap (λ (ys : List A). x ∷ ys) (front a b)

behind-front : {A : Type 0} (a b : List A) → drop (length a) (a ++ b) ≡ b
behind-front [] [] = refl
behind-front [] (y ∷ b) = refl
behind-front (x ∷ a) b = behind-front a b

pub taken-size : {A : Type 0} (n : ℕ) (xs : List A) → n ≤ length xs → length (take n xs) ≡ n
taken-size zero [] low = refl
taken-size zero (x ∷ xs) low = refl
taken-size (suc n) [] low = absurd (omega (arith, low))
taken-size (suc n) (x ∷ xs) low = ap suc (taken-size n xs (omega (arith, low)))

some-inside : {A : Type 0} (x y : A) → Some x ≡ Some y → x ≡ y
some-inside x y e = cc

-- the first of them is in front of the others
pub slice-first : {A : Type 0} (xs : List A) (x : A) → slice_get xs 0 ≡ Some x → xs ≡ x ∷ drop 1 xs
slice-first [] x e = absurd cc
slice-first {A} (y ∷ []) x e = ap (λ (z : A). z ∷ []) (some-inside y x e)
slice-first {A} (y ∷ z ∷ xs) x e = ap (λ (w : A). w ∷ z ∷ xs) (some-inside y x e)

-- all that stands behind so many of them
pub all-behind : {A : Type 0} (n : ℕ) (xs : List A) → take (length xs - n) (drop n xs) ≡ drop n xs
all-behind n xs = take_all (length xs - n) (drop n xs) (omega (arith, length-drop n xs))

-- ---- positions

-- a run begins behind as many entries more as the one before it left
pub behind-position : (old : Run) (kept : List Entry) → first_position (run_behind old kept) ≡ first_position old + length kept
unfolding found_at point_of totals_of
behind-position old kept =
    let f = found_of old in
    let is : found_of (run_behind old kept) ≡ found_after old.config f kept = fold-append (found_after old.config) (fresh old.config) old.earlier (kept ∷ []) in
    let at : (found_of (run_behind old kept)).totals.position ≡ f.totals.position + length kept = ap (λ g. g.totals.position) is in
    omega (arith, at)

-- behind so many of them
pub start-place : (old : Run) (kept : ℕ) → kept ≤ length old.entries → first_position (run_behind old (take kept old.entries)) ≡ first_position old + kept
start-place old kept low = behind-position old (take kept old.entries) ∙ ap (λ (n : ℕ). first_position old + n) (taken-size kept old.entries low)

-- the first run on an image has its entries at the positions from 1 on
pub first-count : (c : DriveConfig) (es : List Entry) → next_position (behind (first_run c) es) ≡ length es + 1
unfolding fresh
first-count c es = omega arith

-- ---- the beginning that a text tells

module _ (old : Run) (text : List ℕ) (room : next_position old + length text < 2 ^ 64) where
  -- all that a text may be read as
  abbrev pub IsReadAs : Result Printed RecordFault → Type 0
  IsReadAs result = (traces : ℕ) (output : List ℕ) (entries : List (ℕ × Entry)) → IsRecord old.config text traces output entries → GivesRecord traces output entries result

  small : length text < 2 ^ 64
  small = omega (arith, room)

  near : (kept lost : List Entry) → old.entries ≡ kept ++ lost → first_position (run_behind old kept) + length text ≤ 2 ^ 64
  near kept lost are = omega (arith, behind-position old kept, room, ap (λ (es : List Entry). length es) are, length-append kept lost)

  -- the run of a text that is read begins behind what it left
  record-next : (other : Run) → (n : IsNext old text other) → IsRecord old.config text n.record_is.traces (output_of old.config (found_of (run_behind old n.kept)) n.record_is.traces other.entries) (placed_from (first_position (run_behind old n.kept)) other.entries)
  record-next other n = from-record (run_behind old n.kept) text other.entries small (near n.kept n.leaves.lost n.leaves.es_are) n.record_is

  pub not-read : (next : Run) (cause : RecordFault) → IsRecordCause old.config text cause → IsReadAs (Err cause) → IsNextVerdict old text next (Err (of_record cause))
  not-read next (records.Line line) bad only = (bad, λ other n. only n.record_is.traces (output_of old.config (found_of (run_behind old n.kept)) n.record_is.traces other.entries) (placed_from (first_position (run_behind old n.kept)) other.entries) (record-next other n))
  not-read next records.NoMemory bad only = (tt, λ other n. tt)

  module _ (p : Printed) (read : IsPrinted old.config text p) (only : IsReadAs (Ok p)) where
    entries-next : (other : Run) → (n : IsNext old text other) → p.entries.items ≡ placed_from (first_position (run_behind old n.kept)) other.entries
    entries-next other n = (only n.record_is.traces (output_of old.config (found_of (run_behind old n.kept)) n.record_is.traces other.entries) (placed_from (first_position (run_behind old n.kept)) other.entries) (record-next other n)).2

    -- the opening of the next run
    record HasOpening (position : ℕ) : Type 0 where
      pub more : List (ℕ × Entry)
      pub entries_are : p.entries.items ≡ (position, Reopened) ∷ more

    opening-in : (position : ℕ) (es : List Entry) → p.entries.items ≡ placed_from position es → IsOpened es → HasOpening position
    opening-in position [] are opened = absurd opened
    opening-in position (e ∷ es) are opened = record { more = placed_from (position + 1) es; entries_are = are ∙ ap (λ (x : Entry). (position, x) ∷ placed_from (position + 1) es) opened }

    opening-next : (other : Run) → (n : IsNext old text other) → HasOpening (first_position (run_behind old n.kept))
    opening-next other n = opening-in (first_position (run_behind old n.kept)) other.entries (entries-next other n) n.opened

    -- where entries begin nowhere no run goes on
    no-opening : (at why position : ℕ) → HasOpening position → first_position old ≤ position → position ≤ first_position old + length old.entries → (entries : List (ℕ × Entry)) → p.entries.items ≡ entries → IsNoOpening (first_position old) old.entries entries at why → ⊥
    no-opening at why position h low high [] are bad = absurd (none (sym are ∙ h.entries_are)) where
      none : [] ≡ (position, Reopened) ∷ h.more → ⊥
      none e = cc
    no-opening at why position h low high ((q, e) ∷ entries) are (inl other) =
        let same = some-head (q, e) (position, Reopened) entries h.more (sym are ∙ h.entries_are) in
        other.0 (ap (λ (x : ℕ × Entry). x.1) same.0)
    no-opening at why position h low high ((q, e) ∷ entries) are (inr other) =
        let same = some-head (q, e) (position, Reopened) entries h.more (sym are ∙ h.entries_are) in
        apart (ap (λ (x : ℕ × Entry). x.0) same.0) other.1 where
          apart : q ≡ position → (q < first_position old) ⊎ (first_position old + length old.entries < q) → ⊥
          apart is (inl below) = omega (arith, is, below, low)
          apart is (inr above) = omega (arith, is, above, high)

    pub nowhere : (next : Run) (fault : RunFault) → BeginNowhere old p.entries.items fault → IsNextVerdict old text next (Err fault)
    nowhere next (faults.Line line) bad = absurd bad
    nowhere next (faults.Illegal at why) bad = (
      inl (record { traces = p.traces; output = read.output; entries = p.entries.items; record_is = read.record_is; no_opening = bad }),
      λ other n.
          let start = run_behind old n.kept in
          let place = behind-position old n.kept in
          absurd (no-opening at why (first_position start) (opening-next other n) (omega (arith, place)) (omega (arith, place, ap (λ (es : List Entry). length es) n.leaves.es_are, length-append n.kept n.leaves.lost)) p.entries.items refl bad),
    )
    nowhere next (faults.Output line) bad = absurd bad
    nowhere next (faults.Lost at) bad = absurd bad
    nowhere next faults.NoMemory bad = absurd bad

    -- ---- it begins behind so many entries

    module _ (kept : ℕ) (b : BeginBehind old p.entries.items kept) where
      abbrev pub start : Run
      start = run_behind old (take kept old.entries)

      place : first_position start ≡ first_position old + kept
      place = start-place old kept b.low

      pub start-room : first_position start ≤ next_position old
      start-room = omega (arith, place, b.low)

      opens : OpensBehind old text start
      opens = record {
        kept = take kept old.entries;
        lost = drop kept old.entries;
        entries_are = parts kept old.entries;
        start_is = refl;
        traces = p.traces;
        output = read.output;
        more = b.more;
        record_is =
            subst (IsRecord old.config text p.traces read.output) (b.entries_are ∙ ap (λ (n : ℕ). (n, Reopened) ∷ b.more) (sym place)) read.record_is;
      }

      -- so every run that goes on does so there
      one-kept : (other : Run) → (n : IsNext old text other) → n.kept ≡ take kept old.entries
      one-kept other n =
          let h = opening-next other n in
          let same = some-head (first_position old + kept, Reopened) (first_position (run_behind old n.kept), Reopened) b.more h.more (sym b.entries_are ∙ h.entries_are) in
          let at : first_position old + kept ≡ first_position (run_behind old n.kept) = ap (λ (x : ℕ × Entry). x.0) same.0 in
          let size : length n.kept ≡ kept = omega (arith, at, behind-position old n.kept) in
          sym (front n.kept n.leaves.lost) ∙ ap₂ (λ (k : ℕ) (es : List Entry). take k es) size (sym n.leaves.es_are)

      one-record : (other : Run) → IsNext old text other → IsRecordFrom start text other.entries
      one-record other n = subst (λ (es : List Entry). IsRecordFrom (run_behind old es) text other.entries) (one-kept other n) n.record_is

      one-lost : (other : Run) → IsNext old text other → HaveNoCompletedChange (drop kept old.entries)
      one-lost other n =
          let size : length n.kept ≡ kept = ap (λ (es : List Entry). length es) (one-kept other n) ∙ taken-size kept old.entries b.low in
          subst HaveNoCompletedChange (sym (behind-front n.kept n.leaves.lost) ∙ ap₂ (λ (k : ℕ) (es : List Entry). drop k es) size (sym n.leaves.es_are)) n.leaves.none

      -- what is wrong with its run is wrong with the next one
      cause-next : (fault : RunFault) → IsCauseFrom start text fault → IsCauseNext old text fault
      cause-next (faults.Line line) bad = bad
      cause-next (faults.Illegal at why) bad = inr (start, opens, bad)
      cause-next (faults.Output line) bad = (start, opens, bad)
      cause-next (faults.Lost at) bad = absurd bad
      cause-next faults.NoMemory bad = tt

      pub next-no : (run next : Run) (fault : RunFault) → IsVerdict start text run (Err fault) → IsNextVerdict old text next (Err fault)
      next-no run next fault v = (cause-next fault v.0, λ other n. v.1 other.entries (one-record other n))

      module _ (run : Run) (v : IsRecordOfRun start text run) where
        opened : IsOpened run.entries
        opened = opened-in run.entries (first_position start) (sym is ∙ b.entries_are) where
          near-start : first_position start + length text ≤ 2 ^ 64
          near-start = near (take kept old.entries) (drop kept old.entries) (parts kept old.entries)

          is : p.entries.items ≡ placed_from (first_position start) run.entries
          is = (only v.record_is.traces (output_of old.config (found_of start) v.record_is.traces run.entries) (placed_from (first_position start) run.entries) (from-record start text run.entries small near-start v.record_is)).2

          opened-in : (es : List Entry) (position : ℕ) → placed_from position es ≡ (first_position old + kept, Reopened) ∷ b.more → IsOpened es
          opened-in [] position are = absurd cc
          opened-in (e ∷ es) position are =
              ap (λ (x : ℕ × Entry). x.1) (some-head (position, e) (first_position old + kept, Reopened) (placed_from (position + 1) es) b.more are).0

        pub next-yes : HaveNoCompletedChange (drop kept old.entries) → GoesOn old text run
        next-yes none = record {
          next_is = record {
            kept = take kept old.entries;
            leaves = record { lost = drop kept old.entries; es_are = parts kept old.entries; none = none };
            next_is = v.run_is;
            opened = opened;
            record_is = v.record_is;
          };
          one = λ other n.
              v.run_is
              ∙ ap₂ (λ (kept : List Entry) (es : List Entry). behind (run_behind old kept) es) (sym (one-kept other n)) (v.one other.entries (one-record other n))
              ∙ sym n.next_is;
        }

        pub next-lost : (next : Run) (lost : ℕ) → IsFirstCompleted (drop kept old.entries) lost → IsNextVerdict old text next (Err (faults.Lost (first_position start + lost)))
        unfolding opens
        next-lost next lost first = (
          record { start = start; opens = opens; es = run.entries; record_is = v.record_is; place = lost; first_lost = first; at_is = refl },
          λ other n. not-none (one-lost other n),
        ) where
          false-true : IsFalse true → ⊥
          false-true e = cc

          at : {A : Type 0} (P : A → Type 0) (before : List A) (x : A) (after : List A) → All P (before ++ x ∷ after) → P x
          at P [] x after h = h 0 x (omega arith)
          at P (y ∷ before) x after h = at P before x after (λ k d low. h (suc k) d (omega (arith, low)))

          not-none : HaveNoCompletedChange (drop kept old.entries) → ⊥
          not-none none =
              let here = at (λ e. IsFalse (is_completed_change e)) first.before first.completed first.after (subst HaveNoCompletedChange first.es_are none) in
              false-true (subst IsFalse first.is_completed here)

-- ---- the room for the next one

-- what is lost stands among the entries of the run before
pub lost-room : (old : Run) (kept place : ℕ) → kept ≤ length old.entries → IsFirstCompleted (drop kept old.entries) place → kept + place < length old.entries
lost-room old kept place low first =
    let size = ap (λ (es : List Entry). length es) (parts kept old.entries) ∙ length-append (take kept old.entries) (drop kept old.entries) in
    let lost = ap (λ (es : List Entry). length es) first.es_are ∙ length-append first.before (first.completed ∷ first.after) in
    omega (arith, size, lost, taken-size kept old.entries low, first.place_is)

pub next-room : (old next : Run) (text : List ℕ) → IsNext old text next → next_position next ≤ next_position old + length text
next-room old next text n =
    let few = record-few (run_behind old n.kept) text next.entries n.record_is in
    let is : next_position next ≡ first_position (run_behind old n.kept) + length next.entries = ap next_position n.next_is ∙ omega arith in
    omega (arith, is, few, behind-position old n.kept, ap (λ (es : List Entry). length es) n.leaves.es_are, length-append n.kept n.leaves.lost)

-- ---- the runs behind a run

-- what becomes of the texts behind one that was gone on with
pub behind-one : (old next : Run) (text : List ℕ) (texts : List (List ℕ)) (number : ℕ) (last : Run) (result : Result (Unit {0}) AuditFault) → GoesOn old text next → IsOutcomeBehind next texts (number + 1) last result → IsOutcomeBehind old (text ∷ texts) number last result
behind-one old next text texts number last (Ok done) one v = record {
  follow = (next, one.next_is, v.follow);
  one = λ other f. v.one other (subst (λ (r : Run). Follow r texts other) (sym (one.one f.0 f.1)) f.2);
}
behind-one old next text texts number last (Err fault) one v =
    (inr (next, one.next_is, v.0), λ other f. v.1 other (subst (λ (r : Run). Follow r texts other) (sym (one.one f.0 f.1)) f.2))

-- the first of them is none
pub none-behind : (old next last : Run) (text : List ℕ) (texts : List (List ℕ)) (number told : ℕ) (cause : RunFault) → told ≡ number_told number cause → IsNextVerdict old text next (Err cause) → IsOutcomeBehind old (text ∷ texts) number last (Err (record { number = told; cause = cause }))
none-behind old next last text texts number told cause is v = (inl (v.0, is), λ other f. v.1 f.0 f.1)

-- ---- the first run

pub first-yes : (c : DriveConfig) (text : List ℕ) (run : Run) → IsRecordOfRun (first_run c) text run → IsFirst c text run
first-yes c text run v = record { first_is = v.run_is; record_is = v.record_is }

first-one : (c : DriveConfig) (text : List ℕ) (run other : Run) → IsRecordOfRun (first_run c) text run → IsFirst c text other → run ≡ other
first-one c text run other v f = v.run_is ∙ ap (λ (es : List Entry). behind (first_run c) es) (v.one other.entries f.record_is) ∙ sym f.first_is

pub first-room : (c : DriveConfig) (text : List ℕ) (run : Run) → IsRecordOfRun (first_run c) text run → next_position run ≤ 1 + length text
first-room c text run v =
    let few = record-few (first_run c) text run.entries v.record_is in
    omega (arith, few, ap next_position v.run_is ∙ first-count c run.entries)

-- a first text that is none
pub first-none : (c : DriveConfig) (text : List ℕ) (texts : List (List ℕ)) (run : Run) (cause : RunFault) → IsVerdict (first_run c) text run (Err cause)
    → IsAuditCause c (text ∷ texts) (record { number = 1; cause = cause }) × ((count : ℕ) → IsAudited c (text ∷ texts) count → IsWant cause)
first-none c text texts run cause v = (inl (v.0, refl), λ count a. v.1 a.first.entries a.first_is.record_is)

-- the others behind it
pub all-yes : (c : DriveConfig) (text : List ℕ) (texts : List (List ℕ)) (run last : Run) (count : ℕ) → IsRecordOfRun (first_run c) text run → GoOn run texts last → next_position last ≡ count + 1
    → IsAudited c (text ∷ texts) count × ((n : ℕ) → IsAudited c (text ∷ texts) n → count ≡ n)
all-yes c text texts run last count v go is = (
  record { first = run; first_is = first-yes c text run v; last = last; follow = go.follow; count_is = is },
  λ n a.
      let same : last ≡ a.last = go.one a.last (subst (λ (r : Run). Follow r texts a.last) (sym (first-one c text run a.first v a.first_is)) a.follow) in
      omega (arith, is, a.count_is, ap next_position same),
)

pub all-none : (c : DriveConfig) (text : List ℕ) (texts : List (List ℕ)) (run last : Run) (fault : AuditFault) → IsRecordOfRun (first_run c) text run → IsOutcomeBehind run texts 1 last (Err fault)
    → IsAuditCause c (text ∷ texts) fault × ((n : ℕ) → IsAudited c (text ∷ texts) n → IsWant fault.cause)
all-none c text texts run last fault v o =
    (inr (run, first-yes c text run v, o.0), λ n a. o.1 a.last (subst (λ (r : Run). Follow r texts a.last) (sym (first-one c text run a.first v a.first_is)) a.follow))
