-- What an audit says of one text.
use Rattle.std.proofs.Common.{◌≡◌, ℕ, suc, ◌+◌, ◌^◌, ◌<◌, ◌≤◌, List, [], ◌∷◌, ◌++◌, length, refl, sym, ap, ap₂, subst, ◌∙◌, arith, take, Bool, true, false, ◌&&◌, nat_lt, if◌then◌else◌, Option, None, Some, Result, Ok, Err}
use Rattle.std.specs.List.{All}
use Rattle.std.specs.Option.{option_map_or}
use Rattle.std.proofs.lemmas.Bool.Decides.{nat_tests}
use Rattle.std.proofs.lemmas.List.{length-append}
use Rattle.std.proofs.lemmas.List.Elements.{All-cons, All-nil}
use Rattle.fdp_base.specs.declared.config.DriveConfig.{DriveConfig}
use Rattle.fdp_base.specs.declared.entry.Entry.{Entry}
use Rattle.fdp_base.specs.Geometry.{IsWithin}
use Rattle.fdp_base.specs.Text.{spaced}
use Rattle.fdp_output.specs.HistoryText.{entry_data, entry_lines, entry_words, history_text, record_of}
use Rattle.std.specs.Prelude.{IfErr, OnOk, decimal}
use Rattle.fdp_output.specs.RunOutput.{output_of}
use Rattle.fdp_prints.specs.Told.{AreTold, IsTold, printed}
use Rattle.fdp_reader.specs.declared.place.Place.{Place}
use Rattle.fdp_reader.specs.declared.place.Place.TheVariants as places
use Rattle.fdp_reader.specs.Form.{IsForm, is_closing, is_completion, is_queue, is_stats, step, walk}
use Rattle.fdp_reader.specs.declared.fault.RecordFault.{RecordFault}
use Rattle.fdp_reader.specs.declared.fault.RecordFault.TheVariants as records
use Rattle.fdp_reader.specs.declared.record.Printed.{Printed}
use Rattle.fdp_reader.specs.Record.{GivesRecord, IsPrinted, IsRecord, IsRecordCause}
use Rattle.fdp_plain.specs.Run.{Run, found_of, next_position}
use Rattle.fdp_reader.proofs.Walking.{some-one}
use Rattle.fdp_rules.specs.History.{Found}
use Rattle.fdp_rules.specs.Legal.{IsLegal}
use Rattle.fdp_audit.specs.declared.fault.RunFault.{RunFault}
use Rattle.fdp_audit.specs.declared.fault.RunFault.TheVariants as faults
use Rattle.fdp_audit.specs.Audit.{IsFirstOther, IsIllegal, IsRecordFrom, behind, first_position, placed_from}
use Rattle.fdp_audit.specs.Steps.{IsIllegalIn, IsOtherOutput, IsRecordOfRun, IsVerdict, of_record}
use Rattle.fdp_audit.proofs.Judging.{legal-not-wrong, placed-one, some-head}
use Rattle.fdp_audit.proofs.Outputs.{output-form}

-- a history's print is that of its entries at the positions that are due
pub history-is : (block position : ℕ) (es : List Entry) → printed block (placed_from position es) ≡ history_text block position es
history-is block position [] = refl
history-is block position (e ∷ es) = ap (λ (t : List ℕ). entry_lines block position e ++ t) (history-is block (position + 1) es)

-- each entry has a line
long-line : (a b : List ℕ) → 0 < length ((a ++ 10 ∷ []) ++ b)
long-line a b = omega (arith, length-append (a ++ 10 ∷ []) b, length-append a (10 ∷ []))

few-entries : (block position : ℕ) (es : List Entry) → length es ≤ length (history_text block position es)
few-entries block position [] = omega arith
few-entries block position (e ∷ es) =
    let rest = few-entries block (position + 1) es in
    let some = long-line (spaced (decimal position ∷ entry_words e)) (entry_data block e) in
    omega (arith, rest, some, length-append (entry_lines block position e) (history_text block (position + 1) es))

told-placed : (c : DriveConfig) (position : ℕ) (es : List Entry) → position + length es ≤ 2 ^ 64 → All (IsTold c) es → AreTold c (placed_from position es)
told-placed c position [] few told = tt
told-placed c position (e ∷ es) few told = ((omega (arith, few), told 0 e (omega arith)), told-placed c (position + 1) es (omega (arith, few)) (λ i d low. told (suc i) d (omega (arith, low))))

placed-told : (c : DriveConfig) (position : ℕ) (es : List Entry) → AreTold c (placed_from position es) → All (IsTold c) es
placed-told c position [] told = All-nil (IsTold c)
placed-told c position (e ∷ es) told = All-cons (IsTold c) e es told.0.1 (placed-told c (position + 1) es told.1)

-- the text of a record of a legal history is a record
pub from-record : (start : Run) (text : List ℕ) (es : List Entry) → length text < 2 ^ 64 → first_position start + length text ≤ 2 ^ 64 → (a : IsRecordFrom start text es) → IsRecord start.config text a.traces (output_of start.config (found_of start) a.traces es) (placed_from (first_position start) es)
unfolding record_of
from-record start text es small room a =
    let c = start.config in
    let out = output_of c (found_of start) a.traces es in
    let first = first_position start in
    let at : (found_of start).totals.position + 1 ≡ first = omega arith in
    let is : text ≡ out ++ history_text c.block first es = a.text_is ∙ ap (λ (p : ℕ). out ++ history_text c.block p es) at in
    let long = ap (λ (t : List ℕ). length t) is ∙ length-append out (history_text c.block first es) in
    let few : first + length es ≤ 2 ^ 64 = omega (arith, few-entries c.block first es, long, room) in
    record {
      form = output-form c (found_of start) a.traces es a.queues;
      told = told-placed c first es few a.told;
      text_is = is ∙ ap (λ (t : List ℕ). out ++ t) (sym (history-is c.block first es));
    }

-- it has no more entries than bytes
pub record-few : (start : Run) (text : List ℕ) (es : List Entry) → IsRecordFrom start text es → length es ≤ length text
unfolding record_of
record-few start text es a =
    let c = start.config in
    let position = (found_of start).totals.position + 1 in
    let out = output_of c (found_of start) a.traces es in
    omega (arith, few-entries c.block position es, ap (λ (t : List ℕ). length t) a.text_is, length-append out (history_text c.block position es))

-- the same of any entries that are printed
few-printed : (block : ℕ) (xs : List (ℕ × Entry)) → length xs ≤ length (printed block xs)
few-printed block [] = omega arith
few-printed block (x ∷ xs) =
    let rest = few-printed block xs in
    let some = long-line (spaced (decimal x.0 ∷ entry_words x.1)) (entry_data block x.1) in
    omega (arith, rest, some, length-append (entry_lines block x.0 x.1) (printed block xs))

pub few-read : (c : DriveConfig) (text : List ℕ) (p : Printed) → IsPrinted c text p → length p.entries.items ≤ length text
few-read c text p read =
    let is = ap (λ (t : List ℕ). length t) read.record_is.text_is in
    omega (arith, is, few-printed c.block p.entries.items, length-append read.output (printed c.block p.entries.items))

-- ---- how many queues an output has

abbrev IsPlaceOf : DriveConfig → Place → Type 0
IsPlaceOf c places.Start = Unit {0}
IsPlaceOf c (places.Queue n) = IsWithin 1 c.queues n
IsPlaceOf c (places.Closing n) = IsWithin 1 c.queues n

queue-within : (c : DriveConfig) (n : ℕ) → IsWithin 1 c.queues n → (b d e : Bool) → (d ≡ true → n < c.queues) → (q : Place)
    → (if b then Some (places.Closing n) else (if d then Some (places.Queue (n + 1)) else (if e then Some (places.Queue n) else None))) ≡ Some q → IsPlaceOf c q
queue-within c n within true d e more q is = subst (IsPlaceOf c) (some-one (places.Closing n) q is) within
queue-within c n within false true e more q is = let low = more refl in subst (IsPlaceOf c) (some-one (places.Queue (n + 1)) q is) (omega arith, omega (arith, low))
queue-within c n within false false true more q is = subst (IsPlaceOf c) (some-one (places.Queue n) q is) within
queue-within c n within false false false more q is = absurd cc

both-true : (a b : Bool) → (a && b) ≡ true → a ≡ true
both-true true b e = refl
both-true false b e = absurd cc

first-within : (c : DriveConfig) → 1 ≤ c.queues → (b : Bool) (q : Place) → (if b then Some (places.Queue 1) else None) ≡ Some q → IsPlaceOf c q
first-within c some true q is = subst (IsPlaceOf c) (some-one (places.Queue 1) q is) (omega arith, some)
first-within c some false q is = absurd cc

closing-within : (c : DriveConfig) (n : ℕ) → IsWithin 1 c.queues n → (b : Bool) (q : Place) → (if b then Some (places.Closing n) else None) ≡ Some q → IsPlaceOf c q
closing-within c n within true q is = subst (IsPlaceOf c) (some-one (places.Closing n) q is) within
closing-within c n within false q is = absurd cc

below : (n high : ℕ) → nat_lt n high ≡ true → n < high
below n high e = grind (arith, nat_tests)

step-within : (c : DriveConfig) → 1 ≤ c.queues → (p : Place) (line : List ℕ) (q : Place) → IsPlaceOf c p → step c p line ≡ Some q → IsPlaceOf c q
unfolding step
step-within c some places.Start line q h is = first-within c some (is_queue 1 line) q is
step-within c some (places.Queue n) line q h is =
    queue-within c n h (is_stats line) (nat_lt n c.queues && is_queue (n + 1) line) (is_completion line) (λ e. below n c.queues (both-true (nat_lt n c.queues) (is_queue (n + 1) line) e)) q is
step-within c some (places.Closing n) line q h is = closing-within c n h (is_closing line) q is

next-of : (f : Place → Option Place) (o : Option Place) (q : Place) → option_map_or f o None ≡ Some q → (n : Place) × (o ≡ Some n) × (f n ≡ Some q)
next-of f None q e = absurd cc
next-of f (Some n) q e = (n, refl, e)

walk-within : (c : DriveConfig) → 1 ≤ c.queues → (p : Place) (lines : List (List ℕ)) (q : Place) → IsPlaceOf c p → walk c p lines ≡ Some q → IsPlaceOf c q
unfolding walk
walk-within c some p [] q h is = subst (IsPlaceOf c) (some-one p q is) h
walk-within c some p (line ∷ lines) q h is =
    let n = next-of (λ next. walk c next lines) (step c p line) q is in
    walk-within c some n.0 lines q (step-within c some p line n.0 h n.1) n.2

form-within : (c : DriveConfig) (traces : ℕ) (output : List ℕ) → 1 ≤ c.queues → IsForm c traces output → IsWithin 1 c.queues traces
form-within c traces output some f = walk-within c some places.Start f.lines (places.Closing traces) tt f.steps

-- ---- what a record comes to

-- a record of a legal history with the output of that history
pub record-from : (start : Run) (text : List ℕ) (traces : ℕ) (output : List ℕ) (es : List Entry) → 1 ≤ start.config.queues → IsRecord start.config text traces output (placed_from (first_position start) es) → IsLegal true start.config (found_of start) es
    → output ≡ output_of start.config (found_of start) traces es → IsRecordFrom start text es
unfolding record_of
record-from start text traces output es some r legal same =
    let c = start.config in
    let first = first_position start in
    let at : first ≡ (found_of start).totals.position + 1 = omega arith in
    record {
      traces = traces;
      queues = form-within c traces output some r.form;
      told = placed-told c first es r.told;
      legal = legal;
      text_is = r.text_is ∙ ap₂ (λ (a b : List ℕ). a ++ b) same (history-is c.block first es ∙ ap (λ (p : ℕ). history_text c.block p es) at);
    }

take-front : (a x : List ℕ) → take (length a) (a ++ x) ≡ a
take-front [] x = refl
take-front (b ∷ a) x = ap (λ (t : List ℕ). b ∷ t) (take-front a x)

-- texts with fronts of one length
same-front : (a b x y : List ℕ) → length a ≡ length b → a ++ x ≡ b ++ y → a ≡ b
same-front [] [] x y n e = refl
same-front [] (q ∷ b) x y n e = absurd cc
same-front (p ∷ a) [] x y n e = absurd cc
same-front (p ∷ a) (q ∷ b) x y n e =
    let h = some-head p q (a ++ x) (b ++ y) e in
    ap₂ (λ (z : ℕ) (zs : List ℕ). z ∷ zs) h.0 (same-front a b x y (omega (arith, n)) h.1)

-- ---- what an audit comes to

-- the front of a text that was read is its output
pub cut-off : (c : DriveConfig) (text : List ℕ) (p : Printed) (read : IsPrinted c text p) → take p.output text ≡ read.output
cut-off c text p read =
    ap₂ (λ (n : ℕ) (t : List ℕ). take n t) read.count read.record_is.text_is ∙ take-front read.output (printed c.block p.entries.items)

module _ (start : Run) (text : List ℕ) (small : length text < 2 ^ 64) (room : first_position start + length text ≤ 2 ^ 64) where
  abbrev c : DriveConfig
  c = start.config

  abbrev f : Found
  f = found_of start

  abbrev first : ℕ
  first = first_position start

  -- the text was read as this
  abbrev pub IsReadAs : Result Printed RecordFault → Type 0
  IsReadAs result = (traces : ℕ) (output : List ℕ) (entries : List (ℕ × Entry)) → IsRecord c text traces output entries → GivesRecord traces output entries result

  pub read-no : (run : Run) (cause : RecordFault) → IsRecordCause c text cause → IsReadAs (Err cause) → IsVerdict start text run (Err (of_record cause))
  read-no run (records.Line line) bad only = (bad, λ es a. only a.traces (output_of c f a.traces es) (placed_from first es) (from-record start text es small room a))
  read-no run records.NoMemory bad only = (tt, λ es a. tt)

  -- what was read of a text that is the record of a run that begins here
  read-yes : (p : Printed) → IsReadAs (Ok p) → (es : List Entry) → (a : IsRecordFrom start text es) → GivesRecord a.traces (output_of c f a.traces es) (placed_from first es) (Ok p)
  read-yes p only es a = only a.traces (output_of c f a.traces es) (placed_from first es) (from-record start text es small room a)

  pub judged-no : (run : Run) (p : Printed) → IsPrinted c text p → IsReadAs (Ok p) → (fault : RunFault) → IsIllegalIn start p.entries.items fault → IsVerdict start text run (Err fault)
  judged-no run p read only (faults.Line line) bad = absurd bad
  judged-no run p read only (faults.Illegal at why) bad = (
    record { traces = p.traces; output = read.output; entries = p.entries.items; record_is = read.record_is; illegal = bad },
    λ es a. legal-not-wrong start es at why a.legal (subst (λ (xs : List (ℕ × Entry)). IsIllegal start xs at why) (read-yes p only es a).2 bad),
  )
  judged-no run p read only (faults.Output line) bad = absurd bad
  judged-no run p read only (faults.Lost at) bad = absurd bad
  judged-no run p read only faults.NoMemory bad = (tt, λ es a. tt)

  module _ (p : Printed) (read : IsPrinted c text p) (only : IsReadAs (Ok p)) (run : Run) (is : run ≡ behind start run.entries) (whole : p.entries.items ≡ placed_from first run.entries) (legal : IsLegal true c f run.entries) where
    -- it is the record of the entries that were taken
    record-of : IsRecord c text p.traces read.output (placed_from first run.entries)
    record-of = subst (IsRecord c text p.traces read.output) whole read.record_is

    same-entries : (es : List Entry) → IsRecordFrom start text es → run.entries ≡ es
    same-entries es a = placed-one first run.entries es (sym whole ∙ (read-yes p only es a).2)

    own-output : output_of run.config (found_of run) p.traces run.entries ≡ output_of c f p.traces run.entries
    own-output = ap (λ (r : Run). output_of r.config (found_of r) p.traces run.entries) is

    -- it has the output that was cut off
    pub compared-no : (fault : RunFault) → IsOtherOutput run p.traces read.output fault → IsVerdict start text run (Err fault)
    compared-no (faults.Line line) bad = absurd bad
    compared-no (faults.Illegal at why) bad = absurd bad
    compared-no (faults.Output line) bad =
        let other = subst (λ (o : List ℕ). IsFirstOther read.output o line) own-output bad in (
          record { traces = p.traces; output = read.output; es = run.entries; record_is = record-of; legal = legal; other = other },
          λ es a.
              let given = read-yes p only es a in
              let same : run.entries ≡ es = same-entries es a in
              let front : read.output ≡ output_of c f a.traces es = same-front read.output (output_of c f a.traces es) (printed c.block p.entries.items) (printed c.block (placed_from first es))
              (sym read.count ∙ given.1) (sym read.record_is.text_is ∙ (from-record start text es small room a).text_is) in
              other.differ (front ∙ ap₂ (λ (n : ℕ) (ds : List Entry). output_of c f n ds) (sym given.0) (sym same)),
        )
    compared-no (faults.Lost at) bad = absurd bad
    compared-no faults.NoMemory bad = (tt, λ es a. tt)

    pub compared-yes : 1 ≤ c.queues → read.output ≡ output_of run.config (found_of run) p.traces run.entries → IsRecordOfRun start text run
    compared-yes some same = record {
      run_is = is;
      record_is = record-from start text p.traces read.output run.entries some record-of legal (same ∙ own-output);
      one = same-entries;
    }

    -- so the comparison ends the audit
    pub compared : 1 ≤ c.queues → (result : Result (Unit {0}) RunFault) → OnOk result (read.output ≡ output_of run.config (found_of run) p.traces run.entries) → IfErr result (IsOtherOutput run p.traces read.output) → IsVerdict start text run result
    compared some (Ok done) same other = compared-yes some same
    compared some (Err fault) same other = compared-no fault other

-- a run that has no entry yet begins with the next position
pub begins-next : (start : Run) → start.entries ≡ [] → first_position start ≡ next_position start
begins-next start none = omega (arith, ap (λ (es : List Entry). length es) none)
