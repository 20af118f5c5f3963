-- What a text comes to.
use Rattle.std.proofs.Common.{◌≡◌, ℕ, ◌+◌, ◌-◌, ◌<◌, ◌≤◌, List, [], ◌++◌, length, take, Result, Ok, Err, Some, None, sym, ap, subst, ◌∙◌, append_assoc, arith}
use Rattle.std.specs.Prelude.{IfOk, IfErr, count_by}
use Rattle.std.proofs.lemmas.List.{append-nil, length-append}
use Rattle.fdp_base.specs.declared.config.DriveConfig.{DriveConfig}
use Rattle.fdp_base.specs.declared.entry.Entry.{Entry}
use Rattle.fdp_base.specs.Geometry.{IsBlockSize}
use Rattle.fdp_trace.specs.Reader.FrontOf.{is_line_feed}
use Rattle.fdp_prints.specs.Told.{printed}
use Rattle.fdp_prints.proofs.Lines.{list-one}
use Rattle.fdp_reader.specs.declared.fault.RecordFault.{RecordFault}
use Rattle.fdp_reader.specs.declared.fault.RecordFault.TheVariants as faults
use Rattle.fdp_reader.specs.declared.place.Place.{Place}
use Rattle.fdp_reader.specs.declared.place.Place.TheVariants as places
use Rattle.fdp_reader.specs.declared.record.Printed.{Printed}
use Rattle.fdp_reader.specs.Form.{WalksTo, queues_of, text_of}
use Rattle.fdp_reader.specs.Next.{AreRead, StopsAt}
use Rattle.fdp_reader.specs.Record.{GivesRecord, IsFaultLine, IsOutcome, IsPrinted, IsRecord, IsRecordCause}
use Rattle.fdp_reader.proofs.Comparing.{closing-is, not-closing}
use Rattle.fdp_reader.proofs.Cuts.{lines-append, text-append}
use Rattle.fdp_reader.proofs.Fronts.{front-len, line-number}
use Rattle.fdp_reader.proofs.Records.{entries-fault, front-fault, place-one, record-is}

-- ---- the clauses of a whole outcome

pub outcome-ok : (c : DriveConfig) (text : List ℕ) (r : Result Printed RecordFault) → IsOutcome c text r → IfOk r (IsPrinted c text)
outcome-ok c text (Ok p) h = h.0
outcome-ok c text (Err e) h = tt

pub outcome-fault : (c : DriveConfig) (text : List ℕ) (r : Result Printed RecordFault) → IsOutcome c text r → IfErr r (IsRecordCause c text)
outcome-fault c text (Ok p) h = tt
outcome-fault c text (Err e) h = h

pub outcome-only : (c : DriveConfig) (text : List ℕ) (r : Result Printed RecordFault) → IsOutcome c text r → (traces : ℕ) (output : List ℕ) (entries : List (ℕ × Entry)) → IsRecord c text traces output entries → GivesRecord traces output entries r
outcome-only c text (Ok p) h traces output entries is = h.1 traces output entries is
outcome-only c text (Err (faults.Line number)) h traces output entries is = h.none (traces, output, entries, is)
outcome-only c text (Err faults.NoMemory) h traces output entries is = tt

-- ---- the output does not come to its end

pub front-outcome : (c : DriveConfig) (text : List ℕ) (place : Place) (rest : List ℕ) (number : ℕ) → WalksTo c text place rest → queues_of place ≡ None → number ≡ count_by is_line_feed (take (length text - length rest) text) + 1 → IsFaultLine c text number
front-outcome c text place rest number w none counted =
    let v = w.walks in
    let at : length text - length rest ≡ length (text_of v.lines) = omega (arith, front-len text (text_of v.lines) rest v.text_is) in
    subst (IsFaultLine c text) (sym (line-number text v.lines rest (length text - length rest) number v.whole v.text_is at counted)) (front-fault c text place rest w (not-closing place none))

-- ---- the history

pub within-text : (c : DriveConfig) (text : List ℕ) (place : Place) (rest : List ℕ) → WalksTo c text place rest → length rest ≤ length text
within-text c text place rest w = omega (arith, front-len text (text_of w.walks.lines) rest w.walks.text_is)

pub within-rest : (c : DriveConfig) (rest : List ℕ) (len : ℕ) → StopsAt c rest len → len ≤ length rest
within-rest c rest len s = omega (arith, s.len_is, front-len rest (text_of s.lines) s.rest s.is_end.text_is)

at-closing : (c : DriveConfig) (text : List ℕ) (place : Place) (rest : List ℕ) (traces : ℕ) → WalksTo c text place rest → queues_of place ≡ Some traces → WalksTo c text (places.Closing traces) rest
at-closing c text place rest traces w closing = subst (λ (p : Place). WalksTo c text p rest) (closing-is place traces closing) w

pub stop-outcome : (c : DriveConfig) (text : List ℕ) (place : Place) (rest : List ℕ) (traces len number : ℕ) → WalksTo c text place rest → queues_of place ≡ Some traces → StopsAt c rest len → 0 < length rest
    → number ≡ count_by is_line_feed (take ((length text - length rest) + len) text) + 1 → IsFaultLine c text number
stop-outcome c text place rest traces len number walks closing s some counted =
    let w = at-closing c text place rest traces walks closing in
    let v = w.walks in
    let all = v.lines ++ s.lines in
    let both : text_of all ≡ text_of v.lines ++ text_of s.lines = text-append v.lines s.lines in
    let f = entries-fault c text traces rest w len s some in
    let at : (length text - length rest) + len ≡ length (text_of all) =
    omega (arith, front-len text (text_of v.lines) rest v.text_is, s.len_is, ap (λ (t : List ℕ). length t) both, length-append (text_of v.lines) (text_of s.lines)) in
    let whole : text ≡ text_of all ++ s.rest =
    v.text_is ∙ ap (λ (t : List ℕ). text_of v.lines ++ t) s.is_end.text_is ∙ sym (append_assoc (text_of v.lines) (text_of s.lines) s.rest) ∙ ap (λ (t : List ℕ). t ++ s.rest) (sym both) in
    subst (IsFaultLine c text) (sym (line-number text all s.rest ((length text - length rest) + len) number (lines-append v.lines s.lines v.whole s.is_end.whole) whole at counted)) f

pub whole-outcome : (c : DriveConfig) (text : List ℕ) (place : Place) (rest : List ℕ) (traces : ℕ) (p : Printed) → IsBlockSize c.block → WalksTo c text place rest → queues_of place ≡ Some traces → AreRead c rest p.entries.items []
    → p.traces ≡ traces → p.output ≡ length text - length rest → IsOutcome c text (Ok p)
whole-outcome c text place rest traces p is walks closing r queues len =
    let w = at-closing c text place rest traces walks closing in
    let v = w.walks in
    let out = text_of v.lines in
    let size : p.output ≡ length out = omega (arith, len, front-len text out rest v.text_is) in
    let own = subst (λ (n : ℕ). IsRecord c text n out p.entries.items) (sym queues) (record-is c text traces rest w p.entries.items r) in (
      record { output = out; count = size; record_is = own },
      λ traces' output entries other.
          let o = place-one c text traces rest w traces' output entries other in
          (queues ∙ o.0, size ∙ ap (λ (t : List ℕ). length t) (sym o.1), list-one c p.entries.items entries is r.told other.told (sym (append-nil (printed c.block p.entries.items)) ∙ sym r.text_is ∙ sym o.2)),
    )
