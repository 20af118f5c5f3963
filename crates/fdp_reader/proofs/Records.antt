-- Where a text stops to be a record.
use Rattle.std.proofs.Common.{◌≡◌, ℕ, ◌+◌, ◌^◌, ◌<◌, ◌≤◌, Bool, true, false, ◌&&◌, nat_le, List, [], ◌∷◌, ◌++◌, length, get_or, take, Some, refl, sym, ap, subst, ◌∙◌, append_assoc, arith, inl, inr, eq-eqb, not}
use Rattle.std.specs.Prelude.{codes, decimal, bytes_eq, ◌==◌}
use Rattle.std.specs.List.{list_all}
use Rattle.std.proofs.lemmas.Bool.{cases_Bool}
use Rattle.std.proofs.lemmas.Bool.Decides.{nat_tests}
use Rattle.std.proofs.lemmas.List.{append-nil}
use Rattle.std.proofs.lemmas.Slice.Eq.{bytes_eq-Decides}
use Rattle.std.proofs.lemmas.Fmt.{decimal_by_steps}
use Rattle.fdp_base.specs.declared.config.DriveConfig.{DriveConfig}
use Rattle.fdp_base.specs.declared.entry.Entry.{Entry}
use Rattle.fdp_output.specs.HistoryText.{entry_data}
use Rattle.fdp_prints.specs.Told.{AreTold, printed}
use Rattle.fdp_prints.proofs.Lines.{entry-cut, entry_row, row-line}
use Rattle.fdp_prints.proofs.Reading.{words}
use Rattle.fdp_prints.proofs.Cutting.{none-append}
use Rattle.fdp_prints.proofs.Visible.{no_feed, show-decimal}
use Rattle.fdp_trace.specs.Printer.{spaced_behind}
use Rattle.fdp_trace.proofs.Spelling.{spaced_is}
use Rattle.fdp_reader.specs.declared.place.Place.{Place}
use Rattle.fdp_reader.specs.declared.place.Place.TheVariants as places
use Rattle.fdp_reader.specs.Form.{AreLines, IsForm, IsLine, Stops, WalksTo, begins_with_digit, is_closing, step, text_of, walk}
use Rattle.fdp_reader.specs.Next.{AreRead, StopsAt}
use Rattle.fdp_reader.specs.Record.{IsFaultLine, IsRecord}
use Rattle.fdp_reader.proofs.Cuts.{first-cut, line-cut, lines-append, no-end, text-append}
use Rattle.fdp_reader.proofs.Prefixes.{regroup}
use Rattle.fdp_reader.proofs.Walking.{one-way, walk-on, walk-one}

-- ---- a history stops an output

digit-first : (n : ℕ) (rest : List ℕ) → n < 2 ^ 64 → begins_with_digit (decimal n ++ rest) ≡ true
digit-first n rest lt = decimal_by_steps (λ (n : ℕ) (ds : List ℕ). (more : List ℕ) → begins_with_digit (ds ++ more) ≡ true) (λ n small more. grind (arith, nat_tests)) (λ n ds big h more. ap begins_with_digit (append_assoc ds _ more) ∙ h _) n lt rest

digit-bound : (b : ℕ) → (nat_le 48 b && nat_le b 57) ≡ true → b ≤ 57
digit-bound b e = grind (arith, nat_tests)

no-begin : (b f : ℕ) (bs fs : List ℕ) (n : ℕ) → (b ≡ f → ⊥) → bytes_eq (b ∷ take n bs) (f ∷ fs) ≡ false
no-begin b f bs fs n other = elim (cases_Bool (bytes_eq (b ∷ take n bs) (f ∷ fs))) [
  | inl yes' ↦ let same = (bytes_eq-Decides (b ∷ take n bs) (f ∷ fs)).0 yes' in absurd (other (ap (λ (xs : List ℕ). get_or xs 0 0) same))
  | inr no' ↦ no'
]

-- a line that begins with a digit tells neither a usage nor an event
digit-stops : (line : List ℕ) → begins_with_digit line ≡ true → is_closing line ≡ false
digit-stops [] e = absurd cc
digit-stops (b ∷ bs) e =
    let le = digit-bound b e in
    let usage = no-begin b 114 bs (117 ∷ 104 ∷ 32 ∷ []) 3 (λ same. omega (arith, same, le)) in
    let event = no-begin b 101 bs (118 ∷ 101 ∷ 110 ∷ 116 ∷ 32 ∷ []) 5 (λ same. omega (arith, same, le)) in
    rw (usage, event) refl

row-digit : (p : ℕ) (e : Entry) → p < 2 ^ 64 → begins_with_digit (entry_row p e) ≡ true
row-digit p e lt = ap begins_with_digit (spaced_is (decimal p) (words e)) ∙ digit-first p (spaced_behind (words e)) lt

print-stops : (c : DriveConfig) (traces : ℕ) (zs : List (ℕ × Entry)) → AreTold c zs → Stops c (places.Closing traces) (printed c.block zs)
unfolding step
print-stops c traces [] told line more is e = absurd (no-end line more (sym e))
print-stops c traces (z ∷ zs) told line more is e =
    let own = line-cut (entry_row z.0 z.1) line (entry_data c.block z.1 ++ printed c.block zs) more (row-line c z.0 z.1 told.0.0 told.0.1) is (sym (entry-cut c z.0 z.1 (printed c.block zs)) ∙ e) in
    let stops : is_closing line ≡ false = ap is_closing (sym own.0) ∙ digit-stops (entry_row z.0 z.1) (row-digit z.0 z.1 told.0.0) in
    rw stops refl

-- ---- what stops an output

-- what stops at a line stops at it whatever follows
stops-alike : (c : DriveConfig) (p : Place) (line a b : List ℕ) → IsLine line → Stops c p (line ++ 10 ∷ a) → Stops c p (line ++ 10 ∷ b)
stops-alike c p line a b is s l more is-l e = let own = line-cut line l b more is is-l e in ap (step c p) (sym own.0) ∙ s line a is refl

-- of two records of one text the outputs are the same lines
record IsOutput (c : DriveConfig) (lines : List (List ℕ)) (place : Place) (rest : List ℕ) (traces : ℕ) (output : List ℕ) (entries : List (ℕ × Entry)) : Type 0 where
  pub place_is : place ≡ places.Closing traces
  pub output_is : output ≡ text_of lines
  pub rest_is : printed c.block entries ≡ rest

output-is : (c : DriveConfig) (lines : List (List ℕ)) (place : Place) (rest : List ℕ) (text : List ℕ) (traces : ℕ) (output : List ℕ) (entries : List (ℕ × Entry)) → AreLines lines → walk c places.Start lines ≡ Some place → Stops c place rest
    → text ≡ text_of lines ++ rest → IsRecord c text traces output entries → IsOutput c lines place rest traces output entries
output-is c lines place rest text traces output entries hl steps stops is r =
    let f = r.form in
    let e : text_of lines ++ rest ≡ text_of f.lines ++ printed c.block entries = sym is ∙ r.text_is ∙ ap (λ (t : List ℕ). t ++ printed c.block entries) f.text in
    let w = one-way c places.Start place (places.Closing traces) lines f.lines rest (printed c.block entries) hl f.whole steps f.steps stops (print-stops c traces entries r.told) e in
    record { place_is = w.place; output_is = f.text ∙ ap text_of (sym w.lines); rest_is = sym w.rest }

-- ---- an output that does not come to its end

both_true : (a b : Bool) → (a && b) ≡ true → (a ≡ true) × (b ≡ true)
both_true true b e = (refl, e)
both_true false b e = absurd cc

no-ten : (b : ℕ) → not (b == 10) ≡ true → b ≡ 10 → ⊥
no-ten b e same = let test = eq-eqb b 10 same in by-test (b == 10) test e where
  by-test : (t : Bool) → t ≡ true → not t ≡ true → ⊥
  by-test true x y = absurd cc
  by-test false x y = absurd cc

abbrev sums_line : List ℕ
sums_line = codes "stats 0 0 0"

abbrev queue_line : List ℕ
queue_line = codes "queue " ++ decimal 1

no_feed_test : (w : List ℕ) → list_all (λ b. not (b == 10)) w ≡ true → IsLine w
no_feed_test [] e = tt
no_feed_test (b ∷ bs) e = let t = both_true (not (b == 10)) (list_all (λ b. not (b == 10)) bs) e in (λ same. no-ten b t.0 same, no_feed_test bs t.1)

sums-is-line : IsLine sums_line
sums-is-line = no_feed_test sums_line refl

queue-is-line : IsLine queue_line
queue-is-line = none-append 10 (codes "queue ") (decimal 1) (no_feed_test (codes "queue ") refl) (no_feed (decimal 1) (show-decimal 1 (omega arith)).shows)

same-bytes : (xs : List ℕ) → bytes_eq xs xs ≡ true
same-bytes xs = (bytes_eq-Decides xs xs).1 refl

first-queue : (c : DriveConfig) → step c places.Start queue_line ≡ Some (places.Queue 1)
unfolding step
first-queue c = let same = same-bytes (decimal 1) in rw same refl

sums-step : (c : DriveConfig) (n : ℕ) → step c (places.Queue n) sums_line ≡ Some (places.Closing n)
unfolding step
sums-step c n = refl

-- an output goes on from each place: it may end
record Goes (c : DriveConfig) (place : Place) : Type 0 where
  pub traces : ℕ
  pub lines : List (List ℕ)
  pub whole : AreLines lines
  pub steps : walk c place lines ≡ Some (places.Closing traces)

goes : (c : DriveConfig) (place : Place) → Goes c place
unfolding walk
goes c places.Start = record {
  traces = 1;
  lines = queue_line ∷ sums_line ∷ [];
  whole = (queue-is-line, (sums-is-line, tt));
  steps = walk-on c places.Start (places.Queue 1) (places.Closing 1) (queue_line ∷ []) (sums_line ∷ []) (walk-one c places.Start (places.Queue 1) queue_line (first-queue c)) (walk-one c (places.Queue 1) (places.Closing 1) sums_line (sums-step c 1));
}
goes c (places.Queue n) = record { traces = n; lines = sums_line ∷ []; whole = (sums-is-line, tt); steps = walk-one c (places.Queue n) (places.Closing n) sums_line (sums-step c n) }
goes c (places.Closing n) = record { traces = n; lines = []; whole = tt; steps = refl }

form-of : (c : DriveConfig) (traces : ℕ) (lines : List (List ℕ)) → AreLines lines → walk c places.Start lines ≡ Some (places.Closing traces) → IsForm c traces (text_of lines)
form-of c traces lines hl steps = record { lines = lines; whole = hl; text = refl; steps = steps }

pub front-fault : (c : DriveConfig) (text : List ℕ) (place : Place) (rest : List ℕ) (w : WalksTo c text place rest) → ((traces : ℕ) → place ≡ places.Closing traces → ⊥) → IsFaultLine c text (length w.walks.lines + 1)
front-fault c text place rest w other =
    let v = w.walks in
    let g = goes c place in
    let all = v.lines ++ g.lines in
    record {
      lines = v.lines;
      rest = rest;
      whole = v.whole;
      text_is = v.text_is;
      place = refl;
      begins = (
        text_of g.lines,
        (
          g.traces,
          text_of all,
          [],
          record {
            form = form-of c g.traces all (lines-append v.lines g.lines v.whole g.whole) (walk-on c places.Start place (places.Closing g.traces) v.lines g.lines v.steps g.steps);
            told = tt;
            text_is = sym (text-append v.lines g.lines) ∙ sym (append-nil (text_of all));
          },
        ),
      );
      ends = λ line later more is cut some.
          let stops = stops-alike c place line later more is (subst (Stops c place) cut w.stops) in
          let o = output-is c v.lines place (line ++ 10 ∷ more) ((text_of v.lines ++ line) ++ 10 ∷ more) some.0 some.1 some.2 v.whole v.steps stops (append_assoc (text_of v.lines) line (10 ∷ more)) some.3 in
          other some.0 o.place_is;
      none = λ some.
          let o = output-is c v.lines place rest text some.0 some.1 some.2 v.whole v.steps w.stops v.text_is some.3 in
          other some.0 o.place_is;
    }

-- ---- entries that stop

stops-later : (c : DriveConfig) (p : Place) (lines : List (List ℕ)) (line later more : List ℕ) (rest : List ℕ) → AreLines lines → IsLine line → rest ≡ line ++ 10 ∷ later → Stops c p (text_of lines ++ rest) → Stops c p ((text_of lines ++ line) ++ 10 ∷ more)
stops-later c p [] line later more rest hl is cut s = stops-alike c p line later more is (subst (Stops c p) cut s)
stops-later c p (l ∷ ls) line later more rest hl is cut s =
    let whole : (text_of (l ∷ ls) ++ line) ++ 10 ∷ more ≡ l ++ 10 ∷ (text_of ls ++ (line ++ 10 ∷ more)) = append_assoc (text_of (l ∷ ls)) line (10 ∷ more) ∙ first-cut l ls (line ++ 10 ∷ more) in
    subst (Stops c p) (sym whole) (stops-alike c p l (text_of ls ++ rest) (text_of ls ++ (line ++ 10 ∷ more)) hl.0 (subst (Stops c p) (first-cut l ls rest) s))

pub entries-fault : (c : DriveConfig) (text : List ℕ) (traces : ℕ) (later : List ℕ) (w : WalksTo c text (places.Closing traces) later) (len : ℕ) (s : StopsAt c later len) → 0 < length later
    → IsFaultLine c text (length (w.walks.lines ++ s.lines) + 1)
entries-fault c text traces later w len s some =
    let v = w.walks in
    let e = s.is_end in
    let F = text_of v.lines in
    let B = text_of s.lines in
    let both : text_of (v.lines ++ s.lines) ≡ F ++ B = text-append v.lines s.lines in
    record {
      lines = v.lines ++ s.lines;
      rest = s.rest;
      whole = lines-append v.lines s.lines v.whole e.whole;
      text_is = v.text_is ∙ ap (λ (t : List ℕ). F ++ t) e.text_is ∙ sym (append_assoc F B s.rest) ∙ ap (λ (t : List ℕ). t ++ s.rest) (sym both);
      place = refl;
      begins = (
        e.more,
        (
          traces,
          F,
          e.entries,
          record {
            form = form-of c traces v.lines v.whole v.steps;
            told = e.told;
            text_is = ap (λ (t : List ℕ). t ++ e.more) both ∙ append_assoc F B e.more ∙ ap (λ (t : List ℕ). F ++ t) (sym e.begins);
          },
        ),
      );
      ends = λ line after more is cut some'.
          let own : (text_of (v.lines ++ s.lines) ++ line) ++ 10 ∷ more ≡ F ++ ((B ++ line) ++ 10 ∷ more) = ap (λ (t : List ℕ). (t ++ line) ++ 10 ∷ more) both ∙ regroup F B line (10 ∷ more) in
          let stops = stops-later c (places.Closing traces) s.lines line after more s.rest e.whole is cut (subst (Stops c (places.Closing traces)) e.text_is w.stops) in
          let o = output-is c v.lines (places.Closing traces) ((B ++ line) ++ 10 ∷ more) ((text_of (v.lines ++ s.lines) ++ line) ++ 10 ∷ more) some'.0 some'.1 some'.2 v.whole v.steps stops own some'.3 in
          e.ends line after more some'.2 is cut some'.3.told o.rest_is;
      none = λ some'.
          let o = output-is c v.lines (places.Closing traces) later text some'.0 some'.1 some'.2 v.whole v.steps w.stops v.text_is some'.3 in
          e.none some'.2 some'.3.told o.rest_is some;
    }

-- ---- a record

pub record-is : (c : DriveConfig) (text : List ℕ) (traces : ℕ) (later : List ℕ) (w : WalksTo c text (places.Closing traces) later) (entries : List (ℕ × Entry)) → AreRead c later entries [] → IsRecord c text traces (text_of w.walks.lines) entries
record-is c text traces later w entries r = record {
  form = form-of c traces w.walks.lines w.walks.whole w.walks.steps;
  told = r.told;
  text_is = w.walks.text_is ∙ ap (λ (t : List ℕ). text_of w.walks.lines ++ t) (r.text_is ∙ append-nil (printed c.block entries));
}

pub place-one : (c : DriveConfig) (text : List ℕ) (traces : ℕ) (later : List ℕ) (w : WalksTo c text (places.Closing traces) later) (traces' : ℕ) (output : List ℕ) (entries : List (ℕ × Entry)) → IsRecord c text traces' output entries
    → (traces ≡ traces') × (output ≡ text_of w.walks.lines) × (printed c.block entries ≡ later)
place-one c text traces later w traces' output entries r =
    let v = w.walks in
    let o = output-is c v.lines (places.Closing traces) later text traces' output entries v.whole v.steps w.stops v.text_is r in
    (closing-one traces traces' o.place_is, o.output_is, o.rest_is) where
      closing-one : (m n : ℕ) → places.Closing m ≡ places.Closing n → m ≡ n
      closing-one m n e = cc
