-- A text that is printed piece by piece.
use Rattle.std.proofs.Common.{◌≡◌, ℕ, ◌+◌, ◌≤◌, IsTrue, List, [], ◌++◌, length, take, refl, ap, sym, subst, ◌∙◌, append_assoc, length-append, arith, false, is_err, Result, Ok, Err, OnOk}
use Rattle.std.specs.Prelude.{⊤}
use Rattle.std.specs.Result.{IsErrAnd}
use Rattle.std.specs.declared.alloc.AllocError.{AllocError}
use Rattle.std.proofs.Math.Seq.{take-append_seam, take-append-add}
use Rattle.std.proofs.lemmas.List.{append-nil, take-append-le}
use Rattle.fdp_base.specs.Counts.{Rose}
use Rattle.fdp_io.specs.Sink.{Holds, HoldsFront, SinkState}
use Rattle.fdp_printing.specs.declared.pieces.Cut.{Cut}
use Rattle.fdp_printing.specs.declared.pieces.Cut.TheVariants as cuts
use Rattle.fdp_printing.specs.Printing.{GoesOn, HoldsSome, IsCut, Prints, PrintsOn}

-- the sink holds the beginning of a text more, the buffer what follows, and the rest is still to come
pub record IsPrinting (old new : SinkState) (buffer rest text : List ℕ) : Type 0 where
  pub printed : List ℕ
  pub held : Holds old new printed
  pub all : printed ++ (buffer ++ rest) ≡ text
  pub tells : new.told ≡ old.told
  pub faults : new.faults ≡ old.faults

-- nothing is printed yet
pub printing_none : (s : SinkState) (buffer rest text : List ℕ) → buffer ++ rest ≡ text → IsPrinting s s buffer rest text
printing_none s buffer rest text all = record { printed = []; held = λ told. sym (append-nil s.bytes); all = all; tells = refl; faults = refl }

-- the rest is known otherwise
pub printing_rest : (old new : SinkState) (buffer rest next text : List ℕ) → IsPrinting old new buffer rest text → rest ≡ next → IsPrinting old new buffer next text
printing_rest old new buffer rest next text p same = subst (λ r. IsPrinting old new buffer r text) same p

-- more text is in the buffer
pub printing_more : (old new : SinkState) (buffer next piece rest text : List ℕ) → IsPrinting old new buffer (piece ++ rest) text → next ≡ buffer ++ piece → IsPrinting old new next rest text
printing_more old new buffer next piece rest text p next_is = record {
  printed = p.printed;
  held = p.held;
  all = ap (λ xs. p.printed ++ (xs ++ rest)) next_is ∙ ap (λ xs. p.printed ++ xs) (append_assoc buffer piece rest) ∙ p.all;
  tells = p.tells;
  faults = p.faults;
}

-- a piece went on
pub printing_on : (old mid new : SinkState) (buffer after piece rest text : List ℕ) → IsPrinting old mid buffer (piece ++ rest) text → GoesOn mid new buffer after piece → IsPrinting old new after rest text
printing_on old mid new buffer after piece rest text p g = record {
  printed = p.printed ++ g.printed;
  held = λ told. g.held (subst IsTrue (sym p.tells) told) ∙ ap (λ xs. xs ++ g.printed) (p.held told) ∙ append_assoc old.bytes p.printed g.printed;
  all =
      append_assoc p.printed g.printed (after ++ rest)
      ∙ ap (λ xs. p.printed ++ xs) (sym (append_assoc g.printed after rest) ∙ ap (λ xs. xs ++ rest) g.all ∙ append_assoc buffer piece rest)
      ∙ p.all;
  tells = g.tells ∙ p.tells;
  faults = g.faults ∙ p.faults;
}

-- the beginning of a text, as what is printed and the beginning of the buffer
front_of : (printed buffer rest text : List ℕ) (count : ℕ) → printed ++ (buffer ++ rest) ≡ text → count ≤ length buffer → printed ++ take count buffer ≡ take (length printed + count) text
front_of printed buffer rest text count all low =
    ap (λ xs. printed ++ xs) (sym (take-append-le count buffer rest low))
    ∙ sym (take-append-add printed (buffer ++ rest) count)
    ∙ ap (take (length printed + count)) all

-- a write failed within the buffer
printing_failed : (old mid new : SinkState) (buffer rest text : List ℕ) → IsPrinting old mid buffer rest text → HoldsFront mid new buffer → HoldsFront old new text
printing_failed old mid new buffer rest text p h = record {
  rose = subst (λ n. Rose n new.faults) p.faults h.rose;
  count = length p.printed + h.count;
  short = omega (arith, h.short, length-append p.printed (buffer ++ rest), length-append buffer rest, ap length p.all);
  front = λ tells.
      h.front (subst IsTrue (sym p.tells) tells)
      ∙ ap (λ xs. xs ++ take h.count buffer) (p.held tells)
      ∙ append_assoc old.bytes p.printed (take h.count buffer)
      ∙ ap (λ xs. old.bytes ++ xs) (front_of p.printed buffer rest text h.count p.all (omega (arith, h.short)));
}

-- memory was wanting within the buffer
printing_short : (old mid new : SinkState) (buffer rest text : List ℕ) → IsPrinting old mid buffer rest text → HoldsSome mid new buffer → HoldsSome old new text
printing_short old mid new buffer rest text p h = record {
  count = length p.printed + h.count;
  within = omega (arith, h.within, length-append p.printed (buffer ++ rest), length-append buffer rest, ap length p.all);
  front = λ tells.
      h.front (subst IsTrue (sym p.tells) tells)
      ∙ ap (λ xs. xs ++ take h.count buffer) (p.held tells)
      ∙ append_assoc old.bytes p.printed (take h.count buffer)
      ∙ ap (λ xs. old.bytes ++ xs) (front_of p.printed buffer rest text h.count p.all h.within);
}

-- the text was cut within a piece
pub printing_cut : (old mid new : SinkState) (buffer piece rest text : List ℕ) (cut : Cut) → IsPrinting old mid buffer (piece ++ rest) text → IsCut mid new (buffer ++ piece) cut → IsCut old new text cut
printing_cut old mid new buffer piece rest text cuts.Sink p c =
    let ends = printing_failed old mid new (buffer ++ piece) rest text (printing_more old mid buffer (buffer ++ piece) piece rest text p refl) c.ends in
    record {
      tells = c.tells ∙ p.tells;
      faults = omega (arith, c.faults, p.faults);
      counts = ends.rose;
      ends = ends;
    }
printing_cut old mid new buffer piece rest text cuts.NoMemory p c = record {
  tells = c.tells ∙ p.tells;
  faults = omega (arith, c.faults, p.faults);
  counts = c.counts ∙ p.faults;
  ends = printing_short old mid new (buffer ++ piece) rest text (printing_more old mid buffer (buffer ++ piece) piece rest text p refl) c.ends;
}

-- memory is wanting for what comes next
pub printing_stops : (old new : SinkState) (buffer rest text : List ℕ) → IsPrinting old new buffer rest text → IsCut old new text cuts.NoMemory
printing_stops old new buffer rest text p = record {
  tells = p.tells;
  faults = omega (arith, p.faults);
  counts = p.faults;
  ends = record {
    count = length p.printed;
    within = omega (arith, length-append p.printed (buffer ++ rest), ap length p.all);
    front = λ tells. p.held tells ∙ ap (λ xs. old.bytes ++ xs) (sym (ap (take (length p.printed)) (sym p.all) ∙ take-append_seam p.printed (buffer ++ rest)));
  };
}

-- nothing is to come
pub printing_done : (old new : SinkState) (before after piece : List ℕ) → IsPrinting old new after [] (before ++ piece) → GoesOn old new before after piece
printing_done old new before after piece p = record {
  tells = p.tells;
  faults = p.faults;
  printed = p.printed;
  held = p.held;
  all = ap (λ xs. p.printed ++ xs) (sym (append-nil after)) ∙ p.all;
}

-- nothing is to come, and the buffer is empty
pub printing_whole : (old new : SinkState) (text : List ℕ) → IsPrinting old new [] [] text → Holds old new text
printing_whole old new text p = λ tells. p.held tells ∙ ap (λ xs. old.bytes ++ xs) (sym (append-nil p.printed) ∙ p.all)

-- ---- steps of a function, from the text that it was handed

-- the next step went on
pub printing_next : (old mid new : SinkState) (buffer after piece left rest text : List ℕ) → IsPrinting old mid buffer left text → left ≡ piece ++ rest → GoesOn mid new buffer after piece → IsPrinting old new after rest text
printing_next old mid new buffer after piece left rest text p is g = printing_on old mid new buffer after piece rest text (printing_rest old mid buffer left (piece ++ rest) text p is) g

-- it was cut
pub printing_fails : (old mid new : SinkState) (before buffer after piece left rest text : List ℕ) (cut : Cut) (result : Result ⊤ Cut) →
    IsPrinting old mid buffer left (before ++ text) → left ≡ piece ++ rest → IsCut mid new (buffer ++ piece) cut → result ≡ Err cut → PrintsOn old new before after text result
printing_fails old mid new before buffer after piece left rest text cut result p is c failed =
    subst (PrintsOn old new before after text) (sym failed) (printing_cut old mid new buffer piece rest (before ++ text) cut (printing_rest old mid buffer left (piece ++ rest) (before ++ text) p is) c)

-- it was the last one
pub printing_ends : (old new : SinkState) (before after left text : List ℕ) → IsPrinting old new after left (before ++ text) → left ≡ [] → GoesOn old new before after text
printing_ends old new before after left text p none = printing_done old new before after text (printing_rest old new after left [] (before ++ text) p none)

-- the last step went on, or was cut
pub step_ends : (old mid new : SinkState) (buffer after piece before text : List ℕ) (result : Result ⊤ Cut) →
    IsPrinting old mid buffer piece (before ++ text) → PrintsOn mid new buffer after piece result → PrintsOn old new before after text result
step_ends old mid new buffer after piece before text (Ok done) p s =
    printing_done old new before after text (printing_next old mid new buffer after piece piece [] (before ++ text) p (sym (append-nil piece)) s)
step_ends old mid new buffer after piece before text (Err cut) p s =
    printing_fails old mid new before buffer after piece piece [] text cut (Err cut) p (sym (append-nil piece)) s refl

-- ---- a whole text

-- a text was cut within a piece of it
pub cut_within : (old mid new : SinkState) (buffer piece left rest text : List ℕ) (cut : Cut) (result : Result ⊤ Cut) →
    IsPrinting old mid buffer left text → left ≡ piece ++ rest → IsCut mid new (buffer ++ piece) cut → result ≡ Err cut → Prints old new text result
cut_within old mid new buffer piece left rest text cut result p is c failed =
    let whole = printing_cut old mid new buffer piece rest text cut (printing_rest old mid buffer left (piece ++ rest) text p is) c in
    subst (Prints old new text) (sym failed) whole.ends

-- the rest was written, or a write failed
pub rest_written : (old mid new : SinkState) (buffer after text : List ℕ) (result : Result ⊤ Cut) →
    IsPrinting old mid buffer [] text → PrintsOn mid new buffer after [] result → OnOk result (after ≡ []) → Prints old new text result
rest_written old mid new buffer after text (Ok done) p s empty =
    printing_whole old new text (subst (λ b. IsPrinting old new b [] text) empty (printing_on old mid new buffer after [] [] text p s))
rest_written old mid new buffer after text (Err cut) p s empty = (printing_cut old mid new buffer [] [] text cut p s).ends

-- ---- what a result says

pub failed_with : (result : Result ⊤ Cut) (cut : Cut) → IsErrAnd result (λ x. x ≡ cut) → result ≡ Err cut
failed_with (Ok x) cut fails = absurd fails
failed_with (Err x) cut fails = ap Err fails

pub pushed_of : {A : Type 0} (r : Result ⊤ AllocError) → is_err r ≡ false → OnOk r A → A
pushed_of (Ok x) p m = m
pushed_of (Err x) p m = absurd (cc)
