-- Texts that are written one behind another.
use Rattle.std.proofs.Common.{◌≡◌, ℕ, zero, suc, ◌+◌, ◌<◌, ◌≤◌, IsTrue, List, [], ◌∷◌, ◌++◌, length, take, drop, get_or, refl, ap, sym, subst, ◌∙◌, append_assoc, length-append, arith}
use Rattle.std.specs.Prelude.{Result, ⊤}
use Rattle.std.specs.Borrow.{Bor}
use Rattle.std.specs.List.{flat_map}
use Rattle.std.proofs.Math.Seq.{take-append-add}
use Rattle.std.proofs.lemmas.List.{append-nil, flat_map_more, take-append-le, take_all, take_more}
use Rattle.fdp_base.specs.Counts.{Rose}
use Rattle.fdp_io.specs.declared.sink.SinkFailed.{SinkFailed}
use Rattle.fdp_io.specs.Sink.{Holds, HoldsFront, SinkState}
use Rattle.fdp_finding.specs.Line.{Writes}

abbrev pub Part : Type 0
Part = Bor (List ℕ)

abbrev pub text_in : Part → List ℕ
text_in part = part.now

abbrev pub text_of : List Part → List ℕ
text_of parts = flat_map text_in parts

-- so many of the parts were written
pub record AreWritten (old new : SinkState) (parts : List Part) (index : ℕ) : Type 0 where
  pub tells : new.told ≡ old.told
  pub faults : new.faults ≡ old.faults
  pub held : Holds old new (text_of (take index parts))

-- a text around one of its parts
around : {X A : Type 0} (f : X → List A) (xs : List X) (i : ℕ) (d : X) → i < length xs → flat_map f xs ≡ flat_map f (take i xs) ++ (f (get_or xs i d) ++ flat_map f (drop (suc i) xs))
around f [] i d low = absurd (omega arith)
around f (x ∷ xs) zero d low = refl
around f (x ∷ xs) (suc i) d low = ap (λ t. f x ++ t) (around f xs i d (omega arith)) ∙ sym (append_assoc (f x) (flat_map f (take i xs)) (f (get_or xs i d) ++ flat_map f (drop (suc i) xs)))

pub none_written : (s : SinkState) (parts : List Part) → AreWritten s s parts 0
none_written s parts = record { tells = refl; faults = refl; held = λ told. sym (append-nil s.bytes) }

-- the next one was written
pub one_written : (old mid new : SinkState) (parts : List Part) (index : ℕ) (d : Part) (text : List ℕ) → AreWritten old mid parts index → index < length parts → text ≡ text_in (get_or parts index d) →
    new.told ≡ mid.told → new.faults ≡ mid.faults → Holds mid new text → AreWritten old new parts (index + 1)
one_written old mid new parts index d text before low is tells faults held = record {
  tells = tells ∙ before.tells;
  faults = faults ∙ before.faults;
  held = λ told.
      held (subst IsTrue (sym before.tells) told)
      ∙ ap (λ t. mid.bytes ++ t) is
      ∙ ap (λ bytes. bytes ++ text_in (get_or parts index d)) (before.held told)
      ∙ flat_map_more text_in old.bytes (take index parts) (get_or parts index d)
      ∙ ap (λ ps. old.bytes ++ text_of ps) (sym (take_more parts index d low));
}

-- a write failed within the next one
pub part_failed : (old mid new : SinkState) (parts : List Part) (index : ℕ) (d : Part) (text : List ℕ) → AreWritten old mid parts index → index < length parts → text ≡ text_in (get_or parts index d) →
    HoldsFront mid new text → HoldsFront old new (text_of parts)
part_failed old mid new parts index d text before low is h =
    let done = text_of (take index parts) in
    let rest = text_of (drop (suc index) parts) in
    let whole : text_of parts ≡ done ++ (text ++ rest) = around text_in parts index d low ∙ ap (λ t. done ++ (t ++ rest)) (sym is) in
    record {
      rose = subst (λ n. Rose n new.faults) before.faults h.rose;
      count = length done + h.count;
      short = omega (arith, h.short, length-append done (text ++ rest), length-append text rest, ap length whole);
      front = λ told.
          h.front (subst IsTrue (sym before.tells) told)
          ∙ ap (λ bytes. bytes ++ take h.count text) (before.held told)
          ∙ append_assoc old.bytes done (take h.count text)
          ∙ ap (λ t. old.bytes ++ (done ++ t)) (sym (take-append-le h.count text rest (omega (arith, h.short))))
          ∙ ap (λ t. old.bytes ++ t) (sym (take-append-add done (text ++ rest) h.count) ∙ ap (take (length done + h.count)) (sym whole));
    }

-- all were written
pub all_written : (old new : SinkState) (parts : List Part) (index : ℕ) → AreWritten old new parts index → length parts ≤ index → Holds old new (text_of parts)
all_written old new parts index before high = subst (λ ps. Holds old new (text_of ps)) (take_all index parts high) before.held

-- two parts that are the number of a record in its line
pub numbered_parts : (old new : SinkState) (head digits space rest words : List ℕ) (result : Result ⊤ SinkFailed) → digits ++ space ≡ words → Writes old new (head ++ (digits ++ (space ++ rest))) result → Writes old new (head ++ (words ++ rest)) result
numbered_parts old new head digits space rest words result is writes =
    subst (λ t. Writes old new (head ++ t) result) (sym (append_assoc digits space rest) ∙ ap (λ t. t ++ rest) is) writes
