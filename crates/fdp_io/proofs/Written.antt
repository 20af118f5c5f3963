-- A text that is written piece by piece.
use Rattle.std.proofs.Common.{◌≡◌, ℕ, ◌+◌, ◌≤◌, ◌++◌, IsTrue, List, length, take, drop, ap, sym, ◌∙◌, append_assoc, arith, length-drop, subst}
use Rattle.std.proofs.Math.Seq.{take-add}
use Rattle.fdp_io.specs.declared.sink.SinkEnd.TheVariants.{Took}
use Rattle.fdp_io.specs.Sink.{SinkState, Takes}

-- so many bytes of the text were written
pub record IsWrittenTo (old new : SinkState) (text : List ℕ) (done : ℕ) : Type 0 where
  pub within : done ≤ length text
  pub tells : new.told ≡ old.told
  pub faults : new.faults ≡ old.faults
  pub held : IsTrue old.told → new.bytes ≡ old.bytes ++ take done text

-- a piece more was taken
pub written_more : (old mid new : SinkState) (text rest : List ℕ) (done count : ℕ) → IsWrittenTo old mid text done → rest ≡ drop done text → new.told ≡ mid.told → new.faults ≡ mid.faults → Takes mid new rest (Took count) → IsWrittenTo old new text (done + count)
written_more old mid new text rest done count so rest_is told faults took = record {
  within = omega (arith, so.within, took.0, ap length rest_is, length-drop done text);
  tells = told ∙ so.tells;
  faults = faults ∙ so.faults;
  held = λ tells.
      took.2 (subst IsTrue (sym so.tells) tells)
      ∙ ap (λ bytes. mid.bytes ++ take count bytes) rest_is
      ∙ ap (λ bytes. bytes ++ take count (drop done text)) (so.held tells)
      ∙ append_assoc old.bytes (take done text) (take count (drop done text))
      ∙ ap (λ bytes. old.bytes ++ bytes) (sym (take-add done count text));
}
