-- An entry that was read, compared with its print.
use Rattle.std.proofs.Common.{◌≡◌, ℕ, Bool, true, false, List, [], ◌++◌, length, drop, Result, Ok, Err, Option, Some, None, refl, sym, ap, subst, ◌∙◌}
use Rattle.std.specs.List.{after_first}
use Rattle.fdp_base.specs.declared.command.Command.{Command}
use Rattle.fdp_base.specs.declared.config.DriveConfig.{DriveConfig}
use Rattle.fdp_base.specs.declared.entry.Entry.{Entry}
use Rattle.fdp_base.specs.Geometry.{IsBlockSize}
use Rattle.fdp_output.specs.HistoryText.{entry_lines}
use Rattle.fdp_trace.specs.declared.fault.FaultKind.{FaultKind}
use Rattle.fdp_prints.specs.Reader.{first_entry}
use Rattle.fdp_trace.specs.Reader.FrontOf.{is_line_feed}
use Rattle.fdp_prints.proofs.Typed.{IsFrameGiven, first-told}
use Rattle.fdp_reader.specs.declared.place.Place.{Place}
use Rattle.fdp_reader.specs.declared.place.Place.TheVariants as places
use Rattle.fdp_reader.specs.Form.{IsLine, Stops, queues_of, step}
use Rattle.fdp_reader.specs.Framing.{GivenBy, GivenFrom, IsGivenBy, work_read}
use Rattle.fdp_reader.specs.Lines.{IsNextLine, SameLines}
use Rattle.fdp_reader.specs.Next.{Begins, IsEntry, StopsAt}
use Rattle.fdp_reader.proofs.Cuts.{line-cut}
use Rattle.fdp_reader.proofs.Ending.{stop-first, stop-here}
use Rattle.fdp_reader.proofs.Frames.{read-framed}
use Rattle.fdp_reader.proofs.Fronts.{no-line}

-- a command of a frame was given
frame-given : (block : ℕ) (behind : List ℕ) (work : Bool × List ℕ) (given : Option Command) → IsBlockSize block → GivenBy block work.0 work.1 behind given → IsFrameGiven block given
frame-given block behind work None is by = tt
frame-given block behind work (Some g) is by = read-framed block work.0 work.1 behind g is by

pub given-frame : (block : ℕ) (text : List ℕ) (given : Option Command) → IsBlockSize block → IsGivenBy block text given → IsFrameGiven block given
given-frame block text given is = by (work_read text) where
  by : (r : Result (Bool × List ℕ) FaultKind) → GivenFrom block (after_first is_line_feed text) r given → IsFrameGiven block given
  by (Ok work) h = frame-given block (after_first is_line_feed text) work given is h
  by (Err kind) h = subst (IsFrameGiven block) (sym h) tt

pub entry-found : (given : Option Command) (c : DriveConfig) (text : List ℕ) (x : ℕ × Entry) (lines : List ℕ) → IsBlockSize c.block → IsGivenBy c.block text given → first_entry given c text ≡ Ok x → lines ≡ entry_lines c.block x.0 x.1 → Begins text lines true → IsEntry c text x.0 x.1 (length lines)
entry-found given c text x lines is gives read print begins = record {
  told = first-told given c text x (given-frame c.block text given is gives) is read;
  len_is = ap (λ (t : List ℕ). length t) print;
  text_is = begins ∙ ap (λ (t : List ℕ). t ++ drop (length lines) text) print;
}

pub entry-lost : (given : Option Command) (c : DriveConfig) (text : List ℕ) (x : ℕ × Entry) (lines : List ℕ) (len : ℕ) → IsBlockSize c.block → IsGivenBy c.block text given → first_entry given c text ≡ Ok x → lines ≡ entry_lines c.block x.0 x.1 → Begins text lines false → SameLines lines text len → StopsAt c text len
entry-lost given c text x lines len is gives read print other s =
    let apart = λ (more : List ℕ) (e : text ≡ entry_lines c.block x.0 x.1 ++ more). other more (e ∙ ap (λ (t : List ℕ). t ++ more) (sym print)) in
    record {
      lines = s.same.lines;
      rest = s.rest;
      is_end = stop-here given c text x s.same.lines s.other s.rest is gives read apart s.same.whole (sym print ∙ s.same.left_is) s.same.right_is s.apart (first-told given c text x (given-frame c.block text given is gives) is read);
      len_is = s.counted;
    }

pub entry-none : (given : Option Command) (c : DriveConfig) (text : List ℕ) (kind : FaultKind) → IsBlockSize c.block → IsGivenBy c.block text given → first_entry given c text ≡ Err kind → StopsAt c text 0
entry-none given c text kind is gives read = record { lines = []; rest = text; is_end = stop-first given c text kind is gives read; len_is = refl }

-- ---- the front

pub stops-here : (c : DriveConfig) (place : Place) (rest line after : List ℕ) → IsNextLine rest line after → step c place line ≡ None → Stops c place rest
stops-here c place rest line after n none l more is e = let own = line-cut line l after more n.is_line is (sym n.cut ∙ e) in ap (step c place) (sym own.0) ∙ none

pub stops-end : (c : DriveConfig) (place : Place) (rest : List ℕ) → IsLine rest → Stops c place rest
stops-end c place rest is l more is-l e = absurd (no-line rest is l more e)

pub closing-is : (place : Place) (n : ℕ) → queues_of place ≡ Some n → place ≡ places.Closing n
closing-is places.Start n e = absurd cc
closing-is (places.Queue k) n e = absurd cc
closing-is (places.Closing k) n e = cc

pub not-closing : (place : Place) → queues_of place ≡ None → (n : ℕ) → place ≡ places.Closing n → ⊥
not-closing place none n is = let some : queues_of place ≡ Some n = ap queues_of is in absurd cc
