-- For which line memory is wanted, as the lines of a text are read.
use Rattle.std.proofs.Common.{◌≡◌, ℕ, ◌+◌, ◌≤◌, true, not, List, [], ◌∷◌, ◌++◌, length, Option, Some, None, Result, Ok, refl, sym, ap, subst, ◌∙◌, append_assoc, arith}
use Rattle.std.specs.List.{AllZip, sum_by}
use Rattle.std.specs.Str.Lines.{lines}
use Rattle.std.proofs.lemmas.List.{append-nil, length-append}
use Rattle.std.proofs.lemmas.List.Elements.{filter-append}
use Rattle.std.proofs.lemmas.List.Sums.{sum_by-append, sum_by-cons}
use Rattle.std.proofs.lemmas.Slice.Zip.{all_zipped_more}
use Rattle.fdp_base.specs.declared.command.Command.{Command}
use Rattle.fdp_base.specs.CommandKinds.{blocks_read}
use Rattle.fdp_trace.specs.Reader.Line.{line_of}
use Rattle.fdp_trace.specs.Grammar.{is_skipped, Says, Say}
use Rattle.fdp_trace.specs.Grammar.{SaysNext}
use Rattle.fdp_trace.specs.declared.fault.FaultKind.{FaultKind}
use Rattle.fdp_trace.proofs.Telling.{LineComesTo, line_comes, shown_lines, hidden_line, shown_line}

-- the lines that were read say the commands so far, which read so many blocks
pub record IsBehind (text rest : List ℕ) (blocks : ℕ) (commands : List Command) : Type 0 where
  pub front : List (List ℕ)
  pub cut : lines text ≡ front ++ lines rest
  pub say : Say front commands
  pub sum : sum_by blocks_read commands ≡ blocks

pub begins_behind : (text : List ℕ) → IsBehind text text 0 []
begins_behind text = record { front = []; cut = refl; say = (tt, (omega arith, omega arith)); sum = refl }

cut_more : (all front : List (List ℕ)) (line : List ℕ) (ls later : List (List ℕ)) → all ≡ front ++ ls → ls ≡ line ∷ later → all ≡ (front ++ line ∷ []) ++ later
cut_more all front line ls later cut next = cut ∙ ap (λ (l : List (List ℕ)). front ++ l) next ∙ sym (append_assoc front (line ∷ []) later)

line_is : (line : List ℕ) (r : Result (Option Command) FaultKind) → line_of line ≡ r → LineComesTo line r
line_is line r is = subst (LineComesTo line) is (line_comes line)

shown_more : (front : List (List ℕ)) (line : List ℕ) → shown_lines (front ++ line ∷ []) ≡ shown_lines front ++ shown_lines (line ∷ [])
shown_more front line = filter-append (λ (l : List ℕ). not (is_skipped l)) front (line ∷ [])

-- a line that is skipped
pub skips_behind : (text rest after line : List ℕ) (blocks : ℕ) (commands : List Command) → lines rest ≡ line ∷ lines after → line_of line ≡ Ok None → IsBehind text rest blocks commands → IsBehind text after blocks commands
skips_behind text rest after line blocks commands next is b =
    let hidden : is_skipped line ≡ true = line_is line (Ok None) is in
    let same : shown_lines (b.front ++ line ∷ []) ≡ shown_lines b.front = shown_more b.front line ∙ ap (λ (l : List (List ℕ)). shown_lines b.front ++ l) (hidden_line line [] hidden) ∙ append-nil (shown_lines b.front) in
    record {
      front = b.front ++ line ∷ [];
      cut = cut_more (lines text) b.front line (lines rest) (lines after) b.cut next;
      say = (subst (λ (l : List (List ℕ)). AllZip Says l commands) (sym same) b.say.0, b.say.1);
      sum = b.sum;
    }

-- a line with a command
pub says_behind : (text rest after line : List ℕ) (blocks : ℕ) (commands : List Command) (command : Command) → lines rest ≡ line ∷ lines after → line_of line ≡ Ok (Some command)
    → length commands + 1 ≤ 8192 → blocks + blocks_read command ≤ 8192 → IsBehind text rest blocks commands → IsBehind text after (blocks + blocks_read command) (commands ++ command ∷ [])
says_behind text rest after line blocks commands command next is count read b =
    let says = line_is line (Ok (Some command)) is in
    let same : shown_lines (b.front ++ line ∷ []) ≡ shown_lines b.front ++ line ∷ [] = shown_more b.front line ∙ ap (λ (l : List (List ℕ)). shown_lines b.front ++ l) (shown_line line [] says.0) in
    let sum : sum_by blocks_read (commands ++ command ∷ []) ≡ blocks + blocks_read command = omega (arith, sum_by-append blocks_read commands (command ∷ []), sum_by-cons blocks_read command [], b.sum) in
    let more : length (commands ++ command ∷ []) ≡ length commands + 1 = length-append commands (command ∷ []) in
    record {
      front = b.front ++ line ∷ [];
      cut = cut_more (lines text) b.front line (lines rest) (lines after) b.cut next;
      say = (
        subst (λ (l : List (List ℕ)). AllZip Says l (commands ++ command ∷ [])) (sym same) (all_zipped_more Says (shown_lines b.front) commands line command b.say.0 says.1),
        (omega (arith, more), omega (arith, sum)),
      );
      sum = sum;
    }

-- memory is wanted for a line with a command
pub wants_behind : (text rest after line : List ℕ) (blocks : ℕ) (commands : List Command) (command : Command) → lines rest ≡ line ∷ lines after → line_of line ≡ Ok (Some command) → IsBehind text rest blocks commands
    → SaysNext text commands command
wants_behind text rest after line blocks commands command next is b =
    let says = line_is line (Ok (Some command)) is in
    record {
      front = b.front;
      line = line;
      later = lines after;
      cut = b.cut ∙ ap (λ (l : List (List ℕ)). b.front ++ l) next;
      say = b.say;
      shown = says.0;
      says = says.1;
    }
