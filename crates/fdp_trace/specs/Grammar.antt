-- The grammar of traces: which text says which commands, and what the first bad line of a text lacks.
use Rattle.std.specs.Prelude.{◌≡◌, ℕ, ◌+◌, ◌<◌, ◌≤◌, Bool, false, ◌||◌, ◌==◌, slice_index, not, List, [], ◌∷◌, ◌++◌, length, filter, ◌⊎◌}
use Rattle.std.specs.List.{AllZip, list_all, sum_by}
use Rattle.std.specs.Str.{IsUtf8}
use Rattle.std.specs.Str.Lines.{lines}
use Rattle.fdp_base.specs.declared.command.Command.{Command}
use Rattle.fdp_base.specs.declared.limits.TheConstants.{LONGEST_LINE, MOST_TRACE_BLOCKS, MOST_TRACE_COMMANDS}
use Rattle.fdp_base.specs.CommandKinds.{blocks_read}
use Rattle.fdp_trace.specs.declared.fault.FaultKind.{FaultKind}
use Rattle.fdp_trace.specs.declared.fault.FaultKind.TheVariants as kinds
use Rattle.fdp_trace.specs.Words.{is_blank, words_of}
use Rattle.fdp_trace.specs.Demands.{Spells, WordsLack}

-- a comment, or nothing but blanks
abbrev pub is_skipped : List ℕ → Bool
is_skipped line = (slice_index line 0 == 35) || list_all is_blank line

-- a line that is read: UTF-8, and not too long
abbrev pub IsReadable : List ℕ → Type 0
IsReadable line = (length line ≤ LONGEST_LINE) × IsUtf8 line

-- a line says this command
abbrev pub Says : List ℕ → Command → Type 0
Says line command = IsReadable line × Spells (words_of line) command

-- the first thing that a line lacks
abbrev pub LineLacks : List ℕ → FaultKind → Type 0
LineLacks line kinds.Long = LONGEST_LINE < length line
LineLacks line kinds.Utf8 = (length line ≤ LONGEST_LINE) × (IsUtf8 line → ⊥)
LineLacks line kinds.Word = IsReadable line × WordsLack (words_of line) kinds.Word
LineLacks line kinds.Count = IsReadable line × WordsLack (words_of line) kinds.Count
LineLacks line kinds.Number = IsReadable line × WordsLack (words_of line) kinds.Number
LineLacks line kinds.Range = IsReadable line × WordsLack (words_of line) kinds.Range

-- no more commands, and no more blocks over the reads, than a trace may have
abbrev pub AreFew : List Command → Type 0
AreFew commands = (length commands ≤ MOST_TRACE_COMMANDS) × (sum_by blocks_read commands ≤ MOST_TRACE_BLOCKS)

-- the lines that are not skipped say the commands, one each
abbrev pub Say : List (List ℕ) → List Command → Type 0
Say lines commands = AllZip Says (filter (λ line. not (is_skipped line)) lines) commands × AreFew commands

-- the commands of a text
abbrev pub IsTraceOf : List ℕ → List Command → Type 0
IsTraceOf text commands = Say (lines text) commands

-- a line lacks something, or its command is one too many behind these
abbrev pub IsBad : List Command → List ℕ → FaultKind → Type 0
IsBad before line kind =
    LineLacks line kind
    ⊎ ((kind ≡ kinds.Long) × ((command : Command) × Says line command × (AreFew (before ++ command ∷ []) → ⊥)))

-- the first bad line of a text, from 1, with its fault: the lines in front of it say commands
pub record IsFaultOf (text : List ℕ) (number : ℕ) (kind : FaultKind) : Type 0 where
  pub front : List (List ℕ)
  pub line : List ℕ
  pub later : List (List ℕ)
  pub commands : List Command
  pub cut : lines text ≡ front ++ line ∷ later
  pub place : number ≡ length front + 1
  pub say : Say front commands
  pub shown : is_skipped line ≡ false
  pub bad : IsBad commands line kind

-- a line of a text says a command, and the lines in front of it say others
pub record SaysNext (text : List ℕ) (before : List Command) (command : Command) : Type 0 where
  pub front : List (List ℕ)
  pub line : List ℕ
  pub later : List (List ℕ)
  pub cut : lines text ≡ front ++ line ∷ later
  pub say : Say front before
  pub shown : is_skipped line ≡ false
  pub says : Says line command
